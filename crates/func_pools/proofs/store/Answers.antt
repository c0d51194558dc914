-- The part of the slice behind `at` is the run (`put_mid-paste`), as `sets` has it (`sets-eq`).
use Rattle.std.proofs.Common.{refl, sym, ◌∙◌, arith, length}
use Rattle.std.proofs.Math.Seq.{take-length}
use Rattle.std.proofs.lemmas.List.Edits.{sets-eq}
use Rattle.std.proofs.lemmas.Slice.{put_mid-paste}
use Rattle.func_pools.proofs.store.Goals as goal

pub returns-clause-func_after : goal.returns-clause-func_after
returns-clause-func_after c =
    put_mid-paste c.args.at _ c.args.func.now _ c.args.e.now (length c.args.e.now) c.copy_from_slice.ensures.after (omega arith) refl
    ∙ rw take-length (sym (sets-eq c.args.e.now c.args.func.now c.args.at c.requires))

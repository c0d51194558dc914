-- A root that is not the body has its inputs for phis (`root_keys`).
use Rattle.std.proofs.Common.{refl, ◌∙◌, arith}
use Rattle.func.specs.Decode.{func_of}
use Rattle.terminators.specs.Laws.{root_keys}
use Rattle.term_kinds.proofs.entry_phis.Goals as goal

pub returns-in-None : goal.returns-in-None
returns-in-None c = c.region_in_count.ensures ∙ root_keys (func_of c.args.func.now) c.args.r refl (omega (arith, c.in-None.ensures)) c.if-r-eq0.false

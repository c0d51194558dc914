-- Each of the region's inputs is asked by its type (`all_of`).
use Rattle.std.proofs.Common.{rules, tests, ltb}
use Rattle.general_laws.specs.Ranges.{all_of}
use Rattle.lifting.specs.Parts.{region_of}
use Rattle.func.specs.Decode.{func_of}
use Rattle.func.specs.Kinds.{decl_from}
use Rattle.check_first.proofs.ins_below.Goals as goal

pub returns : goal.returns
returns c = all_of (λ d. ltb d.type c.args.first) (region_of (func_of c.args.func.now) c.args.r).ins (decl_from 0 0) c.all.ensures.ran c.region_in_count-n.ensures (λ x b q k. search (rules, tests))

-- Each op is asked by its callee and its type (`all_of`).
use Rattle.std.proofs.Common.{rules, tests, ltb, ◌&&◌, []}
use Rattle.general_laws.specs.Ranges.{all_of}
use Rattle.lifting.specs.Ast.{call}
use Rattle.func.specs.Decode.{func_of}
use Rattle.func.specs.Kinds.{kind_of_op}
use Rattle.check_first.specs.Lines.{kind_below, ops_below}
use Rattle.check_first.proofs.ops_below.Goals as goal

pub returns : goal.returns
unfolding ops_below
returns c =
    all_of (λ o. kind_below c.args.first (kind_of_op o.kind) && ltb o.type c.args.first) (func_of c.args.func.now).ops (record { attrs = 0; type = 0; kind = call 0; operands = [] }) c.all.ensures.ran c.op_total-n.ensures (λ x b q k. search (rules, tests))

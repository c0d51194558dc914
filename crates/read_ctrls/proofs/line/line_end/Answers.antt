-- The targets are judged before the row is stored, so against the counts at the start; the row and the judgement are then what their definitions
-- say of this line.
use mathlib.Core.Path.{◌∙◌}
use Rattle.func.specs.Rows.{ctrl_row_from}
use Rattle.func.specs.Kinds.{ctrl_kind_number}
use Rattle.read_ctrls.proofs.line.line_end.Goals as goal

pub returns-clause-func_after : goal.returns-clause-func_after
returns-clause-func_after c = c.ctrl_row.ensures.func_after ∙ (λ i. ctrl_row_from c.args.start c.args.end c.args.head.region c.args.head.attrs (ctrl_kind_number (c.from.ensures i)) (c.opcode_in.ensures i) c.args.func.now)

-- By the kind: the head that tells a line of it, and then the line.
use mathlib.Core.Path.{refl}
use Rattle.read_lines.specs.declared.LineKind.TheVariants as kinds
use Rattle.read_lines.specs.Kinds.{other_line, this_line}
use Rattle.read_kinds.proofs.line.Goals as goal

pub returns-in_default-clause-line_is : goal.returns-in_default-clause-line_is
returns-in_default-clause-line_is c = other_line kinds.Const c.in-Const.is c.in_default.ensures refl

pub returns-in_default-word-clause-line_is : goal.returns-in_default-word-clause-line_is
returns-in_default-word-clause-line_is c = other_line kinds.Param c.in-Param.is c.in_default-word.ensures refl

pub returns-in_default-word-2-clause-line_is : goal.returns-in_default-word-2-clause-line_is
returns-in_default-word-2-clause-line_is c = other_line kinds.Region c.in-Region.is c.in_default-word-2.ensures refl

pub returns-in_default-node_word-clause-line_is : goal.returns-in_default-node_word-clause-line_is
returns-in_default-node_word-clause-line_is c = other_line kinds.Node c.in-Node.is c.in_default-node_word.ensures refl

pub returns-in_default-op-clause-line_is : goal.returns-in_default-op-clause-line_is
returns-in_default-op-clause-line_is c = other_line kinds.Op c.in-Op.is c.in_default-op.ensures refl

pub returns-in-Some-clause-line_is : goal.returns-in-Some-clause-line_is
returns-in-Some-clause-line_is c = this_line kinds.Const c.in-Const.is c.const_line.result _ _ c.in-Some.ensures c.const_line.ensures.stores c.ok_or.ensures.value

pub returns-in-Some-word-clause-line_is : goal.returns-in-Some-word-clause-line_is
returns-in-Some-word-clause-line_is c = this_line kinds.Param c.in-Param.is c.param_line.result _ _ c.in-Some-word.ensures c.param_line.ensures.stores c.ok_or-in-Param.ensures.value

pub returns-in-Some-word-2-clause-line_is : goal.returns-in-Some-word-2-clause-line_is
returns-in-Some-word-2-clause-line_is c = this_line kinds.Region c.in-Region.is c.region_line.result _ _ c.in-Some-word-2.ensures c.region_line.ensures.stores c.ok_or-in-Region.ensures.value

pub returns-in-Some-node_word-clause-line_is : goal.returns-in-Some-node_word-clause-line_is
returns-in-Some-node_word-clause-line_is c = this_line kinds.Node c.in-Node.is c.node_line.result _ _ c.in-Some-node_word.ensures c.node_line.ensures.stores c.ok_or-in-Node.ensures.value

pub returns-in-Some-op-clause-line_is : goal.returns-in-Some-op-clause-line_is
returns-in-Some-op-clause-line_is c = this_line kinds.Op c.in-Op.is c.op_line.result _ _ c.in-Some-op.ensures c.op_line.ensures.stores c.ok_or-in-Op.ensures.value

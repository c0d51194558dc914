-- The targets of a ctrl line and of a select are a run (`line_count`, `select_count`), which is at most 4095 long.
use Rattle.terminators.specs.Labels.{line_count, select_count}
use Rattle.term_parts.proofs.targets.Goals as goal

pub returns-in-Line-clause-upper_bound : goal.returns-in-Line-clause-upper_bound
returns-in-Line-clause-upper_bound c = (line_count c.requires c.in-Line.is c.target_count.ensures).1

pub returns-in-Select-clause-upper_bound : goal.returns-in-Select-clause-upper_bound
returns-in-Select-clause-upper_bound c = (select_count c.requires c.in-Select.is c.node_child_count.ensures).1

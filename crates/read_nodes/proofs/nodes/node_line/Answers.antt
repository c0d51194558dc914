-- Each opening word has its own line, which is what `node_tail` says behind that word.
use Rattle.func.specs.Keep.{keep_node}
use Rattle.read_lines.specs.Rows.{as_told}
use Rattle.read_lines.specs.Nodes.{node_tail}
use Rattle.read_nodes.proofs.nodes.node_line.Goals as goal

pub returns-in-Block-clause-stores : goal.returns-in-Block-clause-stores
returns-in-Block-clause-stores c = as_told node_tail keep_node _ c.block_line.result _ _ c.in-Block.is c.block_line.ensures.stores

pub returns-in-Select-clause-stores : goal.returns-in-Select-clause-stores
returns-in-Select-clause-stores c = as_told node_tail keep_node _ c.select_line.result _ _ c.in-Select.is c.select_line.ensures.stores

pub returns-in-Loop-clause-stores : goal.returns-in-Loop-clause-stores
returns-in-Loop-clause-stores c = as_told node_tail keep_node _ c.loop_line.result _ _ c.in-Loop.is c.loop_line.ensures.stores

pub returns-in-Exit-clause-stores : goal.returns-in-Exit-clause-stores
returns-in-Exit-clause-stores c = as_told node_tail keep_node _ c.exit_line.result _ _ c.in-Exit.is c.exit_line.ensures.stores

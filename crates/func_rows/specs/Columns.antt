-- Where the code's columns and lists stand: the pool, the word of its rows, and the pool of a list's elements. Assumes nothing.
use Rattle.std.specs.Prelude.{ℕ}
use Rattle.func.specs.Layout.{consts, params, decls, values, node_refs, child_refs, regions, nodes, ops}
use Rattle.func_rows.specs.declared.Column.{Column}
use Rattle.func_rows.specs.declared.Column.TheVariants.{ConstId, ConstOpcode, ParamType, DeclType, NodeKind, NodeOpcode, NodeControl, OpType, OpKind}
use Rattle.func_rows.specs.declared.RowList.{RowList}
use Rattle.func_rows.specs.declared.RowList.TheVariants.{RegionIns, RegionNodes, RegionResults, NodeValues, NodeChildren, NodeOuts}

abbrev pub column_pool : Column → ℕ
column_pool ConstId = consts
column_pool ConstOpcode = consts
column_pool ParamType = params
column_pool DeclType = decls
column_pool NodeKind = nodes
column_pool NodeOpcode = nodes
column_pool NodeControl = nodes
column_pool OpType = ops
column_pool OpKind = ops

abbrev pub column_place : Column → ℕ
column_place ConstId = 0
column_place ConstOpcode = 1
column_place ParamType = 1
column_place DeclType = 1
column_place NodeKind = 0
column_place NodeOpcode = 1
column_place NodeControl = 7
column_place OpType = 1
column_place OpKind = 2

abbrev pub list_pool : RowList → ℕ
list_pool RegionIns = regions
list_pool RegionNodes = regions
list_pool RegionResults = regions
list_pool NodeValues = nodes
list_pool NodeChildren = nodes
list_pool NodeOuts = nodes

abbrev pub list_place : RowList → ℕ
list_place RegionIns = 0
list_place RegionNodes = 1
list_place RegionResults = 2
list_place NodeValues = 3
list_place NodeChildren = 5
list_place NodeOuts = 6

abbrev pub element_pool : RowList → ℕ
element_pool RegionIns = decls
element_pool RegionNodes = node_refs
element_pool RegionResults = values
element_pool NodeValues = values
element_pool NodeChildren = child_refs
element_pool NodeOuts = decls

-- The code's pools as func's layout numbers them. Assumes nothing.
--     pool_bounded     each has a number of the layout
use Rattle.std.specs.Prelude.{ℕ, ◌<◌}
use Rattle.std.proofs.Math.Dec.{lit<}
use Rattle.func.specs.Layout.{consts, params, decls, values, imms, targets, node_refs, op_refs, child_refs, entries, regions, nodes, ops, ctrls, pool_total}
use Rattle.func_pools.specs.declared.Pool.{Pool}
use Rattle.func_pools.specs.declared.Pool.TheVariants.{Consts, Params, Decls, Values, Imms, Targets, NodeRefs, OpRefs, ChildRefs, Entries, Regions, Nodes, Ops, Ctrls}

abbrev pub pool_number : Pool → ℕ
pool_number Consts = consts
pool_number Params = params
pool_number Decls = decls
pool_number Values = values
pool_number Imms = imms
pool_number Targets = targets
pool_number NodeRefs = node_refs
pool_number OpRefs = op_refs
pool_number ChildRefs = child_refs
pool_number Entries = entries
pool_number Regions = regions
pool_number Nodes = nodes
pool_number Ops = ops
pool_number Ctrls = ctrls

pub pool_bounded : (k : Pool) → pool_number k < pool_total
pool_bounded Consts = lit< tt
pool_bounded Params = lit< tt
pool_bounded Decls = lit< tt
pool_bounded Values = lit< tt
pool_bounded Imms = lit< tt
pool_bounded Targets = lit< tt
pool_bounded NodeRefs = lit< tt
pool_bounded OpRefs = lit< tt
pool_bounded ChildRefs = lit< tt
pool_bounded Entries = lit< tt
pool_bounded Regions = lit< tt
pool_bounded Nodes = lit< tt
pool_bounded Ops = lit< tt
pool_bounded Ctrls = lit< tt

-- An entry lies within its pool, and the pool within the slice (`spot`), so that neither the product nor the sum wraps.
use Rattle.std.proofs.Common.{arith}
use Rattle.func.proofs.Pools.{spot}
use Rattle.func_pools.specs.Pools.{pool_number, pool_bounded}
use Rattle.func_pools.proofs.spot.Goals as goal

pub overflow_mul-result : goal.overflow_mul-result
overflow_mul-result c =
    omega (arith, (spot (pool_number c.args.k) c.args.i _ _ (pool_bounded c.args.k) c.requires c.shape-shape.ensures.0 c.shape-shape.ensures.1).1)

pub overflow_add-result : goal.overflow_add-result
overflow_add-result c =
    omega (arith, (spot (pool_number c.args.k) c.args.i _ _ (pool_bounded c.args.k) c.requires c.shape-shape.ensures.0 c.shape-shape.ensures.1).1)

pub returns : goal.returns
returns c = spot (pool_number c.args.k) c.args.i _ _ (pool_bounded c.args.k) c.requires c.shape-shape.ensures.0 c.shape-shape.ensures.1

-- Where there is room the entry is stored at its place and counted (`place_stored`); else the count is set to one above the room
-- (`place_counted`).
use mathlib.Core.Path.{◌≡◌, ap, subst}
use Prim.Native.Nat.{ℕ, ◌+◌, ◌<◌, ◌≤◌}
use native.Mathlib.Omega.{arith}
use lib.ListN.{get_or, length-set}
use Rattle.func.specs.Layout.{room}
use Rattle.func.proofs.Pools.{inside}
use Rattle.func.proofs.Laws.{place_stored, place_counted}
use Rattle.func_pools.specs.Pools.{pool_number, pool_bounded}
use Rattle.func_pools.proofs.place.Goals as goal

pub overflow_add-func-else-n-most : goal.overflow_add-func-else-n-most
overflow_add-func-else-n-most c = omega (arith, (inside (pool_number c.args.k) (pool_bounded c.args.k)).room)

pub returns-then-n-most : goal.returns-then-n-most
returns-then-n-most c =
    let at : 4 + c.number-at.result ≡ 4 + pool_number c.args.k = ap (λ (n : ℕ). 4 + n) c.number-at.ensures.0 in
    record {
      func_after = cc (place_stored (pool_number c.args.k) _ c.spot.result c.args.e.now c.args.func.now _ (ap (λ (n : ℕ). get_or c.args.func.now n 0) at)
          c.spot.ensures.0 c.store.ensures.func_after (subst (λ (n : ℕ). get_or c.args.func.now n 0 < room (pool_number c.args.k)) at (omega arith)));
      func_len_unchanged = simp length-set (omega arith);
    }

pub returns-else-n-most : goal.returns-else-n-most
returns-else-n-most c =
    let at : 4 + c.number-at.result ≡ 4 + pool_number c.args.k = ap (λ (n : ℕ). 4 + n) c.number-at.ensures.0 in
    record {
      func_after = cc (place_counted (pool_number c.args.k) c.shape-most.result.room c.args.e.now c.args.func.now c.shape-most.ensures.2
          (subst (λ (n : ℕ). c.shape-most.result.room ≤ get_or c.args.func.now n 0) at c.if-n-most.false));
      func_len_unchanged = simp length-set;
    }

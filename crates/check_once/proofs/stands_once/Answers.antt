-- With equal counts each line stands once if all numbers are fresh (`once_is`).
use mathlib.Core.Path.{◌≡◌, ◌∙◌}
use Prim.Native.Nat.{◌≤◌}
use native.Mathlib.Omega.{arith}
use lib.ListN.{length}
use Rattle.func.proofs.Pools.{entry_room_law, inside}
use Rattle.func.specs.Store.{count}
use Rattle.func_pools.specs.Pools.{pool_number, pool_bounded}
use Rattle.check_once.proofs.Laws.{fresh_refs, once_is}
use Rattle.check_once.proofs.stands_once.Goals as goal

pub returns-clause-value : goal.returns-clause-value
returns-clause-value c =
    let room : count (pool_number c.args.p) c.args.func.now ≤ length c.args.work.now = omega (arith, c.requires.k_refers.1.low, entry_room_law (pool_number c.args.k), (inside (pool_number c.args.k) (pool_bounded c.args.k)).room, c.requires.func_need_in_bounds.1) in
    let same : count (pool_number c.args.k) c.args.func.now ≡ count (pool_number c.args.p) c.args.func.now = omega (arith, c.if-count-n.false, c.count.ensures, c.count-n.ensures) in
    once_is (pool_number c.args.k) (pool_number c.args.p) c.args.func.now c.all_fresh.result same
    (c.all_fresh.ensures.value
    ∙ fresh_refs (pool_number c.args.k) (pool_number c.args.p) c.args.func.now c.count-n.result c.requires.k_refers.1 (omega arith) (omega arith) c.clear.new.work
    (omega (arith, c.clear.ensures.work_len_unchanged))
    (λ x h. c.clear.ensures.cleared.blank x (omega arith) (omega (arith, c.count-n.ensures))))

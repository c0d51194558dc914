-- The loop's invariant: the climb is at a region to which each region that it stamped leads. The measure is how many regions have no stamp; a
-- root ends the climb (`climb_root`), and else the stamp tells whose it is (`climb_end`).
use mathlib.Core.Path.{◌≡◌, refl, ◌∙◌}
use Prim.Native.Nat.{suc, ◌+◌, ◌-◌}
use native.Mathlib.Omega.{arith}
use lib.ListN.{get_or, set, length-set}
use Rattle.check_cycles.specs.Stamps.{parent}
use Rattle.check_cycles.proofs.Laws.{climb_less, climb_parent, climb_further, climb_root, climb_end}
use Rattle.check_cycles.proofs.climbs_back.Goals as goal

pub returns-then-p-eq0-clause-climbed : goal.returns-then-p-eq0-clause-climbed
returns-then-p-eq0-clause-climbed c =
    let p = parent c.args.work.now in
    climb_root p c.args.n c.args.r c.loop-work.at c.loop-work.work c.loop-work.invariant.1 c.loop-work-test.true (climb_parent p c.args.n c.args.r c.loop-work.at c.loop-work.work c.loop-work.invariant.1 c.loop-work-test.true _ refl ∙ c.if-p-eq0.true)

pub loop-work-smaller : goal.loop-work-smaller
loop-work-smaller c = omega (arith, climb_less (parent c.args.work.now) c.args.n c.args.r c.loop-work.at c.loop-work.work c.loop-work.invariant.1 c.loop-work-test.true)

pub loop-work-preserved : goal.loop-work-preserved
loop-work-preserved c =
    let p = parent c.args.work.now in
    let at = get_or (set c.loop-work.work (128 + c.loop-work.at) (c.args.r + 1)) c.loop-work.at 0 in
    let y : at ≡ suc (at - 1) = omega (arith, c.if-p-eq0.false) in (
      simp length-set c.loop-work.invariant.0,
      climb_further p c.args.n c.args.r c.loop-work.at c.loop-work.work c.loop-work.invariant.1 c.loop-work-test.true (at - 1)
          (climb_parent p c.args.n c.args.r c.loop-work.at c.loop-work.work c.loop-work.invariant.1 c.loop-work-test.true at refl ∙ y),
    )

pub returns-clause-climbed : goal.returns-clause-climbed
returns-clause-climbed c = climb_end (parent c.args.work.now) c.args.n c.args.r c.loop-work.at c.loop-work.work c.loop-work.invariant.1 c.loop-work-test.false

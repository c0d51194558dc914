use Rattle.std.proofs.Common.{◌≡◌, ℕ, ◌+◌, ◌-◌, ◌^◌, refl, sym, subst, ◌∙◌, arith, true≢false}
use borrow.Author.Tests.{not-false, not-true}
use Rattle.replay.specs.Batch.{Running, running_all, running_on, running_start}
use Rattle.replay.proofs.all.Goals as goal

pub loop-init : goal.loop-init
loop-init g c =
    let (len, matched, from, till) = c.start-state.ensures.none in
    record {
      counts = record { len = omega arith; from = omega arith; till = omega arith };
      text_length = refl;
      buffer_length = c.requires.0;
      out_length = c.requires.1;
      running = λ all room given.
          running_start _ _ all c.args.buffer.now c.args.text.now c.start-state.result given len matched from till c.start-state.ensures.more;
    }

pub loop-preserved : goal.loop-preserved
loop-preserved g c =
    let fewer : 2 ^ 64 - 1 - c.loop.counter - 1 ≡ 2 ^ 64 - 1 - (c.loop.counter + 1) = omega arith in
    record {
      counts = c.in_ok-state.ensures.state;
      text_length = c.in_ok-state.ensures.rooms.0 ∙ c.loop.invariant.text_length;
      buffer_length = c.in_ok-state.ensures.rooms.1;
      out_length = omega (arith, c.in_ok-state.ensures.rooms.2, c.loop.invariant.out_length);
      running = λ all room given.
          let so_far = c.loop.invariant.running all room given in
          subst
          (λ (n : ℕ). Running (g.W.Write.contents c.args.writer.now) (g.W.Write.contents c.step.new.writer) all (g.R.Read.remaining c.step.new.reader)
          c.step.new.buffer c.step.new.text c.in_ok-state.state n)
          fewer
          (running_on _ _ _ _ _ all _ _ _ _ c.loop.state c.in_ok-state.state (2 ^ 64 - 1 - c.loop.counter) (omega (arith, c.loop-test.true)) (not-false _ c.if-not-state.false) so_far
          (c.in_ok-state.ensures.turn so_far.kept so_far.left (omega (arith, c.loop.invariant.text_length)) so_far.gathered so_far.rest));
    }

pub returns-then-not-state : goal.returns-then-not-state
returns-then-not-state g c = record {
  printed = running_all _ _ _ _ _ _ c.args.text.now c.loop.state (2 ^ 64 - 1 - c.loop.counter) c.loop.invariant.running
      (λ more. absurd (true≢false (sym more ∙ not-true _ c.if-not-state.true)));
}

pub returns-after-loop : goal.returns-after-loop
returns-after-loop g c = record {
  printed = running_all _ _ _ _ _ _ c.args.text.now c.loop.state (2 ^ 64 - 1 - c.loop.counter) c.loop.invariant.running
      (λ more. omega (arith, c.loop-test.false));
}

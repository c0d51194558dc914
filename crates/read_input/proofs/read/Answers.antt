use Rattle.std.proofs.Common.{◌≡◌, ◌+◌, List, ℕ, ◌++◌, inr, sym, ap, subst, ◌∙◌, arith, take, drop}
use Rattle.std.proofs.Math.Seq.{length-take-le, take-add}
use Rattle.std.proofs.KnownBytes.{Consumes-trans}
use Rattle.std.specs.Io.KnownBytes.{Consumes}
use Rattle.read_input.specs.Known.{known_room}
use Rattle.read_input.proofs.read.Goals as goal

pub returns-then-got-eq0-clause-decided : goal.returns-then-got-eq0-clause-decided
returns-then-got-eq0-clause-decided g c =
    let few = known_room c.args.command (take c.loop-command.n c.loop-command.input) (sym c.loop-command-test.true ∙ c.known.ensures) in
    let long = length-take-le c.loop-command.n c.loop-command.input c.loop-command.invariant.within in
    inr (c.in_ok-got.ensures.none_came c.if-got-eq0.true (omega arith))

pub loop-command-preserved : goal.loop-command-preserved
loop-command-preserved g c =
    let n = c.loop-command.n in
    let input = c.more.new.input in
    let joined : take n c.loop-command.input ++ take c.in_ok-got.got (drop n input) ≡ take (n + c.in_ok-got.got) input =
    ap (λ (l : List ℕ). l ++ take c.in_ok-got.got (drop n input)) (sym c.more.ensures.kept) ∙ sym (take-add n c.in_ok-got.got input) in
    record {
      within = c.in_ok-got.ensures.within;
      same_length = c.more.auto.input ∙ c.loop-command.invariant.same_length;
      came = subst (Consumes _ _) joined (Consumes-trans _ _ _ _ _ c.loop-command.invariant.came c.in_ok-got.ensures.came);
    }

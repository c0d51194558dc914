-- The loop stands before a line, and what is still to be stored and judged from there is what was from the start. The measure is what is left of
-- the text, which has no fewer bytes than lines.
use mathlib.Core.Path.{◌≡◌}
use Prim.Native.Nat.{◌-◌, ◌≤◌}
use lib.ListN.{length}
use Rattle.lifting.specs.Grammar.{ctrl_lines}
use Rattle.read_lines.specs.Lines.{GoingOn}
use Rattle.read_ctrls.specs.Judge.{keep_judged}
use Rattle.read_ctrls.specs.Answers.{state_at}
use Rattle.read_ctrls.proofs.Laws.{state_length}
use Rattle.read_ctrls.proofs.line.lines.Given as goal

abbrev pub invariant-loop-h : goal.invariant-loop-h
invariant-loop-h l = GoingOn state_length ctrl_lines keep_judged l.initial.c (state_at l.initial.func l.initial.work l.initial.seen) l.c (state_at l.func l.work l.seen) × (length l.work ≡ length l.initial.work) × (l.seen.line ≤ l.c.at)

abbrev pub decreases-loop-h : goal.decreases-loop-h
decreases-loop-h l = length l.c.text.now - l.c.at

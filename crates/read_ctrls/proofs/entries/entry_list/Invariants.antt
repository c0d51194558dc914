-- The loop stands before an entry or the bracket, and what is still to be stored and judged from there is what was from the start. The measure is
-- what is left of the text.
use mathlib.Core.Path.{◌≡◌}
use Prim.Native.Nat.{◌-◌}
use lib.ListN.{length}
use Rattle.lifting.specs.Grammar.{entries_codec}
use Rattle.read_lines.specs.Stores.{ListOn}
use Rattle.check_edges.specs.Edges.{keep_edge}
use Rattle.read_ctrls.specs.Answers.{edges_state}
use Rattle.read_ctrls.proofs.Laws.{edges_length}
use Rattle.read_ctrls.proofs.entries.entry_list.Given as goal

abbrev pub invariant-loop-d : goal.invariant-loop-d
invariant-loop-d l = ListOn edges_length entries_codec (keep_edge l.line) l.initial.c (edges_state l.initial.func l.initial.work l.initial.fit) l.c (edges_state l.func l.work l.fit) × (length l.work ≡ length l.initial.work)

abbrev pub decreases-loop-d : goal.decreases-loop-d
decreases-loop-d l = length l.c.text.now - l.c.at

-- The loop stands before a line, and what is still to be stored from there is what was to be stored from the start.
use Prim.Native.Nat.{◌-◌}
use lib.ListN.{length}
use Rattle.read_lines.specs.Lines.{GoingOn}
use Rattle.read_lines.specs.Kinds.{keep_kind, kind_lines}
use Rattle.read_kinds.proofs.lines.Given as goal

abbrev pub invariant-loop-d : goal.invariant-loop-d
invariant-loop-d l = GoingOn length (kind_lines l.kind) (keep_kind l.kind) l.initial.c l.initial.func l.c l.func

abbrev pub decreases-loop-d : goal.decreases-loop-d
decreases-loop-d l = length l.c.text.now - l.c.at

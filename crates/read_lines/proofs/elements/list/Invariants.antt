-- The loop stands before an element or the bracket, and what is still to be stored from there is what was to be stored from the start.
use Prim.Native.Nat.{◌-◌}
use lib.ListN.{length}
use Rattle.read_lines.specs.Stores.{ListOn}
use Rattle.read_lines.specs.Elements.{keep_element, element_list}
use Rattle.read_lines.proofs.elements.list.Given as goal

abbrev pub invariant-loop-d : goal.invariant-loop-d
invariant-loop-d l = ListOn length (element_list l.what) (keep_element l.what) l.initial.c l.initial.func l.c l.func

abbrev pub decreases-loop-d : goal.decreases-loop-d
decreases-loop-d l = length l.c.text.now - l.c.at

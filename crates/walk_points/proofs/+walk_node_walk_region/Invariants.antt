-- The two call each other: fewer points are below at each call. The loop of each has appended the points of what it has gone through.
use Rattle.std.proofs.Common.{length}
use Rattle.func.specs.Decode.{func_of}
use Rattle.walk_points.specs.Below.{region_words, node_words}
use Rattle.walk_points.proofs.Laws.{InRegion, InNode}
use Rattle.walk_points.proofs.+walk_node_walk_region.Given as goal

abbrev pub decreases-walk_node : goal.decreases-walk_node
decreases-walk_node l = length (node_words (func_of l.func.now) l.n)

abbrev pub decreases-walk_region : goal.decreases-walk_region
decreases-walk_region l = length (region_words (func_of l.func.now) l.r)

abbrev pub invariant-walk_node-loop-i : goal.invariant-walk_node-loop-i
invariant-walk_node-loop-i l = InNode l.func l.n l.m l.initial.work l.initial.at l.i-end l.i l.work l.at

abbrev pub invariant-walk_region-loop-i : goal.invariant-walk_region-loop-i
invariant-walk_region-loop-i l = InRegion l.func l.r l.m l.initial.work l.initial.at l.i-end l.i l.work l.at

-- Each way out that has an edge leads where its terminator does (`edge_as` to `edge_test`), to a region or a node of the text, so that the number
-- is below 512; a return and an exit have no edge to ask for.
use mathlib.Core.Path.{refl, sym, ap, ◌∙◌}
use Prim.Native.Nat.{ℕ}
use native.Mathlib.Omega.{arith}
use Rattle.lifting.specs.Points.{region_entry}
use Rattle.func.specs.Decode.{func_of}
use Rattle.walk_points.specs.Numbers.{number_back, point_number}
use Rattle.terminators.specs.Laws.{low_node}
use Rattle.terminators.specs.Labels.{fits_as, low_region}
use Rattle.emit_edge_ends.proofs.Ways.{edge_as, edge_case, edge_join, edge_one, edge_repeat, edge_test, edge_within}
use Rattle.emit_edge_ends.proofs.edge_target.Goals as goal

pub line_target-requires : goal.line_target-requires
line_target-requires c = record { walkable = (c.requires.known.walkable, c.requires.aimed); c_in_bounds = fits_as c.requires.known c.in-Line.is; k_in_bounds = edge_within (func_of c.args.func.now) c.args.k c.requires.k_in_bounds c.in-Line.is }

pub node_child-requires : goal.node_child-requires
node_child-requires c = record { n_in_bounds = fits_as c.requires.known c.in-Select.is; i_in_bounds = (edge_case (func_of c.args.func.now) c.args.k c.requires.k_in_bounds c.in-Select.is).0 }

pub number-requires : goal.number-requires
number-requires c =
    let some = (edge_case (func_of c.args.func.now) c.args.k c.requires.k_in_bounds c.in-Select.is).0 in
    omega (arith, c.node_child.ensures, c.requires.known.walkable.named.few, c.requires.known.walkable.named.child c.in-Select.n 0 (fits_as c.requires.known c.in-Select.is) some)

pub number-requires-in-Loop : goal.number-requires-in-Loop
number-requires-in-Loop c = low_region c.requires.known (fits_as c.requires.known c.in-Loop.is).1

pub number-requires-in-Join : goal.number-requires-in-Join
number-requires-in-Join c = low_node c.requires.known.tables (fits_as c.requires.known c.in-Join.is).0

pub number-requires-in-Repeat : goal.number-requires-in-Repeat
number-requires-in-Repeat c = low_node c.requires.known.tables (fits_as c.requires.known c.in-Repeat.is).0

pub number-requires-in-Test : goal.number-requires-in-Test
number-requires-in-Test c = low_node c.requires.known.tables (fits_as c.requires.known c.in-Test.is).0

pub returns-in-Straight : goal.returns-in-Straight
returns-in-Straight c = record { value = edge_one (func_of c.args.func.now) c.args.k c.requires.k_in_bounds c.in-Straight.is refl (sym (number_back c.in-Straight.q)); upper_bound = fits_as c.requires.known c.in-Straight.is }

pub returns-in-Line : goal.returns-in-Line
returns-in-Line c = record { value = edge_as (func_of c.args.func.now) c.args.k c.requires.k_in_bounds c.in-Line.is c.line_target.ensures.value; upper_bound = c.line_target.ensures.upper_bound }

pub returns-in-Select : goal.returns-in-Select
returns-in-Select c =
    let e = edge_case (func_of c.args.func.now) c.args.k c.requires.k_in_bounds c.in-Select.is in
    record {
      value = c.number.ensures ∙ ap (λ (r : ℕ). point_number (region_entry r)) c.node_child.ensures ∙ sym e.1;
      upper_bound = omega
          (arith, c.number.ensures, c.node_child.ensures, c.requires.known.walkable.named.few, c.requires.known.walkable.named.child c.in-Select.n 0 (fits_as c.requires.known c.in-Select.is) e.0);
    }

pub returns-in-Loop : goal.returns-in-Loop
returns-in-Loop c = record { value = edge_one (func_of c.args.func.now) c.args.k c.requires.k_in_bounds c.in-Loop.is refl c.number-in-Loop.ensures; upper_bound = omega (arith, c.number-in-Loop.ensures, low_region c.requires.known (fits_as c.requires.known c.in-Loop.is).1) }

pub returns-in-Join : goal.returns-in-Join
returns-in-Join c = record { value = edge_join (func_of c.args.func.now) c.args.k c.requires.k_in_bounds c.in-Join.is c.number-in-Join.ensures; upper_bound = omega (arith, c.number-in-Join.ensures, low_node c.requires.known.tables (fits_as c.requires.known c.in-Join.is).0) }

pub returns-in-Repeat : goal.returns-in-Repeat
returns-in-Repeat c = record { value = edge_repeat (func_of c.args.func.now) c.args.k c.requires.k_in_bounds c.in-Repeat.is c.number-in-Repeat.ensures; upper_bound = omega (arith, c.number-in-Repeat.ensures, low_node c.requires.known.tables (fits_as c.requires.known c.in-Repeat.is).0) }

pub returns-in-Test : goal.returns-in-Test
returns-in-Test c = record { value = edge_test (func_of c.args.func.now) c.args.k c.requires.k_in_bounds c.in-Test.is c.number-in-Test.ensures; upper_bound = omega (arith, c.number-in-Test.ensures, low_node c.requires.known.tables (fits_as c.requires.known c.in-Test.is).0) }

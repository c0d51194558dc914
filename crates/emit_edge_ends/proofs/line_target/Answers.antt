-- Without entries the edge leads to the sole target (`line_sole`), and else to the region of entry k (`line_entry`); the tests of the text say
-- that each is a region, so that its number is below 512.
use mathlib.Core.Path.{sym, ap, ◌∙◌}
use Prim.Native.Nat.{ℕ}
use native.Mathlib.Omega.{arith}
use Rattle.lifting.specs.Points.{region_entry}
use Rattle.func.specs.Decode.{func_of}
use Rattle.func.specs.Tables.{ctrl_line_of}
use Rattle.walk_points.specs.Numbers.{point_number}
use Rattle.emit_edge_ends.proofs.Ways.{line_entry, line_sole}
use Rattle.emit_edge_ends.proofs.line_target.Goals as goal

pub target-requires : goal.target-requires
target-requires c =
    let l = (ctrl_line_of (func_of c.args.func.now) c.args.c).1 in
    record { c_in_bounds = c.requires.c_in_bounds; i_in_bounds = (line_sole l c.args.k c.requires.k_in_bounds (sym c.entry_count.ensures ∙ c.if-entry_count-eq0.true)).0 }

pub number-requires : goal.number-requires
number-requires c =
    let l = (ctrl_line_of (func_of c.args.func.now) c.args.c).1 in
    let some = (line_sole l c.args.k c.requires.k_in_bounds (sym c.entry_count.ensures ∙ c.if-entry_count-eq0.true)).0 in
    omega (arith, c.target.ensures, c.requires.walkable.0.named.few, c.requires.walkable.0.named.target c.args.c 0 c.requires.c_in_bounds some)

pub returns-then-entry_count-eq0 : goal.returns-then-entry_count-eq0
returns-then-entry_count-eq0 c =
    let l = (ctrl_line_of (func_of c.args.func.now) c.args.c).1 in
    let e = line_sole l c.args.k c.requires.k_in_bounds (sym c.entry_count.ensures ∙ c.if-entry_count-eq0.true) in
    record {
      value = c.number.ensures ∙ ap (λ (r : ℕ). point_number (region_entry r)) c.target.ensures ∙ sym e.1;
      upper_bound = omega
          (arith, c.number.ensures, c.target.ensures, c.requires.walkable.0.named.few, c.requires.walkable.0.named.target c.args.c 0 c.requires.c_in_bounds e.0);
    }

pub entry_region-requires : goal.entry_region-requires
entry_region-requires c =
    let l = (ctrl_line_of (func_of c.args.func.now) c.args.c).1 in
    record { c_in_bounds = c.requires.c_in_bounds; e_in_bounds = (line_entry l c.args.k c.requires.k_in_bounds (λ e. c.if-entry_count-eq0.false (c.entry_count.ensures ∙ e))).0 }

pub number-requires-2 : goal.number-requires-2
number-requires-2 c =
    let l = (ctrl_line_of (func_of c.args.func.now) c.args.c).1 in
    let low = (line_entry l c.args.k c.requires.k_in_bounds (λ e. c.if-entry_count-eq0.false (c.entry_count.ensures ∙ e))).0 in
    omega (arith, c.entry_region.ensures, c.requires.walkable.0.named.few, c.requires.walkable.1.entry c.args.c c.args.k c.requires.c_in_bounds low)

pub returns : goal.returns
returns c =
    let l = (ctrl_line_of (func_of c.args.func.now) c.args.c).1 in
    let e = line_entry l c.args.k c.requires.k_in_bounds (λ e. c.if-entry_count-eq0.false (c.entry_count.ensures ∙ e)) in
    record {
      value = c.number-2.ensures ∙ ap (λ (r : ℕ). point_number (region_entry r)) c.entry_region.ensures ∙ sym e.1;
      upper_bound = omega
          (arith, c.number-2.ensures, c.entry_region.ensures, c.requires.walkable.0.named.few, c.requires.walkable.1.entry c.args.c c.args.k c.requires.c_in_bounds e.0);
    }

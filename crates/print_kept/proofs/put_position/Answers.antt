-- A position in no block brings nothing (`part_gone`); any other brings its beginning, and the end of its block unless it is absorbing to the next
-- one (`part_is`).
use mathlib.Core.Path.{◌≡◌, refl, sym, ap, ◌∙◌}
use mathlib.Core.Bool.{Bool}
use mathlib.Core.List.{List, ◌++◌, append-nil}
use Prim.Native.Nat.{ℕ, ◌-◌, ◌≤◌, ◌<◌}
use native.Mathlib.Omega.{arith}
use Rattle.lifting.specs.Ast.{Func}
use Rattle.func.specs.Decode.{func_of}
use Rattle.walk_points.specs.Numbers.{point_of}
use Rattle.terminators.specs.At.{point_at, visited_block}
use Rattle.terminators.specs.Plain.{visited_plain}
use Rattle.terminators.specs.Visited.{Visited}
use Rattle.block_absorbs.specs.Absorbs.{absorbed, absorbs, stands, status_word}
use Rattle.print_bytes.specs.Prints.{prints_none, prints_more, prints_same}
use Rattle.print_lines.specs.Positions.{begin_bytes, close_bytes, line_at, part_gone, part_is}
use Rattle.print_points.specs.Shows.{points_small}
use Rattle.print_kept.proofs.put_position.Goals as goal

-- what stands at position i, whose word says that its block starts at the point with number h
module _ {w u : List ℕ} {m : ℕ} (k : Visited w u m) (i : ℕ) (l : i < m) (h : ℕ) where
  abbrev F : Func
  F = func_of w

  abbrev says : ℕ
  says = status_word (stands F i) (point_at F i)

  abbrev parts : Bool → ℕ → List ℕ
  parts b q = begin_bytes F (absorbed F i) (point_at F i) ++ close_bytes F b (point_of q) (visited_block F i).term

  in_block : (1 ≤ says) × (h ≡ says - 1) → (parts (absorbs F i) h ≡ line_at F i) × (h < 512)
  in_block e =
      let p = part_is F (points_small k) i (omega (arith, k.count, l)) says refl (λ z. omega (arith, e.0, z)) (absorbed F i) refl in
      (ap (parts (absorbs F i)) e.1 ∙ sym p.0, omega (arith, p.1, e.1))

  ends : {b : Bool} → (1 ≤ says) × (h ≡ says - 1) → b ≡ absorbs F i → parts b h ≡ line_at F i
  ends e a = ap (λ (b : Bool). parts b h) a ∙ (in_block e).0

pub returns-in_default : goal.returns-in_default
returns-in_default c =
    prints_same (prints_none (omega arith)) (sym (part_gone (func_of c.args.shown.now.visits.func.now) c.args.i (omega (arith, c.in_default.ensures))))

pub returns-then-absorbs : goal.returns-then-absorbs
returns-then-absorbs c =
    let e = ends (visited_plain c.args.shown.now.visits.visited) c.args.i c.requires c.in-Some.h c.in-Some.ensures (sym c.if-absorbs.true ∙ c.absorbs.ensures) in
    prints_same c.put_begin.ensures (sym (append-nil _) ∙ e)

pub put_end-requires : goal.put_end-requires
put_end-requires c = ((in_block (visited_plain c.args.shown.now.visits.visited) c.args.i c.requires c.in-Some.h c.in-Some.ensures).1, c.requires)

pub returns : goal.returns
returns c =
    let e = ends (visited_plain c.args.shown.now.visits.visited) c.args.i c.requires c.in-Some.h c.in-Some.ensures (sym c.if-absorbs.false ∙ c.absorbs.ensures) in
    prints_same (prints_more c.put_begin.ensures c.put_end.ensures) e

-- What the functions over the work slice ask: the visited points stand there, with their use counts and the words of the kept blocks.
-- Assumes nothing.
--     Shows                         so it stands there
--     points_small                  every visited point has a small number
--     by_number                     a point with a small number is the one that its number says
--     target_small, merge_small     so are the points that a way out names
--     points_next, points_end_law       points, one at a time
--     absorb_test, absorbed_before    the tests of the words
use Rattle.std.specs.Prelude.{◌≡◌, refl, Bool, true, false, List, [], ◌∷◌, ◌++◌, ℕ, zero, suc, ◌+◌, ◌-◌, ◌≤◌, ◌<◌, eqb, get_or, length, drop}
use Rattle.std.proofs.Common.{sym, ap, ◌∙◌, add-one, arith, drop_of_length-le, drop-cons, eq-eqb, ne_eqb}
use Rattle.lifting.specs.Ast.{Func}
use Rattle.lifting.specs.Points.{CfgPoint, region_entry}
use Rattle.lifting.specs.Walk.{walk_of}
use Rattle.lifting.specs.Absorb.{merge_labels}
use Rattle.func.specs.Decode.{func_of}
use Rattle.general_laws.specs.Members.{in_left, in_right, in_get_or}
use Rattle.walk_points.specs.Numbers.{point_low, point_back, point_number, point_of, Small}
use Rattle.terminators.specs.At.{visited_block, point_at}
use Rattle.terminators.specs.Visited.{Visited, label_small, point_small}
use Rattle.block_uses.specs.Uses.{Counted}
use Rattle.block_absorbs.specs.Absorbs.{AbsorbWords, absorbed, absorbs, absorb_word}
use Rattle.print_lines.specs.Lines.{point_bytes, points_bytes}

pub record Shows (w u : List ℕ) (m : ℕ) : Type 0 where
  pub visited : Visited w u m
  pub counted : Counted (func_of w) u
  pub absorbing : AbsorbWords (func_of w) m u

-- every visited point has a small number
pub points_small : {w u : List ℕ} {m : ℕ} → Visited w u m → (j : ℕ) → j < length (walk_of (func_of w)) → Small (point_at (func_of w) j)
points_small k j h = point_small k j (omega (arith, k.count))

-- a point with a small number is the one that its number says
pub record ByNumber (q : CfgPoint) : Type 0 where
  pub low : point_number q < 512
  pub same : point_bytes (point_of (point_number q)) ≡ point_bytes q

pub by_number : (q : CfgPoint) → Small q → ByNumber q
by_number q s = record { low = point_low q s; same = ap point_bytes (point_back q s) }

module _ {w u : List ℕ} {m : ℕ} (k : Visited w u m) (i : ℕ) (h : i < m) (n : ℕ) where
  pub target_small : n < length (visited_block (func_of w) i).term.targets → ByNumber (get_or (visited_block (func_of w) i).term.targets n (region_entry 0))
  target_small l =
      let t = (visited_block (func_of w) i).term in
      by_number _ (label_small k i h _ (in_right (merge_labels t.merge) (in_get_or t.targets n (region_entry 0) l)))

  pub merge_small : n < length (merge_labels (visited_block (func_of w) i).term.merge) → ByNumber (get_or (merge_labels (visited_block (func_of w) i).term.merge) n (region_entry 0))
  merge_small l =
      let t = (visited_block (func_of w) i).term in
      by_number _ (label_small k i h _ (in_left t.targets (in_get_or (merge_labels t.merge) n (region_entry 0) l)))

pub points_next : (l : List CfgPoint) (k : ℕ) → k < length l → points_bytes (drop k l) ≡ point_bytes (get_or l k (region_entry 0)) ++ points_bytes (drop (k + 1) l)
points_next l k h =
    ap points_bytes (drop-cons l k (region_entry 0) h ∙ ap (λ (n : ℕ). get_or l k (region_entry 0) ∷ drop n l) (sym (add-one k)))

pub points_end_law : (l : List CfgPoint) (k : ℕ) → length l ≤ k → points_bytes (drop k l) ≡ []
points_end_law l k h = ap points_bytes (drop_of_length-le l h)

-- the test of a word that says whether a point absorbs the next one
pub absorb_test : (b : Bool) (x : ℕ) → x ≡ absorb_word b → eqb x 1 ≡ b
absorb_test true x e = eq-eqb x 1 e
absorb_test false x e = ne_eqb x 1 (λ z. omega arith)

pub absorbed_before : (F : Func) (i : ℕ) → ¬ (i ≡ 0) → absorbs F (i - 1) ≡ absorbed F i
absorbed_before F zero z = absurd (z refl)
absorbed_before F (suc i) z =
    let e : suc i - 1 ≡ i = omega arith in
    ap (absorbs F) e

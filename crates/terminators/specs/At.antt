-- What stands at each position of the walk: the block of the visited point, from the point, the parent of its region, and the next point.
-- Assumes nothing.
--     block_is    the block at a position
--     in_text_law     its region or node is one of the text, and so has a small number
use Rattle.std.specs.Prelude.{◌≡◌, refl, List, [], ◌∷◌, ℕ, zero, suc, ◌≤◌, ◌<◌, get_or, drop, length}
use Rattle.std.proofs.Common.{sym, ap, ◌∙◌, arith}
use Rattle.std.proofs.Math.Option.{Option, none, some}
use Rattle.lifting.specs.Ast.{Func, Node, block}
use Rattle.lifting.specs.Parts.{children_of, node_of}
use Rattle.lifting.specs.Points.{BlockLifting, CfgPoint, Table, node_entry, node_exit, region_entry, region_exit}
use Rattle.lifting.specs.Walk.{Place, entry_block, exit_block, in_block, in_node, out_block, top, walk_of}
use Rattle.general_laws.specs.Members.{In, here, in_nil}
use Rattle.lifting_runs.specs.Places as places
use Rattle.lifting_runs.specs.TourLaid.{suffix_in}
use Rattle.lifting_runs.proofs.Shaped.{visited_low}
use Rattle.lifting_blocks.specs.Flat.{no_pair}
use Rattle.lifting_blocks.specs.Chain.{first_in_table}
use Rattle.lifting_blocks.specs.Steps.{PlacedAs, Step, placed_as, step_entry, step_exit, step_in, step_out}
use Rattle.lifting_blocks.specs.Laws.{steps}
use Rattle.walk_points.specs.Numbers.{Small}
use Rattle.walk_points.specs.Parents.{parent_word, parent_is, parent_none}
use Rattle.walk_points.specs.Walk.{Walkable}

-- where a region stands, from its parent's word
abbrev pub place_by : ℕ → Place
place_by zero = top
place_by (suc n) = in_node n

abbrev pub place_in : Func → ℕ → Place
place_in F r = place_by (parent_word F r)

-- the block of point p, after which q is visited
abbrev pub block_of : Func → CfgPoint → CfgPoint → BlockLifting
block_of F (region_entry r) q = entry_block F r (place_in F r)
block_of F (region_exit r) q = exit_block F r (place_in F r)
block_of F (node_entry n) q = in_block F (node_of F n) n
block_of F (node_exit n) q = out_block F (node_of F n) n q

-- its region or node is one of the text
abbrev pub InText : Func → CfgPoint → Type 0
InText F (region_entry r) = r < length F.regions
InText F (region_exit r) = r < length F.regions
InText F (node_entry n) = n < length F.nodes
InText F (node_exit n) = n < length F.nodes

pub small_text : (F : Func) → length F.regions ≤ 128 → length F.nodes ≤ 128 → (p : CfgPoint) → InText F p → Small p
small_text F a b (region_entry r) h = omega arith
small_text F a b (region_exit r) h = omega arith
small_text F a b (node_entry n) h = omega arith
small_text F a b (node_exit n) h = omega arith

-- the point that is visited at position i
abbrev pub point_at : Func → ℕ → CfgPoint
point_at F i = (get_or (walk_of F) i no_pair).0

abbrev pub visited_block : Func → ℕ → BlockLifting
visited_block F i = (get_or (walk_of F) i no_pair).1

abbrev next_of : Option CfgPoint → CfgPoint
next_of none = region_entry 0
next_of (some q) = q

next_is : (T : Table) (i : ℕ) → next_of (first_in_table (drop (suc i) T) none) ≡ (get_or T (suc i) no_pair).0
next_is [] i = refl
next_is (x ∷ []) zero = refl
next_is (x ∷ y ∷ T) zero = refl
next_is (x ∷ []) (suc i) = refl
next_is (x ∷ y ∷ T) (suc i) = next_is (y ∷ T) i

-- a node that has a child is one of the text
holds_low : (l : List Node) (n c : ℕ) → In c (children_of (get_or l n (block []))) → n < length l
holds_low [] n c h = absurd (in_nil h)
holds_low (x ∷ l) zero c h = omega arith
holds_low (x ∷ l) (suc n) c h = omega (arith, holds_low l n c h)

module _ (F : Func) (ok : Walkable F) where
  place_from : (r : ℕ) (p : Place) → PlacedAs F r p → p ≡ place_in F r
  place_from r top h = ap place_by (sym (parent_none F r h))
  place_from r (in_node n) h =
      let e : parent_word F r ≡ suc n = omega (arith, parent_is ok.shaped.forest n r (holds_low F.nodes n r h) h) in
      ap place_by (sym e)

  place_is : {r : ℕ} {p : Place} → places.VisitedAt F r p → p ≡ place_in F r
  place_is {r} {p} v = place_from r p (placed_as F ok.shaped.targets v)

  step_block : {x : CfgPoint × BlockLifting} {o : Option CfgPoint} → Step F x o → x.1 ≡ block_of F x.0 (next_of o)
  step_block (step_entry {r} v) = ap (entry_block F r) (place_is v)
  step_block (step_in v sf e) = refl
  step_block (step_out v sf) = refl
  step_block (step_exit {r} v a) = ap (exit_block F r) (place_is v)

  step_low : {x : CfgPoint × BlockLifting} {o : Option CfgPoint} → Step F x o → InText F x.0
  step_low (step_entry v) = visited_low F ok.shaped v
  step_low (step_in {r} {n} v sf e) = ok.node r n (suffix_in F sf here)
  step_low (step_out {r} {n} v sf) = ok.node r n (suffix_in F sf here)
  step_low (step_exit v a) = visited_low F ok.shaped v

  module _ (i : ℕ) (h : i < length (walk_of F)) where
    pub block_is : visited_block F i ≡ block_of F (point_at F i) (point_at F (suc i))
    block_is = step_block (steps F ok.shaped i h) ∙ ap (block_of F (point_at F i)) (next_is (walk_of F) i)

    pub in_text_law : InText F (point_at F i)
    in_text_law = step_low (steps F ok.shaped i h)

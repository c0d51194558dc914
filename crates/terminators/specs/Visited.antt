-- What the functions of this crate ask: the walk is made, and its points and tables stand in the work slice. Assumes nothing.
--     visited_walked    what the walk promises is as asked
--     visited_kept, visited_below      it stays so where other words are written
--     point_read, point_word    the word of a position says the point
--     point_small, label_small    points and labels have small numbers
use Rattle.std.specs.Prelude.{◌≡◌, refl, List, [], ◌∷◌, ℕ, zero, suc, ◌+◌, ◌≤◌, ◌<◌, get_or, length}
use Rattle.std.proofs.Common.{sym, ap, ◌∙◌, arith}
use Rattle.general_laws.specs.Lists.{tabulate}
use Rattle.lifting.specs.Points.{CfgPoint, Table, points, region_entry}
use Rattle.lifting.specs.Walk.{walk_of}
use Rattle.lifting.specs.Absorb.{labels}
use Rattle.func.specs.Decode.{func_of}
use Rattle.func.specs.Tables.{Tables}
use Rattle.work.specs.Layout.{lines_at, children_at, points_at, parents_at, parents_end, work_need}
use Rattle.walk_roots.specs.Tables.{Indexed}
use Rattle.lifting_blocks.specs.Flat.{no_pair}
use Rattle.lifting_blocks.specs.Uses.{labels_visited}
use Rattle.general_laws.specs.Members.{In, all_in, in_get_or}
use Rattle.walk_points.specs.Numbers.{Small, number_back, point_number, point_of, visited, visited_at}
use Rattle.walk_points.specs.Parents.{Parents}
use Rattle.walk_points.specs.Walk.{Walkable, few_nodes, walk_small}
use Rattle.terminators.specs.At.{visited_block, in_text_law, point_at, small_text}

-- m points of the function in the words w are listed in the words u
pub record Visited (w u : List ℕ) (m : ℕ) : Type 0 where
  pub tables : Tables w
  pub walkable : Walkable (func_of w)
  pub size : work_need ≤ length u
  pub few : m ≤ 512
  pub count : m ≡ length (walk_of (func_of w))
  pub order : visited u m ≡ points (walk_of (func_of w))
  pub parents : Parents (func_of w) u
  pub lines : Indexed (func_of w) u

pub visited_walked : {w : List ℕ} (u v : List ℕ) {m : ℕ} → Tables w → Walkable (func_of w) → work_need ≤ length u → length v ≡ length u
    → m ≡ length (walk_of (func_of w)) → visited v m ≡ points (walk_of (func_of w)) → m ≤ 512 → Parents (func_of w) v → Indexed (func_of w) v → Visited w v m
visited_walked u v t ok z l c o f p x = record { tables = t; walkable = ok; size = omega arith; few = f; count = c; order = o; parents = p; lines = x }

tabulate_same : {A : Type 0} (f g : ℕ → A) (a n : ℕ) → ((x : ℕ) → a ≤ x → x < a + n → f x ≡ g x) → tabulate f a n ≡ tabulate g a n
tabulate_same f g a zero h = refl
tabulate_same {A} f g a (suc n) h =
    ap (λ (x : A). x ∷ tabulate f (suc a) n) (h a (omega arith) (omega arith))
    ∙ ap (λ (l : List A). g a ∷ l) (tabulate_same f g (suc a) n (λ x l k. h x (omega arith) (omega arith)))

-- the words of the ctrl lines, of the points and of the parents stay
pub visited_kept : {w u v : List ℕ} {m : ℕ} → Visited w u m → ((x : ℕ) → lines_at ≤ x → x < children_at → get_or v x 0 ≡ get_or u x 0)
    → ((x : ℕ) → points_at ≤ x → x < parents_end → get_or v x 0 ≡ get_or u x 0) → length v ≡ length u → Visited w v m
visited_kept {w} {u} {v} {m} k lines points l = record {
  tables = k.tables;
  walkable = k.walkable;
  size = omega (arith, k.size);
  few = k.few;
  count = k.count;
  order =
      tabulate_same (λ i. point_of (get_or v i 0)) (λ i. point_of (get_or u i 0)) points_at m (λ x a h. ap point_of (points x a (omega (arith, k.few)))) ∙ k.order;
  parents = record { word = λ r h. points (parents_at + r) (omega arith) (omega arith) ∙ k.parents.word r h };
  lines = record { line = λ r h. lines (lines_at + r) (omega arith) (omega arith) ∙ k.lines.line r h };
}

pub visited_below : {w u v : List ℕ} {m : ℕ} → Visited w u m → ((x : ℕ) → x < parents_end → get_or v x 0 ≡ get_or u x 0) → length v ≡ length u → Visited w v m
visited_below k same l = visited_kept k (λ x a b. same x (omega arith)) (λ x a b. same x b) l

points_at_law : (T : Table) (i : ℕ) → get_or (points T) i (region_entry 0) ≡ (get_or T i no_pair).0
points_at_law [] i = refl
points_at_law (x ∷ T) zero = refl
points_at_law (x ∷ T) (suc i) = points_at_law T i

module _ {w u : List ℕ} {m : ℕ} (k : Visited w u m) (i : ℕ) (h : i < m) where
  pub point_read : point_at (func_of w) i ≡ point_of (get_or u (points_at + i) 0)
  point_read = sym (points_at_law (walk_of (func_of w)) i) ∙ visited_at u m (points (walk_of (func_of w))) k.order i h (region_entry 0)

  pub point_word : get_or u (points_at + i) 0 ≡ point_number (point_at (func_of w) i)
  point_word = sym (ap point_number point_read ∙ number_back (get_or u (points_at + i) 0))

  pub point_small : Small (point_at (func_of w) i)
  point_small =
      small_text (func_of w) k.walkable.named.few (few_nodes k.tables) (point_at (func_of w) i)
      (in_text_law (func_of w) k.walkable i (omega (arith, k.count)))

  -- the labels of its block are small, as are the points of the walk
  pub label_small : (q : CfgPoint) → In q (labels (visited_block (func_of w) i).term) → Small q
  label_small q l =
      let T : Table = walk_of (func_of w) in
      all_in Small (points T) (walk_small (func_of w) k.walkable (few_nodes k.tables)) q
      (labels_visited (func_of w) k.walkable.shaped (get_or T i no_pair) (in_get_or T i no_pair (omega (arith, k.count))) q l)

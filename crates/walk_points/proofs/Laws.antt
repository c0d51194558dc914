-- The steps of the walks, over the words f x of each number x of a list l: the nodes of a region, the regions of a node, or the roots. Assumes
-- nothing.
--     Turn, turn-..          a loop that appends the words of one number after the other
--     Walking, walking-..    such a loop between an entry and an exit
--     region-.., node-..     that there is room for both points of a region or a node, and that what it holds is of the text
use mathlib.Core.Path.{◌≡◌, refl, sym, ap, ap₂, subst, ◌∙◌}
use mathlib.Core.List.{List, [], ◌∷◌, ◌++◌, append-nil}
use Prim.Native.Nat.{ℕ, zero, suc, ◌+◌, ◌≤◌, ◌<◌}
use native.Mathlib.Nat.{add-suc, suc-add}
use native.Mathlib.Numerals.{add-one}
use native.Mathlib.Omega.{arith}
use lib.ListN.{length, get_or, take, set, length-append}
use lib.Seq.{sets, take-length, take-suc, length-sets}
use Rattle.general_laws.specs.Lists.{gather}
use Rattle.lifting.specs.Parts.{region_of, node_of, children_of}
use Rattle.lifting.specs.Points.{region_entry, region_exit, node_entry, node_exit}
use Rattle.general_laws.specs.Gather.{gather_append}
use Rattle.func.specs.Decode.{func_of}
use Rattle.func.specs.Tables.{Tables}
use Rattle.general_laws.specs.Members.{In, in_get_or}
use Rattle.work.specs.Layout.{points_at, points_end}
use Rattle.walk_points.specs.Numbers.{point_number}
use Rattle.walk_points.specs.Below.{region_words, node_words, region_words_law, node_words_law}
use Rattle.walk_points.specs.Walk.{Walkable, PointsReady, few_nodes}

-- one run of words after the other
sets_sets : (w xs ys : List ℕ) (a : ℕ) → sets (sets w a xs) (a + length xs) ys ≡ sets w a (xs ++ ys)
sets_sets w [] ys a = ap (λ (k : ℕ). sets w k ys) (omega arith)
sets_sets w (x ∷ xs) ys a =
    ap (λ (k : ℕ). sets (sets (set w a x) (suc a) xs) k ys) (add-suc a (length xs) ∙ sym (suc-add a (length xs)))
    ∙ sets_sets (set w a x) xs ys (suc a)

module _ (f : ℕ → List ℕ) where
  gather_more : (l : List ℕ) (i : ℕ) → i < length l → gather f (take (i + 1) l) ≡ gather f (take i l) ++ f (get_or l i 0)
  gather_more l i h =
      ap (λ (n : ℕ). gather f (take n l)) (add-one i)
      ∙ ap (gather f) (take-suc l i 0 h)
      ∙ gather_append f (take i l) (get_or l i 0 ∷ [])
      ∙ ap (λ (k : List ℕ). gather f (take i l) ++ k) (append-nil (f (get_or l i 0)))

  gather_room : (l : List ℕ) (i : ℕ) → i < length l → length (gather f (take i l)) + length (f (get_or l i 0)) ≤ length (gather f l)
  gather_room [] i h = absurd (omega arith)
  gather_room (x ∷ l) zero h = omega (arith, length-append (f x) (gather f l))
  gather_room (x ∷ l) (suc i) h = omega (arith, length-append (f x) (gather f l), length-append (f x) (gather f (take i l)), gather_room l i (omega arith))

-- the words of the first i numbers stand after `from` others
pub record Turn (f : ℕ → List ℕ) (l w : List ℕ) (from i : ℕ) (work : List ℕ) (at : ℕ) : Type 0 where
  pub below : i ≤ length l
  pub number : at ≡ from + length (gather f (take i l))
  pub words : work ≡ sets w (points_at + from) (gather f (take i l))

pub turn_first : (f : ℕ → List ℕ) (l w : List ℕ) (from : ℕ) → Turn f l w from 0 w from
turn_first f l w from = record { below = omega arith; number = omega arith; words = refl }

module _ {f : ℕ → List ℕ} {l w : List ℕ} {from i : ℕ} {work : List ℕ} {at : ℕ} (t : Turn f l w from i work at) where
  pub turn_length : length work ≡ length w
  turn_length = ap length t.words ∙ length-sets w (points_at + from) (gather f (take i l))

  module _ (h : i < length l) {x : ℕ} (e : x ≡ get_or l i 0) where
    pub turn_room : at + length (f x) ≤ from + length (gather f l)
    turn_room = omega (arith, t.number, gather_room f l i h, ap (λ (y : ℕ). length (f y)) e)

    pub turn_next : {out : List ℕ} {m : ℕ} → m ≡ at + length (f x) → out ≡ sets work (points_at + at) (f x) → Turn f l w from (i + 1) out m
    turn_next em eo =
        let done : List ℕ = gather f (take i l) in
        let more : gather f (take (i + 1) l) ≡ done ++ f x = gather_more f l i h ∙ ap (λ (y : ℕ). done ++ f y) (sym e) in
        record {
          below = omega arith;
          number = omega (arith, t.number, ap length more ∙ length-append done (f x));
          words =
              eo
              ∙ ap (λ (v : List ℕ). sets v (points_at + at) (f x)) t.words
              ∙ ap (λ (k : ℕ). sets (sets w (points_at + from) done) k (f x)) (omega (arith, t.number))
              ∙ sets_sets w done (f x) (points_at + from)
              ∙ ap (sets w (points_at + from)) (sym more);
        }

  pub turn_all : length l ≤ i → (at ≡ from + length (gather f l)) × (work ≡ sets w (points_at + from) (gather f l))
  turn_all h =
      let e : i ≡ length l = omega (arith, t.below) in
      let whole : gather f (take i l) ≡ gather f l = ap (λ (j : ℕ). gather f (take j l)) e ∙ ap (gather f) (take-length l) in
      (t.number ∙ ap (λ (k : List ℕ). from + length k) whole, t.words ∙ ap (sets w (points_at + from)) whole)

-- the loop of a walk with the words ws, from the entry a to the exit b, after m others; w has the entry
pub record Walking (func ws : List ℕ) (a b : ℕ) (f : ℕ → List ℕ) (l : List ℕ) (m : ℕ) (w : List ℕ) (from count i : ℕ) (work : List ℕ) (at : ℕ) : Type 0 where
  pub tables : Tables func
  pub walkable : Walkable (func_of func)
  pub size : points_end ≤ length w
  pub room : m + length ws ≤ 512
  pub whole : ws ≡ a ∷ (gather f l ++ (b ∷ []))
  pub first : from ≡ m + 1
  pub all : count ≡ length l
  pub turn : Turn f l w from i work at

-- how many words a walk has
pub words_size : {ws : List ℕ} (a b : ℕ) (f : ℕ → List ℕ) (l : List ℕ) → ws ≡ a ∷ (gather f l ++ (b ∷ [])) → length ws ≡ 2 + length (gather f l)
words_size a b f l e = ap length e ∙ omega (arith, length-append (gather f l) (b ∷ []))

pub walking_first : {func w ws : List ℕ} {a b : ℕ} {f : ℕ → List ℕ} {l : List ℕ} {m : ℕ} {u : List ℕ} {from count : ℕ}
    → PointsReady func w m (length ws) → ws ≡ a ∷ (gather f l ++ (b ∷ [])) → length u ≡ length w → from ≡ m + 1 → count ≡ length l → Walking func ws a b f l m u from count 0 u from
walking_first {f = f} {l} {u = u} {from} r e z ef ec = record {
  tables = r.tables;
  walkable = r.walkable;
  size = omega (arith, r.size);
  room = r.room;
  whole = e;
  first = ef;
  all = ec;
  turn = turn_first f l u from;
}

module _ {func ws : List ℕ} {a b : ℕ} {f : ℕ → List ℕ} {l : List ℕ} {m : ℕ} {w : List ℕ} {from count i : ℕ} {work : List ℕ} {at : ℕ}
    (s : Walking func ws a b f l m w from count i work at) where
  pub walking_length : length work ≡ length w
  walking_length = turn_length s.turn

  module _ (h : i < count) {x : ℕ} (e : x ≡ get_or l i 0) where
    inside : i < length l
    inside = omega (arith, s.all)

    pub walking_call : (length (f x) < length ws) × PointsReady func work at (length (f x))
    walking_call =
        let room : at + length (f x) ≤ from + length (gather f l) = turn_room s.turn inside e in
        let size : length ws ≡ 2 + length (gather f l) = words_size a b f l s.whole in
        let start : from ≤ at = omega (arith, s.turn.number) in (
          omega (arith, s.first),
          record { tables = s.tables; walkable = s.walkable; size = omega (arith, s.size, walking_length); room = omega (arith, s.room, s.first) },
        )

    pub walking_next : {out : List ℕ} {k : ℕ} → k ≡ at + length (f x) → out ≡ sets work (points_at + at) (f x)
        → Walking func ws a b f l m w from count (i + 1) out k
    walking_next ek eo = record {
      tables = s.tables;
      walkable = s.walkable;
      size = s.size;
      room = s.room;
      whole = s.whole;
      first = s.first;
      all = s.all;
      turn = turn_next s.turn inside e ek eo;
    }

  module _ (h : count ≤ i) where
    abbrev ended : (at ≡ from + length (gather f l)) × (work ≡ sets w (points_at + from) (gather f l))
    ended = turn_all s.turn (omega (arith, s.all))

    pub walking_room : (at < 512) × (points_end ≤ length work)
    walking_room = omega (arith, ended.0, s.first, s.room, words_size a b f l s.whole, s.size, walking_length)

    pub walking_done : (v : List ℕ) {out : List ℕ} {k : ℕ} → w ≡ set v (points_at + m) a → k ≡ at + 1 → out ≡ set work (points_at + at) b
        → (k ≡ m + length ws) × (out ≡ sets v (points_at + m) ws)
    walking_done v ew ek eo =
        let all : List ℕ = gather f l in
        let last : List ℕ = b ∷ [] in (
          omega (arith, ended.0, s.first, words_size a b f l s.whole),
          eo
              ∙ ap (λ (x : List ℕ). sets x (points_at + at) last) ended.1
              ∙ ap (λ (j : ℕ). sets (sets w (points_at + from) all) j last) (omega (arith, ended.0))
              ∙ sets_sets w all last (points_at + from)
              ∙ ap₂ (λ (x : List ℕ) (j : ℕ). sets x j (all ++ last)) ew (omega (arith, s.first))
              ∙ ap (sets v (points_at + m)) (sym s.whole),
        )

-- the loop over the nodes of region r, and over the regions of node n
module _ (func : List ℕ) where
  abbrev pub InRegion : ℕ → ℕ → List ℕ → ℕ → ℕ → ℕ → List ℕ → ℕ → Type 0
  InRegion r m w from count i work at =
      (r < length (func_of func).regions)
      × Walking func (region_words (func_of func) r) (point_number (region_entry r)) (point_number (region_exit r)) (node_words (func_of func))
      (region_of (func_of func) r).nodes m w from count i work at

  abbrev pub InNode : ℕ → ℕ → List ℕ → ℕ → ℕ → ℕ → List ℕ → ℕ → Type 0
  InNode n m w from count i work at =
      (n < length (func_of func).nodes)
      × Walking func (node_words (func_of func) n) (point_number (node_entry n)) (point_number (node_exit n)) (region_words (func_of func))
      (children_of (node_of (func_of func) n)) m w from count i work at

-- there is room for the entry, and the numbers of both points are small
pub region_room : {func w : List ℕ} {r m : ℕ} → PointsReady func w m (length (region_words (func_of func) r)) → r < length (func_of func).regions
    → (m < 512) × (r < 128) × (points_end ≤ length w)
region_room {func} {w} {r} {m} p k =
    let F = func_of func in
    omega (arith, p.room, p.size, p.walkable.named.few, words_size _ _ (node_words F) (region_of F r).nodes (region_words_law F p.walkable.shaped r))

pub node_room : {func w : List ℕ} {n m : ℕ} → PointsReady func w m (length (node_words (func_of func) n)) → n < length (func_of func).nodes
    → (m < 512) × (n < 128) × (points_end ≤ length w)
node_room {func} {w} {n} {m} p k =
    let F = func_of func in
    omega (arith, p.room, p.size, few_nodes p.tables, words_size _ _ (region_words F) (children_of (node_of F n)) (node_words_law F n))

module _ {func : List ℕ} {r m : ℕ} {w : List ℕ} {from count i : ℕ} {work : List ℕ} {at : ℕ} (s : InRegion func r m w from count i work at) where
  -- what is held names a node
  pub region_holds : i < count → {x : ℕ} → x ≡ get_or (region_of (func_of func) r).nodes i 0 → x < length (func_of func).nodes
  region_holds h {x} e =
      let ns : List ℕ = (region_of (func_of func) r).nodes in
      let l : i < length ns = omega (arith, s.1.all) in
      s.1.walkable.node r x (subst (λ (y : ℕ). In y ns) (sym e) (in_get_or ns i 0 l))

  pub region_exit_law : count ≤ i → (at < 512) × (r < 128) × (points_end ≤ length work)
  region_exit_law h = omega (arith, walking_room s.1 h, s.0, s.1.walkable.named.few)

module _ {func : List ℕ} {n m : ℕ} {w : List ℕ} {from count i : ℕ} {work : List ℕ} {at : ℕ} (s : InNode func n m w from count i work at) where
  -- what is held names a region
  pub node_holds : i < count → {x : ℕ} → x ≡ get_or (children_of (node_of (func_of func) n)) i 0 → x < length (func_of func).regions
  node_holds h e = omega (arith, s.1.walkable.named.child n i s.0 (omega (arith, s.1.all)))

  pub node_exit_law : count ≤ i → (at < 512) × (n < 128) × (points_end ≤ length work)
  node_exit_law h = omega (arith, walking_room s.1 h, s.0, few_nodes s.1.tables)

-- The walk of the roots, and what the whole walk leaves in the work slice. Assumes nothing.
--     Rooting, rooting-..     the loop over the roots
--     tables_end_law              the tables that stand at the end, and the words that stay
use mathlib.Core.Path.{◌≡◌, refl, sym, ap, subst, ◌∙◌}
use mathlib.Core.List.{List, map}
use Prim.Native.Nat.{ℕ, ◌+◌, ◌-◌, ◌≤◌, ◌<◌}
use native.Mathlib.Omega.{arith}
use lib.ListN.{length, get_or, take, length-map}
use lib.Seq.{sets}
use Rattle.general_laws.specs.Part.{part_at, part_same, at_before, at_after}
use Rattle.general_laws.specs.Lists.{gather}
use Rattle.lifting.specs.Ast.{Func}
use Rattle.lifting.specs.Order.{roots}
use Rattle.lifting.specs.Points.{CfgPoint, points}
use Rattle.lifting.specs.Walk.{walk_of}
use Rattle.func.specs.Decode.{func_of}
use Rattle.func.specs.Tables.{Tables}
use Rattle.general_laws.specs.Members.{In, in_get_or, length_tabulate}
use Rattle.work.specs.Layout.{roots_end, lines_at, tables_end, points_at, points_end, parents_at, parents_end}
use Rattle.work.specs.Aside.{Aside}
use Rattle.walk_roots.specs.Tables.{Indexed}
use Rattle.walk_roots.specs.Visit.{last_roots, listed_same}
use Rattle.walk_points.specs.Numbers.{point_number, visited, visited_sets, get_d_tabulate}
use Rattle.walk_points.specs.Below.{region_words, walk_words}
use Rattle.walk_points.specs.Parents.{parent_word, Parents}
use Rattle.walk_points.specs.Walk.{Walkable, PointsReady, Walked, few_nodes, root_low, walk_small, walk_few, length_points}
use Rattle.walk_points.specs.Words.{WalkWords, by_place}
use Rattle.walk_points.proofs.Laws.{Turn, turn_first, turn_length, turn_room, turn_next, turn_all}

-- how many words the walk has
walk_size : {F : Func} → Walkable F → length (gather (region_words F) (roots F)) ≡ length (points (walk_of F))
walk_size {F} ok = ap length (sym (walk_words F ok.shaped)) ∙ length-map (points (walk_of F)) point_number

-- the first i of the n roots are walked
pub record Rooting (func w : List ℕ) (n i : ℕ) (work : List ℕ) (at : ℕ) : Type 0 where
  pub tables : Tables func
  pub walkable : Walkable (func_of func)
  pub size : points_end ≤ length w
  pub few : n ≤ 128
  pub order : last_roots w n ≡ roots (func_of func)
  pub turn : Turn (region_words (func_of func)) (roots (func_of func)) w 0 i work at

pub rooting_first : {func w : List ℕ} {n : ℕ} → Tables func → Walkable (func_of func) → points_end ≤ length w → last_roots w n ≡ roots (func_of func)
    → n ≤ length (func_of func).regions → Rooting func w n 0 w 0
rooting_first {func} {w} {n} t ok z e h = record {
  tables = t;
  walkable = ok;
  size = z;
  few = omega (arith, ok.named.few);
  order = e;
  turn = turn_first (region_words (func_of func)) (roots (func_of func)) w 0;
}

module _ {func w : List ℕ} {n i : ℕ} {work : List ℕ} {at : ℕ} (s : Rooting func w n i work at) where
  abbrev F : Func
  F = func_of func

  count : length (roots F) ≡ n
  count = ap length (sym s.order) ∙ length_tabulate (λ j. get_or w j 0) (roots_end - n) n

  pub rooting_length : length work ≡ length w
  rooting_length = turn_length s.turn

  module _ (h : i < n) {x : ℕ} (e : x ≡ get_or work (roots_end - n + i) 0) where
    inside : i < length (roots F)
    inside = omega (arith, count)

    -- the root that is read is the next one: points stand behind the roots
    root_is : x ≡ get_or (roots F) i 0
    root_is =
        let k : n ≤ 128 = s.few in
        e
        ∙ ap (λ (v : List ℕ). get_or v (roots_end - n + i) 0) s.turn.words
        ∙ at_before w (gather (region_words F) (take i (roots F))) points_at (roots_end - n + i) (omega arith)
        ∙ sym (get_d_tabulate (λ j. get_or w j 0) (roots_end - n) n i 0 h)
        ∙ ap (λ (l : List ℕ). get_or l i 0) s.order

    pub rooting_call : PointsReady func work at (length (region_words F x)) × (x < length F.regions)
    rooting_call = (
      record {
        tables = s.tables;
        walkable = s.walkable;
        size = omega (arith, s.size, rooting_length);
        room = omega (arith, turn_room s.turn inside root_is, walk_size s.walkable, walk_few F s.walkable (few_nodes s.tables));
      },
      root_low F s.walkable x (subst (λ (y : ℕ). In y (roots F)) (sym root_is) (in_get_or (roots F) i 0 inside)),
    )

    pub rooting_next : {out : List ℕ} {m : ℕ} → m ≡ at + length (region_words F x)
        → out ≡ sets work (points_at + at) (region_words F x) → Rooting func w n (i + 1) out m
    rooting_next em eo = record {
      tables = s.tables;
      walkable = s.walkable;
      size = s.size;
      few = s.few;
      order = s.order;
      turn = turn_next s.turn inside root_is em eo;
    }

  pub rooting_done : n ≤ i → Walked F w work at
  rooting_done h =
      let d = turn_all s.turn (omega (arith, count)) in
      record { number = omega (arith, d.0, walk_size s.walkable); words = d.1 ∙ ap (sets w points_at) (sym (walk_words F s.walkable.shaped)) }

-- the roots stand before the table of parents
pub roots_kept : {v u : List ℕ} (n : ℕ) → Aside parents_at parents_end v u → n ≤ 128 → last_roots u n ≡ last_roots v n
roots_kept {v} {u} n b h = listed_same v u n (omega arith) (λ x l g. b.before x (omega arith))

-- what a run of stores leaves at one of its places
at_in : (w vs : List ℕ) (a i : ℕ) → i < length vs → a + length vs ≤ length w → get_or (sets w a vs) (a + i) 0 ≡ get_or vs i 0
at_in w vs a i h z = sym (part_at a (length vs) (sets w a vs) i h) ∙ ap (λ (l : List ℕ). get_or l i 0) (part_same a (length vs) vs w refl z)

-- what stands once the points do, where w has the words at entry, v the ctrl lines, and u the parents too
pub record End (F : Func) (w out : List ℕ) (m : ℕ) : Type 0 where
  pub count : m ≡ length (walk_of F)
  pub points : visited out m ≡ points (walk_of F)
  pub most : m ≤ 512
  pub parents : Parents F out
  pub lines : Indexed F out
  pub words : WalkWords F w out

module _ {func w v u out : List ℕ} {m : ℕ} (t : Tables func) (ok : Walkable (func_of func)) (z : points_end ≤ length u) (d : Walked (func_of func) u out m)
    (p : Parents (func_of func) u) (b : Aside parents_at parents_end v u) (k : Indexed (func_of func) v) (a : Aside 0 tables_end w v) where
  abbrev G : Func
  G = func_of func

  abbrev ps : List CfgPoint
  ps = points (walk_of G)

  few : length ps ≤ 512
  few = walk_few G ok (few_nodes t)

  size : length (map point_number ps) ≡ length ps
  size = length-map ps point_number

  -- words around the points
  before : (x : ℕ) → x < points_at → get_or out x 0 ≡ get_or u x 0
  before x h = ap (λ (y : List ℕ). get_or y x 0) d.words ∙ at_before u (map point_number ps) points_at x h

  after : (x : ℕ) → points_at + length ps ≤ x → get_or out x 0 ≡ get_or u x 0
  after x h = ap (λ (y : List ℕ). get_or y x 0) d.words ∙ at_after u (map point_number ps) points_at x (omega (arith, size))

  point : (x : ℕ) → points_at ≤ x → x < points_at + length ps → get_or out x 0 ≡ get_or (map point_number ps) (x - points_at) 0
  point x g h =
      let e : x ≡ points_at + (x - points_at) = omega arith in
      ap (λ (y : List ℕ). get_or y x 0) d.words
      ∙ ap (λ (j : ℕ). get_or (sets u points_at (map point_number ps)) j 0) e
      ∙ at_in u (map point_number ps) points_at (x - points_at) (omega (arith, size)) (omega (arith, size, few))

  parent : (x : ℕ) → parents_at ≤ x → x < parents_end → get_or out x 0 ≡ parent_word G (x - parents_at)
  parent x g h =
      let e : x ≡ parents_at + (x - parents_at) = omega arith in
      after x (omega (arith, few)) ∙ ap (λ (j : ℕ). get_or u j 0) e ∙ p.word (x - parents_at) (omega arith)

  all_words : WalkWords G w out
  all_words = record {
    word = λ x l. by_place G (λ y. get_or w y 0) x
        (λ h. before x h ∙ b.before x (omega arith) ∙ a.after x l)
        (λ g h. point x g (omega (arith, length_points (walk_of G))))
        (λ g h. after x (omega (arith, length_points (walk_of G))) ∙ b.before x h ∙ a.after x l)
        (parent x)
        (λ h. after x (omega (arith, few)) ∙ b.after x (omega arith) ∙ a.after x l);
  }

  pub tables_end_law : End G w out m
  tables_end_law = record {
    count = d.number ∙ length_points (walk_of G);
    points =
        ap (visited out) d.number
        ∙ ap (λ (y : List ℕ). visited y (length ps)) d.words
        ∙ visited_sets u ps (walk_small G ok (few_nodes t)) (omega (arith, few));
    most = omega (arith, d.number, few);
    parents = record { word = λ r h. after (parents_at + r) (omega (arith, few)) ∙ p.word r h };
    lines = record { line = λ r h. before (lines_at + r) (omega arith) ∙ b.before (lines_at + r) (omega arith) ∙ k.line r h };
    words = all_words;
  }

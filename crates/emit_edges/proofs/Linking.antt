-- The steps of the loops that link edges. Assumes nothing.
--     ends-..        whether a kept block ends at a position
--     Linking, linking-..    the edges of a way out, from the last to the first
--     here-..        the edges of a position
--     Passing, passing-..    all positions, from the last to the first
use mathlib.Core.Path.{◌≡◌, refl, sym, ap, subst, ◌∙◌}
use mathlib.Core.Bool.{Bool, true, false, not}
use mathlib.Core.List.{List, [], ◌∷◌, ◌++◌, append_assoc}
use Prim.Native.Nat.{ℕ, zero, suc, ◌+◌, ◌-◌, ◌≤◌, ◌<◌}
use native.Mathlib.Omega.{arith}
use lib.Dec.{eqb}
use lib.ListN.{drop, get_or, length, length-append, length-drop, length-map, get_or-map}
use lib.Seq.{drop-cons, drop-length}
use borrow.Author.Tests.{eq-eqb, ne_eqb}
use Rattle.lifting.specs.Ast.{Func}
use Rattle.lifting.specs.Points.{CfgPoint, Terminator, region_entry}
use Rattle.lifting.specs.Walk.{walk_of}
use Rattle.func.specs.Decode.{func_of}
use Rattle.general_laws.specs.Members.{All}
use Rattle.general_laws.specs.Tests.{all_split}
use Rattle.work.specs.Layout.{statuses_at, absorbs_at, heads_at, origins_end}
use Rattle.work.specs.Aside.{Aside}
use Rattle.lifting_blocks.specs.Flat.{Status, goes, gone, starts}
use Rattle.check_text.specs.Same.{Stands}
use Rattle.terminators.specs.At.{visited_block, point_at}
use Rattle.terminators.specs.Edges.{term_edges}
use Rattle.terminators.specs.declared.TermKind.{TermKind}
use Rattle.terminators.specs.Kinds.{Known, TermIs, term_of}
use Rattle.block_absorbs.specs.Absorbs.{absorbs, absorb_word, stands, status_word, word_gone}
use Rattle.blocks.specs.Laid.{Laid, laid_kept}
use Rattle.emit_edge_ends.specs.Ends.{Edge, edge_entry, edge_from, edges_done, edges_step, position_edges, edges_from, edges_from_position, end_edges, ends_by, ends_here, list_if}
use Rattle.emit_edge_ends.specs.Links.{Held, Linked, Unlinked, link_append, link_aside, link_all, link_at, linked, linked_all, origin_word}
use Rattle.emit_edge_ends.specs.Aimed.{Aimed, EdgesFit, aimed_checked, edges_fit_law, number_at}

-- ---- whether a kept block ends at a position

by_none : (s : Status) (g : Bool) → s ≡ gone → false ≡ ends_by s g
by_none s g e = sym (ap (λ (t : Status). ends_by t g) e)

by_some : (s : Status) (p : CfgPoint) (g : Bool) → ¬ (status_word s p ≡ 0) → not g ≡ ends_by s g
by_some gone p g h = absurd (h refl)
by_some starts p g h = refl
by_some (goes k) p g h = refl

by_absorb : (g : Bool) → eqb (absorb_word g) 0 ≡ not g
by_absorb true = ne_eqb 1 0 (λ e. omega arith)
by_absorb false = eq-eqb 0 0 refl

module _ {w u : List ℕ} {m : ℕ} (k : Laid w u m) (i : ℕ) (h : i < m) where
  pub ends_none : get_or u (statuses_at + i) 0 ≡ 0 → false ≡ ends_here (func_of w) i
  ends_none e =
      by_none (stands (func_of w) i) (absorbs (func_of w) i) (word_gone (stands (func_of w) i) (point_at (func_of w) i) (sym (k.absorbing.status i h) ∙ e))

  pub ends_some : ¬ (get_or u (statuses_at + i) 0 ≡ 0) → eqb (get_or u (absorbs_at + i) 0) 0 ≡ ends_here (func_of w) i
  ends_some e =
      ap (λ (x : ℕ). eqb x 0) (k.absorbing.absorb i h)
      ∙ by_absorb (absorbs (func_of w) i)
      ∙ by_some (stands (func_of w) i) (point_at (func_of w) i) (absorbs (func_of w) i) (λ z. e (k.absorbing.status i h ∙ z))

-- ---- the edges of a way out

pub record Linking (func w : List ℕ) (x : TermKind) (i e : ℕ) (work : List ℕ) (at k : ℕ) : Type 0 where
  pub known : Known func x
  pub aimed : Aimed (func_of func)
  pub size : origins_end ≤ length w
  pub low : i < 512
  pub room : e + length (term_edges (term_of (func_of func) x)) ≤ 1024
  pub below : k ≤ length (term_edges (term_of (func_of func) x))
  pub count : at + k ≡ e + length (term_edges (term_of (func_of func) x))
  pub words : work ≡ link_all (drop k (edges_from_position i (term_edges (term_of (func_of func) x)))) e w
  pub same : length work ≡ length w

pub linking_first : {func w : List ℕ} {x : TermKind} {i e : ℕ} → Known func x → Aimed (func_of func) → i < 512
    → e + length (term_edges (term_of (func_of func) x)) ≤ 1024 → origins_end ≤ length w → {k : ℕ} → k ≡ length (term_edges (term_of (func_of func) x))
    → Linking func w x i e w e k
unfolding link_all
linking_first {func} {w} {x} {i} {e} n a l r z {k} c =
    let es : List (CfgPoint × ℕ) = term_edges (term_of (func_of func) x) in
    let all : k ≡ length (edges_from_position i es) = c ∙ sym (length-map es (edge_from i)) in
    record {
      known = n;
      aimed = a;
      size = z;
      low = l;
      room = r;
      below = omega arith;
      count = omega arith;
      words = sym (ap (λ (l : List Edge). link_all l e w) (ap (λ (n : ℕ). drop n (edges_from_position i es)) all ∙ drop-length (edges_from_position i es)));
      same = refl;
    }

module _ {func w : List ℕ} {x : TermKind} {i e : ℕ} {work : List ℕ} {at k : ℕ} (f : Linking func w x i e work at k) where
  abbrev es : List (CfgPoint × ℕ)
  es = term_edges (term_of (func_of func) x)

  pub linking_next : 0 < k → {q : ℕ} → q ≡ number_at es (k - 1) → {out : List ℕ} → out ≡ link_at q (origin_word i (k - 1)) at work → length out ≡ length work
      → Linking func w x i e out (at + 1) (k - 1)
  unfolding link_all
  linking_next h {q} eq {out} eo l =
      let y : ℕ = k - 1 in
      let d : CfgPoint × ℕ = (region_entry 0, 0) in
      let low : y < length es = omega (arith, f.below) in
      let inside : y < length (edges_from_position i es) = omega (arith, length-map es (edge_from i)) in
      let back : suc y ≡ k = omega arith in
      let edge : get_or (edges_from_position i es) y (edge_from i d) ≡ edge_from i (get_or es y d) = get_or-map (edge_from i) es y d in
      let cut : drop y (edges_from_position i es) ≡ edge_from i (get_or es y d) ∷ drop k (edges_from_position i es) =
      drop-cons (edges_from_position i es) y (edge_from i d) inside ∙ ap (λ (z : Edge). z ∷ drop (suc y) (edges_from_position i es)) edge
      ∙ ap (λ (n : ℕ). edge_from i (get_or es y d) ∷ drop n (edges_from_position i es)) back in
      let number : e + length (drop k (edges_from_position i es)) ≡ at = omega (arith, length-drop k (edges_from_position i es), length-map es (edge_from i), f.count, f.below) in
      let origin : origin_word i (get_or es y d).1 ≡ origin_word i y = ap (origin_word i) (edge_entry (term_of (func_of func) x) y d low) in
      record {
        known = f.known;
        aimed = f.aimed;
        size = f.size;
        low = f.low;
        room = f.room;
        below = omega (arith, f.below);
        count = omega (arith, f.count);
        words =
            eo
            ∙ ap (λ (n : ℕ). link_at n (origin_word i y) at work) eq
            ∙ ap (link_at (number_at es y) (origin_word i y) at) f.words
            ∙ ap (λ (n : ℕ). link_at (number_at es y) n at (link_all (drop k (edges_from_position i es)) e w)) (sym origin)
            ∙ ap (λ (n : ℕ). link_at (number_at es y) (origin_word i (get_or es y d).1) n (link_all (drop k (edges_from_position i es)) e w)) (sym number)
            ∙ ap (λ (l : List Edge). link_all l e w) (sym cut);
        same = l ∙ f.same;
      }

  pub linking_done : k ≤ 0 → (work ≡ link_all (edges_from_position i es) e w) × (at ≡ e + length es)
  linking_done h =
      let z : k ≡ 0 = omega arith in
      (f.words ∙ ap (λ (n : ℕ). link_all (drop n (edges_from_position i es)) e w) z, omega (arith, f.count))

-- ---- the edges of a position

module _ (F : Func) (i : ℕ) where
  pub here_some : {b : Bool} {x : TermKind} → b ≡ ends_here F i → b ≡ true → TermIs F (visited_block F i).term x → position_edges F i ≡ edges_from_position i (term_edges (term_of F x))
  unfolding position_edges end_edges
  here_some e t y =
      ap (λ (b : Bool). edges_from_position i (list_if b (term_edges (visited_block F i).term))) (sym e ∙ t) ∙ ap (λ (z : Terminator). edges_from_position i (term_edges z)) y.is

  pub here_none : {b : Bool} → b ≡ ends_here F i → b ≡ false → position_edges F i ≡ []
  unfolding position_edges end_edges
  here_none e t = ap (λ (b : Bool). edges_from_position i (list_if b (term_edges (visited_block F i).term))) (sym e ∙ t)

  pub here_count : (x : TermKind) → position_edges F i ≡ edges_from_position i (term_edges (term_of F x)) → length (position_edges F i) ≡ length (term_edges (term_of F x))
  here_count x e = ap length e ∙ length-map (term_edges (term_of F x)) (edge_from i)

-- ---- all positions

-- the edges from a position on are the last ones of all
edges_last : (F : Func) (i : ℕ) → i ≤ length (walk_of F) → (k : List Edge) × (edges_from F 0 ≡ k ++ edges_from F i)
edges_last F zero h = ([], refl)
edges_last F (suc i) h =
    let r = edges_last F i (omega arith) in
    (r.0 ++ position_edges F i, r.1 ∙ ap (λ (l : List Edge). r.0 ++ l) (edges_step F i (omega arith)) ∙ sym (append_assoc r.0 (position_edges F i) (edges_from F (suc i))))

pub record Passing (func w : List ℕ) (m : ℕ) (work : List ℕ) (e i : ℕ) : Type 0 where
  pub laid : Laid func w m
  pub stand : Stands (func_of func) func
  pub clear : Unlinked w
  pub below : i ≤ m
  pub count : e ≡ length (edges_from (func_of func) i)
  pub words : work ≡ link_all (edges_from (func_of func) i) 0 w
  pub same : length work ≡ length w

pub passing_first : {func w : List ℕ} {m : ℕ} → Laid func w m → Stands (func_of func) func → Unlinked w → Passing func w m w 0 m
unfolding link_all
passing_first {func} {w} {m} k s u =
    let none = edges_done (func_of func) m (omega (arith, k.count)) in
    record {
      laid = k;
      stand = s;
      clear = u;
      below = omega arith;
      count = sym (ap length none);
      words = sym (ap (λ (l : List Edge). link_all l 0 w) none);
      same = refl;
    }

module _ {func w : List ℕ} {m : ℕ} {work : List ℕ} {e i : ℕ} (f : Passing func w m work e i) where
  abbrev F : Func
  F = func_of func

  fit : EdgesFit (func_of func)
  fit = edges_fit_law f.laid f.stand

  -- those from a position on fit too
  fit_from : (j : ℕ) → j ≤ m → All Held (edges_from F j) × (length (edges_from F j) ≤ 1024)
  fit_from j h =
      let r = edges_last F j (omega (arith, f.laid.count)) in (
        (all_split Held r.0 (edges_from F j) (subst (All Held) r.1 fit.held)).1,
        omega (arith, ap length r.1, length-append r.0 (edges_from F j), fit.few),
      )

  pub passing_aside : Aside heads_at origins_end w work
  passing_aside =
      let a = fit_from i f.below in
      let n : 0 + length (edges_from F i) ≤ 1024 = omega (arith, a.1) in
      subst (Aside heads_at origins_end w) (sym f.words) (link_aside (edges_from F i) 0 w a.0 n)

  pub passing_laid : Laid func work m
  passing_laid = laid_kept f.laid (λ x a b. passing_aside.before x (omega arith)) f.same

  pub passing_aimed : Aimed (func_of func)
  passing_aimed = aimed_checked F f.stand.passes.references

  one_more : 0 < i → edges_from F (i - 1) ≡ position_edges F (i - 1) ++ edges_from F i
  one_more h =
      let y : suc (i - 1) ≡ i = omega arith in
      edges_step F (i - 1) (omega (arith, f.below, f.laid.count)) ∙ ap (λ (n : ℕ). position_edges F (i - 1) ++ edges_from F n) y

  pub passing_room : 0 < i → (i - 1 < m) × (e + length (position_edges (func_of func) (i - 1)) ≤ 1024)
  passing_room h = (
    omega (arith, f.below),
    omega
        (arith, ap length (one_more h), length-append (position_edges F (i - 1)) (edges_from F i), f.count, (fit_from (i - 1) (omega (arith, f.below))).1),
  )

  pub passing_next : 0 < i → {out : List ℕ} → out ≡ link_all (position_edges (func_of func) (i - 1)) e work → {x : ℕ} → x ≡ e + length (position_edges (func_of func) (i - 1))
      → length out ≡ length work → Passing func w m out x (i - 1)
  passing_next h {out} eo {x} ex l =
      let n : 0 + length (edges_from F i) ≡ e = omega (arith, f.count) in
      record {
        laid = f.laid;
        stand = f.stand;
        clear = f.clear;
        below = omega (arith, f.below);
        count = omega (arith, ap length (one_more h), length-append (position_edges F (i - 1)) (edges_from F i), f.count);
        words =
            eo
            ∙ ap (link_all (position_edges F (i - 1)) e) f.words
            ∙ ap (λ (y : ℕ). link_all (position_edges F (i - 1)) y (link_all (edges_from F i) 0 w)) (sym n)
            ∙ sym (link_append (position_edges F (i - 1)) (edges_from F i) 0 w)
            ∙ ap (λ (l : List Edge). link_all l 0 w) (sym (one_more h));
        same = l ∙ f.same;
      }

  pub passing_done : i ≤ 0 → (work ≡ linked (func_of func) w) × Linked (func_of func) work
  unfolding linked
  passing_done h =
      let z : i ≡ 0 = omega arith in
      let all : work ≡ linked F w = f.words ∙ ap (λ (n : ℕ). link_all (edges_from F n) 0 w) z in
      (all, subst (Linked F) (sym all) (linked_all f.clear (omega (arith, f.laid.size)) F fit.held fit.few))

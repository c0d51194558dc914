-- Refusal 5 as document 01 has it, no region of itself through others, gives the rank that the walk needs.
use Rattle.std.specs.Prelude.{◌≡◌, Bool, true, false, cond, List, [], ◌∷◌, length}
use Rattle.std.proofs.Math.Path.{refl, ap}
use Rattle.std.proofs.Common.{sym, ◌∙◌, subst, inl, inr, arith}
use Rattle.std.proofs.lemmas.Bool.{false≢true}
use Rattle.std.proofs.Math.Option.{Option, none, some}
use Prim.Native.Nat.{ℕ, zero, suc, ◌+◌, ◌-◌, ◌≤◌, ◌<◌}
use Rattle.std.proofs.Math.Decide.{ℕ_discrete, dec_lt}
use Rattle.std.proofs.Math.ListN.{get_or-eq_default}
use Rattle.general_laws.specs.Lists.{within}
use Rattle.lifting.specs.Ast.{Func, Region}
use Rattle.lifting.specs.Parts.{children_of, node_of, region_of}
use Rattle.lifting.specs.Tree.{around, holds, parent_below, parent_of, some_if}
use Rattle.general_laws.specs.Members.{In, here, in_cases, in_nil, in_within, not_within, there, within_no, within_yes}
use Rattle.lifting_runs.specs.Accepted.{Forest}
use Rattle.lifting_runs.specs.Tour.{Tree}
use Rattle.lifting_runs.specs.Order.{missing, missing_all, missing_less}

module _ (F : Func) where
  -- d is a child in r
  abbrev pub Child : ℕ → ℕ → Type 0
  Child r d = (n : ℕ) × In n (region_of F r).nodes × In d (children_of (node_of F n))

  holds_child : (ns : List ℕ) (c : ℕ) → holds F ns c ≡ true → (n : ℕ) × In n ns × In c (children_of (node_of F n))
  holds_child [] c e = absurd (false≢true e)
  holds_child (n ∷ ns) c e = by_case (within c (children_of (node_of F n))) refl e (holds_child ns c)
    where
      by_case : (b : Bool) → within c (children_of (node_of F n)) ≡ b → cond b true (holds F ns c) ≡ true → (holds F ns c ≡ true → (k : ℕ) × In k ns × In c (children_of (node_of F k)))
          → (k : ℕ) × In k (n ∷ ns) × In c (children_of (node_of F k))
      by_case true w e ih = (n, here, in_within c (children_of (node_of F n)) w)
      by_case false w e ih = let x = ih e in (x.0, there x.1, x.2)

  child_holds : (ns : List ℕ) (n c : ℕ) → In n ns → In c (children_of (node_of F n)) → holds F ns c ≡ true
  child_holds ns n c (here {l = l}) i = ap (λ (b : Bool). cond b true (holds F l c)) (within_yes c (children_of (node_of F n)) i)
  child_holds ns n c (there {y} {l = l} h) i = by_case (within c (children_of (node_of F y))) (child_holds l n c h i)
    where
      by_case : (b : Bool) → holds F l c ≡ true → cond b true (holds F l c) ≡ true
      by_case true e = refl
      by_case false e = e

  module _ (ok : Forest F) where
    abbrev N : ℕ
    N = length F.regions

    parent_child : (k c s : ℕ) → parent_below F k c ≡ some s → Child s c × (s < k)
    parent_child zero c s e = absurd (let z : ◌≡◌ {A = ℕ} 0 1 = cc in omega arith)
    parent_child (suc k) c s e = by_case (holds F (region_of F k).nodes c) refl e (parent_child k c s)
      where
        by_case : (b : Bool) → holds F (region_of F k).nodes c ≡ b → some_if F b k (parent_below F k c) ≡ some s → (parent_below F k c ≡ some s → Child s c × (s < k)) → Child s c × (s < suc k)
        by_case true h e ih = let q : k ≡ s = cc in subst (λ (x : ℕ). Child x c × (x < suc k)) q (holds_child (region_of F k).nodes c h, omega arith)
        by_case false h e ih = let x = ih e in (x.0, omega (arith, x.1))

    child_parent : (k s c : ℕ) → Child s c → s < k → parent_below F k c ≡ some s
    child_parent zero s c ch h = absurd (omega arith)
    child_parent (suc k) s c ch h = by_case (holds F (region_of F k).nodes c) refl (ℕ_discrete s k) (λ (n : ¬ (s ≡ k)). child_parent k s c ch (omega arith))
      where
        by_case : (b : Bool) → holds F (region_of F k).nodes c ≡ b → Dec (s ≡ k) → (¬ (s ≡ k) → parent_below F k c ≡ some s) → some_if F b k (parent_below F k c) ≡ some s
        by_case true e d ih =
            let w = holds_child (region_of F k).nodes c e in
            let nn = ok.child_once w.0 ch.0 c w.2 ch.2 in
            ap some (ok.node_once ch.0 k s (subst (λ (x : ℕ). In x (region_of F k).nodes) nn w.1) ch.1)
        by_case false e (yes p) ih = absurd (false≢true (sym e ∙ subst (λ (x : ℕ). holds F (region_of F x).nodes c ≡ true) p (child_holds (region_of F s).nodes ch.0 c ch.1 ch.2)))
        by_case false e (no n) ih = ih n

    -- a region with nodes is one of the text's
    in_range : (r n : ℕ) → In n (region_of F r).nodes → r < N
    in_range r n i = by_case (dec_lt r N)
      where
        by_case : Dec (r < N) → r < N
        by_case (yes h) = h
        by_case (no h) = absurd (in_nil (subst (λ (x : Region). In n x.nodes) (get_or-eq_default F.regions (record { ins = []; nodes = []; outs = [] }) {n = r} (omega arith)) i))

    -- the way up ends, after m steps
    data Depth : ℕ → ℕ → Type 0 where
      at_root : {r : ℕ} → parent_of F r ≡ none → Depth 0 r
      one_up : {m r s : ℕ} → parent_of F r ≡ some s → Depth m s → Depth (suc m) r

    -- y comes k parents above x
    data Up : ℕ → ℕ → ℕ → Type 0 where
      up_one : {x y : ℕ} → parent_of F x ≡ some y → Up 1 x y
      up_on : {k x s y : ℕ} → parent_of F x ≡ some s → Up k s y → Up (suc k) x y

    up_further : {k x r s : ℕ} → Up k x r → parent_of F r ≡ some s → Up (suc k) x s
    up_further (up_one e) f = up_on e (up_one f)
    up_further (up_on e u) f = up_on e (up_further u f)

    around_some : (m x s : ℕ) → parent_of F x ≡ some s → around F (suc m) x ≡ s ∷ around F m s
    around_some m x s e = ap (λ (o : Option ℕ). elim o as (λ (p : Option ℕ). List ℕ) [ none ↦ [] | some t ↦ t ∷ around F m t ]) e

    up_around : {k x y : ℕ} (m : ℕ) → Up k x y → k ≤ m → In y (around F m x)
    up_around zero (up_one e) h = absurd (omega arith)
    up_around zero (up_on e u) h = absurd (omega arith)
    up_around (suc m) (up_one {x} {y} e) h = subst (In y) (sym (around_some m x y e)) here
    up_around (suc m) (up_on {x} {s} {y} e u) h = subst (In y) (sym (around_some m x s e)) (there (up_around m u (omega arith)))

    -- each region that was passed is below r, so r's parent is none of them: it would stand around itself
    climb : (fuel : ℕ) (seen : List ℕ) (r : ℕ) → missing N seen < fuel → r < N → within r seen ≡ false → length seen + missing N seen ≤ N
        → ((x : ℕ) → In x seen → (k : ℕ) × (k ≤ length seen) × Up k x r) → (m : ℕ) × (m < missing N seen) × Depth m r
    climb zero seen r h lt nw fit ab = absurd (omega arith)
    climb (suc fuel) seen r h lt nw fit ab =
        by_case (parent_of F r) refl (λ s a b c. climb fuel (r ∷ seen) s (omega (arith, missing_less N seen r lt nw)) a b (omega (arith, missing_less N seen r lt nw)) c)
      where
        by_case : (o : Option ℕ) → parent_of F r ≡ o
            → ((s : ℕ) → s < N → within s (r ∷ seen) ≡ false → ((x : ℕ) → In x (r ∷ seen) → (k : ℕ) × (k ≤ suc (length seen)) × Up k x s) → (m : ℕ) × (m < missing N (r ∷ seen)) × Depth m s)
            → (m : ℕ) × (m < missing N seen) × Depth m r
        by_case none e ih = (0, omega (arith, missing_less N seen r lt nw), at_root e)
        by_case (some s) e ih =
            let pc = parent_child N r s e in
            let all : (x : ℕ) → In x (r ∷ seen) → (k : ℕ) × (k ≤ suc (length seen)) × Up k x s
            = λ x i. elim (in_cases i) [
              | inl q ↦ (1, omega arith, subst (λ (y : ℕ). Up 1 y s) (sym q) (up_one e))
              | inr j ↦ let w = ab x j in (suc w.0, omega (arith, w.1), up_further w.2 e)
            ] in
            let fresh : within s (r ∷ seen) ≡ false
            = within_no s (r ∷ seen) (λ i.
            let w = all s i in
            not_within s (around F N s) (ok.no_cycle s pc.1) (up_around N w.2 (omega (arith, w.1, missing_less N seen r lt nw)))) in
            let w = ih s pc.1 fresh all in
            (suc w.0, omega (arith, w.1, missing_less N seen r lt nw), one_up {m = w.0} e w.2)

    abbrev more : (ℕ → ℕ) → Option ℕ → ℕ
    more h none = 0
    more h (some s) = suc (h s)

    height : ℕ → ℕ → ℕ
    height zero r = 0
    height (suc k) r = more (λ s. height k s) (parent_of F r)

    height_is : {m r : ℕ} (k : ℕ) → Depth m r → m ≤ k → height k r ≡ m
    unfolding height
    height_is zero (at_root e) h = refl
    height_is (suc k) (at_root e) h = ap (more (λ s. height k s)) e
    height_is zero (one_up e w) h = absurd (omega arith)
    height_is (suc k) (one_up e w) h = ap (more (λ s. height k s)) e ∙ ap suc (height_is k w (omega arith))

    ends : (r : ℕ) → r < N → (m : ℕ) × (m < N) × Depth m r
    ends r h = let w = climb (suc N) [] r (omega (arith, missing_all N)) h refl (omega (arith, missing_all N)) (λ x i. absurd (in_nil i)) in (w.0, omega (arith, w.1, missing_all N), w.2)

    falls : (r c : ℕ) → Child r c → N - height N c < N - height N r
    falls r c ch =
        let rn = in_range r ch.0 ch.1 in
        let w = ends r rn in
        let hr = height_is N w.2 (omega (arith, w.1)) in
        let hc = height_is N (one_up (child_parent N r c ch rn) w.2) (omega (arith, w.1)) in
        omega (arith, w.1, hr, hc)

    pub tree_of : Tree F (suc (length F.regions))
    tree_of = record {
      nodes_once = ok.nodes_once;
      node_once = ok.node_once;
      cases_once = ok.cases_once;
      child_once = ok.child_once;
      rank = λ r. N - height N r;
      rank_falls = λ r n c i j. falls r c (n, i, j);
      rank_low = λ r. omega arith;
    }

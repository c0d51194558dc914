-- In the order of the roots, one with a single target stands right before that target, unless another root leads there too: a visit of a
-- target that was not seen before finishes it just before the root itself is put in front. Assumes nothing.
use Rattle.std.specs.Prelude.{◌≡◌, refl, ◌⊎◌, Bool, true, false, ℕ, zero, suc, ◌≤◌, ◌<◌, length}
use Rattle.std.proofs.Common.{sym, ap, ◌∙◌, subst, inl, inr, arith}
use mathlib.Core.List.{List, [], ◌∷◌, reverse}
use Rattle.std.proofs.Math.Option.{Option, none, some}
use Rattle.general_laws.specs.Lists.{within}
use Rattle.lifting.specs.Ast.{ControlInst, Func}
use Rattle.lifting.specs.Parts.{ctrl_of}
use Rattle.lifting.specs.Order.{Seen, roots, targets_of, visit, visit_if, visits}
use Rattle.lifting.specs.Walk.{top}
use Rattle.lifting_runs.specs.Order.{out_reverse_aux}
use Rattle.general_laws.specs.Members.{In, here, there, in_cases, in_nil, in_within, not_within}
use Rattle.lifting_runs.specs.Accepted.{Targets}
use Rattle.lifting_runs.specs.Places.{VisitedAt, at_body, by_ctrl}
use Rattle.lifting_runs.specs.Order.{missing, missing_all, missing_less}

abbrev pub first : List ℕ → Option ℕ
first [] = none
first (x ∷ l) = some x

module _ (F : Func) where
  -- the ctrl line of p has the target t
  abbrev pub Leads : ℕ → ℕ → Type 0
  Leads p t = (c : ControlInst) × (ctrl_of F p ≡ some c) × In t c.to

  -- of a root and what stands after it in the order: a single target does, or another root leads there too
  abbrev pub Beside : ℕ → Option ℕ → Type 0
  Beside r o = (c : ControlInst) (t : ℕ) → ctrl_of F r ≡ some c → c.to ≡ t ∷ [] → (o ≡ some t) ⊎ ((p : ℕ) × (¬ (p ≡ r)) × VisitedAt F p top × Leads p t)

  abbrev pub InOrder : List ℕ → Type 0
  InOrder [] = Unit {0}
  InOrder (r ∷ l) = Beside r (first l) × InOrder l

  module _ (tg : Targets F) where
    abbrev N : ℕ
    N = length F.regions

    -- r is the body, or some root among those seen leads to it
    abbrev Called : List ℕ → ℕ → Type 0
    Called seen r = (r ≡ 0) ⊎ ((p : ℕ) × In p seen × VisitedAt F p top × Leads p r)

    called_more : {l m : List ℕ} {r : ℕ} → ((x : ℕ) → In x l → In x m) → Called l r → Called m r
    called_more g (inl e) = inl e
    called_more g (inr (p, i, v, h)) = inr (p, g p i, v, h)

    record Fine (s : Seen) : Type 0 where
      called : (x : ℕ) → In x s.seen → Called s.seen x
      beside : InOrder s.order

    record Onward (s u : Seen) : Type 0 where
      fewer : missing N u.seen ≤ missing N s.seen
      grows : (x : ℕ) → In x s.seen → In x u.seen
      fine : Fine s → Fine u

    onward_refl : (s : Seen) → Onward s s
    onward_refl s = record { fewer = omega arith; grows = λ x h. h; fine = λ f. f }

    -- what a visit does, with fuel for what is unseen
    abbrev Visits : ℕ → Type 0
    Visits k = (r : ℕ) (s : Seen) → missing N s.seen < k → r < N → VisitedAt F r top → Called s.seen r → Onward s (visit F k r s)

    visits_on : (k : ℕ) → Visits k → (ts : List ℕ) (s : Seen) → missing N s.seen < k → ((t : ℕ) → In t ts → (t < N) × VisitedAt F t top × Called s.seen t)
        → Onward s (visits (λ t x. visit F k t x) ts s)
    visits_on k vk [] s m h = onward_refl s
    visits_on k vk (t ∷ ts) s m h =
        let one = vk t s m (h t here).0 (h t here).1 (h t here).2 in
        let more = visits_on k vk ts (visit F k t s) (omega (arith, one.fewer)) (λ x i. ((h x (there i)).0, (h x (there i)).1, called_more one.grows (h x (there i)).2)) in
        record { fewer = omega (arith, one.fewer, more.fewer); grows = λ x i. more.grows x (one.grows x i); fine = λ f. more.fine (one.fine f) }

    -- a visit of what was not seen puts it in front
    front : (k t : ℕ) (s : Seen) → missing N s.seen < k → within t s.seen ≡ false → first (visit F k t s).order ≡ some t
    front zero t s m e = absurd (omega arith)
    front (suc k) t s m e = ap (λ (b : Bool). first (visit_if F b (λ x y. visit F k x y) t s).order) e

    module _ (k r : ℕ) (s : Seen) (m : missing N s.seen < suc k) (low : r < N) (v : VisitedAt F r top) (call : Called s.seen r) (new : within r s.seen ≡ false) where
      abbrev entered : Seen
      entered = record { seen = r ∷ s.seen; order = s.order }

      abbrev done : Seen
      done = visits (λ t x. visit F k t x) (reverse (targets_of (ctrl_of F r))) entered

      less : missing N (r ∷ s.seen) < missing N s.seen
      less = missing_less N s.seen r low new

      targets_on : (o : Option ControlInst) → ctrl_of F r ≡ o → (t : ℕ) → In t (reverse (targets_of o)) → (t < N) × VisitedAt F t top × Called (r ∷ s.seen) t
      targets_on none e t h = absurd (in_nil h)
      targets_on (some c) e t h =
          let i : In t c.to = elim (out_reverse_aux t c.to [] h) [ inl i ↦ i | inr z ↦ absurd (in_nil z) ] in
          (tg.in_range r t e i, by_ctrl v e i, inr (r, here, v, (c, e, i)))

      fine_entered : Fine s → Fine entered
      fine_entered f = record {
        called = λ x i. called_more (λ y j. there j) (elim (in_cases i) [ inl e ↦ subst (Called s.seen) (sym e) call | inr j ↦ f.called x j ]);
        beside = f.beside;
      }

      -- a target that was seen has another root that leads to it
      other : (c : ControlInst) (t : ℕ) → ctrl_of F r ≡ some c → c.to ≡ t ∷ [] → Called s.seen t → (p : ℕ) × (¬ (p ≡ r)) × VisitedAt F p top × Leads p t
      other c t e z (inl q) = absurd (omega (arith, (tg.not_body r t e (subst (In t) (sym z) here)).1))
      other c t e z (inr (p, i, w, h)) = (p, λ q. not_within r s.seen new (subst (λ (x : ℕ). In x s.seen) q i), w, h)

      beside_new : Fine s → Beside r (first done.order)
      beside_new f c t e z = by_seen (within t (r ∷ s.seen)) refl
        where
          only : reverse (targets_of (ctrl_of F r)) ≡ t ∷ []
          only = ap (λ (o : Option ControlInst). reverse (targets_of o)) e ∙ ap (λ (l : List ℕ). reverse l) z

          by_seen : (b : Bool) → within t (r ∷ s.seen) ≡ b → (first done.order ≡ some t) ⊎ ((p : ℕ) × (¬ (p ≡ r)) × VisitedAt F p top × Leads p t)
          by_seen false w = inl (ap (λ (ts : List ℕ). first (visits (λ x y. visit F k x y) ts entered).order) only ∙ front k t entered (omega (arith, less)) w)
          by_seen true w = inr (other c t e z (elim (in_cases (in_within t (r ∷ s.seen) w)) [ inl q ↦ subst (Called s.seen) (sym q) call | inr i ↦ f.called t i ]))

      visit_new : Visits k → Onward s (record { seen = done.seen; order = r ∷ done.order })
      visit_new vk =
          let w = visits_on k vk (reverse (targets_of (ctrl_of F r))) entered (omega (arith, less)) (targets_on (ctrl_of F r) refl) in
          record {
            fewer = omega (arith, less, w.fewer);
            grows = λ x i. w.grows x (there i);
            fine = λ f. let g = w.fine (fine_entered f) in record { called = g.called; beside = (beside_new f, g.beside) };
          }

    visit_on : (k : ℕ) → Visits k
    visit_on zero r s m low v call = absurd (omega arith)
    visit_on (suc k) r s m low v call = by_seen (within r s.seen) refl (visit_on k)
      where
        by_seen : (b : Bool) → within r s.seen ≡ b → Visits k → Onward s (visit_if F b (λ t x. visit F k t x) r s)
        by_seen true e vk = onward_refl s
        by_seen false e vk = visit_new k r s m low v call e vk

    pub roots_beside : InOrder (roots F)
    unfolding roots
    roots_beside =
        let none_seen : Seen = record { seen = []; order = [] } in
        ((visit_on (suc N) 0 none_seen (omega (arith, missing_all N)) tg.some_region at_body (inl refl)).fine (record { called = λ x i. absurd (in_nil i); beside = tt })).beside

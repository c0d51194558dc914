-- The roots in reverse post-order of a depth-first walk from region 0 that takes targets last to first.
use Rattle.std.specs.Prelude.{◌≡◌, refl, ◌⊎◌, Bool, true, false, cond, ℕ, zero, suc, ◌+◌, ◌≤◌, ◌<◌, length}
use Rattle.std.proofs.Common.{sym, ap, ◌∙◌, subst, arith}
use Rattle.std.proofs.Math.Logic.{inl, inr}
use Rattle.std.proofs.lemmas.Bool.{false≢true}
use mathlib.Core.List.{List, [], ◌∷◌, reverse, reverse_aux}
use Rattle.std.proofs.Math.Option.{Option, none, some}
use Rattle.std.proofs.Math.Decide.{ℕ_discrete}
use Rattle.general_laws.specs.Lists.{choose, within}
use Rattle.lifting.specs.Ast.{ControlInst, Func}
use Rattle.lifting.specs.Parts.{ctrl_of}
use Rattle.lifting.specs.Order.{Seen, roots, targets_of, visit, visit_if, visits}
use Rattle.lifting.specs.Walk.{top}
use Rattle.lifting.specs.Absorb.{count_one}
use Rattle.general_laws.specs.Members.{In, NoDup, here, in_cases, in_nil, in_within, not_within, there, within_yes}
use Rattle.lifting_runs.specs.Accepted.{Root, Targets}
use Rattle.lifting_runs.specs.Places.{VisitedAt, at_body, by_ctrl}
use Rattle.lifting_runs.specs.TourLaid.{Roots}

-- how many below n are not in l
pub missing : ℕ → List ℕ → ℕ
missing zero l = 0
missing (suc i) l = cond (within i l) 0 1 + missing i l

missing_mono : (n : ℕ) (l m : List ℕ) → ((x : ℕ) → In x l → In x m) → missing n m ≤ missing n l
unfolding missing
missing_mono zero l m h = omega arith
missing_mono (suc i) l m h = by_case (within i l) refl (within i m) refl (missing_mono i l m h)
  where
    by_case : (a : Bool) → within i l ≡ a → (b : Bool) → within i m ≡ b → missing i m ≤ missing i l → cond b 0 1 + missing i m ≤ cond a 0 1 + missing i l
    by_case true e true f ih = omega arith
    by_case true e false f ih = absurd (false≢true (sym f ∙ within_yes i m (h i (in_within i l e))))
    by_case false e true f ih = omega arith
    by_case false e false f ih = omega arith

pub missing_less : (n : ℕ) (l : List ℕ) (r : ℕ) → r < n → within r l ≡ false → missing n (r ∷ l) < missing n l
unfolding missing
missing_less zero l r h e = absurd (omega arith)
missing_less (suc i) l r h e = by_case (ℕ_discrete r i) (λ (x : ¬ (r ≡ i)). missing_less i l r (omega arith) e) (missing_mono i l (r ∷ l) (λ x y. there y))
  where
    by_case : Dec (r ≡ i) → (¬ (r ≡ i) → missing i (r ∷ l) < missing i l) → missing i (r ∷ l) ≤ missing i l → cond (within i (r ∷ l)) 0 1 + missing i (r ∷ l) < cond (within i l) 0 1 + missing i l
    by_case (yes p) ih mono =
        let a : cond {A = ℕ} (within i (r ∷ l)) 0 1 ≡ 0 = ap (λ (b : Bool). cond {A = ℕ} b 0 1) (within_yes i (r ∷ l) (subst (λ (z : ℕ). In z (r ∷ l)) p here)) in
        let b : cond {A = ℕ} (within i l) 0 1 ≡ 1 = ap (λ (b : Bool). cond {A = ℕ} b 0 1) (subst (λ (z : ℕ). within z l ≡ false) p e) in
        omega arith
    by_case (no n) ih mono =
        let m = ih n in
        let same : cond {A = ℕ} (within i (r ∷ l)) 0 1 ≡ cond {A = ℕ} (within i l) 0 1 = ap (λ (b : Bool). cond {A = ℕ} b 0 1) (World·no (ℕ_discrete i r) (λ q. n (sym q))) in
        omega arith
      where
        World·no : (d : Dec (i ≡ r)) → ¬ (i ≡ r) → choose d true (within i l) ≡ within i l
        World·no (yes q) m = absurd (m q)
        World·no (no q) m = refl

pub missing_all : (n : ℕ) → missing n [] ≡ n
unfolding missing
missing_all zero = refl
missing_all (suc i) = omega (arith, missing_all i)

in_reverse_aux : (x : ℕ) (l r : List ℕ) → In x l ⊎ In x r → In x (reverse_aux l r)
in_reverse_aux x [] r (inl h) = absurd (in_nil h)
in_reverse_aux x [] r (inr h) = h
in_reverse_aux x (y ∷ l) r (inl h) = in_reverse_aux x l (y ∷ r) (elim (in_cases h) [ inl e ↦ inr (subst (λ (z : ℕ). In z (y ∷ r)) (sym e) here) | inr i ↦ inl i ])
in_reverse_aux x (y ∷ l) r (inr h) = in_reverse_aux x l (y ∷ r) (inr (there h))

pub out_reverse_aux : (x : ℕ) (l r : List ℕ) → In x (reverse_aux l r) → In x l ⊎ In x r
out_reverse_aux x [] r h = inr h
out_reverse_aux x (y ∷ l) r h = elim (out_reverse_aux x l (y ∷ r) h) [
  | inl i ↦ inl (there i)
  | inr i ↦ elim (in_cases i) [ inl e ↦ inl (subst (λ (z : ℕ). In z (y ∷ l)) (sym e) here) | inr j ↦ inr j ]
]

module _ (F : Func) (tg : Targets F) where
  abbrev N : ℕ
  N = length F.regions

  -- a root that a run can come to
  abbrev Fit : ℕ → Type 0
  Fit r = Root F r × VisitedAt F r top

  record Good (s : Seen) : Type 0 where
    good_once : NoDup s.order
    good_seen : (x : ℕ) → In x s.order → In x s.seen
    good_closed : (x t : ℕ) (c : ControlInst) → In x s.order → ctrl_of F x ≡ some c → In t c.to → In t s.seen
    good_root : (x : ℕ) → In x s.order → Fit x

  record Onward (s u : Seen) : Type 0 where
    grows : (x : ℕ) → In x s.seen → In x u.seen
    keeps : (x : ℕ) → In x s.order → In x u.order
    fresh : (x : ℕ) → In x u.seen → In x s.seen ⊎ In x u.order
    late : (x : ℕ) → In x u.order → In x s.order ⊎ (¬ (In x s.seen))
    good : Good s → Good u

  onward_refl : (s : Seen) → Onward s s
  onward_refl s = record { grows = λ x h. h; keeps = λ x h. h; fresh = λ x h. inl h; late = λ x h. inl h; good = λ g. g }

  onward_trans : (s u v : Seen) → Onward s u → Onward u v → Onward s v
  onward_trans s u v a b = record {
    grows = λ x h. b.grows x (a.grows x h);
    keeps = λ x h. b.keeps x (a.keeps x h);
    fresh = λ x h. elim (b.fresh x h) [ inl i ↦ elim (a.fresh x i) [ inl j ↦ inl j | inr j ↦ inr (b.keeps x j) ] | inr i ↦ inr i ];
    late = λ x h. elim (b.late x h) [ inl i ↦ a.late x i | inr n ↦ inr (λ j. n (a.grows x j)) ];
    good = λ g. b.good (a.good g);
  }

  -- what a visit does, with fuel for what is unseen
  abbrev Visits : ℕ → Type 0
  Visits k = (r : ℕ) (s : Seen) → missing N s.seen < k → r < N → Fit r → Onward s (visit F k r s) × In r (visit F k r s).seen

  visits_all : (k : ℕ) → Visits k → (ts : List ℕ) (s : Seen) → missing N s.seen < k → ((t : ℕ) → In t ts → (t < N) × Fit t)
      → Onward s (visits (λ t x. visit F k t x) ts s) × ((t : ℕ) → In t ts → In t (visits (λ t x. visit F k t x) ts s).seen)
  visits_all k vk [] s m h = (onward_refl s, λ t i. absurd (in_nil i))
  visits_all k vk (t ∷ ts) s m h =
      let count_one = vk t s m (h t here).0 (h t here).1 in
      let u = visit F k t s in
      let more = visits_all k vk ts u (omega (arith, missing_mono N s.seen u.seen count_one.0.grows)) (λ x i. h x (there i)) in (
        onward_trans s u _ count_one.0 more.0,
        λ x i. elim (in_cases i) [ inl e ↦ more.0.grows x (subst (λ (z : ℕ). In z u.seen) (sym e) count_one.1) | inr j ↦ more.1 x j ],
      )

  targets_ok : (r : ℕ) → VisitedAt F r top → (o : Option ControlInst) → ctrl_of F r ≡ o → (t : ℕ) → In t (reverse (targets_of o)) → (t < N) × Fit t
  targets_ok r v none e t h = absurd (in_nil h)
  targets_ok r v (some c) e t h = let i : In t c.to = elim (out_reverse_aux t c.to [] h) [ inl i ↦ i | inr z ↦ absurd (in_nil z) ] in (tg.in_range r t e i, (tg.target_root r t e i, by_ctrl v e i))

  finish : (r : ℕ) (s e : Seen) → within r s.seen ≡ false → Fit r → Onward (record { seen = r ∷ s.seen; order = s.order }) e
      → ((t : ℕ) → In t (reverse (targets_of (ctrl_of F r))) → In t e.seen) → Onward s (record { seen = e.seen; order = r ∷ e.order })
  finish r s e nw rt o ts = record {
    grows = λ x h. o.grows x (there h);
    keeps = λ x h. there (o.keeps x h);
    fresh = λ x h. elim (o.fresh x h) [ inl i ↦ elim (in_cases i) [ inl q ↦ inr (subst (λ (z : ℕ). In z (r ∷ e.order)) (sym q) here) | inr j ↦ inl j ] | inr i ↦ inr (there i) ];
    late = λ x h. elim (in_cases h) [
      | inl q ↦ inr (λ j. not_within r s.seen nw (subst (λ (z : ℕ). In z s.seen) q j))
      | inr i ↦ elim (o.late x i) [ inl j ↦ inl j | inr n ↦ inr (λ j. n (there j)) ]
    ];
    good = λ g.
        let g1 : Good (record { seen = r ∷ s.seen; order = s.order })
        = record { good_once = g.good_once; good_seen = λ x h. there (g.good_seen x h); good_closed = λ x t c h q i. there (g.good_closed x t c h q i); good_root = g.good_root } in
        let g2 = o.good g1 in
        record {
          good_once = (λ h. elim (o.late r h) [ inl i ↦ not_within r s.seen nw (g.good_seen r i) | inr n ↦ n here ], g2.good_once);
          good_seen = λ x h. elim (in_cases h) [ inl q ↦ subst (λ (z : ℕ). In z e.seen) (sym q) (o.grows r here) | inr i ↦ g2.good_seen x i ];
          good_closed = λ x t c h q i. elim (in_cases h) [
            | inl p ↦ ts t (in_reverse_aux t (targets_of (ctrl_of F r)) [] (inl (subst (λ (z : Option ControlInst). In t (targets_of z)) (sym (subst (λ (z : ℕ). ctrl_of F z ≡ some c) p q)) i)))
            | inr j ↦ g2.good_closed x t c j q i
          ];
          good_root = λ x h. elim (in_cases h) [ inl q ↦ subst (Fit) (sym q) rt | inr i ↦ g2.good_root x i ];
        };
  }

  visit_good : (k : ℕ) → Visits k
  visit_good zero r s m h rt = absurd (omega arith)
  visit_good (suc k) r s m h rt = by_case (within r s.seen) refl (visit_good k)
    where
      by_case : (b : Bool) → within r s.seen ≡ b → Visits k → Onward s (visit_if F b (λ t x. visit F k t x) r s) × In r (visit_if F b (λ t x. visit F k t x) r s).seen
      by_case true e vk = (onward_refl s, in_within r s.seen e)
      by_case false e vk =
          let s1 : Seen = record { seen = r ∷ s.seen; order = s.order } in
          let w = visits_all k vk (reverse (targets_of (ctrl_of F r))) s1 (omega (arith, missing_less N s.seen r h e)) (targets_ok r rt.1 (ctrl_of F r) refl) in
          (finish r s _ e rt w.0 w.1, w.0.grows r here)

  abbrev start : Seen
  start = record { seen = []; order = [] }

  done : Onward start (visit F (suc N) 0 start)
  done = (visit_good (suc N) 0 start (omega (arith, missing_all N)) tg.some_region (tg.body_root, at_body)).0

  done_good : Good (visit F (suc N) 0 start)
  done_good = done.good (record { good_once = tt; good_seen = λ x h. h; good_closed = λ x t c h q i. absurd (in_nil h); good_root = λ x h. absurd (in_nil h) })

  pub roots_ok : Roots F (roots F)
  unfolding roots
  roots_ok = record {
    others = (visits (λ t x. visit F N t x) (reverse (targets_of (ctrl_of F 0))) (record { seen = 0 ∷ []; order = [] })).order;
    body_first = refl;
    once = done_good.good_once;
    closed = λ r s c h q i. elim (done.fresh s (done_good.good_closed r s c h q i)) [ inl z ↦ absurd (in_nil z) | inr j ↦ j ];
    no_child = λ r h. (done_good.good_root r h).0;
  }

  pub roots_visited : (r : ℕ) → In r (roots F) → VisitedAt F r top
  unfolding roots
  roots_visited r h = (done_good.good_root r h).1

-- Neither the exit of an exit node nor the exit of a case that ends in one is kept (W2). The first has use count 0. It alone leads to the second,
-- which has use count 1 and no phis, so it absorbs it. What is kept therefore takes as many values along each edge as the target has phis. Assumes
-- nothing.
--     ended_dropped      the count of such a point is 0 after all absorptions
--     kept_term          the way out of a kept block
use Rattle.std.proofs.Math.Path.{◌≡◌, refl, ap}
use Rattle.std.proofs.Common.{sym, ◌∙◌, subst}
use Rattle.std.specs.Prelude.{◌⊎◌, true, ℕ, ◌+◌}
use Rattle.std.proofs.Math.Logic.{inl, inr}
use Rattle.std.proofs.lemmas.Bool.{false≢true}
use mathlib.Core.List.{List, [], ◌∷◌}
use Rattle.std.proofs.Math.Option.{Option, none, some}
use Rattle.std.proofs.Math.Decide.{ℕ_discrete}
use native.Mathlib.Omega.{arith}
use Rattle.general_laws.specs.Lists.{choose, choose_no, choose_yes, find}
use Rattle.lifting.specs.Ast.{Decl, Func, Node, SelectionKind, Value, select}
use Rattle.lifting.specs.Parts.{children_of, node_of, region_of}
use Rattle.lifting.specs.Counts.{ends_in_exit}
use Rattle.lifting.specs.Points.{BlockLifting, CfgPoint, Table, Terminator, block_at, block_or, eq_point, node_entry, node_exit, nothing_here, plain, points, region_entry, region_exit, straight}
use Rattle.lifting.specs.Walk.{Place, walk_of}
use Rattle.lifting.specs.Absorb.{Absorbing, absorb, absorb_all, absorb_at, count_in, emptied, first_use, if_no_phis, joined, kept, labels, count_one, sole_target, try_target, use_count, uses}
use Rattle.general_laws.specs.Members.{All, In, NoDup, all_from, all_in, here, in_cases, in_nil, there}
use Rattle.general_laws.specs.Tests.{find_in}
use Rattle.lifting_runs.specs.Places.{VisitedAt, at_body, by_ctrl, in_case, in_loop, whole}
use Rattle.lifting_runs.specs.AbsorbCount.{block_keys, block_other, sole_straight, uses_from}
use Rattle.lifting_runs.specs.Each.{after_all, after_turn, after_turns, all_absorb, absorbed_by}
use Rattle.lifting_runs.specs.Tour.{in_points}
use Rattle.lifting_runs.specs.Pairs.{counted_in}
use Rattle.lifting_runs.specs.Ended.{Behind, CaseEnds, Ended, is_select, last_of}
use Rattle.lifting_runs.proofs.Ended.{last_exit, case_ended, suffix_last}
use Rattle.lifting_runs.specs.Terms.{TermOk, nothing_ok}
use Rattle.lifting_runs.specs.KeptTerms.{in_keep}
use Rattle.lifting_runs.specs.Shaped.{Shaped}
use Rattle.lifting_runs.proofs.Shaped.{behind_exits, laid, terms, visited_out, walk_first, walk_once}

-- ---- uses

unused : (q : CfgPoint) (l : List CfgPoint) → ¬ (In q l) → count_in q l ≡ 0
unused q l h = elim (ℕ_discrete (count_in q l) 0) [ yes z ↦ z | no z ↦ absurd (h (counted_in q l (omega arith))) ]

never_used : (T : Table) (q : CfgPoint) → ((x : CfgPoint × BlockLifting) → In x T → ¬ (In q (labels x.1.term))) → uses T q ≡ 0
never_used [] q h = refl
never_used (x ∷ T) q h = omega (arith, unused q (labels x.1.term) (h x here), never_used T q (λ y i. h y (there i)))

-- where only the block at p uses q
used_by : (T : Table) (p q : CfgPoint) → NoDup (points T) → ((x : CfgPoint × BlockLifting) → In x T → In q (labels x.1.term) → x.0 ≡ p) → uses T q ≡ uses_from T p q
used_by [] p q n h = refl
used_by (x ∷ T) p q n h = by_point (eq_point p x.0) (used_by T p q n.1 (λ y i. h y (there i)))
  where
    by_point : (d : Dec (p ≡ x.0)) → uses T q ≡ uses_from T p q → count_in q (labels x.1.term) + uses T q ≡ count_in q (labels (block_or (choose d (some x.1) (find eq_point p T))).term)
    by_point (yes e) ih =
        omega (arith, never_used T q (λ y i j. n.0 (subst (λ (r : CfgPoint). In r (points T)) (h y (there i) j ∙ e) (in_points T y i))))
    by_point (no a) ih = omega (arith, unused q (labels x.1.term) (λ j. a (sym (h x here j))))

-- ---- one absorption that is sure to come

stays_low : (q r : CfgPoint) (n : ℕ) → n ≡ 0 → choose (eq_point q r) 0 n ≡ 0
stays_low q r n e = by_point (eq_point q r)
  where
    by_point : (d : Dec (q ≡ r)) → choose d 0 n ≡ 0
    by_point (yes z) = refl
    by_point (no z) = e

module _ (p t : CfgPoint) where
  -- p is used by nothing, and t is absorbed or still p's to absorb
  record Due (s : Absorbing) : Type 0 where
    free : s.counts p ≡ 0
    way : (s.counts t ≡ 0) ⊎ ((s.counts t ≡ 1) × ((block_at s.table p).term ≡ straight t) × ((block_at s.table t).keys ≡ []))

  due_taken : (b r : CfgPoint) (s : Absorbing) → Due s → sole_target (block_at s.table b).term ≡ some r → s.counts r ≡ 1 → (block_at s.table r).keys ≡ [] → Due (absorbed_by b r s)
  due_taken b r s d e u ks = record { free = stays_low p r (s.counts p) d.free; way = by_way d.way }
    where
      U : Table
      U = s.table

      apart : ¬ (t ≡ r) → (block_at U p).term ≡ straight t → ¬ (p ≡ b)
      apart n l z =
          let same : some t ≡ some r = ap sole_target (sym l) ∙ ap (λ (x : CfgPoint). sole_target (block_at U x).term) z ∙ e in
          n cc

      by_way : (s.counts t ≡ 0) ⊎ ((s.counts t ≡ 1) × ((block_at U p).term ≡ straight t) × ((block_at U t).keys ≡ []))
          → ((absorbed_by b r s).counts t ≡ 0) ⊎ (((absorbed_by b r s).counts t ≡ 1) × ((block_at (absorbed_by b r s).table p).term ≡ straight t) × ((block_at (absorbed_by b r s).table t).keys ≡ []))
      by_way (inl z) = inl (stays_low t r (s.counts t) z)
      by_way (inr (count_one, l, k)) = elim (eq_point t r) [
        | yes z ↦ inl (choose_yes (eq_point t r) 0 (s.counts t) z)
        | no n ↦ inr (
          choose_no (eq_point t r) 0 (s.counts t) n ∙ count_one,
          ap (λ (x : BlockLifting). x.term) (block_other b r (block_at U r) U p (λ z. omega (arith, ap s.counts z, d.free)) (apart n l)) ∙ l,
          (block_keys b r (block_at U r) U t).0 ∙ k,
        )
      ]

  Gone : Absorbing → Type 0
  Gone s = s.counts t ≡ 0

  gone_stays : (b : CfgPoint) (s : Absorbing) → Gone s → Gone (absorb_at b s)
  unfolding Gone
  gone_stays = after_turn Gone (λ b r s h e u k. stays_low t r (s.counts t) h)

  -- p's turn
  own_turn : (s : Absorbing) → Due s → Gone (absorb_at p s)
  unfolding Gone
  own_turn s d = by_way d.way
    where
      by_keys : (ks : List Value) → ks ≡ [] → (if_no_phis ks (absorbed_by p t s) s).counts t ≡ 0
      by_keys [] e = choose_yes (eq_point t t) 0 (s.counts t) refl
      by_keys (k ∷ ks) e = absurd (let z : ◌≡◌ {A = ℕ} 0 1 = cc in omega arith)

      by_count_law : (d : Dec (s.counts t ≡ 1)) → s.counts t ≡ 1 → (block_at s.table t).keys ≡ [] → (choose d (if_no_phis (block_at s.table t).keys (absorbed_by p t s) s) s).counts t ≡ 0
      by_count_law (yes u) count_one k = by_keys (block_at s.table t).keys k
      by_count_law (no n) count_one k = absurd (n count_one)

      by_way : (s.counts t ≡ 0) ⊎ ((s.counts t ≡ 1) × ((block_at s.table p).term ≡ straight t) × ((block_at s.table t).keys ≡ [])) → (absorb_at p s).counts t ≡ 0
      by_way (inl z) = gone_stays p s z
      by_way (inr (count_one, l, k)) = ap (λ (e : Terminator). (try_target p (sole_target e) s).counts t) l ∙ by_count_law (ℕ_discrete (s.counts t) 1) count_one k

  all_turns : (l : List CfgPoint) (s : Absorbing) → Due s → In p l → Gone (absorb_all l s)
  all_turns [] s d h = absurd (in_nil h)
  all_turns (b ∷ l) s d h = elim (in_cases h) [
    | inl e ↦ subst (λ (x : CfgPoint). Gone (absorb_at x (absorb_all l s))) e (own_turn (absorb_all l s) (after_turns Due due_taken l s d))
    | inr i ↦ gone_stays b (absorb_all l s) (all_turns l s d i)
  ]

  absorbed_away : (T : Table) → use_count T p ≡ 0 → use_count T t ≡ 1 → (block_at T p).term ≡ straight t → (block_at T t).keys ≡ [] → In p (points T) → (absorb T).counts t ≡ 0
  unfolding absorb Gone
  absorbed_away T z u l k h = all_turns (points T) (record { table = T; counts = use_count T }) (record { free = z; way = inr (u, l, k) }) h

-- what has count 0 keeps it
stays_dropped : (T : Table) (q : CfgPoint) → use_count T q ≡ 0 → (absorb T).counts q ≡ 0
stays_dropped T q z = after_all (λ s. s.counts q ≡ 0) (λ b r s h e u k. stays_low q r (s.counts q) h) T z

module _ (F : Func) (ok : Shaped F) where
  abbrev T : Table
  T = walk_of F

  -- a case whose last node is an exit
  case_at : (n : ℕ) {c : ℕ} {p : Place} → is_select (node_of F n) ≡ true → In c (children_of (node_of F n)) → ends_in_exit F (region_of F c).nodes ≡ true → VisitedAt F c p → CaseEnds F c
  case_at n e i en at_body = absurd (ok.targets.body_root n i)
  case_at n e i en (by_ctrl {r} {s} v q j) = absurd (ok.targets.target_root r s q j n i)
  case_at n e i en (in_case {n = m} {c} v sf q j) = record { node = m; stands = in_case v sf q j; in_select = ap is_select q; child = subst (λ (d : Node). In c (children_of d)) (sym q) j; ends = en }
  case_at n e i en (in_loop {n = m} {b} v sf q) =
      let same : m ≡ n = ok.forest.child_once m n b (subst (λ (d : Node). In b (children_of d)) (sym q) here) i in
      absurd (false≢true (ap is_select (sym q) ∙ ap (λ (x : ℕ). is_select (node_of F x)) same ∙ e))

  pub case_ends : (n : ℕ) {c : ℕ} {p : Place} {k : SelectionKind} {v : Value} {cs : List ℕ} {ds : List Decl} {u : ℕ} → node_of F n ≡ select k v cs ds u → In c cs → ends_in_exit F (region_of F c).nodes ≡ true → VisitedAt F c p → CaseEnds F c
  case_ends n {c} e i en w = case_at n (ap is_select e) (subst (λ (d : Node). In c (children_of d)) (sym e) i) en w

  -- ---- the counts of the two kinds of points

  first_no : (q : CfgPoint) → ¬ (q ≡ region_entry 0) → first_use (walk_of F) q ≡ 0
  first_no q n = let w = walk_first F ok in ap (λ (U : Table). first_use U q) w.1 ∙ choose_no {A = ℕ} (eq_point q (region_entry 0)) 1 0 n

  pub count_out : (n : ℕ) → Ended F (node_exit n) → use_count (walk_of F) (node_exit n) ≡ 0
  unfolding use_count
  count_out n en = omega (
    arith,
    first_no (node_exit n) (λ z. let o : ◌≡◌ {A = ℕ} 0 1 = cc in omega arith),
    never_used T (node_exit n) (λ x i j. let w = all_in (Behind F) T (behind_exits F ok) x i (node_exit n) j en in let e = w.1 in let o : ◌≡◌ {A = ℕ} 0 1 = cc in omega arith),
  )

  module _ (c : ℕ) (ce : CaseEnds F c) where
    abbrev pub last : ℕ
    last = last_of (region_of F c).nodes

    pub last_leads : (block_at (walk_of F) (node_exit last)).term ≡ straight (region_exit c)
    last_leads = ap (λ (b : BlockLifting). b.term) ((laid F ok).out_at ce.stands (suffix_last F (region_of F c).nodes ce.ends whole))

    pub count_case : use_count (walk_of F) (region_exit c) ≡ 1
    unfolding use_count
    count_case =
        let only = used_by T (node_exit last) (region_exit c) (walk_once F ok) (λ x i j. let w = all_in (Behind F) T (behind_exits F ok) x i (region_exit c) j ce in
        w.2 ∙ ap (λ (r : ℕ). node_exit (last_of (region_of F r).nodes)) (let e = w.1 in cc)) in
        let own : uses_from T (node_exit last) (region_exit c) ≡ count_one (region_exit c) (region_exit c) + 0 = ap (λ (e : Terminator). count_in (region_exit c) (labels e)) last_leads in
        omega (arith, first_no (region_exit c) (λ z. let o : ◌≡◌ {A = ℕ} 0 1 = cc in omega arith), choose_yes {A = ℕ} (eq_point (region_exit c) (region_exit c)) 1 0 refl)

    case_dropped : (absorb (walk_of F)).counts (region_exit c) ≡ 0
    case_dropped = absorbed_away (node_exit last) (region_exit c) T (count_out last (last_exit F (region_of F c).nodes ce.ends)) count_case last_leads
        (ap (λ (b : BlockLifting). b.keys) ((laid F ok).exit_at ce.stands)) (visited_out F ok ce.stands (suffix_last F (region_of F c).nodes ce.ends whole))

  pub ended_dropped : (q : CfgPoint) → Ended F q → (absorb (walk_of F)).counts q ≡ 0
  ended_dropped (region_entry r) en = absurd en
  ended_dropped (region_exit c) en = case_dropped c en
  ended_dropped (node_entry n) en = absurd en
  ended_dropped (node_exit n) en = stays_dropped T (node_exit n) (count_out n en)

  -- ---- what stays so through absorption: a way out without enough values is that of such a point, and only such points lead to one

  abbrev Sorted : CfgPoint × BlockLifting → Type 0
  Sorted x = (Ended F x.0 ⊎ TermOk T x.1.term) × ((q : CfgPoint) → In q (labels x.1.term) → Ended F q → Ended F x.0)

  sorted_none : (p : CfgPoint) (b : BlockLifting) → b.term ≡ nothing_here → Sorted (p, b)
  sorted_none p b e = (inr (subst (TermOk T) (sym e) (nothing_ok T)), λ q i en. absurd (in_nil (subst (λ (t : Terminator). In q (labels t)) e i)))

  sorted_at : (U : Table) → All Sorted U → (p : CfgPoint) → Sorted (p, block_at U p)
  sorted_at U h p = by_find (find eq_point p U) refl
    where
      by_find : (o : Option BlockLifting) → find eq_point p U ≡ o → Sorted (p, block_or o)
      by_find none e = sorted_none p (plain nothing_here) refl
      by_find (some b) e = all_in Sorted U h (p, b) (find_in eq_point p U e)

  sorted_taken : (b t : CfgPoint) (s : Absorbing) → All Sorted s.table → sole_target (block_at s.table b).term ≡ some t → s.counts t ≡ 1 → (block_at s.table t).keys ≡ [] → All Sorted (absorbed_by b t s).table
  sorted_taken b t s h e u k = all_absorb Sorted b t (block_at U t) (λ x g. by_point x g (eq_point x.0 t) (eq_point x.0 b)) U h
    where
      U : Table
      U = s.table

      at_t : Sorted (t, block_at U t)
      at_t = sorted_at U h t

      back : Ended F t → Ended F b
      back en = (sorted_at U h b).1 t (subst (λ (l : Terminator). In t (labels l)) (sym (sole_straight (block_at U b).term t e)) here) en

      by_point : (x : CfgPoint × BlockLifting) → Sorted x → (d : Dec (x.0 ≡ t)) (g : Dec (x.0 ≡ b)) → Sorted (x.0, choose d (emptied x.1) (choose g (joined x.1 (block_at U t)) x.1))
      by_point x g (yes z) y = sorted_none x.0 (emptied x.1) refl
      by_point x g (no n) (yes z) = (
        elim at_t.0 [ inl en ↦ inl (subst (Ended F) (sym z) (back en)) | inr f ↦ inr f ],
        λ q i en. subst (Ended F) (sym z) (back (at_t.1 q i en)),
      )
      by_point x g (no n) (no m) = g

  sorted : All Sorted (absorb (walk_of F)).table
  sorted = after_all (λ s. All Sorted s.table) sorted_taken T (all_from Sorted T (λ x i. (
    elim (all_in _ T (terms F ok) x i) [ inl lo ↦ inl (case_ended F x.0 lo) | inr f ↦ inr f ],
    λ q j en.
        let w = all_in (Behind F) T (behind_exits F ok) x i q j en in
        subst (Ended F) (sym w.2) (last_exit F (region_of F w.0).nodes (subst (Ended F) w.1 en).ends),
  )))

  pub kept_term : (x : CfgPoint × BlockLifting) → In x (kept (walk_of F)) → TermOk (walk_of F) x.1.term
  unfolding kept
  kept_term x h =
      let w = in_keep (absorb T).counts (absorb T).table x h in
      elim (all_in Sorted (absorb T).table sorted x w.0).0 [ inl en ↦ absurd (omega (arith, ended_dropped x.0 en, w.1)) | inr f ↦ f ]

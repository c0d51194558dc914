-- Nothing in the walk leads to the exit of a node that is an exit, and only such a point to the exit of a case whose last node is one. No run comes
-- to either. Assumes nothing.
use Rattle.std.specs.Prelude.{◌≡◌, refl, Bool, true, false, List, [], ◌∷◌, ℕ}
use Rattle.std.proofs.Common.{sym, ap, ◌∙◌, subst, inl, inr}
use Rattle.std.proofs.lemmas.Bool.{false≢true}
use Rattle.std.proofs.Math.Option.{Option, none, some}
use Rattle.lifting.specs.Ast.{ControlInst, Func, Node, Value, block, exit, loop, select}
use Rattle.lifting.specs.Parts.{children_of, ctrl_of, node_of, region_of}
use Rattle.lifting.specs.Counts.{ends_in_exit, is_exit}
use Rattle.lifting.specs.Points.{CfgPoint, node_entry, node_exit, region_entry, region_exit}
use Rattle.lifting.specs.Walk.{Place, always, child_term, entry_block, exit_block, in_block, in_node, loop_term, next_point, out_block, root_term, top, walk_roots}
use Rattle.lifting.specs.Absorb.{labels}
use Rattle.general_laws.specs.Members.{All, In, here, in_cases, in_nil, map_in}
use Rattle.lifting_runs.specs.Places.{Suffix, VisitedAt, next, whole}
use Rattle.lifting_runs.specs.Visits.{every_visited}
use Rattle.lifting_runs.specs.Ended.{last_of, is_select, CaseEnds, Ended, EndedCase, Behind}

last_of_law : {l s : List ℕ} → Suffix l s → (m : ℕ) (k : List ℕ) → s ≡ m ∷ k → last_of l ≡ last_of s
last_of_law whole m k e = refl
last_of_law (next {x} {s} sf) m k e = last_of_law sf x s refl ∙ more s e
  where
    more : (s : List ℕ) → s ≡ m ∷ k → last_of (x ∷ s) ≡ last_of s
    more s e = subst (λ (t : List ℕ). last_of (x ∷ t) ≡ last_of t) (sym e) refl

module _ (F : Func) where
  pub last_exit : (l : List ℕ) → ends_in_exit F l ≡ true → is_exit (node_of F (last_of l)) ≡ true
  last_exit [] e = absurd (false≢true e)
  last_exit (n ∷ []) e = e
  last_exit (n ∷ m ∷ l) e = last_exit (m ∷ l) e

  pub suffix_last : {l : List ℕ} (s : List ℕ) → ends_in_exit F s ≡ true → Suffix l s → Suffix l (last_of s ∷ [])
  suffix_last [] e sf = absurd (false≢true e)
  suffix_last (n ∷ []) e sf = sf
  suffix_last (n ∷ m ∷ s) e sf = suffix_last (m ∷ s) e (next sf)

  pub case_ended : (p : CfgPoint) → EndedCase F p → Ended F p
  case_ended (region_entry r) h = h
  case_ended (region_exit r) h = h
  case_ended (node_entry n) h = h
  case_ended (node_exit n) h = absurd h

  -- one label
  only : {A : Type 0} (p q : CfgPoint) → In q (p ∷ []) → (q ≡ p → A) → A
  only p q h f = elim (in_cases h) [ inl e ↦ f e | inr i ↦ absurd (in_nil i) ]

  no_exit : {n : ℕ} {d : Node} → node_of F n ≡ d → is_exit d ≡ false → {q : CfgPoint} → q ≡ node_exit n → Ended F q → ⊥
  no_exit {n} {d} e z {q} h en = false≢true (sym z ∙ ap is_exit (sym e) ∙ subst (Ended F) h en)

  module _ (child_once : (n k c : ℕ) → In c (children_of (node_of F n)) → In c (children_of (node_of F k)) → n ≡ k) where
    behind_entry : (r : ℕ) (p : Place) → Behind F (region_entry r, entry_block F r p)
    behind_entry r p q h en = absurd (by_nodes (region_of F r).nodes refl h)
      where
        by_nodes : (ns : List ℕ) → (region_of F r).nodes ≡ ns → In q (next_point r ns ∷ []) → ⊥
        by_nodes [] z h = only (region_exit r) q h (λ e. false≢true (subst (λ (l : List ℕ). ends_in_exit F l ≡ true) z (subst (Ended F) e en).ends))
        by_nodes (n ∷ ns) z h = only (node_entry n) q h (λ e. subst (Ended F) e en)

    behind_in : (n : ℕ) (d : Node) → node_of F n ≡ d → (q : CfgPoint) → In q (labels (in_block F d n).term) → Ended F q → ⊥
    behind_in n (block is) e q h en = only (node_exit n) q h (λ z. no_exit e refl z en)
    behind_in n (select k v cs ds u) e q h en = elim (in_cases h) [ inl z ↦ no_exit e refl z en | inr i ↦ (let w = map_in region_entry cs i in subst (Ended F) w.2 en) ]
    behind_in n (loop b c is u) e q h en = elim (in_cases h) [
      | inl z ↦ no_exit e refl z en
      | inr i ↦ elim (in_cases i) [
        | inl z ↦ (let ce : CaseEnds F b = subst (Ended F) z en in
            let same : ce.node ≡ n = child_once ce.node n b ce.child (subst (λ (d : Node). In b (children_of d)) (sym e) here) in
            false≢true (ap is_select (sym e) ∙ ap (λ (m : ℕ). is_select (node_of F m)) (sym same) ∙ ce.in_select))
        | inr j ↦ only (region_entry b) q j (λ z. subst (Ended F) z en)
      ]
    ]
    behind_in n (exit i vs) e q h en = in_nil h

    behind_out : (r n : ℕ) (ns : List ℕ) → Suffix (region_of F r).nodes (n ∷ ns) → Behind F (node_exit n, out_block F (node_of F n) n (next_point r ns))
    behind_out r n [] sf q h en = only (region_exit r) q h (λ e. (r, e, ap node_exit (sym (last_of_law sf n [] refl))))
    behind_out r n (m ∷ ns) sf q h en = only (node_entry m) q h (λ e. absurd (subst (Ended F) e en))

    behind_root : (o : Option ControlInst) (r : ℕ) (q : CfgPoint) → In q (labels (root_term F o r)) → Ended F q → ⊥
    behind_root none r q h en = in_nil h
    behind_root (some c) r q h en = let w = map_in region_entry c.to h in subst (Ended F) w.2 en

    behind_child : (n : ℕ) (d : Node) (vs : List Value) → node_of F n ≡ d → (q : CfgPoint) → In q (labels (child_term F d n vs)) → Ended F q → ⊥
    behind_child n (block is) vs e q h en = in_nil h
    behind_child n (select k v cs ds u) vs e q h en = only (node_exit n) q h (λ z. no_exit e refl z en)
    behind_child n (loop b c is u) vs e q h en = by_test (always F c) h
      where
        by_test : (a : Bool) → In q (labels (loop_term F a n c vs)) → ⊥
        by_test true h = only (node_entry n) q h (λ z. subst (Ended F) z en)
        by_test false h = elim (in_cases h) [ inl z ↦ subst (Ended F) z en | inr i ↦ only (node_exit n) q i (λ z. no_exit e refl z en) ]
    behind_child n (exit i ws) vs e q h en = in_nil h

    behind_exit : (r : ℕ) (p : Place) → Behind F (region_exit r, exit_block F r p)
    behind_exit r top q h en = absurd (behind_root (ctrl_of F r) r q h en)
    behind_exit r (in_node n) q h en = absurd (behind_child n (node_of F n) (region_of F r).outs refl q h en)

    pub walk_behind : (k : ℕ) (l : List ℕ) → ((r : ℕ) → In r l → VisitedAt F r top) → All (Behind F) (walk_roots F k l)
    walk_behind = every_visited F (Behind F) (λ r p v. behind_entry r p) (λ r p v. behind_exit r p) (λ r n p ns v sf q h en. absurd (behind_in n (node_of F n) refl q h en)) (λ r n p ns v sf. behind_out r n ns sf)

-- How values go along the edges of visited points: a way out has at most one entry for each target, and names no other point. A way back to a loop
-- with phis has an entry for it or no other target. Assumes nothing.
--     lines_fit_law     what refusal 7 asks of the entries of a ctrl line
--     carries       of the way out of each position
--     edge_target   an edge leads to a target
use Rattle.std.specs.Prelude.{◌≡◌, refl, ◌⊎◌, Bool, true, false, ◌&&◌, List, [], ◌∷◌, map, ℕ, zero, suc, ◌<◌, ltb, get_or, length}
use Rattle.std.proofs.Common.{sym, ap, subst, ◌∙◌, inl, inr, arith}
use Rattle.std.proofs.Math.Option.{Option, none, some}
use Rattle.std.proofs.Math.Decide.{ℕ_discrete}
use Rattle.general_laws.specs.Lists.{distinct, every, keys, within}
use Rattle.lifting.specs.Ast.{ControlInst, Func, Node, Value, block, exit, loop, region_input, select}
use Rattle.lifting.specs.Parts.{ctrl_of, node_of, region_of}
use Rattle.lifting.specs.Control.{control_fits, ctrl_fits, is_root, kind_fits}
use Rattle.lifting.specs.Points.{CfgPoint, BlockLifting, Terminator, node_entry, node_exit, region_entry, straight}
use Rattle.lifting.specs.Walk.{Place, always, child_term, exit_term, in_block, loop_term, root_term, some_vals, walk_of}
use Rattle.general_laws.specs.Members.{In, NoDup, here, there, in_cases, in_map, in_nil, in_within, map_in, nodup_map, length_tabulate}
use Rattle.general_laws.specs.Tests.{both, distinct_once, every_in, find_in}
use Rattle.lifting_runs.specs.Places.{VisitedAt, at_body, by_ctrl, in_case, in_loop}
use Rattle.lifting_runs.specs.Shaped.{Shaped}
use Rattle.lifting_blocks.specs.Steps.{Step, step_entry, step_exit, step_in, step_out}
use Rattle.lifting_blocks.specs.Laws.{steps}
use Rattle.terminators.specs.At.{visited_block}
use Rattle.terminators.specs.Edges.{term_edges}
use Rattle.emit_edge_ends.specs.Ends.{EdgeAlong, by_entry, by_sole, end_edge}

-- an entry's key is one of the keys
pub in_keys_law : {K A : Type 0} (l : List (K × A)) (e : ℕ) (d : K × A) → e < length l → In (get_or l e d).0 (keys l)
in_keys_law [] e d h = absurd (omega arith)
in_keys_law (x ∷ l) zero d h = here
in_keys_law (x ∷ l) (suc e) d h = there (in_keys_law l e d (omega arith))

-- ---- ctrl lines

-- the entries of a ctrl line are for distinct targets
pub record EntriesFit (c : ControlInst) : Type 0 where
  pub once : NoDup (keys c.vals)
  pub led : (s : ℕ) → In s (keys c.vals) → In s c.to

pub lines_fit_law : (F : Func) → control_fits F ≡ true → (x : ℕ × ControlInst) → In x F.ctrls → EntriesFit x.1
unfolding control_fits
lines_fit_law F control x i =
    let c = x.1 in
    let all = both (distinct (keys F.ctrls) && _ && _) (every (λ c. ctrl_fits F c.1) F.ctrls) control in
    let fits = every_in (λ c. ctrl_fits F c.1) F.ctrls all.1 x i in
    let a = both _ (kind_fits c.kind (length c.ins) (length c.to)) fits in
    let b = both _ (every (λ r. within r c.to) (keys c.vals)) a.0 in
    let d = both (every (λ r. ltb 0 r && is_root F r) c.to) (distinct (keys c.vals)) b.0 in
    record {
      once = distinct_once (keys c.vals) d.1;
      led = λ s j. in_within s c.to (every_in (λ r. within r c.to) (keys c.vals) b.1 s j);
    }

-- ---- ways out

module _ (F : Func) where
  -- entries are for distinct targets; a way to a loop with phis has an entry for it, or no entry and no other target
  pub record Carries (t : Terminator) : Type 0 where
    pub once : NoDup (keys t.vals)
    pub led : (q : CfgPoint) → In q (keys t.vals) → In q t.targets
    pub back : (n : ℕ) → In (node_entry n) t.targets → ¬ ((in_block F (node_of F n) n).keys ≡ [])
        → In (node_entry n) (keys t.vals) ⊎ ((t.vals ≡ []) × (t.targets ≡ node_entry n ∷ []))

  -- one target, and perhaps values for it
  carries_one : (t : Terminator) (p : CfgPoint) (vs : List Value) → t.targets ≡ p ∷ [] → t.vals ≡ some_vals p vs → Carries t
  carries_one t p [] e v = record {
    once = subst (λ (l : List (CfgPoint × List Value)). NoDup (keys l)) (sym v) tt;
    led = λ q i. absurd (in_nil (subst (λ (l : List (CfgPoint × List Value)). In q (keys l)) v i));
    back = λ n i k. inr (v, e ∙ ap (λ (q : CfgPoint). q ∷ []) (sym (only n i)));
  }
    where
      only : (n : ℕ) → In (node_entry n) t.targets → node_entry n ≡ p
      only n i = elim (in_cases (subst (In (node_entry n)) e i)) [ inl z ↦ z | inr j ↦ absurd (in_nil j) ]
  carries_one t p (w ∷ vs) e v = record {
    once = subst (λ (l : List (CfgPoint × List Value)). NoDup (keys l)) (sym v) (λ i. in_nil i, tt);
    led = λ q i. subst (In q) (sym e) (subst (λ (l : List (CfgPoint × List Value)). In q (keys l)) v i);
    back = λ n i k. inl (subst (λ (l : List (CfgPoint × List Value)). In (node_entry n) (keys l)) (sym v) (subst (In (node_entry n)) e i));
  }

  -- no values, and no loop among the targets
  carries_none : (t : Terminator) → t.vals ≡ [] → ((n : ℕ) → In (node_entry n) t.targets → ⊥) → Carries t
  carries_none t v never = record {
    once = subst (λ (l : List (CfgPoint × List Value)). NoDup (keys l)) (sym v) tt;
    led = λ q i. absurd (in_nil (subst (λ (l : List (CfgPoint × List Value)). In q (keys l)) v i));
    back = λ n i k. absurd (never n i);
  }

  -- no target of regions is a node
  no_node : (l : List ℕ) (n : ℕ) → In (node_entry n) (map region_entry l) → ⊥
  no_node l n i = let r = map_in region_entry l i in let z : ◌≡◌ {A = ℕ} 0 1 = cc in omega arith

  keys_map : (l : List (ℕ × List Value)) → keys (map (λ e. (region_entry e.0, e.1)) l) ≡ map region_entry (keys l)
  keys_map [] = refl
  keys_map (x ∷ l) = ap (λ (r : List CfgPoint). region_entry x.0 ∷ r) (keys_map l)

  carries_line : (c : ControlInst) (r : ℕ) → EntriesFit c → Carries (root_term F (some c) r)
  carries_line c r f = record {
    once = subst NoDup (sym (keys_map c.vals)) (nodup_map region_entry (λ x y e. cc) (keys c.vals) f.once);
    led = λ q i.
        let s = map_in region_entry (keys c.vals) (subst (In q) (keys_map c.vals) i) in
        subst (λ (p : CfgPoint). In p (map region_entry c.to)) (sym s.2) (in_map region_entry (f.led s.0 s.1));
    back = λ n i k. absurd (no_node c.to n i);
  }

  carries_root : control_fits F ≡ true → (o : Option ControlInst) (r : ℕ) → ctrl_of F r ≡ o → Carries (root_term F o r)
  carries_root control none r e = carries_none (root_term F none r) refl (λ n i. in_nil i)
  carries_root control (some c) r e = carries_line c r (lines_fit_law F control (r, c) (find_in ℕ_discrete r F.ctrls e))

  module _ (ok : Shaped F) where
    -- a loop whose body has no outputs has no phis
    no_phis : (n b : ℕ) {c : Value} {is : List Value} {u : ℕ} → node_of F n ≡ loop b c is u → (region_of F b).outs ≡ [] → (in_block F (node_of F n) n).keys ≡ []
    no_phis n b {c} {is} {u} e z =
        let l : length (region_of F b).ins ≡ 0 = sym (ok.fitting.loop_outs n e) ∙ ap length z in
        ap (λ (d : Node). (in_block F d n).keys) e ∙ empty (in_block F (loop b c is u) n).keys (length_tabulate (region_input b) 0 (length (region_of F b).ins) ∙ l)
      where
        empty : (l : List Value) → length l ≡ 0 → l ≡ []
        empty [] h = refl
        empty (v ∷ l) h = absurd (omega arith)

    carries_loop : (n b : ℕ) {c : Value} {is : List Value} {u : ℕ} → node_of F n ≡ loop b c is u → (a : Bool) → Carries (loop_term F a n c (region_of F b).outs)
    carries_loop n b {c} e true = carries_one (loop_term F true n c (region_of F b).outs) (node_entry n) (region_of F b).outs refl refl
    carries_loop n b {c} {is} e false = by_outs (region_of F b).outs refl
      where
        by_outs : (vs : List Value) → (region_of F b).outs ≡ vs → Carries (loop_term F false n c vs)
        by_outs [] z = record {
          once = tt;
          led = λ q i. absurd (in_nil i);
          back = λ m i k. absurd (k (ap (λ (x : ℕ). (in_block F (node_of F x) x).keys) (only m i) ∙ no_phis n b e z));
        }
          where
            only : (m : ℕ) → In (node_entry m) (node_entry n ∷ node_exit n ∷ []) → m ≡ n
            only m i = elim (in_cases i) [
              | inl y ↦ cc
              | inr j ↦ elim (in_cases j) [ inl y ↦ absurd (let z : ◌≡◌ {A = ℕ} 0 1 = cc in omega arith) | inr k ↦ absurd (in_nil k) ]
            ]
        by_outs (v ∷ vs) z = record {
          once = (λ i. in_nil i, tt);
          led = λ q i. elim (in_cases i) [ inl y ↦ subst (λ (p : CfgPoint). In p (node_entry n ∷ node_exit n ∷ [])) (sym y) here | inr j ↦ absurd (in_nil j) ];
          back = λ m i k. inl (first m i);
        }
          where
            first : (m : ℕ) → In (node_entry m) (node_entry n ∷ node_exit n ∷ []) → In (node_entry m) (node_entry n ∷ [])
            first m i = elim (in_cases i) [
              | inl y ↦ subst (λ (p : CfgPoint). In (node_entry m) (p ∷ [])) y here
              | inr j ↦ elim (in_cases j) [ inl y ↦ absurd (let z : ◌≡◌ {A = ℕ} 0 1 = cc in omega arith) | inr k ↦ absurd (in_nil k) ]
            ]

    carries_in : (d : Node) (n : ℕ) → Carries (in_block F d n).term
    carries_in (block is) n = carries_one (straight (node_exit n)) (node_exit n) [] refl refl
    carries_in (select k v cs ds u) n = carries_none (in_block F (select k v cs ds u) n).term refl (λ m i. no_node cs m i)
    carries_in (loop b c is u) n = carries_one (in_block F (loop b c is u) n).term (region_entry b) [] refl refl
    carries_in (exit i vs) n = carries_none (in_block F (exit i vs) n).term refl (λ m i. in_nil i)

    module _ (control : control_fits F ≡ true) where
      carries_exit : {r : ℕ} {p : Place} → VisitedAt F r p → Carries (exit_term F r p)
      carries_exit at_body = carries_root control (ctrl_of F 0) 0 refl
      carries_exit (by_ctrl {s = s} v e i) = carries_root control (ctrl_of F s) s refl
      carries_exit (in_case {n = n} {c = c} {kd = kd} {v = w} {cs = cs} {ds = ds} {u = u} v sf e i) =
          let vs : List Value = (region_of F c).outs in
          subst (λ (d : Node). Carries (child_term F d n vs)) (sym e) (carries_one (child_term F (select kd w cs ds u) n vs) (node_exit n) vs refl refl)
      carries_exit (in_loop {n = n} {b = b} {c = c} {is = is} v sf e) =
          subst (λ (d : Node). Carries (child_term F d n (region_of F b).outs)) (sym e) (carries_loop n b e (always F c))

      carries_step : {x : CfgPoint × BlockLifting} {o : Option CfgPoint} → Step F x o → Carries x.1.term
      carries_step (step_entry v) = carries_one (straight _) _ [] refl refl
      carries_step (step_in {n = n} v sf e) = carries_in (node_of F n) n
      carries_step (step_out v sf) = carries_one (straight _) _ [] refl refl
      carries_step (step_exit v a) = carries_exit v

      pub carries : (i : ℕ) → i < length (walk_of F) → Carries (visited_block F i).term
      carries i h = carries_step (steps F ok i h)

-- every edge leads to a target
pub edge_target : {F : Func} (t : Terminator) → Carries F t → {q : CfgPoint} {e : ℕ} → In (q, e) (term_edges t) → In q t.targets
edge_target t k {q} {e} i = go (end_edge t i)
  where
    go : EdgeAlong t.vals t.targets q e → In q t.targets
    go (by_entry l y) = k.led q (subst (λ (p : CfgPoint). In p (keys t.vals)) y (in_keys_law t.vals e (region_entry 0, []) l))
    go (by_sole v y z) = subst (In q) (sym y) here

-- Every way out of the walk leads to visited points, and but for that of a case that ends in an exit it takes as many values as the target has
-- phis. Assumes nothing.
use Rattle.std.specs.Prelude.{◌≡◌, refl, ◌⊎◌, Bool, true, false, List, [], ◌∷◌, map, ℕ, suc, length}
use Rattle.std.proofs.Common.{sym, ap, ◌∙◌, subst, inl, inr, arith}
use Rattle.std.proofs.Math.Option.{Option, none, some}
use Rattle.std.proofs.lemmas.List.{length-map}
use Rattle.general_laws.specs.Lists.{choose_no, choose_yes, find, keys}
use Rattle.lifting.specs.Ast.{ControlInst, Func, Node, Value, block, exit, loop, select, select_branch}
use Rattle.lifting.specs.Parts.{children_of, ctrl_of, node_of, region_of, vals_or}
use Rattle.lifting.specs.Points.{BlockLifting, CfgPoint, Table, Terminator, eq_point, node_entry, node_exit, nothing_here, region_entry, region_exit, straight}
use Rattle.lifting.specs.Walk.{Place, always, child_term, entry_block, exit_block, exit_term, in_block, in_node, loop_term, next_point, out_block, root_term, some_vals, top, walk_roots}
use Rattle.general_laws.specs.Members.{All, In, here, in_cases, in_nil, length_tabulate, map_in}
use Rattle.lifting_runs.specs.Accepted.{Fitting, FreeKind, OutsFit, Targets, WayFit}
use Rattle.lifting_runs.specs.Places.{Suffix, VisitedAt, at_body, by_ctrl, in_case, in_loop, next, whole}
use Rattle.lifting_runs.specs.Visits.{every_visited}
use Rattle.lifting_runs.specs.Ended.{EndedCase, is_select}
use Rattle.lifting_runs.specs.Structure.{find_entry}
use Rattle.lifting_runs.specs.Tour.{Tree, find_unique}
use Rattle.lifting_runs.specs.TourLaid.{Roots, covers, here_entry, here_exit, here_in, here_out, unique}

-- A way out: its targets stand in the table, each with so many values of this way out and phis of its own that Q holds.
pub record TermTo (Q : ℕ → ℕ → Type 0) (T : Table) (t : Terminator) : Type 0 where
  pub free : FreeKind t.kind
  pub way : WayFit t.kind (length t.targets)
  pub to : (q : CfgPoint) → In q t.targets → (b : BlockLifting) × (find eq_point q T ≡ some b) × Q (length b.keys) (length (vals_or (find eq_point q t.vals) b.defaults))

-- whatever the counts; and with as many values as phis
abbrev pub TermLeads : Table → Terminator → Type 0
TermLeads = TermTo (λ n m. Unit {0})

abbrev pub TermOk : Table → Terminator → Type 0
TermOk = TermTo (λ n m. n ≡ m)

pub ok_leads : {T : Table} {t : Terminator} → TermOk T t → TermLeads T t
ok_leads h = record { free = h.free; way = h.way; to = λ q i. let w = h.to q i in (w.0, w.1, tt) }

pub nothing_ok : (T : Table) → TermOk T nothing_here
nothing_ok T = record { free = tt; way = refl; to = λ q i. absurd (in_nil i) }

-- a straight way to a block whose defaults fill its phis
straight_ok : (T : Table) (q : CfgPoint) (b : BlockLifting) → find eq_point q T ≡ some b → length b.keys ≡ length b.defaults → TermOk T (straight q)
straight_ok T q b f e = record {
  free = tt;
  way = refl;
  to = λ p i. elim (in_cases i) [ inl z ↦ (b, subst (λ (x : CfgPoint). find eq_point x T ≡ some b) (sym z) f, e) | inr z ↦ absurd (in_nil z) ];
}

module _ (F : Func) (depth : ℕ) (tr : Tree F depth) (rs : List ℕ) (ok : Roots F rs) (tg : Targets F) (fit : Fitting F) where
  abbrev T : Table
  T = walk_roots F depth rs

  found : (p : CfgPoint) (b : BlockLifting) → In (p, b) T → find eq_point p T ≡ some b
  found p b h = find_unique T (unique F depth tr rs ok) p b h

  entry_found : (r : ℕ) (p : Place) → VisitedAt F r p → find eq_point (region_entry r) T ≡ some (entry_block F r p)
  entry_found r p v = found _ _ (here_entry F depth tr rs ok r p (covers F depth tr rs ok v))

  exit_found : (r : ℕ) (p : Place) → VisitedAt F r p → find eq_point (region_exit r) T ≡ some (exit_block F r p)
  exit_found r p v = found _ _ (here_exit F depth tr rs ok r p (covers F depth tr rs ok v))

  in_found : (r n : ℕ) (p : Place) (ns : List ℕ) → VisitedAt F r p → Suffix (region_of F r).nodes (n ∷ ns) → find eq_point (node_entry n) T ≡ some (in_block F (node_of F n) n)
  in_found r n p ns v sf = found _ _ (here_in F depth tr rs ok r p n ns (covers F depth tr rs ok v) sf)

  out_found : (r n : ℕ) (p : Place) (ns : List ℕ) → VisitedAt F r p → Suffix (region_of F r).nodes (n ∷ ns) → find eq_point (node_exit n) T ≡ some (out_block F (node_of F n) n (next_point r ns))
  out_found r n p ns v sf = found _ _ (here_out F depth tr rs ok r p n ns (covers F depth tr rs ok v) sf)

  in_fills : (n : ℕ) (d : Node) → node_of F n ≡ d → length (in_block F d n).keys ≡ length (in_block F d n).defaults
  in_fills n (block is) e = refl
  in_fills n (select kd v cs ds u) e = refl
  in_fills n (loop b c is u) e = length_tabulate _ 0 (length (region_of F b).ins) ∙ sym (fit.loop_ins n e)
  in_fills n (exit i vs) e = refl

  next_ok : (r : ℕ) (p : Place) (ns : List ℕ) → VisitedAt F r p → Suffix (region_of F r).nodes ns → TermOk T (straight (next_point r ns))
  next_ok r p [] v sf = straight_ok T (region_exit r) (exit_block F r p) (exit_found r p v) refl
  next_ok r p (n ∷ ns) v sf = straight_ok T (node_entry n) (in_block F (node_of F n) n) (in_found r n p ns v sf) (in_fills n (node_of F n) refl)

  -- the way out of a point: it leads on, with enough values but for a case that ends in an exit
  abbrev TermFine : CfgPoint → Terminator → Type 0
  TermFine p t = TermLeads T t × (EndedCase F p ⊎ TermOk T t)

  whole_fine : (p : CfgPoint) {t : Terminator} → TermOk T t → TermFine p t
  whole_fine p h = (ok_leads h, inr h)

  -- the way out of a child region
  one_target : (q : CfgPoint) (b : BlockLifting) (vs : List Value) → find eq_point q T ≡ some b → length b.keys ≡ length vs → (vs ≡ [] → length b.defaults ≡ 0)
      → (p : CfgPoint) → p ≡ q → (c : BlockLifting) × (find eq_point p T ≡ some c) × (length c.keys ≡ length (vals_or (find eq_point p (some_vals q vs)) c.defaults))
  one_target q b [] f e d p z = (b, subst (λ (x : CfgPoint). find eq_point x T ≡ some b) (sym z) f, e ∙ sym (d refl))
  one_target q b (v ∷ vs) f e d p z = (
    b,
    subst (λ (x : CfgPoint). find eq_point x T ≡ some b) (sym z) f,
    e ∙ ap (λ (o : Option (List Value)). length (vals_or o b.defaults)) (sym (choose_yes (eq_point p q) (some (v ∷ vs)) none z)),
  )

  child_ok : (r n c : ℕ) (p : Place) (ns : List ℕ) (d : Node) → node_of F n ≡ d → In c (children_of d) → VisitedAt F r p → Suffix (region_of F r).nodes (n ∷ ns) → TermFine (region_exit c) (child_term F d n (region_of F c).outs)
  child_ok r n c p ns (block is) e i v sf = absurd (in_nil i)
  child_ok r n c p ns (exit j ws) e i v sf = absurd (in_nil i)
  child_ok r n c p ns (select kd w cs ds u) e i v sf = by_outs (fit.case_outs n c e i)
    where
      fo : find eq_point (node_exit n) T ≡ some (out_block F (select kd w cs ds u) n (next_point r ns))
      fo = out_found r n p ns v sf ∙ ap (λ (d : Node). some (out_block F d n (next_point r ns))) e

      by_outs : OutsFit F c (length ds) → TermFine (region_exit c) (child_term F (select kd w cs ds u) n (region_of F c).outs)
      by_outs (inl h) = whole_fine (region_exit c) (record {
        free = tt;
        way = refl;
        to = λ q g. elim (in_cases g) [
          | inl z ↦ one_target (node_exit n) (out_block F (select kd w cs ds u) n (next_point r ns)) (region_of F c).outs fo (length_tabulate _ 0 (length ds) ∙ sym h) (λ x. refl) q z
          | inr z ↦ absurd (in_nil z)
        ];
      })
      by_outs (inr h) = (
        record {
          free = tt;
          way = refl;
          to = λ q g. elim (in_cases g) [
            | inl z ↦ (out_block F (select kd w cs ds u) n (next_point r ns), subst (λ (x : CfgPoint). find eq_point x T ≡ some (out_block F (select kd w cs ds u) n (next_point r ns))) (sym z) fo, tt)
            | inr z ↦ absurd (in_nil z)
          ];
        },
        inl (record { node = n; stands = in_case v sf e i; in_select = ap is_select e; child = subst (λ (d : Node). In c (children_of d)) (sym e) i; ends = h.1 }),
      )
  child_ok r n c p ns (loop b k is u) e i v sf =
      let cb : c ≡ b = elim (in_cases i) [ inl z ↦ z | inr z ↦ absurd (in_nil z) ] in
      whole_fine (region_exit c) (subst (λ (x : ℕ). TermOk T (loop_term F (always F k) n k (region_of F x).outs)) (sym cb) (by_test (always F k)))
    where
      outs : List Value
      outs = (region_of F b).outs

      fi : find eq_point (node_entry n) T ≡ some (in_block F (loop b k is u) n)
      fi = in_found r n p ns v sf ∙ ap (λ (d : Node). some (in_block F d n)) e

      back : (q : CfgPoint) → q ≡ node_entry n → (x : BlockLifting) × (find eq_point q T ≡ some x) × (length x.keys ≡ length (vals_or (find eq_point q (some_vals (node_entry n) outs)) x.defaults))
      back q z = one_target (node_entry n) (in_block F (loop b k is u) n) outs fi (length_tabulate _ 0 (length (region_of F b).ins) ∙ sym (fit.loop_outs n e))
          (λ h. fit.loop_ins n e ∙ sym (fit.loop_outs n e) ∙ ap (λ (l : List Value). length l) h) q z

      fo : find eq_point (node_exit n) T ≡ some (out_block F (loop b k is u) n (next_point r ns))
      fo = out_found r n p ns v sf ∙ ap (λ (d : Node). some (out_block F d n (next_point r ns))) e

      exit_entry : (q : CfgPoint) → q ≡ node_exit n → ¬ (q ≡ node_entry n)
      exit_entry q z y = let o : ◌≡◌ {A = ℕ} 0 1 = cc in omega arith

      no_vals : (q : CfgPoint) → q ≡ node_exit n → (l : List Value) → vals_or (find eq_point q (some_vals (node_entry n) l)) [] ≡ []
      no_vals q z [] = refl
      no_vals q z (x ∷ l) = ap (λ (o : Option (List Value)). vals_or o []) (choose_no (eq_point q (node_entry n)) (some (x ∷ l)) none (exit_entry q z))

      off : (q : CfgPoint) → q ≡ node_exit n → (x : BlockLifting) × (find eq_point q T ≡ some x) × (length x.keys ≡ length (vals_or (find eq_point q (some_vals (node_entry n) outs)) x.defaults))
      off q z = (
        out_block F (loop b k is u) n (next_point r ns),
        subst (λ (y : CfgPoint). find eq_point y T ≡ some (out_block F (loop b k is u) n (next_point r ns))) (sym z) fo,
        sym (ap (λ (l : List Value). length l) (no_vals q z outs)),
      )

      by_test : (a : Bool) → TermOk T (loop_term F a n k outs)
      by_test true = record { free = tt; way = refl; to = λ q h. elim (in_cases h) [ inl z ↦ back q z | inr z ↦ absurd (in_nil z) ] }
      by_test false = record {
        free = tt;
        way = refl;
        to = λ q h. elim (in_cases h) [ inl z ↦ back q z | inr y ↦ elim (in_cases y) [ inl z ↦ off q z | inr z ↦ absurd (in_nil z) ] ];
      }

  -- the way out of a root
  root_ok : (r : ℕ) → VisitedAt F r top → (o : Option ControlInst) → ctrl_of F r ≡ o → TermOk T (root_term F o r)
  root_ok r v none e = record { free = tt; way = refl; to = λ q i. absurd (in_nil i) }
  root_ok r v (some c) e = record {
    free = fit.ctrl_free r e;
    way = subst (WayFit c.kind) (sym (length-map c.to region_entry)) (fit.ctrl_way r e);
    to = λ q i.
        let w = map_in region_entry c.to i in
        let s = w.0 in
        let nb = tg.not_body r s e w.1 in
        let keys : length (entry_block F s top).keys ≡ length (region_of F s).ins
        = ap (λ (x : ℕ). length (entry_block F x top).keys) nb.1 ∙ length_tabulate _ 0 (length (region_of F (suc nb.0)).ins) ∙ ap (λ (x : ℕ). length (region_of F x).ins) (sym nb.1) in (
          entry_block F s top,
          subst (λ (x : CfgPoint). find eq_point x T ≡ some (entry_block F s top)) (sym w.2) (entry_found s top (by_ctrl v e w.1)),
          keys ∙ sym (fit.edge_ins r s e w.1)
              ∙ ap (λ (o : Option (List Value)). length (vals_or o [])) (sym (find_entry s c.vals))
              ∙ ap (λ (x : CfgPoint). length (vals_or (find eq_point x (map (λ (y : ℕ × List Value). (region_entry y.0, y.1)) c.vals)) [])) (sym w.2),
        );
  }

  -- the way out of a node's entry
  in_ok : (r n : ℕ) (p : Place) (ns : List ℕ) (d : Node) → node_of F n ≡ d → VisitedAt F r p → Suffix (region_of F r).nodes (n ∷ ns) → TermOk T (in_block F d n).term
  in_ok r n p ns (block is) e v sf = straight_ok T (node_exit n) (out_block F (block is) n (next_point r ns)) (out_found r n p ns v sf ∙ ap (λ (d : Node). some (out_block F d n (next_point r ns))) e) refl
  in_ok r n p ns (select kd w cs ds u) e v sf = record {
    free = fit.select_free n e;
    way = subst (WayFit (select_branch kd)) (sym (length-map cs region_entry)) (fit.cases_count n e);
    to = λ q i. let w = map_in region_entry cs i in
        (entry_block F w.0 (in_node n), subst (λ (x : CfgPoint). find eq_point x T ≡ some (entry_block F w.0 (in_node n))) (sym w.2) (entry_found w.0 (in_node n) (in_case v sf e w.1)), refl);
  }
  in_ok r n p ns (loop b c is u) e v sf = record {
    free = tt;
    way = refl;
    to = λ q i. elim (in_cases i) [
      | inl z ↦ (entry_block F b (in_node n), subst (λ (x : CfgPoint). find eq_point x T ≡ some (entry_block F b (in_node n))) (sym z) (entry_found b (in_node n) (in_loop v sf e)), refl)
      | inr z ↦ absurd (in_nil z)
    ];
  }
  in_ok r n p ns (exit i vs) e v sf = record { free = fit.exit_free n e; way = refl; to = λ q j. absurd (in_nil j) }

  exit_ok : (r : ℕ) (p : Place) → VisitedAt F r p → TermFine (region_exit r) (exit_term F r p)
  exit_ok r p at_body = whole_fine (region_exit 0) (root_ok 0 at_body (ctrl_of F 0) refl)
  exit_ok r p (by_ctrl {s} v e i) = whole_fine (region_exit s) (root_ok s (by_ctrl v e i) (ctrl_of F s) refl)
  exit_ok r p (in_case {r = s} {n} {c} {p = q} {ns} v sf e i) = child_ok s n c q ns (node_of F n) refl (subst (λ (d : Node). In c (children_of d)) (sym e) i) v sf
  exit_ok r p (in_loop {r = s} {n} {b} {p = q} {ns} v sf e) = child_ok s n b q ns (node_of F n) refl (subst (λ (d : Node). In b (children_of d)) (sym e) here) v sf

  -- every terminator of the walk, where the roots are what a run can come to
  pub walk_terms : ((r : ℕ) → In r rs → VisitedAt F r top) → All (λ (x : CfgPoint × BlockLifting). TermLeads T x.1.term × (EndedCase F x.0 ⊎ TermOk T x.1.term)) T
  walk_terms = every_visited F (λ (x : CfgPoint × BlockLifting). TermFine x.0 x.1.term) (λ r p v. whole_fine (region_entry r) (next_ok r p (region_of F r).nodes v whole)) exit_ok
      (λ r n p ns v sf. whole_fine (node_entry n) (in_ok r n p ns (node_of F n) refl v sf)) (λ r n p ns v sf. whole_fine (node_exit n) (next_ok r p ns v (next sf))) depth rs

-- The rest of K by its kind, and a line from its parts. Assumes nothing.
--     plain_lists, inst_lists, exit_lists     what follows K's head, for each kind
--     kind_is                                 the kind that was read has the number and the opcode of its head
--     line-.., lines-..                       a line, and the lines
use mathlib.Core.Path.{◌≡◌, refl, sym, ap, subst, ◌∙◌}
use mathlib.Core.Bool.{Bool, true, ◌&&◌, and-true}
use mathlib.Core.List.{List, [], ◌∷◌, append-nil}
use mathlib.Core.Option.{Option, none, some, some-injective, none-ne-some}
use Rattle.std.specs.Prelude as code
use Prim.Native.Nat.{ℕ, suc, ◌+◌}
use native.Mathlib.Decide.{ℕ_discrete}
use native.Mathlib.Omega.{arith}
use lib.ListN.{drop}
use Rattle.lifting.specs.Bytes.{bytes}
use Rattle.lifting.specs.Digits.{Reading}
use Rattle.general_laws.specs.Lists.{every}
use Rattle.lifting.specs.Codec.{then, then_then, both_of, up, strip, lit, seq, view_as, same}
use Rattle.lifting.specs.Ast.{Value, Imm, Inst, bool_cond, spv_inst, ControlInstKind, unreachable, return, branch, select_branch, exit_invocation, ControlInst}
use Rattle.lifting.specs.Parts.{ctrl_insts}
use Rattle.lifting.specs.Grammar.{after_word, closed, imms_codec}
use Rattle.read_cursor.specs.Answers.{Missed}
use Rattle.read_cursor.specs.Chains.{took_next, denied_next}
use Rattle.read_cursor.specs.declared.Cursor.{Cursor}
use Rattle.read_insts.specs.Heads.{inst_rest, exit_rest, selection_rest, control_rest}
use Rattle.read_insts.specs.Kinds.{kind_of}
use Rattle.read_insts.specs.declared.Selection.TheVariants as sel
use Rattle.read_insts.specs.declared.Control.{Control}
use Rattle.read_insts.specs.declared.Control.TheVariants as ctrl
use Rattle.check_insts.specs.Test.{opcode_fits}
use Rattle.func.specs.declared.Marks.{Marks}
use Rattle.func.specs.Store.{folds}
use Rattle.func.specs.Keep.{ctrl_number, inst_opcode, inst_imms, keep_imm, keep_entry, keep_ctrl}
use Rattle.func.specs.Kinds.{ctrl_kind_number}
use Rattle.func.specs.Rows.{marks_of, ctrl_row_from, keep_ctrl_is}
use Rattle.read_lines.specs.Stores.{Stores, Stored}
use Rattle.read_lines.specs.Rows.{as_told, up_lists}
use Rattle.read_ctrls.specs.declared.CtrlHead.{CtrlHead}
use Rattle.check_ctrls.specs.declared.Judged.{Judged}
use Rattle.check_edges.specs.Edges.{Edges, keep_edge, targets_fit}
use Rattle.read_ctrls.specs.Judge.{judged_edges, keep_judged}
use Rattle.read_ctrls.specs.Tails.{ctrl_lists, edges_form, ctrl_rest, to_ctrl, ctrl_tail}
use Rattle.read_ctrls.specs.Answers.{edges_state, state_at, keep_forms, keep_inst_forms, keep_lists}
use Rattle.check_ctrls.specs.Judged.{judged_with, opcode_in}

-- a reader that reads the same
as_read : {A S : Type 0} (p q : List ℕ → Reading A) (f : A → S → S) (c : Cursor) (found : code.Option Cursor) (w v : S) → ((u : List ℕ) → p u ≡ q u)
    → Stores q f c found w v → Stores p f c found w v
as_read {A} p q f c found w v e s = let l : q ≡ p = λ i u. sym (e u) i in subst (λ (z : List ℕ → Reading A). Stores z f c found w v) l s

-- the lists behind a kind without an INST
module _ (k : Control) (c : Cursor) (found : code.Option Cursor) (w v : List ℕ) where
  pub plain_lists : (d : ControlInstKind) → ctrl_insts d ≡ [] → ((u : List ℕ) → control_rest k u ≡ some (d, u)) → Stores ctrl_lists.read keep_forms c found w v
      → Stores (ctrl_rest k) keep_lists c found w v
  unfolding folds
  plain_lists d n e s =
      as_read (ctrl_rest k) (λ u. then (ctrl_lists.read u) (up (λ y. (d, y)))) keep_lists c found w v
      (λ u. ap (λ (o : Reading ControlInstKind). then o (λ x. then (ctrl_lists.read x.1) (both_of x.0))) (e u))
      (up_lists ctrl_lists.read (λ y. (d, y)) keep_forms keep_lists c found w v (λ y. ap (λ (is : List Inst). keep_forms y (folds keep_imm (inst_imms is) w)) n) s)

-- behind an INST, and behind that of an exit
abbrev inst_kind : (Inst → ControlInstKind) → ℕ → List Imm × (List Value × List ℕ) → ControlInstKind × (List Value × List ℕ)
inst_kind f n y = (f (record { opcode = n; imms = y.0 }), y.1)

kept : (f : Inst → ControlInstKind) → ((i : Inst) → ctrl_insts (f i) ≡ i ∷ []) → (n : ℕ) (w : List ℕ) (y : List Imm × (List Value × List ℕ)) → keep_lists (inst_kind f n y) w ≡ keep_inst_forms y w
kept f e n w y =
    ap (λ (is : List Inst). keep_forms y.1 (folds keep_imm (inst_imms is) w)) (e (record { opcode = n; imms = y.0 }))
    ∙ ap (λ (is : List Imm). keep_forms y.1 (folds keep_imm is w)) (append-nil y.0)

module _ {k : Control} {n : ℕ} (c : Cursor) (found : code.Option Cursor) (w v : List ℕ) where
  pub inst_lists : k ≡ ctrl.Select (sel.Inst n) → Stores (seq imms_codec ctrl_lists).read keep_inst_forms c found w v → Stores (ctrl_rest k) keep_lists c found w v
  inst_lists e s =
      let f : Inst → ControlInstKind = λ i. select_branch (spv_inst i) in
      as_told ctrl_rest keep_lists c found w v e
      (as_read (ctrl_rest (ctrl.Select (sel.Inst n))) (λ u. then ((seq imms_codec ctrl_lists).read u) (up (inst_kind f n))) keep_lists c found w v (λ u. unfold seq in simp then_then)
      (up_lists (seq imms_codec ctrl_lists).read (inst_kind f n) keep_inst_forms keep_lists c found w v (kept f (λ i. refl) n w) s))

  pub exit_lists : k ≡ ctrl.Exit n → Stores (seq (closed imms_codec) ctrl_lists).read keep_inst_forms c found w v → Stores (ctrl_rest k) keep_lists c found w v
  exit_lists e s =
      as_told ctrl_rest keep_lists c found w v e
      (as_read (ctrl_rest (ctrl.Exit n)) (λ u. then ((seq (closed imms_codec) ctrl_lists).read u) (up (inst_kind exit_invocation n))) keep_lists c found w v (λ u. unfold closed after_word lit seq same view_as in simp then_then)
      (up_lists (seq (closed imms_codec) ctrl_lists).read (inst_kind exit_invocation n) keep_inst_forms keep_lists c found w v (kept exit_invocation (λ i. refl) n w) s))

-- what holds of everything that a reader may find
record Yields {A : Type 0} (o : Reading A) (P : A → Type 0) : Type 0 where
  each : (x : A × List ℕ) → o ≡ some x → P x.0

yields_some : {A : Type 0} {P : A → Type 0} (x : A × List ℕ) → P x.0 → Yields (some x) P
yields_some {A} {P} x p = record { each = λ y e. subst (λ (z : A × List ℕ). P z.0) (some-injective _ _ e) p }

yields_none : {A : Type 0} {P : A → Type 0} → Yields none P
yields_none = record { each = λ y e. absurd (none-ne-some _ e) }

yields_then : {A B : Type 0} {P : A → Type 0} {Q : B → Type 0} (o : Reading A) (g : A × List ℕ → Reading B) → Yields o P → ((x : A × List ℕ) → P x.0 → Yields (g x) Q) → Yields (then o g) Q
yields_then none g p h = yields_none
yields_then (some x) g p h = h x (p.each x refl)

abbrev Any : {A : Type 0} → A → Type 0
Any a = Unit {0}

yields_any : {A : Type 0} (o : Reading A) → Yields o Any
yields_any o = record { each = λ x e. tt }

-- a kind has the number and the opcode of its head, and its opcodes fit as that does
pub record KindIs (k : Control) (d : ControlInstKind) : Type 0 where
  pub number : ctrl_number d ≡ ctrl_kind_number (kind_of k)
  pub opcode : inst_opcode (ctrl_insts d) ≡ opcode_in k
  pub fits : every (λ i. opcode_fits i.opcode) (ctrl_insts d) ≡ opcode_fits (opcode_in k)

abbrev Opens : ℕ → Inst → Type 0
Opens n i = i.opcode ≡ n

inst_yields : (n : ℕ) (u : List ℕ) → Yields (inst_rest n u) (Opens n)
inst_yields n u = yields_then {P = Any} (imms_codec.read u) _ (yields_any (imms_codec.read u)) (λ x p. yields_some _ refl)

exit_yields : (n : ℕ) (u : List ℕ) → Yields (exit_rest n u) (Opens n)
exit_yields n u = yields_then (inst_rest n u) _ (inst_yields n u) (λ x p. by_strip x p (strip (bytes ")") x.1))
  where
    by_strip : (x : Inst × List ℕ) → Opens n x.0 → (o : Option (List ℕ)) → Yields (then {B = Inst × List ℕ} o (λ r. some (x.0, r))) (Opens n)
    by_strip x p none = yields_none
    by_strip x p (some r) = yields_some (x.0, r) p

zero_fits : true ≡ opcode_fits 0
unfolding opcode_fits ℕ_discrete
zero_fits = refl

one_fits : (n : ℕ) (i : Inst) → Opens n i → (opcode_fits i.opcode && true) ≡ opcode_fits n
one_fits n i e = and-true (opcode_fits i.opcode) ∙ ap opcode_fits e

control_yields : (k : Control) (u : List ℕ) → Yields (control_rest k u) (KindIs k)
control_yields ctrl.Unreachable u = yields_some (unreachable, u) (record { number = refl; opcode = refl; fits = zero_fits })
control_yields ctrl.Return u = yields_some (return, u) (record { number = refl; opcode = refl; fits = zero_fits })
control_yields ctrl.Branch u = yields_some (branch, u) (record { number = refl; opcode = refl; fits = zero_fits })
control_yields (ctrl.Exit n) u =
    yields_then (exit_rest n u) _ (exit_yields n u) (λ x p. yields_some (exit_invocation x.0, x.1) (record { number = refl; opcode = p; fits = one_fits n x.0 p }))
control_yields (ctrl.Select sel.Bool) u = yields_some (select_branch bool_cond, u) (record { number = refl; opcode = refl; fits = zero_fits })
control_yields (ctrl.Select (sel.Inst n)) u =
    yields_then {P = λ d. KindIs (ctrl.Select (sel.Inst n)) (select_branch d)} (selection_rest (sel.Inst n) u) _
    (yields_then (inst_rest n u) _ (inst_yields n u) (λ x p. yields_some (spv_inst x.0, x.1) (record { number = refl; opcode = p; fits = one_fits n x.0 p })))
    (λ x p. yields_some (select_branch x.0, x.1) p)

pub kind_is : (k : Control) (u r : List ℕ) (x : ControlInstKind × (List Value × List ℕ)) → ctrl_rest k u ≡ some (x, r) → KindIs k x.0
kind_is k u r x e =
    (yields_then {Q = λ (x : ControlInstKind × (List Value × List ℕ)). KindIs k x.0} (control_rest k u) _ (control_yields k u)
    (λ y p. yields_then {P = Any} (ctrl_lists.read y.1) _ (yields_any (ctrl_lists.read y.1)) (λ z q. yields_some _ p))
    ).each (x, r) e

-- a line's entries store its entries
edges_func : (line : ℕ) (es : List (ℕ × List Value)) (s : Edges) → (folds (keep_edge line) es s).func ≡ folds keep_entry es s.func
unfolding folds keep_edge
edges_func line [] s = refl
edges_func line (e ∷ es) s = edges_func line es (keep_edge line e s)

-- a line, from its lists and its entries
abbrev entries_of : CtrlHead → ControlInstKind × (List Value × List ℕ) → Reading (List (ℕ × List Value)) → Reading (ℕ × ControlInst)
entries_of h x o = then o (λ y. some (to_ctrl h x y.0, y.1))

tail_is : (h : CtrlHead) (u r : List ℕ) (x : ControlInstKind × (List Value × List ℕ)) → ctrl_rest h.kind u ≡ some (x, r) → ctrl_tail h u ≡ entries_of h x (edges_form.read r)
tail_is h u r x e = ap (λ (o : Reading (ControlInstKind × (List Value × List ℕ))). then o (λ x. entries_of h x.0 (edges_form.read x.1))) e

module _ (h : CtrlHead) {c : Cursor} where
  pub line_missed : Missed (ctrl_rest h.kind) c → Missed (ctrl_tail h) c
  line_missed p =
      record { denied = record { is = ap (λ (o : Reading (ControlInstKind × (List Value × List ℕ))). then o (λ x. entries_of h x.0 (edges_form.read x.1))) p.denied.is; moves = tt } }

  module _ {d : Cursor} {w v : List ℕ} (s : Stored (ctrl_rest h.kind) keep_lists c d w v) where
    abbrev first : List ℕ
    first = drop c.at c.text.now

    abbrev second : List ℕ
    second = drop d.at c.text.now

    pub line_unended : Missed edges_form.read d → Missed (ctrl_tail h) c
    line_unended q =
        record { denied = record { is = tail_is h first second s.value s.reached.took.is ∙ ap (entries_of h s.value) (denied_next c s.reached.same_text q).is; moves = tt } }

    pub line_stored : {e : Cursor} {u m n r : List ℕ} {fit : Bool} {k l : Marks} {j seen : Judged} (line : ℕ)
        → Stored edges_form.read (folds (keep_edge line)) d e (edges_state v m true) (edges_state u n fit) → line ≡ seen.line + 1 → k ≡ marks_of w → l ≡ marks_of v
        → j ≡ judged_with seen h.kind (fit && targets_fit u n (seen.line + 1) k.targets)
        → r ≡ ctrl_row_from k l h.region h.attrs (ctrl_kind_number (kind_of h.kind)) (opcode_in h.kind) u
        → Stored (ctrl_tail h) keep_judged c e (state_at w m seen) (state_at r n j)
    line_stored {e} {u} {m} {n} {r} {fit} {k} {l} {j} {seen} line t numbered began ended judged row =
        let q = took_next c s.reached.same_text t.reached in
        record {
          value = to_ctrl h s.value t.value;
          reached = record {
            took = record {
              is = tail_is h first second s.value s.reached.took.is ∙ ap (entries_of h s.value) q.is;
              moves = record { moved = omega (arith, s.reached.took.moves.moved, q.moves.moved); fits = q.moves.fits };
            };
            same_text = t.reached.same_text ∙ s.reached.same_text;
          };
          kept = sym (state s.value (sym s.kept) (kind_is h.kind first second s.value s.reached.took.is) t.value (sym t.kept));
        }
      where
        next_line : suc seen.line ≡ seen.line + 1
        next_line = omega arith

        edges_are : (x : ControlInstKind × (List Value × List ℕ)) (es : List (ℕ × List Value)) → keep_lists x w ≡ v → folds (keep_edge line) es (edges_state v m true) ≡ edges_state u n fit
            → judged_edges (to_ctrl h x es).1 (state_at w m seen) ≡ edges_state u n fit
        edges_are x es a b = unfold judged_edges in ((λ i. folds (keep_edge ((next_line ∙ sym numbered) i)) es (edges_state (a i) m true)) ∙ b)

        row_is : (x : ControlInstKind × (List Value × List ℕ)) (es : List (ℕ × List Value)) → keep_lists x w ≡ v → KindIs h.kind x.0 → folds (keep_edge line) es (edges_state v m true) ≡ edges_state u n fit
            → keep_ctrl (to_ctrl h x es) w ≡ r
        row_is x es a q b =
            let f : folds keep_entry es v ≡ u = sym (edges_func line es (edges_state v m true)) ∙ ap (λ (z : Edges). z.func) b in
            keep_ctrl_is (to_ctrl h x es) w
            ∙ (λ i. ctrl_row_from (sym began i) (marks_of (a i)) h.region h.attrs (q.number i) (q.opcode i) (folds keep_entry es (a i)))
            ∙ (λ i. ctrl_row_from k (sym ended i) h.region h.attrs (ctrl_kind_number (kind_of h.kind)) (opcode_in h.kind) (f i))
            ∙ sym row

        state : (x : ControlInstKind × (List Value × List ℕ)) → keep_lists x w ≡ v → KindIs h.kind x.0 → (es : List (ℕ × List Value)) → folds (keep_edge line) es (edges_state v m true) ≡ edges_state u n fit
            → keep_judged (to_ctrl h x es) (state_at w m seen) ≡ state_at r n j
        state x a q es b =
            let g = edges_are x es a b in
            unfold keep_judged in
            ((λ i.
            record {
              func = row_is x es a q b i;
              marks = (g i).marks;
              line = next_line i;
              opcodes = seen.opcodes && q.fits i;
              edges = seen.edges && ((g i).fit && targets_fit (g i).func (g i).marks (next_line i) (sym began i).targets);
            })
            ∙ (λ i. state_at r n (sym judged i)))

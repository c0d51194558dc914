-- How the answers of the kinds of lines make the answer of the text. Assumes nothing.
--     body-..     from the regions on
--     rest-..     `(imported)` alone, or a body
--     tail-..     from the consts on
--     text-..     the whole text
use Rattle.std.specs.Prelude.{◌≡◌, Bool, true, false, ℕ, drop}
use Rattle.std.proofs.Math.Path.{refl, ap}
use Rattle.std.proofs.Common.{sym, ◌∙◌, subst}
use mathlib.Core.List.{List, [], ◌∷◌, ◌++◌}
use Rattle.std.proofs.Math.Option.{Option, none, some, some-injective, none-ne-some}
use Rattle.lifting.specs.Bytes.{bytes}
use Rattle.lifting.specs.Digits.{Reading}
use Rattle.lifting.specs.Codec.{then, onto, both_of, second, strip, strip_sound, lit, seq, view_as, same, alt}
use Rattle.lifting.specs.Whole.{read_whole}
use Rattle.lifting.specs.Ast.{Const, Decl, Region, ControlInst, Func}
use Rattle.lifting.specs.Grammar.{before, line, Regions, region_line, region_lines, node_lines, op_lines, ctrl_lines, rest_form, rest_lines, func_line, TextForm, const_lines, param_lines, text, read, opened, to_func}
use Rattle.read_cursor.specs.Read.{Took, Denied, TextEnded, literal}
use Rattle.read_cursor.specs.Begins.{go_on}
use Rattle.func.specs.Store.{folds}
use Rattle.func.specs.Whole.{headed, with_consts, with_params, with_regions, with_nodes, with_ops}
use Rattle.func.specs.Keep.{keep_func, keep_const, keep_param, keep_region, keep_node, keep_op, keep_ctrl}
use Rattle.read_lines.specs.Lines.{LinesPassed, passed_some, passed_none}
use Rattle.read_lines.specs.Tails.{func_tail, func_begins, region_tail, region_begins}
use Rattle.read_lines.specs.Keepers.{keep_func_line}
use Rattle.read_lines.specs.Kinds.{region_kind}
use Rattle.read_ctrls.specs.Judge.{keep_judged, start}
use Rattle.read_ctrls.specs.Same.{func_judged}
use Rattle.std.specs.Prelude as code
use Rattle.read_ctrls.specs.declared.CtrlsFit.{CtrlsFit}
use Rattle.read_ctrls.specs.Whole.{CtrlLines, CtrlsAre}
use Rattle.read_text.specs.Whole.{keep_body, Says, Body, BodyIs, TailIs, TextIs}

-- the words that a state begins with are these
says_from : {w u v : List ℕ} {a b : Bool} (cs : List (ℕ × ControlInst)) (m : List ℕ) → w ≡ u → Says (folds keep_judged cs (start u m)) a b v → Says (folds keep_judged cs (start w m)) a b v
says_from {v = v} {a} {b} cs m e s = subst (λ (x : List ℕ). Says (folds keep_judged cs (start x m)) a b v) (sym e) s

-- from the regions on
module _ {t : List ℕ} {from i : ℕ} {w v : List ℕ} (p : LinesPassed region_lines node_lines keep_region t from w i v) where
  pub body_nodes : node_lines.read (drop i t) ≡ none → region_lines.read (drop from t) ≡ none
  body_nodes e = passed_none p e

  module _ {j : ℕ} {u : List ℕ} (q : LinesPassed node_lines op_lines keep_node t i v j u) where
    pub body_ops : op_lines.read (drop j t) ≡ none → region_lines.read (drop from t) ≡ none
    body_ops e = passed_none p (passed_none q e)

    module _ {k : ℕ} {x : List ℕ} (r : LinesPassed op_lines ctrl_lines keep_op t j u k x) where
      body_ctrls : ctrl_lines.read (drop k t) ≡ none → region_lines.read (drop from t) ≡ none
      body_ctrls e = passed_none p (passed_none q (passed_none r e))

      body_whole : {m y : List ℕ} {a b : Bool} → CtrlLines a b t k x m y → Body region_lines a b t from w m y
      body_whole {m} c =
          let f = passed_some r (c.lines, tt) c.read in
          let g = passed_some q (f.0, (c.lines, tt)) f.1 in
          let h = passed_some p (g.0, (f.0, (c.lines, tt))) g.1 in
          record {
            body = (h.0, (g.0, (f.0, (c.lines, tt))));
            read = h.1;
            says = says_from c.lines m (ap (λ (z : List ℕ). folds keep_op f.0 (folds keep_node g.0 z)) h.2 ∙ ap (folds keep_op f.0) g.2 ∙ f.2)
                (record { func = c.func; opcodes_are = c.opcodes_are; edges_are = c.edges_are });
          }

      pub body_is : (c : code.Option CtrlsFit) (m y : List ℕ) → CtrlsAre c t k x m y → BodyIs region_lines c t from w m y
      body_is (code.Some z) m y c = body_whole c
      body_is code.None m y c = body_ctrls c

-- `(imported)` alone, or a body
abbrev nothing : Regions
nothing = ([], ([], ([], ([], tt))))

region_imported : (r : List ℕ) → region_line.read (bytes "(imported)\n" ++ r) ≡ none
unfolding region_line line before lit seq same view_as strip
region_imported r = refl

strip_of : (s u v : List ℕ) → literal s u ≡ some (tt, v) → u ≡ s ++ v
strip_of s u v e = by_strip (strip s u) refl e
  where
    by_strip : (o : Option (List ℕ)) → strip s u ≡ o → ◌≡◌ {A = Reading (Unit {0})} (then o (λ r. some (tt, r))) (some (tt, v)) → u ≡ s ++ v
    by_strip none h q = absurd (none-ne-some _ q)
    by_strip (some r) h q = strip_sound s u r h ∙ ap (λ (y : Unit {0} × List ℕ). s ++ y.1) (some-injective _ _ q)

module _ {t : List ℕ} {at mid : ℕ} (p : Took (literal (bytes "(imported)\n")) t at tt mid) where
  pub rest_imported : {w m : List ℕ} → TextEnded true t mid → Body rest_lines true true t at w m w
  unfolding rest_lines rest_form view_as alt seq lit folds start
  rest_imported e = record { body = nothing; read = rw (p.is, e); says = record { func = refl; opcodes_are = refl; edges_are = refl } }

  pub rest_unended : TextEnded false t mid → rest_lines.read (drop at t) ≡ none
  unfolding rest_lines rest_form view_as alt seq lit
  rest_unended e = rw (p.is, e, ap region_line.read (strip_of (bytes "(imported)\n") (drop at t) (drop mid t) p.is) ∙ region_imported (drop mid t))

module _ {t : List ℕ} {at : ℕ} (n : Denied (literal (bytes "(imported)\n")) t at) where
  -- then it is what the regions are
  rest_form_law : rest_lines.read (drop at t) ≡ then (then (region_line.read (drop at t)) (second region_line region_lines)) (λ x. some ((x.0.0 ∷ x.0.1.0, x.0.1.1), x.1))
  rest_form_law = go (then (region_line.read (drop at t)) (second region_line region_lines)) refl
    where
      go : (o : Option ((Region × Regions) × Unit {0})) → then (region_line.read (drop at t)) (second region_line region_lines) ≡ o
          → rest_lines.read (drop at t) ≡ then o (λ x. some ((x.0.0 ∷ x.0.1.0, x.0.1.1), x.1))
      go none e = unfold rest_lines rest_form view_as alt seq lit in rw (n.is, e)
      go (some x) e = unfold rest_lines rest_form view_as alt seq lit in rw (n.is, e)

  pub rest_neither : Denied (literal (bytes "(region (in")) t at → rest_lines.read (drop at t) ≡ none
  unfolding lit
  rest_neither q =
      rest_form_law
      ∙ ap (λ (o : Reading Region). then (then o (second region_line region_lines)) (λ x. some ((x.0.0 ∷ x.0.1.0, x.0.1.1), x.1)))
      (region_begins.is (drop at t) ∙ ap (λ (o : Reading (Unit {0})). go_on o (λ u. region_tail)) q.is)

  module _ {mid : ℕ} (q : Took (literal (bytes "(region (in")) t at tt mid) where
    rest_are : (o : Reading Region) → region_tail (drop mid t) ≡ o
        → then (then o (second region_line region_lines)) (λ x. some ((x.0.0 ∷ x.0.1.0, x.0.1.1), x.1)) ≡ region_lines.read (drop at t)
    rest_are none e = sym (region_kind.wrong (drop at t) tt (drop mid t) q.is e)
    rest_are (some x) e = by_rest (region_lines.read x.1) ∙ sym (region_kind.more (drop at t) tt (drop mid t) x.0 x.1 q.is e)
      where
        by_rest : (o : Option (Regions × Unit {0})) → then (then o (both_of x.0)) (λ y. some ((y.0.0 ∷ y.0.1.0, y.0.1.1), y.1)) ≡ then o (onto x.0)
        by_rest none = refl
        by_rest (some y) = refl

    rest_regions : rest_lines.read (drop at t) ≡ region_lines.read (drop at t)
    unfolding lit
    rest_regions =
        rest_form_law
        ∙ ap (λ (o : Reading Region). then (then o (second region_line region_lines)) (λ x. some ((x.0.0 ∷ x.0.1.0, x.0.1.1), x.1)))
        (region_begins.is (drop at t) ∙ ap (λ (o : Reading (Unit {0})). go_on o (λ u. region_tail)) q.is)
        ∙ rest_are (region_tail (drop mid t)) refl

    pub rest_body : (r : code.Option CtrlsFit) (w m v : List ℕ) → BodyIs region_lines r t at w m v → BodyIs rest_lines r t at w m v
    rest_body (code.Some z) w m v c = record { body = c.body; read = rest_regions ∙ c.read; says = c.says }
    rest_body code.None w m v c = rest_regions ∙ c

-- from the consts on
module _ {t : List ℕ} {from i : ℕ} {w v : List ℕ} (p : LinesPassed const_lines param_lines keep_const t from w i v) where
  pub tail_params : param_lines.read (drop i t) ≡ none → const_lines.read (drop from t) ≡ none
  tail_params e = passed_none p e

  module _ {j : ℕ} {u : List ℕ} (q : LinesPassed param_lines rest_lines keep_param t i v j u) where
    pub tail_is : (r : code.Option CtrlsFit) (m y : List ℕ) → BodyIs rest_lines r t j u m y → TailIs r t from w m y
    tail_is code.None m y c = passed_none p (passed_none q c)
    tail_is (code.Some z) m y c =
        let x = c.body in
        let f = passed_some q x c.read in
        let g = passed_some p (f.0, x) f.1 in
        record {
          consts = g.0;
          params = f.0;
          body = x;
          read = g.1;
          says = says_from x.1.1.1.0 m (ap (keep_body x) (ap (folds keep_param f.0) g.2 ∙ f.2)) c.says;
        }

-- the whole text
abbrev behind : Reading (ℕ × (ℕ × (ℕ × ℕ))) → Option Func
behind o = then (then o (second func_line const_lines)) (λ x. some (to_func x.0))

lines_are : (t : List ℕ) → read t ≡ behind (func_line.read t)
lines_are t = whole ∙ go (then (func_line.read t) (second func_line const_lines)) refl
  where
    whole : read t ≡ read_whole text t
    whole = unfold read opened in refl

    go : (o : Option (TextForm × Unit {0})) → then (func_line.read t) (second func_line const_lines) ≡ o → read_whole text t ≡ then o (λ x. some (to_func x.0))
    go none e = unfold read_whole text seq view_as in rw e
    go (some x) e = unfold read_whole text seq view_as in rw e

text_is : (t : List ℕ) → read t ≡ behind (go_on ((lit (bytes "(func") refl).read t) (λ u. func_tail.read))
text_is t = lines_are t ∙ ap behind (func_begins.is t)

module _ {t : List ℕ} where
  pub text_headless : Denied (literal (bytes "(func")) t 0 → read t ≡ none
  unfolding lit
  text_headless n = text_is t ∙ ap (λ (o : Reading (Unit {0})). behind (go_on o (λ u. func_tail.read))) n.is

  module _ {a : ℕ} (p : Took (literal (bytes "(func")) t 0 tt a) where
    behind_head : read t ≡ behind (func_tail.read (drop a t))
    unfolding lit
    behind_head = text_is t ∙ ap (λ (o : Reading (Unit {0})). behind (go_on o (λ u. func_tail.read))) p.is

    pub text_refused : func_tail.read (drop a t) ≡ none → read t ≡ none
    text_refused e = behind_head ∙ ap behind e

    pub text_whole : (b : ℕ) (w : List ℕ) {v : List ℕ} (n : ℕ × (ℕ × (ℕ × ℕ))) → func_tail.read (drop a t) ≡ some (n, drop b t) → v ≡ keep_func_line n w → (r : code.Option CtrlsFit) (m y : List ℕ) → TailIs r t b v m y → TextIs r t w m y
    text_whole b w n h l code.None m y c =
        behind_head ∙ ap behind h ∙ ap (λ (o : Option ((List Const × (List Decl × Regions)) × Unit {0})). then (then o (both_of n)) (λ x. some (to_func x.0))) c
    text_whole b w {v} n h l (code.Some z) m y c =
        let x : List Const × (List Decl × Regions) = (c.consts, (c.params, c.body)) in
        let F = to_func (n, x) in
        let k : with_ops F w ≡ keep_body c.body (folds keep_param c.params (folds keep_const c.consts v)) = words x in
        let e = says_from F.ctrls m k c.says in
        record {
          F = F;
          read_is = behind_head ∙ ap behind h ∙ ap (λ (o : Option ((List Const × (List Decl × Regions)) × Unit {0})). then (then o (both_of n)) (λ x. some (to_func x.0))) c.read;
          func = kept F ∙ sym (func_judged F.ctrls (start (with_ops F w) m)) ∙ e.func;
          opcodes_are = e.opcodes_are;
          edges_are = e.edges_are;
        }
      where
        words : (x : List Const × (List Decl × Regions)) → with_ops (to_func (n, x)) w ≡ keep_body x.1.1 (folds keep_param x.1.0 (folds keep_const x.0 v))
        words x = unfold with_ops with_nodes with_regions with_params with_consts headed in ap (λ (z : List ℕ). keep_body x.1.1 (folds keep_param x.1.0 (folds keep_const x.0 z))) (sym l)

        kept : (F : Func) → keep_func F w ≡ folds keep_ctrl F.ctrls (start (with_ops F w) m).func
        kept F = unfold keep_func with_ops with_nodes with_regions with_params with_consts headed start in refl

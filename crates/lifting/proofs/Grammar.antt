-- The text's printer and its reader are inverse to each other: the law of each form, made as the form is. Assumes nothing.
--     print_of_read, read_of_print, read_exactly     each is the other's inverse
use Rattle.std.specs.Prelude.{◌≡◌, refl, ◌↔◌, ℕ}
use Rattle.std.proofs.Common.{sym, subst, inl, inr}
use mathlib.Core.List.{List, [], ◌∷◌, ◌++◌, cons≢nil}
use Rattle.std.proofs.Math.Option.{some}
use Prim.Native.String.{String}
use Rattle.lifting.specs.Bytes.{bytes}
use Rattle.lifting.specs.Ast.{Region, Func}
use Rattle.lifting.specs.Codec.{Codec, Led, strip, lit, num, seq, view_as, same, alt, many}
use Rattle.lifting.specs.Whole.{end}
use Rattle.lifting.specs.Grammar.{before, after_word, spaced, keyword, sub, closed, line, field, open1, one_codec, two, numbers_codec, decl_codec, decl, decls_codec}
use Rattle.lifting.specs.Grammar.{to_value, of_value, value_to_of, value_of_to, value_form, value_codec, values_codec, imm_codec, imms_codec, inst_form, to_op_kind}
use Rattle.lifting.specs.Grammar.{of_op_kind, op_kind_to_of, op_kind_of_to, op_kind_form, op_kind_codec, to_sel_kind, of_sel_kind, sel_kind_to_of, sel_kind_of_to}
use Rattle.lifting.specs.Grammar.{sel_kind_form, sel_kind, to_kind, of_kind, kind_to_of, kind_of_to, plain_form, plain_apart, kind, entry_codec, entries_codec}
use Rattle.lifting.specs.Grammar.{func_line, const_line, param_line, region_line, block_line, select_line, loop_line, exit_line, to_node, of_node, node_to_of}
use Rattle.lifting.specs.Grammar.{node_of_to, node_form, node_line, op_line, ctrl_line, Nodes, ctrl_lines, op_apart, op_lines, node_apart, node_lines, region_apart}
use Rattle.lifting.specs.Grammar.{region_lines, RestForm, rest_form, to_rest, of_rest, OkRest, rest_lines, param_apart, param_lines, const_apart, const_lines, Fits}
use Rattle.lifting.specs.Grammar.{to_func, of_func, text, opened, print, read}
use Rattle.lifting.proofs.Codec.{Inverse, lit_inverse, num_inverse, seq_inverse, view_inverse, same_inverse, alt_inverse, many_inverse, list_inverse}
use Rattle.lifting.proofs.Whole.{end_inverse, whole_sound, whole_full}

pub before_inverse : {A : Type 0} {C : Codec A} (s : List ℕ) (h : Led s) → Inverse C → Inverse (before s h C)
unfolding before
before_inverse s h c = same_inverse (seq_inverse (lit_inverse s h) c) (λ x. x.1) (λ a. (tt, a)) (λ a. refl) (λ x. refl)

pub after_word_inverse : {A : Type 0} {C : Codec A} → Inverse C → (s : List ℕ) (h : Led s) → Inverse (after_word C s h)
unfolding after_word
after_word_inverse c s h = same_inverse (seq_inverse c (lit_inverse s h)) (λ x. x.0) (λ a. (a, tt)) (λ a. refl) (λ x. refl)

pub spaced_inverse : {A : Type 0} {C : Codec A} → Inverse C → Inverse (spaced C)
unfolding spaced
spaced_inverse c = before_inverse (bytes " ") refl c

pub keyword_inverse : (s : String) → Inverse (keyword s)
unfolding keyword
keyword_inverse s = lit_inverse (bytes " " ++ bytes s) refl

pub sub_inverse : {A : Type 0} {C : Codec A} (s : String) → Inverse C → Inverse (sub s C)
unfolding sub
sub_inverse s c = before_inverse (bytes " (" ++ bytes s) refl c

pub closed_inverse : {A : Type 0} {C : Codec A} → Inverse C → Inverse (closed C)
unfolding closed
closed_inverse c = after_word_inverse c (bytes ")") refl

pub line_inverse : {A : Type 0} {C : Codec A} (s : String) → Inverse C → Inverse (line s C)
unfolding line
line_inverse s c = before_inverse (bytes "(" ++ bytes s) refl (after_word_inverse c (bytes "\n") refl)

pub field_inverse : Inverse field
unfolding field
field_inverse = num_inverse 32 refl

pub open1_inverse : Inverse open1
unfolding open1
open1_inverse = num_inverse 40 refl

pub one_codec_inverse : Inverse one_codec
unfolding one_codec
one_codec_inverse = closed_inverse field_inverse

pub two_inverse : Inverse two
unfolding two
two_inverse = closed_inverse (seq_inverse field_inverse field_inverse)

pub numbers_codec_inverse : Inverse numbers_codec
unfolding numbers_codec field num strip
numbers_codec_inverse = list_inverse field_inverse (bytes ")") refl (λ r. refl)

pub decl_codec_inverse : {C : Codec (ℕ × ℕ)} → Inverse C → Inverse (decl_codec C)
unfolding decl_codec
decl_codec_inverse c = same_inverse c (λ x. record { attrs = x.0; type = x.1 }) (λ d. (d.attrs, d.type)) (λ d. refl) (λ x. refl)

pub decl_inverse : Inverse decl
unfolding decl
decl_inverse = decl_codec_inverse (spaced_inverse (closed_inverse (seq_inverse open1_inverse field_inverse)))

pub decls_codec_inverse : Inverse decls_codec
unfolding decls_codec decl decl_codec spaced before lit seq same view_as strip
decls_codec_inverse = list_inverse decl_inverse (bytes ")") refl (λ r. refl)

pub value_form_inverse : Inverse value_form
unfolding value_form sub before lit seq same view_as alt strip
value_form_inverse =
    alt_inverse (alt_inverse (alt_inverse (sub_inverse "c" one_codec_inverse) (sub_inverse "r" two_inverse) (λ b r. refl)) (sub_inverse "n" two_inverse) (λ b r. refl)) (sub_inverse "d" one_codec_inverse) (λ b r. refl)

pub value_codec_inverse : Inverse value_codec
unfolding value_codec
value_codec_inverse = same_inverse value_form_inverse to_value of_value value_to_of value_of_to

pub values_codec_inverse : Inverse values_codec
unfolding values_codec value_codec value_form sub before lit seq same view_as alt strip
values_codec_inverse = list_inverse value_codec_inverse (bytes ")") refl (λ r. refl)

pub imm_codec_inverse : Inverse imm_codec
unfolding imm_codec
imm_codec_inverse =
    same_inverse (spaced_inverse (closed_inverse (seq_inverse open1_inverse (seq_inverse field_inverse field_inverse)))) (λ x. record { kind = x.0; operand = x.1.0; word = x.1.1 })
    (λ i. (i.kind, (i.operand, i.word))) (λ i. refl) (λ x. refl)

pub imms_codec_inverse : Inverse imms_codec
unfolding imms_codec imm_codec spaced before lit seq same view_as strip
imms_codec_inverse = list_inverse imm_codec_inverse (bytes ")") refl (λ r. refl)

pub inst_form_inverse : Inverse inst_form
unfolding inst_form
inst_form_inverse =
    same_inverse (sub_inverse "inst" (seq_inverse field_inverse imms_codec_inverse)) (λ x. record { opcode = x.0; imms = x.1 }) (λ i. (i.opcode, i.imms)) (λ i. refl) (λ x. refl)

pub op_kind_form_inverse : Inverse op_kind_form
unfolding op_kind_form inst_form sub before lit seq same view_as alt strip
op_kind_form_inverse = alt_inverse (alt_inverse inst_form_inverse (sub_inverse "call" one_codec_inverse) (λ b r. refl)) (sub_inverse "ext" two_inverse) (λ b r. refl)

pub op_kind_codec_inverse : Inverse op_kind_codec
unfolding op_kind_codec
op_kind_codec_inverse = same_inverse op_kind_form_inverse to_op_kind of_op_kind op_kind_to_of op_kind_of_to

pub sel_kind_form_inverse : Inverse sel_kind_form
unfolding sel_kind_form inst_form keyword sub before lit seq same view_as strip
sel_kind_form_inverse = alt_inverse (keyword_inverse "bool") inst_form_inverse (λ b r. refl)

pub sel_kind_inverse : Inverse sel_kind
unfolding sel_kind
sel_kind_inverse = same_inverse sel_kind_form_inverse to_sel_kind of_sel_kind sel_kind_to_of sel_kind_of_to

pub plain_form_inverse : Inverse plain_form
unfolding plain_form keyword sub before lit seq same view_as alt strip
plain_form_inverse =
    alt_inverse (alt_inverse (alt_inverse (keyword_inverse "unreachable") (keyword_inverse "return") (λ b r. refl)) (keyword_inverse "branch") (λ b r. refl))
    (sub_inverse "exit" (closed_inverse inst_form_inverse)) (λ b r. refl)

pub kind_inverse : Inverse kind
unfolding kind
kind_inverse = same_inverse (alt_inverse plain_form_inverse sel_kind_inverse plain_apart) to_kind of_kind kind_to_of kind_of_to

pub entry_codec_inverse : Inverse entry_codec
unfolding entry_codec
entry_codec_inverse = spaced_inverse (seq_inverse open1_inverse values_codec_inverse)

pub entries_codec_inverse : Inverse entries_codec
unfolding entries_codec entry_codec spaced before lit seq same view_as strip
entries_codec_inverse = list_inverse entry_codec_inverse (bytes ")") refl (λ r. refl)

pub func_line_inverse : Inverse func_line
unfolding func_line
func_line_inverse = line_inverse "func" (closed_inverse (seq_inverse field_inverse (seq_inverse field_inverse (seq_inverse field_inverse field_inverse))))

pub const_line_inverse : Inverse const_line
unfolding const_line
const_line_inverse = same_inverse (line_inverse "const" two_inverse) (λ x. record { id = x.0; opcode = x.1 }) (λ c. (c.id, c.opcode)) (λ c. refl) (λ x. refl)

pub param_line_inverse : Inverse param_line
unfolding param_line
param_line_inverse = decl_codec_inverse (line_inverse "param" two_inverse)

pub region_line_inverse : Inverse region_line
unfolding region_line
region_line_inverse =
    same_inverse (line_inverse "region (in" (closed_inverse (seq_inverse decls_codec_inverse (seq_inverse (sub_inverse "nodes" numbers_codec_inverse) (sub_inverse "out" values_codec_inverse)))))
    (λ x. record { ins = x.0; nodes = x.1.0; outs = x.1.1 }) (λ r. (r.ins, (r.nodes, r.outs))) (λ r. refl) (λ x. refl)

pub block_line_inverse : Inverse block_line
unfolding block_line
block_line_inverse = line_inverse "block" numbers_codec_inverse

pub select_line_inverse : Inverse select_line
unfolding select_line
select_line_inverse = line_inverse "select" (closed_inverse (seq_inverse sel_kind_inverse (seq_inverse (seq_inverse value_codec_inverse (seq_inverse (sub_inverse "cases" numbers_codec_inverse) (sub_inverse "outs" decls_codec_inverse))) field_inverse)))

pub loop_line_inverse : Inverse loop_line
unfolding loop_line
loop_line_inverse = line_inverse "loop" (closed_inverse (seq_inverse field_inverse (seq_inverse (seq_inverse value_codec_inverse (sub_inverse "init" values_codec_inverse)) field_inverse)))

pub exit_line_inverse : Inverse exit_line
unfolding exit_line
exit_line_inverse = line_inverse "exit" (seq_inverse inst_form_inverse values_codec_inverse)

pub node_form_inverse : Inverse node_form
unfolding node_form block_line select_line loop_line exit_line line before lit seq same view_as alt strip
node_form_inverse = alt_inverse (alt_inverse (alt_inverse block_line_inverse select_line_inverse (λ b r. refl)) loop_line_inverse (λ b r. refl)) exit_line_inverse (λ b r. refl)

pub node_line_inverse : Inverse node_line
unfolding node_line
node_line_inverse = same_inverse node_form_inverse to_node of_node node_to_of node_of_to

pub op_line_inverse : Inverse op_line
unfolding op_line
op_line_inverse =
    same_inverse (line_inverse "op" (seq_inverse field_inverse (seq_inverse field_inverse (seq_inverse op_kind_codec_inverse values_codec_inverse)))) (λ x. record { attrs = x.0; type = x.1.0; kind = x.1.1.0; operands = x.1.1.1 })
    (λ o. (o.attrs, (o.type, (o.kind, o.operands)))) (λ o. refl) (λ x. refl)

pub ctrl_line_inverse : Inverse ctrl_line
unfolding ctrl_line
ctrl_line_inverse =
    same_inverse (line_inverse "ctrl" (closed_inverse (seq_inverse field_inverse (seq_inverse field_inverse (seq_inverse kind_inverse (seq_inverse (sub_inverse "ins" values_codec_inverse) (seq_inverse (sub_inverse "to" numbers_codec_inverse) (sub_inverse "vals" entries_codec_inverse))))))))
    (λ x. (x.0, record { attrs = x.1.0; kind = x.1.1.0; ins = x.1.1.1.0; to = x.1.1.1.1.0; vals = x.1.1.1.1.1 }))
    (λ c. (c.0, (c.1.attrs, (c.1.kind, (c.1.ins, (c.1.to, c.1.vals)))))) (λ c. refl) (λ x. refl)

pub ctrl_lines_inverse : Inverse ctrl_lines
unfolding ctrl_lines ctrl_line line before lit seq same view_as strip end
ctrl_lines_inverse = many_inverse ctrl_line_inverse end_inverse (λ b r. refl)

pub op_lines_inverse : Inverse op_lines
unfolding op_lines
op_lines_inverse = many_inverse op_line_inverse ctrl_lines_inverse op_apart

pub node_lines_inverse : Inverse node_lines
unfolding node_lines
node_lines_inverse = many_inverse node_line_inverse op_lines_inverse node_apart

pub region_lines_inverse : Inverse region_lines
unfolding region_lines
region_lines_inverse = many_inverse region_line_inverse node_lines_inverse region_apart

pub rest_form_inverse : Inverse rest_form
unfolding rest_form region_line line before lit seq same view_as strip end
rest_form_inverse = alt_inverse (seq_inverse (lit_inverse (bytes "(imported)\n") refl) end_inverse) (seq_inverse region_line_inverse region_lines_inverse) (λ b r. refl)

-- the laws that `rest_lines` and `text` rest on
pub rest_to_of : (rs : List Region) (x : Nodes) → OkRest (rs, x) → rest_form.Ok (of_rest rs x) × (to_rest (of_rest rs x) ≡ (rs, x))
unfolding rest_form alt seq lit end region_lines many
rest_to_of [] x ok = let a = ok.1 refl in ((tt, tt), λ i. ([], (sym a.0 i, (sym a.1 i, (sym a.2 i, tt)))))
rest_to_of (r ∷ rs) x ok = ((ok.0.0.0, (ok.0.0.1, ok.0.1)), refl)

pub rest_of_to : (x : RestForm) → rest_form.Ok x → OkRest (to_rest x) × (of_rest (to_rest x).0 (to_rest x).1 ≡ x)
unfolding rest_form alt seq lit end region_lines node_lines op_lines ctrl_lines many
rest_of_to (inl _) ok = (((tt, (tt, (tt, (tt, tt)))), λ e. (refl, refl, refl)), refl)
rest_of_to (inr x) ok =
    ((((ok.0, ok.1.0), ok.1.1), λ e. absurd (cons≢nil e)), refl)

pub rest_lines_inverse : Inverse rest_lines
unfolding rest_lines
rest_lines_inverse = view_inverse rest_form_inverse to_rest (λ x. of_rest x.0 x.1) OkRest (λ x. rest_to_of x.0 x.1) rest_of_to

pub param_lines_inverse : Inverse param_lines
unfolding param_lines
param_lines_inverse = many_inverse param_line_inverse rest_lines_inverse param_apart

pub const_lines_inverse : Inverse const_lines
unfolding const_lines
const_lines_inverse = many_inverse const_line_inverse param_lines_inverse const_apart

-- the whole text
pub text_inverse : Inverse text
unfolding text const_lines param_lines rest_lines region_lines node_lines op_lines ctrl_lines seq view_as many end
text_inverse =
    view_inverse (seq_inverse func_line_inverse const_lines_inverse) to_func of_func Fits
    (λ f ok. ((ok.func, (ok.consts, (ok.params, ((ok.regions, (ok.nodes, (ok.ops, (ok.ctrls, tt)))), ok.alone)))), refl))
    (λ x ok. (
      record {
        func = ok.0;
        consts = ok.1.0;
        params = ok.1.1.0;
        regions = ok.1.1.1.0.0;
        nodes = ok.1.1.1.0.1.0;
        ops = ok.1.1.1.0.1.1.0;
        ctrls = ok.1.1.1.0.1.1.1.0;
        alone = ok.1.1.1.1;
      },
      refl,
    ))

pub opened_inverse : Inverse opened
unfolding opened
opened_inverse = text_inverse

-- what is read is the printed text of a function that fits, and the text of every function that fits is read
pub print_of_read : (t : List ℕ) (f : Func) → read t ≡ some f → (t ≡ print f) × Fits f
unfolding print read opened text view_as
print_of_read t f e = whole_sound text_inverse t f e

pub read_of_print : (f : Func) → Fits f → read (print f) ≡ some f
unfolding print read opened text view_as
read_of_print f ok = whole_full text_inverse f ok

-- so a function is read from its printed text and from no other
pub read_exactly : (t : List ℕ) (f : Func) → (read t ≡ some f) ↔ ((print f ≡ t) × Fits f)
read_exactly t f =
    (λ e. let p = print_of_read t f e in (sym p.0, p.1), λ p. subst (λ (l : List ℕ). read l ≡ some f) p.0 (read_of_print f p.1))

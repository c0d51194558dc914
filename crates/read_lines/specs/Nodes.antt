-- A node's line is told by its opening word, one of four. Assumes nothing.
--     node_head, node_tail     the opening word, and what follows it
--     node_begins            the grammar's line is the one and then the other
use Rattle.std.specs.Prelude.{◌≡◌, refl, List, ◌++◌, ◌⊎◌, ℕ}
use Rattle.std.proofs.Common.{ap, ◌∙◌, inl, inr}
use Rattle.std.proofs.Math.Option.{none, some}
use Rattle.lifting.specs.Bytes.{bytes}
use Rattle.lifting.specs.Digits.{Reading}
use Rattle.lifting.specs.Codec.{Codec, then, then_then, both_of, second, up, strip, lit, seq, view_as, same, alt}
use Rattle.lifting.specs.Ast.{Value, Imm, Inst, SelectionKind, Decl, Node, exit}
use Rattle.lifting.specs.Grammar.{before, closed, line, field, numbers_codec, values_codec, imms_codec, inst_form, sel_kind, block_line, select_line, loop_line, exit_line, node_form, node_line}
use Rattle.lifting.proofs.Codec.{Inverse, alt_inverse, lit_inverse, same_inverse}
use Rattle.read_cursor.specs.Begins.{go_on, Begins, one_rest, begins_alt}
use Rattle.read_insts.specs.Heads.{inst_head, inst_rest, inst_begins, selection_head, selection_rest, selection_begins}
use Rattle.read_insts.specs.declared.Selection.{Selection}
use Rattle.read_insts.specs.declared.Selection.TheVariants as sel
use Rattle.read_lines.specs.declared.NodeWord.{NodeWord}
use Rattle.read_lines.specs.declared.NodeWord.TheVariants.{Block, Select, Loop, Exit}
use Rattle.read_lines.specs.Tails.{ended_by, begins_line, begins_alike, last_alike, last_seq, ended_seq, second_alike, block_tail, control, controlled, loop_lists, to_loop, loop_tail, inst_values, exit_tail, to_exit, select_forms, select_lists, to_select, select_rest, select_tail}

abbrev pub Words : Type 0
Words = ((Unit {0} ⊎ Unit {0}) ⊎ Unit {0}) ⊎ Unit {0}

abbrev to_word : Words → NodeWord
to_word (inl (inl (inl _))) = Block
to_word (inl (inl (inr _))) = Select
to_word (inl (inr _)) = Loop
to_word (inr _) = Exit

abbrev of_word : NodeWord → Words
of_word Block = inl (inl (inl tt))
of_word Select = inl (inl (inr tt))
of_word Loop = inl (inr tt)
of_word Exit = inr tt

pub word_to_of : (w : NodeWord) → to_word (of_word w) ≡ w
word_to_of Block = refl
word_to_of Select = refl
word_to_of Loop = refl
word_to_of Exit = refl

pub word_of_to : (x : Words) → of_word (to_word x) ≡ x
word_of_to (inl (inl (inl _))) = refl
word_of_to (inl (inl (inr _))) = refl
word_of_to (inl (inr _)) = refl
word_of_to (inr _) = refl

unfoldable pub word_form : Codec Words
unfolding lit alt strip
word_form =
    alt (alt (alt (lit (bytes "(block") refl) (lit (bytes "(select") refl) (λ b r. refl)) (lit (bytes "(loop") refl) (λ b r. refl)) (lit (bytes "(exit") refl)
    (λ b r. refl)

unfoldable pub node_head : Codec NodeWord
node_head = same word_form to_word of_word word_to_of word_of_to

pub node_head_inverse : Inverse node_head
unfolding node_head word_form lit alt strip
node_head_inverse =
    same_inverse
    (alt_inverse (alt_inverse (alt_inverse (lit_inverse (bytes "(block") refl) (lit_inverse (bytes "(select") refl) (λ b r. refl)) (lit_inverse (bytes "(loop") refl) (λ b r. refl)) (lit_inverse (bytes "(exit") refl) (λ b r. refl))
    to_word of_word word_to_of word_of_to

abbrev pub node_tail : NodeWord → List ℕ → Reading Node
node_tail Block = block_tail
node_tail Select = select_tail
node_tail Loop = loop_tail
node_tail Exit = exit_tail

abbrev inst_of : ℕ → List Imm → Inst
inst_of n is = record { opcode = n; imms = is }

-- lists behind a head, and the control number last
lists_alike : {A B : Type 0} (C : Codec A) (L : Codec B) (t : List ℕ) → (ended_by (closed (seq C (seq L field)))).read t ≡ (seq C (seq L control)).read t
unfolding control
lists_alike C L t = last_alike (seq C (seq L field)) t ∙ last_seq C (seq L field) t ∙ second_alike C _ _ (last_seq L field) t

-- each line behind its word, as the fields alone
select_begins : Begins select_line (lit (bytes "(select") refl) (λ u. (seq sel_kind (seq select_lists control)).read)
unfolding select_line select_lists select_forms
select_begins = begins_alike (begins_line "select" (closed (seq sel_kind (seq select_lists field)))) (λ u. lists_alike sel_kind select_lists)

loop_begins : Begins loop_line (lit (bytes "(loop") refl) (λ u. (seq field (seq loop_lists control)).read)
unfolding loop_line loop_lists
loop_begins = begins_alike (begins_line "loop" (closed (seq field (seq loop_lists field)))) (λ u. lists_alike field loop_lists)

exit_begins : Begins exit_line (lit (bytes "(exit") refl) (λ u. (seq inst_form (ended_by values_codec)).read)
unfolding exit_line
exit_begins = begins_alike (begins_line "exit" (seq inst_form values_codec)) (λ u. ended_seq inst_form values_codec)

form_begins : Begins node_form word_form
    (one_rest (one_rest (one_rest (λ u. (ended_by numbers_codec).read) (λ u. (seq sel_kind (seq select_lists control)).read)) (λ u. (seq field (seq loop_lists control)).read)) (λ u. (seq inst_form (ended_by values_codec)).read))
unfolding node_form word_form block_line select_line loop_line exit_line line before lit seq same view_as alt strip
form_begins =
    begins_alt (λ b r. refl) (λ b r. refl) (alt_inverse (alt_inverse (lit_inverse (bytes "(block") refl) (lit_inverse (bytes "(select") refl) (λ b r. refl)) (lit_inverse (bytes "(loop") refl) (λ b r. refl))
    (begins_alt (λ b r. refl) (λ b r. refl) (alt_inverse (lit_inverse (bytes "(block") refl) (lit_inverse (bytes "(select") refl) (λ b r. refl))
    (begins_alt (λ b r. refl) (λ b r. refl) (lit_inverse (bytes "(block") refl) (begins_line "block" numbers_codec) select_begins (λ x r. refl))
    loop_begins first)
    exit_begins second
  where
    first : (x : Unit {0} ⊎ Unit {0}) (r : List ℕ) → loop_line.read ((alt (lit (bytes "(block") refl) (lit (bytes "(select") refl) (λ b r. refl)).print x ++ r) ≡ none
    first (inl _) r = refl
    first (inr _) r = refl

    second : (x : (Unit {0} ⊎ Unit {0}) ⊎ Unit {0}) (r : List ℕ)
        → exit_line.read ((alt (alt (lit (bytes "(block") refl) (lit (bytes "(select") refl) (λ b r. refl)) (lit (bytes "(loop") refl) (λ b r. refl)).print x ++ r) ≡ none
    second (inl (inl _)) r = refl
    second (inl (inr _)) r = refl
    second (inr _) r = refl

-- the fields as a node: what follows the word
abbrev as_select : SelectionKind × ((Value × (List ℕ × List Decl)) × ℕ) → Node
as_select x = to_select x.0 x.1.0 x.1.1

select_as : (t : List ℕ) → then ((seq sel_kind (seq select_lists control)).read t) (up as_select) ≡ select_tail t
unfolding seq
select_as t = ap (λ (o : Reading SelectionKind). then (then o (second sel_kind (seq select_lists control))) (up as_select)) (selection_begins.is t) ∙ go (selection_head.read t)
  where
    go : (o : Reading Selection) → then (then (go_on o selection_rest) (second sel_kind (seq select_lists control))) (up as_select) ≡ go_on o (λ k t. controlled (select_rest k t))
    go none = refl
    go (some (sel.Bool, u)) = simp then_then
    go (some (sel.Inst n, u)) = simp then_then

loop_as : (t : List ℕ) → then ((seq field (seq loop_lists control)).read t) (up (λ x. to_loop x.0 x.1.0 x.1.1))
    ≡ then (field.read t) (λ r. then (loop_lists.read r.1) (λ x. then (control.read x.1) (up (to_loop r.0 x.0))))
unfolding seq
loop_as t = simp then_then

exit_as : (t : List ℕ) → then ((seq inst_form (ended_by values_codec)).read t) (up (λ x. exit x.0 x.1)) ≡ exit_tail t
unfolding seq inst_values
exit_as t = ap (λ (o : Reading Inst). then (then o (second inst_form (ended_by values_codec))) (up (λ x. exit x.0 x.1))) (inst_begins.is t) ∙ go (inst_head.read t)
  where
    by_values : (n : ℕ) (is : List Imm) (o : Reading (List Value)) → then (then o (both_of (inst_of n is))) (up (λ x. exit x.0 x.1))
        ≡ then (then (then o (both_of is)) (both_of n)) (up to_exit)
    by_values n is none = refl
    by_values n is (some y) = refl

    by_imms : (n : ℕ) (o : Reading (List Imm)) → then (then (then {B = Inst × List ℕ} o (λ x. some (inst_of n x.0, x.1))) (second inst_form (ended_by values_codec))) (up (λ x. exit x.0 x.1))
        ≡ then (then (then o (second imms_codec (ended_by values_codec))) (both_of n)) (up to_exit)
    by_imms n none = refl
    by_imms n (some y) = by_values n y.0 ((ended_by values_codec).read y.1)

    go : (o : Reading ℕ) → then (then (go_on o inst_rest) (second inst_form (ended_by values_codec))) (up (λ x. exit x.0 x.1)) ≡ then (then o (second inst_head (seq imms_codec (ended_by values_codec)))) (up to_exit)
    go none = refl
    go (some (n, u)) = by_imms n (imms_codec.read u)

pub node_begins : Begins node_line node_head node_tail
unfolding node_line node_head same view_as
node_begins = record { is = λ t. go t (word_form.read t) refl }
  where
    go : (t : List ℕ) (o : Reading Words) → word_form.read t ≡ o → node_line.read t ≡ go_on (node_head.read t) node_tail
    go t none e = rw (form_begins.is t, e)
    go t (some (inl (inl (inl _)), u)) e = rw (form_begins.is t, e) (simp then_then)
    go t (some (inl (inl (inr _)), u)) e = rw (form_begins.is t, e) (simp then_then (select_as u))
    go t (some (inl (inr _), u)) e = rw (form_begins.is t, e) (simp then_then (loop_as u))
    go t (some (inr _, u)) e = rw (form_begins.is t, e) (simp then_then (exit_as u))

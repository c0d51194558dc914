-- What the proofs of this crate cite, over plain variables.
--     stores_no              an answer that is known to be nothing
--     entry-..               an entry
--     lines-..               the lines, and then the end of the text
use mathlib.Core.Path.{◌≡◌, refl, sym, ap, subst, ◌∙◌}
use mathlib.Core.Bool.{Bool, true, false, ◌&&◌}
use mathlib.Core.List.{List}
use mathlib.Core.Option.{none}
use Prim.Native.Nat.{ℕ, suc, ◌+◌}
use lib.Dec.{eqb}
use lib.ListN.{length, drop}
use Rattle.lifting.specs.Bytes.{bytes}
use Rattle.lifting.specs.Digits.{Reading}
use Rattle.lifting.specs.Codec.{seq}
use Rattle.lifting.specs.Whole.{end}
use Rattle.lifting.specs.Ast.{ControlInst}
use Rattle.lifting.specs.Grammar.{spaced, open1, values_codec, entry_codec, ctrl_lines}
use Rattle.std.specs.Prelude as code
use Rattle.read_cursor.specs.Read.{TextEnded, literal}
use Rattle.read_cursor.specs.Answers.{Reached, Missed}
use Rattle.read_cursor.specs.Chains.{before_missed, before_open, before_reached, seq_misses, seq_open, seq_reads}
use Rattle.read_cursor.specs.declared.Cursor.{Cursor}
use Rattle.func.specs.Layout as layout
use Rattle.func.specs.Store.{count, folds}
use Rattle.func.specs.Keep.{keep_value}
use Rattle.func.specs.Rows.{marks_of, entry_row, keep_entry_is}
use Rattle.func.specs.declared.Marks.{Marks}
use Rattle.read_lines.specs.Stores.{Stored}
use Rattle.read_lines.specs.Lines.{PassedOn, passed_some, passed_none}
use Rattle.check_ctrls.specs.declared.Judged.{Judged}
use Rattle.check_edges.specs.Edges.{ins_of, mark_entry, entry_fits, Edges, keep_edge}
use Rattle.read_ctrls.specs.Judge.{State, keep_judged, start}
use Rattle.read_ctrls.specs.Answers.{StoresWith, edges_state, state_at}
use Rattle.read_ctrls.specs.Whole.{LinesAre, CtrlLines}

-- an answer that is known to be nothing, as `?` gives it back
pub stores_no : {A B S : Type 0} {read : List ℕ → Reading A} (f : A → S → S) {c : Cursor} {found : code.Option (B × Cursor)} (w : S) (after : B → S) → found ≡ code.None → Missed read c → StoresWith read f c found w after
stores_no {B = B} {read = read} f {c} w after e p = subst (λ (o : code.Option (B × Cursor)). StoresWith read f c o w after) (sym e) p

pub lines_no : (from : Cursor) (w m v n : List ℕ) {found : code.Option (Judged × Cursor)} → found ≡ code.None → ctrl_lines.read (drop from.at from.text.now) ≡ none → LinesAre found from w m v n
lines_no from w m v n e p = subst (λ (o : code.Option (Judged × Cursor)). LinesAre o from w m v n) (sym e) p

-- the same text is as long
pub text_kept : (c d : Cursor) → d.text ≡ c.text → length d.text.now ≡ length c.text.now
text_kept c d e = ap (λ z. length z.now) e

-- a line is counted
pub line_number : {read : List ℕ → Reading (ℕ × ControlInst)} {c d : Cursor} {x y : State} → Stored read keep_judged c d x y → y.line ≡ suc x.line
unfolding keep_judged
line_number s = ap (λ (z : State). z.line) s.kept

-- how long the words of a state are
abbrev pub edges_length : Edges → ℕ
edges_length s = length s.func

abbrev pub state_length : State → ℕ
state_length s = length s.func

-- an entry
module _ {c b : Cursor} (p : Reached (literal (bytes " ")) c tt b) where
  pub entry_unnamed : Missed open1.read b → Missed entry_codec.read c
  unfolding entry_codec spaced
  entry_unnamed q = before_open (bytes " ") refl (seq open1 values_codec) p (seq_misses open1 values_codec q)

  module _ {r : ℕ} {e : Cursor} (q : Reached open1.read b r e) where
    pub entry_missed : Missed values_codec.read e → Missed entry_codec.read c
    unfolding entry_codec spaced
    entry_missed s = before_open (bytes " ") refl (seq open1 values_codec) p (seq_open open1 values_codec q s)

    pub entry_stored : (line : ℕ) {w m u v n : List ℕ} {fit f : Bool} {d : Cursor} {k : Marks} → Stored values_codec.read (folds keep_value) e d w u → k ≡ marks_of w
        → f ≡ (fit && eqb (k.values + ins_of u r) (count layout.values u)) → v ≡ entry_row k r u → n ≡ mark_entry line r m
        → Stored entry_codec.read (keep_edge line) c d (edges_state w m fit) (edges_state v n f)
    unfolding entry_codec spaced keep_edge entry_fits
    entry_stored line {w} {m} {u} {v} {n} {fit} {f} {d} {k} s e g h l =
        record {
          value = (r, s.value);
          reached = before_reached (bytes " ") refl (seq open1 values_codec) p (seq_reads open1 values_codec q s.reached);
          kept = sym (λ i.
              record {
                func = (keep_entry_is (r, s.value) w ∙ ap (entry_row (marks_of w) r) (sym s.kept) ∙ ap (λ (k : Marks). entry_row k r u) (sym e) ∙ sym h) i;
                marks = sym l i;
                fit = (ap (λ (u : List ℕ). fit && eqb (count layout.values w + ins_of u r) (count layout.values u)) (sym s.kept)
                    ∙ ap (λ (k : Marks). fit && eqb (k.values + ins_of u r) (count layout.values u)) (sym e)
                    ∙ sym g) i;
              });
        }

pub entry_unopened : {c : Cursor} → Missed (literal (bytes " ")) c → Missed entry_codec.read c
unfolding entry_codec spaced
entry_unopened p = before_missed (bytes " ") refl (seq open1 values_codec) p

-- the lines, and then the end of the text
module _ {from c : Cursor} (w m v n : List ℕ) {j : Judged} (p : PassedOn ctrl_lines end keep_judged from (start w m) c (state_at v n j)) (b : Bool) (h : TextEnded b c.text.now c.at) where
  here : TextEnded b from.text.now c.at
  here = subst (λ (z : List ℕ). TextEnded b z c.at) (ap (λ z. z.now) p.same_text) h

  pub lines_more : b ≡ false → ctrl_lines.read (drop from.at from.text.now) ≡ none
  lines_more e = passed_none p.passed (subst (λ (b : Bool). TextEnded b from.text.now c.at) e here)

  pub lines_whole : b ≡ true → CtrlLines j.opcodes j.edges from.text.now from.at w m v
  lines_whole e =
      let x = passed_some p.passed tt (subst (λ (b : Bool). TextEnded b from.text.now c.at) e here) in
      record {
        lines = x.0;
        read = x.1;
        func = ap (λ (s : State). s.func) x.2;
        opcodes_are = ap (λ (s : State). s.opcodes) x.2;
        edges_are = ap (λ (s : State). s.edges) x.2;
      }

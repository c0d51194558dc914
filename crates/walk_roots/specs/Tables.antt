-- Tables of the work slice, with a word for each of 128 regions: ctrl lines, marks of children, and marks of the walk. Assumes nothing.
--     blank-..       words that are 0
--     marked-..      marks that are set one after the other, and what they say
--     line_none, line_here, line_known     what the word of a region says of its ctrl line
--     line_words_more, once_more     the table of ctrl lines, filled from the last line to the first
use Rattle.std.specs.Prelude.{◌≡◌, refl, Bool, true, false, cond, not, ◌&&◌, Option, Some, None, SomeIff, List, [], ◌∷◌, ℕ, suc, ◌+◌, ◌-◌, ◌≤◌, ◌<◌, eqb, length, get_or, set, drop}
use Rattle.std.proofs.Common.{sym, ap, subst, ◌∙◌, add-one, arith, drop-cons, get_or-set_same, get_or-set_other, ne_eqb}
use Rattle.std.proofs.Math.Option.{none, some}
use Rattle.std.proofs.Math.Decide.{ℕ_discrete}
use Rattle.std.proofs.Math.Seq.{drop-length}
use Rattle.general_laws.specs.Lists.{choose, choose_yes, choose_no, find, within, distinct, keys}
use Rattle.lifting.specs.Ast.{unreachable, ControlInst, Func}
use Rattle.lifting.specs.Parts.{node_of, children_of, ctrl_of}
use Rattle.func.specs.Tables.{ctrl_line_of}
use Rattle.func.specs.Search.{CtrlHere, CtrlIs}
use Rattle.work.specs.Layout.{lines_at, children_at, tables_end, marks_at}
use Rattle.general_laws.specs.Tests.{split}
use Rattle.work.specs.Aside.{Aside, Cleared}

-- Children, ctrl lines and targets name regions, of which there are at most 128.
pub record RegionsNamed (F : Func) : Type 0 where
  pub few : length F.regions ≤ 128
  pub child : (n i : ℕ) → n < length F.nodes → i < length (children_of (node_of F n)) → get_or (children_of (node_of F n)) i 0 < length F.regions
  pub line : (c : ℕ) → c < length F.ctrls → (ctrl_line_of F c).0 < length F.regions
  pub target : (c i : ℕ) → c < length F.ctrls → i < length (ctrl_line_of F c).1.to → get_or (ctrl_line_of F c).1.to i 0 < length F.regions

-- what a number that names no line stands for
abbrev pub no_line : ℕ × ControlInst
no_line = (0, record { attrs = 0; kind = unreachable; ins = []; to = []; vals = [] })

-- the words of the three tables are 0
pub record TablesBlank (w : List ℕ) : Type 0 where
  pub word : (x : ℕ) → lines_at ≤ x → x < tables_end → get_or w x 0 ≡ 0

-- the word of a region in a list of lines whose numbers begin at i: 0 where it has none, else 1 + the number of its first
abbrev pub line_word : {A : Type 0} → ℕ → ℕ → List (ℕ × A) → ℕ
line_word r i [] = 0
line_word r i (x ∷ l) = choose (ℕ_discrete r x.0) (suc i) (line_word r (suc i) l)

-- the table of the ctrl lines from line i on
abbrev pub LinesFrom : Func → ℕ → List ℕ → Type 0
LinesFrom F i w = (r : ℕ) → r < 128 → get_or w (lines_at + r) 0 ≡ line_word r i (drop i F.ctrls)

-- the table of all ctrl lines
pub record Indexed (F : Func) (w : List ℕ) : Type 0 where
  pub line : (r : ℕ) → r < 128 → get_or w (lines_at + r) 0 ≡ line_word r 0 F.ctrls

-- the table at word b has the mark 1 for each region of a list, and 0 for the others
pub record RegionsMarked (b : ℕ) (l w : List ℕ) : Type 0 where
  pub mark : (x : ℕ) → x < 128 → get_or w (b + x) 0 ≡ cond (within x l) 1 0

-- ---- words that are 0

pub blank_cleared : {w u : List ℕ} → Cleared lines_at tables_end w u → TablesBlank u
blank_cleared k = record { word = k.blank }

module _ {w : List ℕ} (k : TablesBlank w) where
  pub blank_marked : (b : ℕ) → lines_at ≤ b → b + 128 ≤ tables_end → RegionsMarked b [] w
  blank_marked b a l = record { mark = λ x h. k.word (b + x) (omega arith) (omega arith) }

  pub blank_lines : (F : Func) → LinesFrom F (length F.ctrls) w
  blank_lines F r h = k.word (lines_at + r) (omega arith) (omega arith) ∙ ap (line_word r (length F.ctrls)) (sym (drop-length F.ctrls))

-- ---- marks

-- marks stay where a table before theirs is filled
pub marked_aside : {a c b : ℕ} {l w u : List ℕ} → RegionsMarked b l w → Aside a c w u → c ≤ b → RegionsMarked b l u
marked_aside {b = b} k s h = record { mark = λ x g. s.after (b + x) (omega arith) ∙ k.mark x g }

pub marked_more : {b : ℕ} {l w : List ℕ} → RegionsMarked b l w → (r : ℕ) → r < 128 → b + r < length w → RegionsMarked b (r ∷ l) (set w (b + r) 1)
marked_more {b} {l} {w} k r h z = record {
  mark = λ x g. split (ℕ_discrete x r)
      (λ e.
      ap (λ (y : ℕ). get_or (set w (b + r) 1) (b + y) 0) e
      ∙ get_or-set_same w (b + r) 1 0 z
      ∙ sym (ap (λ (t : Bool). cond t 1 0) (choose_yes (ℕ_discrete x r) true (within x l) e)))
      (λ e. get_or-set_other w (b + r) (b + x) 1 0 (λ y. e (omega arith)) ∙ k.mark x g ∙ sym (ap (λ (t : Bool). cond t 1 0) (choose_no (ℕ_discrete x r) true (within x l) e)));
}

-- what a mark says
module _ {b : ℕ} {l w : List ℕ} (k : RegionsMarked b l w) (x : ℕ) (h : x < 128) where
  pub marked_not : get_or w (b + x) 0 ≡ 0 → within x l ≡ false
  marked_not e = go (within x l) (sym (k.mark x h) ∙ e)
    where
      go : (t : Bool) → cond {A = ℕ} t 1 0 ≡ 0 → t ≡ false
      go true y = absurd (omega arith)
      go false y = refl

  pub marked_is : (get_or w (b + x) 0 ≡ 0 → ⊥) → within x l ≡ true
  marked_is e = go (within x l) (λ y. e (k.mark x h ∙ y))
    where
      go : (t : Bool) → (cond {A = ℕ} t 1 0 ≡ 0 → ⊥) → t ≡ true
      go true y = refl
      go false y = absurd (y refl)

-- ---- ctrl lines by region

pub drop_one : {A : Type 0} (l : List A) (i : ℕ) (d : A) → i < length l → drop i l ≡ get_or l i d ∷ drop (i + 1) l
drop_one {A} l i d h = drop-cons l i d h ∙ ap (λ (k : ℕ). get_or l i d ∷ drop k l) (sym (add-one i))

module _ {A : Type 0} (r : ℕ) where
  -- no line
  none_find : (i : ℕ) (l : List (ℕ × A)) → line_word r i l ≡ 0 → find ℕ_discrete r l ≡ none
  none_find i [] e = refl
  none_find i (x ∷ l) e = go (ℕ_discrete r x.0) e (none_find (suc i) l)
    where
      go : (d : Dec (r ≡ x.0)) → choose d (suc i) (line_word r (suc i) l) ≡ 0 → (line_word r (suc i) l ≡ 0 → find ℕ_discrete r l ≡ none)
          → choose d (some x.1) (find ℕ_discrete r l) ≡ none
      go (yes q) e k = absurd (omega arith)
      go (no q) e k = k e

  line_within : (i : ℕ) (l : List (ℕ × A)) → within r (keys l) ≡ not (eqb (line_word r i l) 0)
  line_within i [] = refl
  line_within i (x ∷ l) = go (ℕ_discrete r x.0) (line_within (suc i) l)
    where
      go : (d : Dec (r ≡ x.0)) → within r (keys l) ≡ not (eqb (line_word r (suc i) l) 0) → choose d true (within r (keys l)) ≡ not (eqb (choose d (suc i) (line_word r (suc i) l)) 0)
      go (yes q) k = sym (ap not (ne_eqb (suc i) 0 (λ e. omega arith)))
      go (no q) k = k

  -- line c, whose place in a list of lines that begin at line i is `at`
  record Found (i c : ℕ) (l : List (ℕ × A)) (d : ℕ × A) : Type 0 where
    at : ℕ
    is : c ≡ i + at
    below : at < length l
    region : (get_or l at d).0 ≡ r
    first : find ℕ_discrete r l ≡ some (get_or l at d).1

  line_found : (i c : ℕ) (l : List (ℕ × A)) (d : ℕ × A) → line_word r i l ≡ suc c → Found i c l d
  line_found i c [] d e = absurd (omega arith)
  line_found i c (x ∷ l) d e = go (ℕ_discrete r x.0) e (line_found (suc i) c l d)
    where
      go : (q : Dec (r ≡ x.0)) → choose q (suc i) (line_word r (suc i) l) ≡ suc c → (line_word r (suc i) l ≡ suc c → Found (suc i) c l d) → Found i c (x ∷ l) d
      go (yes y) e k = record {
        at = 0;
        is = omega arith;
        below = omega arith;
        region = sym y;
        first = choose_yes (ℕ_discrete r x.0) (some x.1) (find ℕ_discrete r l) y;
      }
      go (no y) e k =
          let f = k e in
          record {
            at = suc f.at;
            is = omega (arith, f.is);
            below = omega (arith, f.below);
            region = f.region;
            first = choose_no (ℕ_discrete r x.0) (some x.1) (find ℕ_discrete r l) y ∙ f.first;
          }

-- marks of children leave the table
pub indexed_aside : {F : Func} {w u : List ℕ} → Indexed F w → Aside children_at marks_at w u → Indexed F u
indexed_aside k s = record { line = λ r h. s.before (lines_at + r) (omega arith) ∙ k.line r h }

-- what the whole table says of region r
module _ {F : Func} {w : List ℕ} (k : Indexed F w) (r : ℕ) (h : r < 128) where
  pub line_none : get_or w (lines_at + r) 0 ≡ 0 → ctrl_of F r ≡ none
  line_none e = none_find r 0 F.ctrls (sym (k.line r h) ∙ e)

  pub line_here : (c : ℕ) → get_or w (lines_at + r) 0 ≡ suc c → CtrlHere F r c
  line_here c e =
      let f = line_found r 0 c F.ctrls no_line (sym (k.line r h) ∙ e) in
      let q : f.at ≡ c = omega (arith, f.is) in
      subst (CtrlHere F r) q (record { below = f.below; region = f.region; is = f.first })

  -- the number of its line is one less than its word
  pub line_is : {v : ℕ} → v ≡ get_or w (lines_at + r) 0 → (x : Option ℕ) → SomeIff x (1 ≤ v) (v - 1) → CtrlIs x F r
  line_is e None g = line_none (sym e ∙ omega arith)
  line_is {v} e (Some c) g = line_here c (sym e ∙ omega arith)

  pub line_known : within r (keys F.ctrls) ≡ not (eqb (get_or w (lines_at + r) 0) 0)
  line_known = line_within r 0 F.ctrls ∙ ap (λ (v : ℕ). not (eqb v 0)) (sym (k.line r h))

-- the table is filled from the last line to the first
module _ (F : Func) (w : List ℕ) (i : ℕ) (h : i < length F.ctrls) (k : LinesFrom F (i + 1) w) (low : (ctrl_line_of F i).0 < 128) where
  pub line_words_more : tables_end ≤ length w → LinesFrom F i (set w (lines_at + (ctrl_line_of F i).0) (i + 1))
  line_words_more z r l =
      split (ℕ_discrete r (ctrl_line_of F i).0)
      (λ e.
      ap (λ (y : ℕ). get_or (set w (lines_at + (ctrl_line_of F i).0) (i + 1)) (lines_at + y) 0) e
      ∙ get_or-set_same w (lines_at + (ctrl_line_of F i).0) (i + 1) 0 (omega arith)
      ∙ add-one i
      ∙ sym (choose_yes (ℕ_discrete r (ctrl_line_of F i).0) (suc i) (line_word r (suc i) (drop (i + 1) F.ctrls)) e)
      ∙ ap (line_word r i) (sym (drop_one F.ctrls i no_line h)))
      (λ e.
      get_or-set_other w (lines_at + (ctrl_line_of F i).0) (lines_at + r) (i + 1) 0 (λ y. e (omega arith))
      ∙ k r l
      ∙ ap (λ (y : ℕ). line_word r y (drop (i + 1) F.ctrls)) (add-one i)
      ∙ sym (choose_no (ℕ_discrete r (ctrl_line_of F i).0) (suc i) (line_word r (suc i) (drop (i + 1) F.ctrls)) e)
      ∙ ap (line_word r i) (sym (drop_one F.ctrls i no_line h)))

  -- and a region that has a later line has two
  pub once_more : distinct (keys (drop i F.ctrls)) ≡ (eqb (get_or w (lines_at + (ctrl_line_of F i).0) 0) 0 && distinct (keys (drop (i + 1) F.ctrls)))
  once_more =
      ap (λ (l : List (ℕ × ControlInst)). distinct (keys l)) (drop_one F.ctrls i no_line h)
      ∙ ap (λ (b : Bool). not b && distinct (keys (drop (i + 1) F.ctrls))) (line_within (ctrl_line_of F i).0 (i + 1) (drop (i + 1) F.ctrls))
      ∙ twice (eqb (line_word (ctrl_line_of F i).0 (i + 1) (drop (i + 1) F.ctrls)) 0)
      ∙ ap (λ (v : ℕ). eqb v 0 && distinct (keys (drop (i + 1) F.ctrls))) (sym (k (ctrl_line_of F i).0 low))
    where
      twice : (b : Bool) → (not (not b) && distinct (keys (drop (i + 1) F.ctrls))) ≡ (b && distinct (keys (drop (i + 1) F.ctrls)))
      twice true = refl
      twice false = refl

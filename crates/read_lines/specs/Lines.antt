-- Lines of one kind after the other: a loop reads and stores those of one kind, and what is still to be stored of the text from where it ends is
-- what was to be stored from where it began, with these lines stored. Assumes nothing.
--     lines_in                  what a text holds from a place to its end, with the lines of one kind stored
--     Kind, kind_of_law            a line of the kind is told by its head, with which no later line begins
--     LinesPassed, Lined            the lines of a kind are over, or one of them is wrong
--     passed_some, passed_none the lines and the rest are read exactly if the rest is
--     Going, going-..          the head of the loop
use Rattle.std.specs.Prelude.{◌≡◌, List, [], ◌++◌, ℕ, ◌≤◌, length, drop}
use Rattle.std.proofs.Math.Path.{refl, ap}
use Rattle.std.proofs.Common.{sym, ◌∙◌, arith}
use Rattle.std.proofs.Math.Option.{Option, none, some, some-injective}
use Rattle.lifting.specs.Digits.{Reading}
use Rattle.lifting.specs.Codec.{Codec, Whole, then, onto, over, many, many_over}
use Rattle.lifting.proofs.Codec.{Inverse, many_more}
use Rattle.read_cursor.specs.Read.{Took, Denied}
use Rattle.read_cursor.specs.Begins.{Begins, go_on}
use Rattle.std.specs.Prelude as code
use Rattle.func.specs.Store.{folds}
use Rattle.read_lines.specs.Stores.{Stored}
use Rattle.read_cursor.specs.Answers.{Reached, Missed}
use Rattle.read_cursor.specs.Chains.{took_next, denied_next}
use Rattle.read_cursor.specs.declared.Cursor.{Cursor}

-- what was read to the end of the text: the lines stored by k, and the rest as it is
abbrev pub lines_in : {A B S : Type 0} → (A → S → S) → S → Option ((List A × B) × Unit {0}) → Option (B × S)
lines_in k w none = none
lines_in k w (some x) = some (x.0.1, folds k x.0.0 w)

-- the rest alone
abbrev pub rest_in : {B S : Type 0} → S → Option (B × Unit {0}) → Option (B × S)
rest_in v none = none
rest_in v (some x) = some (x.0, v)

-- W is lines of a kind, and then D: a line begins with its head, and what the head found tells how it goes on
pub record Kind {A B X : Type 0} (W : Whole (List A × B)) (D : Whole B) (head : List ℕ → Reading X) (tail : X → List ℕ → Reading A) : Type 0 where
  pub over : (t : List ℕ) → head t ≡ none → W.read t ≡ then (D.read t) over
  pub more : (t : List ℕ) (x : X) (m : List ℕ) (a : A) (u : List ℕ) → head t ≡ some (x, m) → tail x m ≡ some (a, u) → W.read t ≡ then (W.read u) (onto a)
  pub wrong : (t : List ℕ) (x : X) (m : List ℕ) → head t ≡ some (x, m) → tail x m ≡ none → W.read t ≡ none

pub kind_of_law : {A B X : Type 0} {C : Codec A} → Inverse C → (D : Whole B) (apart : (b : B) (r : Unit {0}) → C.read (D.print b ++ []) ≡ none) {H : Codec X} → Inverse H → {tail : X → List ℕ → Reading A}
    → Begins C H tail → ((x : X) (r : List ℕ) → D.read (H.print x ++ r) ≡ none) → Kind (many C D apart) D H.read tail
kind_of_law {A} {B} {X} {C} c D apart {H} h {tail} b later = record {
  over = λ t e. many_over C D apart t (read_as t none e);
  more = λ t x m a u e f. many_more c D apart t a u (read_as t (some (x, m)) e ∙ f);
  wrong = λ t x m e f.
      many_over C D apart t (read_as t (some (x, m)) e ∙ f)
      ∙ ap (λ (o : Option (B × Unit {0})). then o over) (ap D.read (h.sound t (x, m) e).0 ∙ later x m);
}
  where
    read_as : (t : List ℕ) (o : Reading X) → H.read t ≡ o → C.read t ≡ go_on o tail
    read_as t o e = b.is t ∙ ap (λ (o : Reading X). go_on o tail) e

-- a loop over the lines stands at this place, with the words v
pub record Going {A B S : Type 0} (size : S → ℕ) (W : Whole (List A × B)) (k : A → S → S) (text : List ℕ) (from : ℕ) (w : S) (at : ℕ) (v : S) : Type 0 where
  pub is : lines_in k w (W.read (drop from text)) ≡ lines_in k v (W.read (drop at text))
  pub ahead : from ≤ at
  pub fits : at ≤ length text
  pub len : size v ≡ size w

-- the lines are over: the rest of the text is what comes after them
pub record LinesPassed {A B S : Type 0} (W : Whole (List A × B)) (D : Whole B) (k : A → S → S) (text : List ℕ) (from : ℕ) (w : S) (at : ℕ) (v : S) : Type 0 where
  pub is : lines_in k w (W.read (drop from text)) ≡ rest_in v (D.read (drop at text))
  pub ahead : from ≤ at
  pub fits : at ≤ length text

pub going_first : {A B S : Type 0} {size : S → ℕ} {W : Whole (List A × B)} {k : A → S → S} {text : List ℕ} {from : ℕ} {w : S} → from ≤ length text → Going size W k text from w from w
going_first h = record { is = refl; ahead = omega arith; fits = h; len = refl }

-- what is left to read is read, or it is not
pub lines_none : {A B S : Type 0} (k : A → S → S) (w : S) (o : Option ((List A × B) × Unit {0})) → lines_in k w o ≡ none → o ≡ none
lines_none k w none e = refl
lines_none k w (some x) e = absurd (let z : ◌≡◌ {A = ℕ} 0 1 = cc in omega arith)

pub lines_some : {A B S : Type 0} (k : A → S → S) (w v : S) (b : B) (o : Option ((List A × B) × Unit {0})) → lines_in k w o ≡ some (b, v)
    → (xs : List A) × (o ≡ some ((xs, b), tt)) × (folds k xs w ≡ v)
lines_some k w v b none e = absurd (let z : ◌≡◌ {A = ℕ} 0 1 = cc in omega arith)
lines_some {A} {B} {S} k w v b (some ((xs, c), u)) e =
    let i : ◌≡◌ {A = B × S} (c, folds k xs w) (b, v) = some-injective _ _ e in
    (xs, ap (λ (y : B × S). some ((xs, y.0), tt)) i, ap (λ (y : B × S). y.1) i)

module _ {A B S : Type 0} {W : Whole (List A × B)} {D : Whole B} {k : A → S → S} {text : List ℕ} {from at : ℕ} {w v : S} (p : LinesPassed W D k text from w at v) where
  -- the lines were read, if the rest is
  pub passed_some : (b : B) → D.read (drop at text) ≡ some (b, tt) → (xs : List A) × (W.read (drop from text) ≡ some ((xs, b), tt)) × (folds k xs w ≡ v)
  passed_some b e = lines_some k w v b (W.read (drop from text)) (p.is ∙ ap (rest_in v) e)

  -- and nothing is, if the rest is not
  pub passed_none : D.read (drop at text) ≡ none → W.read (drop from text) ≡ none
  passed_none e = lines_none k w (W.read (drop from text)) (p.is ∙ ap (rest_in v) e)

module _ {A B X S : Type 0} {W : Whole (List A × B)} {D : Whole B} {head : List ℕ → Reading X} {tail : X → List ℕ → Reading A} (K : Kind W D head tail) {size : S → ℕ} {k : A → S → S}
    {text : List ℕ} {from at : ℕ} {w v : S} (a : Going size W k text from w at v) where
  -- one more
  pub going_more : {x : X} {y : A} {mid next : ℕ} {u : S} → Took head text at x mid → Took (tail x) text mid y next → u ≡ k y v → size u ≡ size v → Going size W k text from w next u
  unfolding folds
  going_more {x} {y} {mid} {next} {u} p q e l = record {
    is = a.is ∙ ap (lines_in k v) (K.more (drop at text) x (drop mid text) y (drop next text) p.is q.is) ∙ by_found (W.read (drop next text));
    ahead = omega (arith, a.ahead, p.moves.moved, q.moves.moved);
    fits = q.moves.fits;
    len = l ∙ a.len;
  }
    where
      by_found : (o : Option ((List A × B) × Unit {0})) → lines_in k v (then o (onto y)) ≡ lines_in k u o
      by_found none = refl
      by_found (some z) = ap (λ (m : S). some (z.0.1, folds k z.0.0 m)) (sym e)

  -- the next line is of another kind
  pub going_over : Denied head text at → LinesPassed W D k text from w at v
  unfolding folds
  going_over p = record {
    is = a.is ∙ ap (lines_in k v) (K.over (drop at text) p.is) ∙ by_found (D.read (drop at text));
    ahead = a.ahead;
    fits = a.fits;
  }
    where
      by_found : (o : Option (B × Unit {0})) → lines_in k v (then o over) ≡ rest_in v o
      by_found none = refl
      by_found (some z) = refl

  -- the next line is of this kind by its head, and is wrong
  pub going_wrong : {x : X} {mid : ℕ} → Took head text at x mid → Denied (tail x) text mid → W.read (drop from text) ≡ none
  going_wrong {x} {mid} p q =
      lines_none k w (W.read (drop from text)) (a.is ∙ ap (lines_in k v) (K.wrong (drop at text) x (drop mid text) p.is q.is))

-- the same of cursors of one text
pub record GoingOn {A B S : Type 0} (size : S → ℕ) (W : Whole (List A × B)) (k : A → S → S) (from : Cursor) (w : S) (c : Cursor) (v : S) : Type 0 where
  pub going : Going size W k from.text.now from.at w c.at v
  pub same_text : c.text ≡ from.text

pub record PassedOn {A B S : Type 0} (W : Whole (List A × B)) (D : Whole B) (k : A → S → S) (from : Cursor) (w : S) (c : Cursor) (v : S) : Type 0 where
  pub passed : LinesPassed W D k from.text.now from.at w c.at v
  pub same_text : c.text ≡ from.text

-- what the loop answers
abbrev pub Lined : {A B S : Type 0} → Whole (List A × B) → Whole B → (A → S → S) → Cursor → code.Option Cursor → S → S → Type 0
Lined W D k from (code.Some c) w v = PassedOn W D k from w c v
Lined W D k from code.None w v = W.read (drop from.at from.text.now) ≡ none

pub on_first : {A B S : Type 0} {size : S → ℕ} {W : Whole (List A × B)} {k : A → S → S} (from : Cursor) {w : S} → from.at ≤ length from.text.now → GoingOn size W k from w from w
on_first from h = record { going = going_first h; same_text = refl }

module _ {A B X S : Type 0} {W : Whole (List A × B)} {D : Whole B} {head : List ℕ → Reading X} {tail : X → List ℕ → Reading A} (K : Kind W D head tail) {size : S → ℕ} {k : A → S → S}
    {from c : Cursor} {w v : S} (a : GoingOn size W k from w c v) where
  pub on_over : Missed head c → PassedOn W D k from w c v
  on_over p = record { passed = going_over K a.going (denied_next from a.same_text p); same_text = a.same_text }

  module _ {x : X} {d : Cursor} (p : Reached head c x d) where
    pub on_more : {e : Cursor} {u : S} → Stored (tail x) k d e v u → size u ≡ size v → GoingOn size W k from w e u
    on_more s l =
        let t : d.text ≡ from.text = p.same_text ∙ a.same_text in
        record {
          going = going_more K a.going (took_next from a.same_text p) (took_next from t s.reached) s.kept l;
          same_text = s.reached.same_text ∙ t;
        }

    pub on_wrong : Missed (tail x) d → W.read (drop from.at from.text.now) ≡ none
    on_wrong q = going_wrong K a.going (took_next from a.same_text p) (denied_next from (p.same_text ∙ a.same_text) q)

-- Functions that read and store: what stands in the slice after they answered. Storing is a function on the words, or on
-- a state that holds more than them, and of a list it is a fold, so a loop's invariant is one equation: what is still to be stored from here on
-- is what was to be stored from the start. Assumes nothing.
--     Stores, Stored               from this place the reader finds a value, and storing it makes these words of those; or it finds none
--     stores_none, stored_..       how the answers of the parts make the answer of the whole (a miss of a part is one by read_cursor's `chains`)
--     ListAlong, ListOn            the head of a loop over a list
use Rattle.std.proofs.Math.Path.{◌≡◌, refl, ap}
use Rattle.std.proofs.Common.{sym, ◌∙◌, subst, arith}
use mathlib.Core.List.{List, [], ◌∷◌, ◌++◌}
use Rattle.std.proofs.Math.Option.{Option, none, some, some-injective}
use Rattle.std.specs.Prelude as code
use Rattle.std.specs.Prelude.{ℕ, ◌≤◌}
use Rattle.std.proofs.Math.ListN.{drop}
use Prim.Native.String.{String}
use Rattle.lifting.specs.Bytes.{bytes}
use Rattle.lifting.specs.Digits.{Reading}
use Rattle.lifting.specs.Codec.{Codec, Led, then, up, strip, strip_sound, seq}
use Rattle.lifting.specs.Grammar.{before, after_word, sub, closed}
use Rattle.read_cursor.specs.Read.{literal, behind_literal}
use Rattle.read_cursor.specs.Begins.{go_on}
use Rattle.read_cursor.specs.Answers.{Reached, Missed}
use Rattle.read_cursor.specs.Laws.{onward_both}
use Rattle.read_cursor.specs.Chains.{took_next, denied_next, seq_open, seq_reads, behind_reached, before_reached, sub_behind, after_reached, closed_reached}
use Rattle.read_cursor.specs.declared.Cursor.{Cursor}
use Rattle.func.specs.Store.{folds}

-- the reader finds a value between the two places of one text, and f stores it: it makes v of w
pub record Stored {A S : Type 0} (read : List ℕ → Reading A) (f : A → S → S) (c d : Cursor) (w v : S) : Type 0 where
  pub value : A
  pub reached : Reached read c value d
  pub kept : v ≡ f value w

-- what a function that reads and stores answers: of a miss nothing more is said
abbrev pub Stores : {A S : Type 0} → (List ℕ → Reading A) → (A → S → S) → Cursor → code.Option Cursor → S → S → Type 0
Stores read f c code.None w v = Missed read c
Stores read f c (code.Some d) w v = Stored read f c d w v

-- an answer that is known to be nothing, as `?` gives it back
pub stores_none : {A S : Type 0} {read : List ℕ → Reading A} (f : A → S → S) {c : Cursor} {found : code.Option Cursor} (w v : S) → found ≡ code.None → Missed read c → Stores read f c found w v
stores_none {read = read} f {c} w v e p = subst (λ (o : code.Option Cursor). Stores read f c o w v) (sym e) p

-- a value that is read and then stored
pub stored_one : {A S : Type 0} {read : List ℕ → Reading A} {f : A → S → S} {c d : Cursor} {a : A} {w v : S} → Reached read c a d → v ≡ f a w → Stored read f c d w v
stored_one p e = record { value = _; reached = p; kept = e }

-- behind a literal, and before one
module _ {A S : Type 0} {f : A → S → S} {c d e : Cursor} {w v : S} where
  pub stored_behind : (s : List ℕ) (read : List ℕ → Reading A) → Reached (literal s) c tt d → Stored read f d e w v → Stored (behind_literal s read) f c e w v
  stored_behind s read p q = record { value = q.value; reached = behind_reached s read p q.reached; kept = q.kept }

  pub stored_before : (s : List ℕ) (h : Led s) (C : Codec A) → Reached (literal s) c tt d → Stored C.read f d e w v → Stored (before s h C).read f c e w v
  stored_before s h C p q = record { value = q.value; reached = before_reached s h C p q.reached; kept = q.kept }

  pub stored_after : (C : Codec A) (s : List ℕ) (h : Led s) → Stored C.read f c d w v → Reached (literal s) d tt e → Stored (after_word C s h).read f c e w v
  stored_after C s h p q = record { value = p.value; reached = after_reached C s h p.reached q; kept = p.kept }

  pub stored_closed : (C : Codec A) → Stored C.read f c d w v → Reached (literal (bytes ")")) d tt e → Stored (closed C).read f c e w v
  stored_closed C p q = record { value = p.value; reached = closed_reached C p.reached q; kept = p.kept }

-- ` (s ..`
pub stored_sub : {A S : Type 0} (s : String) (C : Codec A) {f : A → S → S} {c d : Cursor} {w v : S} → Stored (behind_literal (bytes " (" ++ bytes s) C.read) f c d w v → Stored (sub s C).read f c d w v
stored_sub s C p = record { value = p.value; reached = sub_behind s C p.reached; kept = p.kept }

-- as another type
module _ {A B : Type 0} (read : List ℕ → Reading A) (f : A → B) where
  pub up_missed : {c : Cursor} → Missed read c → Missed (λ t. then (read t) (up f)) c
  up_missed p = record { denied = record { is = rw p.denied.is; moves = tt } }

  pub up_reached : {c d : Cursor} {a : A} → Reached read c a d → Reached (λ t. then (read t) (up f)) c (f a) d
  up_reached p = record { took = record { is = rw p.took.is; moves = p.took.moves }; same_text = p.same_text }

-- and what it was before
pub up_back : {A B : Type 0} (read : List ℕ → Reading A) (f : A → B) {c d : Cursor} {b : B} → Reached (λ t. then (read t) (up f)) c b d → (a : A) × (b ≡ f a) × Reached read c a d
up_back {A} {B} read f {c} {d} {b} p = go (read (drop c.at c.text.now)) refl p.took.is
  where
    go : (o : Reading A) → read (drop c.at c.text.now) ≡ o → ◌≡◌ {A = Reading B} (then o (up f)) (some (b, drop d.at c.text.now)) → (a : A) × (b ≡ f a) × Reached read c a d
    go none e q = absurd (let z : ◌≡◌ {A = ℕ} 0 1 = cc in omega arith)
    go (some x) e q =
        let i : ◌≡◌ {A = B × List ℕ} (f x.0, x.1) (b, drop d.at c.text.now) = some-injective _ _ q in (
          x.0,
          sym (ap (λ (y : B × List ℕ). y.0) i),
          record {
            took = record { is = e ∙ ap (λ (r : List ℕ). some (x.0, r)) (ap (λ (y : B × List ℕ). y.1) i); moves = p.took.moves };
            same_text = p.same_text;
          },
        )

-- what a head found tells how reading goes on
module _ {A X : Type 0} (head : List ℕ → Reading X) (tail : X → List ℕ → Reading A) where
  pub head_missed : {c : Cursor} → Missed head c → Missed (λ t. go_on (head t) tail) c
  head_missed p = record { denied = record { is = rw p.denied.is; moves = tt } }

  module _ {x : X} {c d : Cursor} (p : Reached head c x d) where
    pub head_open : Missed (tail x) d → Missed (λ t. go_on (head t) tail) c
    head_open q = record { denied = record { is = ap (λ (o : Reading X). go_on o tail) p.took.is ∙ (denied_next c p.same_text q).is; moves = tt } }

    pub head_reached : {a : A} {e : Cursor} → Reached (tail x) d a e → Reached (λ t. go_on (head t) tail) c a e
    head_reached q =
        let t = took_next c p.same_text q in
        record { took = record { is = ap (λ (o : Reading X). go_on o tail) p.took.is ∙ t.is; moves = onward_both p.took.moves t.moves }; same_text = q.same_text ∙ p.same_text }

-- what is read first waits for D, which is only read
abbrev pub waits : {A B : Type 0} → Codec B → Reading (B → A) → Reading A
waits D o = go_on o (λ g r. then (D.read r) (up g))

module _ {A B : Type 0} (D : Codec B) (read : List ℕ → Reading (B → A)) where
  pub waits_missed : {c : Cursor} → Missed read c → Missed (λ t. waits D (read t)) c
  waits_missed p = head_missed read (λ g r. then (D.read r) (up g)) p

  module _ {g : B → A} {c d : Cursor} (p : Reached read c g d) where
    pub waits_open : Missed D.read d → Missed (λ t. waits D (read t)) c
    waits_open q = head_open read (λ g r. then (D.read r) (up g)) p (up_missed D.read g q)

    pub waits_reached : {b : B} {e : Cursor} → Reached D.read d b e → Reached (λ t. waits D (read t)) c (g b) e
    waits_reached q = head_reached read (λ g r. then (D.read r) (up g)) p (up_reached D.read g q)

-- and then the row of both is stored
pub waits_row : {A B X S : Type 0} (read : List ℕ → Reading X) (f : X → B → A) (D : Codec B) {k : A → S → S} {l : (B → A) → S → S} {c d e : Cursor} {b : B} {w u v : S}
    (row : B → S → S) → ((x : X) → k (f x b) w ≡ row b (l (f x) w)) → Stored (λ t. then (read t) (up f)) l c d w u → Reached D.read d b e → v ≡ row b u
    → Stored (λ t. waits D (then (read t) (up f))) k c e w v
waits_row {A} {B} read f D {l = l} {b = b} {w = w} row is s t q =
    let x = up_back read f s.reached in
    record {
      value = f x.0 b;
      reached = waits_reached D (λ t. then (read t) (up f)) (up_reached read f x.2) t;
      kept = q ∙ ap (row b) (s.kept ∙ ap (λ (g : B → A). l g w) x.1) ∙ sym (is x.0);
    }

-- one after the other, both stored
module _ {A B S : Type 0} (C : Codec A) (D : Codec B) where
  pub stored_both : {f : A → S → S} (g : B → S → S) {c d e : Cursor} {w u v : S} → Stored C.read f c d w u → Stored D.read g d e u v → Stored (seq C D).read (λ x z. g x.1 (f x.0 z)) c e w v
  stored_both g p q = record { value = (p.value, q.value); reached = seq_reads C D p.reached q.reached; kept = q.kept ∙ ap (g q.value) p.kept }

  pub stores_both : {f : A → S → S} (g : B → S → S) {c d : Cursor} (found : code.Option Cursor) {w u : S} (v : S) → Stored C.read f c d w u → Stores D.read g d found u v → Stores (seq C D).read (λ x z. g x.1 (f x.0 z)) c found w v
  stores_both g code.None v p q = seq_open C D p.reached q
  stores_both g (code.Some e) v p q = stored_both g p q

-- what was read, stored by f: the words, and the rest of the text
abbrev pub stored_by : {A S : Type 0} → (A → S → S) → S → Reading A → Option (S × List ℕ)
stored_by f w none = none
stored_by f w (some x) = some (f x.0 w, x.1)

-- and what was read, of what was stored
stored_some : {A S : Type 0} (k : A → S → S) (w v : S) (r : List ℕ) (o : Reading A) → stored_by k w o ≡ some (v, r) → (a : A) × (o ≡ some (a, r)) × (v ≡ k a w)
stored_some k w v r none e = absurd (let z : ◌≡◌ {A = ℕ} 0 1 = cc in omega arith)
stored_some {S = S} k w v r (some x) e =
    let i : ◌≡◌ {A = S × List ℕ} (k x.0 w, x.1) (v, r) = some-injective _ _ e in
    (x.0, ap (λ (r : List ℕ). some (x.0, r)) (ap (λ (y : S × List ℕ). y.1) i), sym (ap (λ (y : S × List ℕ). y.0) i))

stored_none : {A S : Type 0} (k : A → S → S) (w : S) (o : Reading A) → stored_by k w o ≡ none → o ≡ none
stored_none k w none e = refl
stored_none k w (some x) e = absurd (let z : ◌≡◌ {A = ℕ} 0 1 = cc in omega arith)

-- M is any number of C, and then s, with which no C begins
pub record Listing {A : Type 0} (C : Codec A) (s : List ℕ) (M : Codec (List A)) : Type 0 where
  pub over : (t : List ℕ) → C.read t ≡ none → M.read t ≡ then (strip s t) (λ r. some ([], r))
  pub more : (t : List ℕ) (a : A) (u : List ℕ) → C.read t ≡ some (a, u) → M.read t ≡ then (M.read u) (λ x. some (a ∷ x.0, x.1))
  pub apart : (r : List ℕ) → C.read (s ++ r) ≡ none

-- a loop over a list stands at this place, with the words v
pub record ListAlong {A S : Type 0} (size : S → ℕ) (M : Codec (List A)) (k : A → S → S) (text : List ℕ) (from : ℕ) (w : S) (at : ℕ) (v : S) : Type 0 where
  pub is : stored_by (folds k) w (M.read (drop from text)) ≡ stored_by (folds k) v (M.read (drop at text))
  pub ahead : from ≤ at
  pub len : size v ≡ size w

pub list_along_first : {A S : Type 0} {size : S → ℕ} {M : Codec (List A)} {k : A → S → S} {text : List ℕ} {from : ℕ} {w : S} → ListAlong size M k text from w from w
list_along_first = record { is = refl; ahead = omega arith; len = refl }

-- the same of cursors of one text
pub record ListOn {A S : Type 0} (size : S → ℕ) (M : Codec (List A)) (k : A → S → S) (from : Cursor) (w : S) (c : Cursor) (v : S) : Type 0 where
  pub along : ListAlong size M k from.text.now from.at w c.at v
  pub same_text : c.text ≡ from.text

pub list_on_first : {A S : Type 0} {size : S → ℕ} {M : Codec (List A)} {k : A → S → S} {from : Cursor} {w : S} → ListOn size M k from w from w
list_on_first = record { along = list_along_first; same_text = refl }

module _ {A S : Type 0} {C : Codec A} {s : List ℕ} {M : Codec (List A)} (L : Listing C s M) {size : S → ℕ} {k : A → S → S} {from c : Cursor} {w v : S} (o : ListOn size M k from w c v) where
  abbrev a : ListAlong size M k from.text.now from.at w c.at v
  a = o.along

  abbrev here : List ℕ
  here = drop c.at from.text.now

  -- one more, which was stored as it was read
  pub along_more : {d : Cursor} {u : S} → Stored C.read k c d v u → size u ≡ size v → ListOn size M k from w d u
  unfolding folds
  along_more {d} {u} p l =
      let t = took_next from o.same_text p.reached in
      record {
        along = record {
          is = a.is ∙ ap (stored_by (folds k) v) (L.more here p.value (drop d.at from.text.now) t.is) ∙ by_found (M.read (drop d.at from.text.now));
          ahead = omega (arith, a.ahead, t.moves.moved);
          len = l ∙ a.len;
        };
        same_text = p.reached.same_text ∙ o.same_text;
      }
    where
      by_found : (o : Reading (List A)) → stored_by (folds k) v (then o (λ y. some (p.value ∷ y.0, y.1))) ≡ stored_by (folds k) u o
      by_found none = refl
      by_found (some y) = ap (λ (z : S). some (folds k y.0 z, y.1)) (sym p.kept)

  -- closed: what closes a list is none of its elements
  pub along_end : {d : Cursor} → Reached (literal s) c tt d → Stored M.read (folds k) from d w v
  unfolding folds
  along_end {d} p =
      let t = took_next from o.same_text p in
      let x = stored_some (folds k) w v (drop d.at from.text.now) (M.read (drop from.at from.text.now)) (by_strip (strip s here) refl t.is) in
      record {
        value = x.0;
        reached = record { took = record { is = x.1; moves = record { moved = omega (arith, a.ahead, t.moves.moved); fits = t.moves.fits } }; same_text = p.same_text ∙ o.same_text };
        kept = x.2;
      }
    where
      by_strip : (q : Option (List ℕ)) → strip s here ≡ q → then {B = Unit {0} × List ℕ} q (λ r. some (tt, r)) ≡ some (tt, drop d.at from.text.now)
          → stored_by (folds k) w (M.read (drop from.at from.text.now)) ≡ some (v, drop d.at from.text.now)
      by_strip none e q = absurd (let z : ◌≡◌ {A = ℕ} 0 1 = cc in omega arith)
      by_strip (some r) e q =
          a.is
          ∙ ap (stored_by (folds k) v) (L.over here (ap C.read (strip_sound s here r e) ∙ L.apart r) ∙ ap (λ (o : Option (List ℕ)). then o (λ r. some ([], r))) e)
          ∙ ap (λ (y : Unit {0} × List ℕ). some (v, y.1)) (some-injective _ _ q)

  -- neither closed, nor one more
  pub along_wrong : Missed (literal s) c → Missed C.read c → Missed M.read from
  along_wrong p q =
      let t = denied_next from o.same_text p in
      let d = denied_next from o.same_text q in
      record { denied = record { is = stored_none (folds k) w (M.read (drop from.at from.text.now)) (a.is ∙ ap (stored_by (folds k) v) (L.over here d.is) ∙ by_strip (strip s here) t.is); moves = tt } }
    where
      by_strip : (q : Option (List ℕ)) → then {B = Unit {0} × List ℕ} q (λ r. some (tt, r)) ≡ none → stored_by (folds k) v (then q (λ r. some ([], r))) ≡ none
      by_strip none e = refl
      by_strip (some r) e = absurd (let z : ◌≡◌ {A = ℕ} 0 1 = cc in omega arith)

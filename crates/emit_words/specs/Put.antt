-- What an emitter appends at a cursor: items, each a word or an id. A word past the slice's end is counted and not stored, and an id that is 0 is
-- remembered: so one emitter counts the words of a list, finds the ids that are missing, and writes. Assumes nothing.
--     Put                      items appended: the whole slice at exit, the next place, and whether an id was missing
--     put_none, put_one        no item, and one
--     put_id                   an id is the word, and whether it is 0
--     put_more                 one run of items after another
--     put_same, put_length, put_low     the same items; the slice keeps its length; the next place is no higher than the last one
--     Loop, loop_start, loop_turn, loop_end    a loop that appends a run of items a turn
use Rattle.std.specs.Prelude.{◌≡◌, refl, Bool, true, false, ◌||◌, List, [], ◌∷◌, ◌++◌, ℕ, zero, suc, ◌+◌, ◌≤◌, ◌<◌, length, set}
use Rattle.std.proofs.Common.{sym, ap, ap₂, subst, ◌∙◌, add-one, arith, length-append}
use Rattle.std.proofs.lemmas.List.Edits.{sets}
use Rattle.std.proofs.Math.Seq.{length-sets}
use Rattle.general_laws.specs.Part.{last_place, sat, sets_sat}
use Rattle.lifting_blocks.specs.Flat.{up_to}
use Rattle.emit_words.specs.declared.Cursor.{Cursor}

pub data Item : Type 0 where
  word : ℕ → Item
  id : ℕ → Item

abbrev pub word_of : Item → ℕ
word_of (word x) = x
word_of (id x) = x

abbrev pub is_zero : ℕ → Bool
is_zero zero = true
is_zero (suc n) = false

-- an id that is 0 is missing
abbrev pub missing : Item → Bool
missing (word x) = false
missing (id x) = is_zero x

unfoldable pub any_missing : List Item → Bool
any_missing [] = false
any_missing (x ∷ l) = missing x || any_missing l

unfoldable pub item_words : List Item → List ℕ
item_words [] = []
item_words (x ∷ l) = word_of x ∷ item_words l

-- the word that says whether an id was missing, after one that is or is not
abbrev pub missed_mark : ℕ → Bool → ℕ
missed_mark s true = 1
missed_mark s false = s

mark_mark : (s : ℕ) (a b : Bool) → missed_mark (missed_mark s a) b ≡ missed_mark s (a || b)
mark_mark s true true = refl
mark_mark s true false = refl
mark_mark s false b = refl

pub record Put (w : List ℕ) (c : Cursor) (l : List Item) (out : List ℕ) (r : Cursor) : Type 0 where
  pub size : length w ≤ last_place
  pub words : out ≡ sets w c.at (item_words l)
  pub next : r.at ≡ sat (c.at + length l)
  pub missed : r.missed ≡ missed_mark c.missed (any_missing l)

or_assoc : (a b c : Bool) → ((a || b) || c) ≡ (a || (b || c))
or_assoc true b c = refl
or_assoc false b c = refl

pub or_false : (a : Bool) → (a || false) ≡ a
or_false true = refl
or_false false = refl

-- an id that is 0, and one that is not
pub mark_zero : (s n : ℕ) → n ≡ 0 → 1 ≡ missed_mark s (is_zero n)
mark_zero s n e = ap (λ (x : ℕ). missed_mark s (is_zero x)) (sym e)

pub mark_pos : (s n : ℕ) → ¬ (n ≡ 0) → s ≡ missed_mark s (is_zero n)
mark_pos s zero e = absurd (e refl)
mark_pos s (suc n) e = refl

pub words_append : (k l : List Item) → item_words (k ++ l) ≡ item_words k ++ item_words l
unfolding item_words
words_append [] l = refl
words_append (x ∷ k) l = ap (λ (t : List ℕ). word_of x ∷ t) (words_append k l)

pub words_length : (l : List Item) → length (item_words l) ≡ length l
unfolding item_words
words_length [] = refl
words_length (x ∷ l) = ap suc (words_length l)

pub missing_append : (k l : List Item) → any_missing (k ++ l) ≡ (any_missing k || any_missing l)
unfolding any_missing
missing_append [] l = refl
missing_append (x ∷ k) l = ap (λ (b : Bool). missing x || b) (missing_append k l) ∙ sym (or_assoc (missing x) (any_missing k) (any_missing l))

pub put_none : {w : List ℕ} {c : Cursor} → length w ≤ last_place → c.at ≤ last_place → Put w c [] w c
unfolding item_words any_missing
put_none {w} {c} h k = record { size = h; words = refl; next = omega arith; missed = refl }

-- one store
pub put_one : {w out : List ℕ} {c r : Cursor} (x : Item) → length w ≤ last_place → out ≡ set w c.at (word_of x) → r.at ≡ sat (c.at + 1)
    → r.missed ≡ missed_mark c.missed (missing x) → Put w c (x ∷ []) out r
unfolding item_words any_missing
put_one {c = c} x h e n b = record { size = h; words = e; next = n; missed = b ∙ ap (missed_mark c.missed) (sym (or_false (missing x))) }

pub put_id : {w out : List ℕ} {c r : Cursor} {x : ℕ} (m : ℕ) → Put w c (word x ∷ []) out r → m ≡ missed_mark r.missed (is_zero x)
    → Put w c (id x ∷ []) out (record { at = r.at; missed = m })
unfolding item_words any_missing
put_id {c = c} {x = x} m p e = record { size = p.size; words = p.words; next = p.next; missed = e ∙ ap₂ missed_mark p.missed (sym (or_false (is_zero x))) }

pub put_more : {w u v : List ℕ} {c d e : Cursor} {k l : List Item} → Put w c k u d → Put u d l v e → Put w c (k ++ l) v e
put_more {w} {u} {v} {c} {d} {e} {k} {l} p q = record {
  size = p.size;
  words = q.words
      ∙ ap (λ (x : List ℕ). sets x d.at (item_words l)) p.words
      ∙ ap (λ (x : ℕ). sets (sets w c.at (item_words k)) x (item_words l)) (p.next ∙ ap (λ (x : ℕ). sat (c.at + x)) (sym (words_length k)))
      ∙ sets_sat w (item_words k) (item_words l) c.at p.size
      ∙ ap (sets w c.at) (sym (words_append k l));
  next = omega (arith, p.next, q.next, length-append k l);
  missed = q.missed
      ∙ ap (λ (x : ℕ). missed_mark x (any_missing l)) p.missed
      ∙ mark_mark c.missed (any_missing k) (any_missing l)
      ∙ ap (missed_mark c.missed) (sym (missing_append k l));
}

pub put_length : {w out : List ℕ} {c r : Cursor} {l : List Item} → Put w c l out r → length out ≡ length w
put_length {w} {c = c} {l = l} p = ap length p.words ∙ length-sets w c.at (item_words l)

-- the next place is a number that a word of the machine holds
pub put_low : {w out : List ℕ} {c r : Cursor} {l : List Item} → Put w c l out r → r.at ≤ last_place
put_low p = omega (arith, p.next)

pub put_same : {w u : List ℕ} {c d : Cursor} {k l : List Item} → Put w c k u d → k ≡ l → Put w c l u d
put_same {w} {u} {c} {d} p e = subst (λ (x : List Item). Put w c x u d) e p

-- a loop that appends g k in turn k of n, where k turns were made; specs/Writes has the same of a writer
pub record Loop (g : ℕ → List Item) (n : ℕ) (w : List ℕ) (c : Cursor) (k : ℕ) (out : List ℕ) (d : Cursor) : Type 0 where
  pub within : k ≤ n
  pub put : Put w c (up_to g k) out d

pub loop_start : (g : ℕ → List Item) (n : ℕ) {w : List ℕ} {c : Cursor} → length w ≤ last_place → c.at ≤ last_place → Loop g n w c 0 w c
unfolding up_to
loop_start g n h k = record { within = omega arith; put = put_none h k }

pub loop_turn : {g : ℕ → List Item} {n : ℕ} {w u v : List ℕ} {c d e : Cursor} {k : ℕ} → Loop g n w c k u d → k < n → Put u d (g k) v e → Loop g n w c (k + 1) v e
unfolding up_to
loop_turn {g} {w = w} {v = v} {c} {e = e} {k} p h q =
    record { within = omega arith; put = subst (λ (j : ℕ). Put w c (up_to g j) v e) (sym (add-one k)) (put_more p.put q) }

pub loop_end : {g : ℕ → List Item} {n : ℕ} {w u : List ℕ} {c d : Cursor} {k : ℕ} → Loop g n w c k u d → n ≤ k → Put w c (up_to g n) u d
loop_end {g} {n} {w} {u} {c} {d} p h = subst (λ (j : ℕ). Put w c (up_to g j) u d) (omega (arith, p.within)) p.put

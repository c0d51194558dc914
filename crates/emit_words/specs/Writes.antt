-- What a writer appends: items, over the one slice that it was made with. Assumes nothing.
--     Writes                           items appended
--     writes_none, writes_one          no item, and one
--     writes_id                        an id is the word, and whether it is 0
--     writes_more, writes_same         one run of items after another; the same items
--     writes_end                       what the caller of a writer finds in the slice
--     Loop, loop_start, loop_turn, loop_end    a loop that appends a run of items a turn
use Rattle.std.specs.Prelude.{◌≡◌, refl, List, [], ◌∷◌, ◌++◌, ℕ, ◌+◌, ◌≤◌, ◌<◌, length, set}
use Rattle.std.proofs.Common.{sym, subst, ◌∙◌, add-one, arith}
use Rattle.general_laws.specs.Part.{last_place, sat}
use Rattle.lifting_blocks.specs.Flat.{up_to}
use Rattle.emit_words.specs.declared.Writer.{Writer}
use Rattle.emit_words.specs.Put.{Item, Put, id, is_zero, missed_mark, missing, put_id, put_low, put_more, put_none, put_one, put_same, word, word_of}

-- the slice at exit is the one at entry with the items appended at its place, which is a number that a word of the machine holds
pub record Writes (w : Writer) (l : List Item) (r : Writer) : Type 0 where
  pub same : r.out.ghost_name ≡ w.out.ghost_name
  pub put : w.cursor.at ≤ last_place → Put w.out.now w.cursor l r.out.now r.cursor

pub writes_none : {w : Writer} → length w.out.now ≤ last_place → Writes w [] w
writes_none h = record { same = refl; put = λ k. put_none h k }

pub writes_one : {w r : Writer} (x : Item) → length w.out.now ≤ last_place → r.out.ghost_name ≡ w.out.ghost_name → r.out.now ≡ set w.out.now w.cursor.at (word_of x)
    → r.cursor.at ≡ sat (w.cursor.at + 1) → r.cursor.missed ≡ missed_mark w.cursor.missed (missing x) → Writes w (x ∷ []) r
writes_one x h s e n b = record { same = s; put = λ k. put_one x h e n b }

pub writes_id : {w r : Writer} {x : ℕ} (m : ℕ) → Writes w (word x ∷ []) r → m ≡ missed_mark r.cursor.missed (is_zero x)
    → Writes w (id x ∷ []) (record { out = r.out; cursor = record { at = r.cursor.at; missed = m } })
writes_id m p e = record { same = p.same; put = λ k. put_id m (p.put k) e }

pub writes_more : {a b c : Writer} {k l : List Item} → Writes a k b → Writes b l c → Writes a (k ++ l) c
writes_more p q = record { same = q.same ∙ p.same; put = λ h. put_more (p.put h) (q.put (put_low (p.put h))) }

pub writes_same : {a b : Writer} {k l : List Item} → Writes a k b → k ≡ l → Writes a l b
writes_same p e = record { same = p.same; put = λ k. put_same (p.put k) e }

-- once the writer is done, its slice is the caller's again
pub writes_end : {w r : Writer} {l : List Item} {out : List ℕ} → Writes w l r → w.cursor.at ≤ last_place → (w.out.ghost_name ≡ r.out.ghost_name → out ≡ r.out.now)
    → Put w.out.now w.cursor l out r.cursor
writes_end {w} {r} {l} p k e = subst (λ (x : List ℕ). Put w.out.now w.cursor l x r.cursor) (sym (e (sym p.same))) (p.put k)

-- a loop that appends g k in turn k of n, where k turns were made
pub record Loop (g : ℕ → List Item) (n : ℕ) (w : Writer) (k : ℕ) (r : Writer) : Type 0 where
  pub within : k ≤ n
  pub writes : Writes w (up_to g k) r

pub loop_start : (g : ℕ → List Item) (n : ℕ) {w : Writer} → length w.out.now ≤ last_place → Loop g n w 0 w
unfolding up_to
loop_start g n h = record { within = omega arith; writes = writes_none h }

pub loop_turn : {g : ℕ → List Item} {n : ℕ} {a b c : Writer} {k : ℕ} → Loop g n a k b → k < n → Writes b (g k) c → Loop g n a (k + 1) c
unfolding up_to
loop_turn {g} {a = a} {c = c} {k} p h q =
    record { within = omega arith; writes = subst (λ (j : ℕ). Writes a (up_to g j) c) (sym (add-one k)) (writes_more p.writes q) }

pub loop_end : {g : ℕ → List Item} {n : ℕ} {a b : Writer} {k : ℕ} → Loop g n a k b → n ≤ k → Writes a (up_to g n) b
loop_end {g} {n} {a} {b} p h = subst (λ (j : ℕ). Writes a (up_to g j) b) (omega (arith, p.within)) p.writes

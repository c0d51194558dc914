-- Bytes appended to a slice at a place. A byte past the slice's end is counted and not stored, and a place stays at the largest number
-- of 64 bits. Assumes nothing.
--     PutBytes                         bytes put at a place: the whole slice at exit, and the next place
--     put_bytes_none, put_bytes_one           no bytes; one byte
--     put_bytes_more, put_bytes_same          one run of bytes after another; the same bytes, written otherwise
--     Part                        of some bytes a first part is put, and these are left
--     part_start, part_more       nothing is put; a run more
--     part_done                   nothing is left
--     put_fits                    where there is room, the bytes stand at the front, and the next place is their count
use Rattle.std.specs.Prelude.{◌≡◌, refl, Bool, true, false, List, [], ◌∷◌, ◌++◌, ◌⊎◌, ℕ, ◌+◌, ◌≤◌, ◌<◌, leb, length, set, take, drop}
use Rattle.std.proofs.Common.{sym, ap, subst, ◌∙◌, append_assoc, append-nil, inl, inr, arith, length-append, leb-true, leb-false}
use Rattle.std.proofs.lemmas.List.Edits.{sets, sets-eq}
use Rattle.std.proofs.Math.Seq.{length-sets, take-append_seam}
use Rattle.general_laws.specs.Part.{last_place, sat, sets_sat}

-- the bytes l put into the slice w at the place `at`: the slice is then `out`, and the place behind them `next`
pub record PutBytes (w : List ℕ) (at : ℕ) (l : List ℕ) (out : List ℕ) (next : ℕ) : Type 0 where
  pub size : length w ≤ last_place
  pub stored : out ≡ sets w at l
  pub place : next ≡ sat (at + length l)

pub le_or : (a b : ℕ) → (a ≤ b) ⊎ (b < a)
le_or a b = pick (leb a b) refl
  where
    pick : (t : Bool) → leb a b ≡ t → (a ≤ b) ⊎ (b < a)
    pick true e = inl (leb-true a b e)
    pick false e = inr (leb-false a b e)

pub put_bytes_none : {w : List ℕ} {at : ℕ} → length w ≤ last_place → at ≤ last_place → PutBytes w at [] w at
put_bytes_none h k = record { size = h; stored = refl; place = omega arith }

pub put_bytes_one : {w out : List ℕ} {at next : ℕ} (b : ℕ) → length w ≤ last_place → out ≡ set w at b → next ≡ sat (at + 1) → PutBytes w at (b ∷ []) out next
put_bytes_one b h e n = record { size = h; stored = e; place = n }

pub put_bytes_more : {w u v : List ℕ} {a b c : ℕ} {k l : List ℕ} → PutBytes w a k u b → PutBytes u b l v c → PutBytes w a (k ++ l) v c
put_bytes_more {w} {u} {v} {a} {b} {c} {k} {l} p q =
    record {
      size = p.size;
      stored = q.stored
          ∙ ap (λ (x : List ℕ). sets x b l) p.stored
          ∙ ap (λ (x : ℕ). sets (sets w a k) x l) p.place
          ∙ sets_sat w k l a p.size;
      place = omega (arith, p.place, q.place, length-append k l);
    }

pub put_bytes_same : {w u : List ℕ} {a b : ℕ} {k l : List ℕ} → PutBytes w a k u b → k ≡ l → PutBytes w a l u b
put_bytes_same {w} {u} {a} {b} p e = subst (λ (x : List ℕ). PutBytes w a x u b) e p

-- bytes from the start on, of which there are at most k
pub put_low : {w out : List ℕ} {next k : ℕ} {l : List ℕ} → PutBytes w 0 l out next → length l ≤ k → next ≤ k
put_low p h = omega (arith, p.place)

-- the slice keeps its length
pub put_bytes_length : {w out : List ℕ} {at next : ℕ} {l : List ℕ} → PutBytes w at l out next → length out ≡ length w
put_bytes_length {w} {at = at} {l = l} p = ap length p.stored ∙ length-sets w at l

-- of the bytes l, from the place a of the slice w on, a first part has been put, and the bytes `left` are to follow
pub record Part (w : List ℕ) (a : ℕ) (l : List ℕ) (u : List ℕ) (b : ℕ) (left : List ℕ) : Type 0 where
  pub done : List ℕ
  pub put : PutBytes w a done u b
  pub whole : done ++ left ≡ l

pub part_start : {w : List ℕ} {a : ℕ} (l : List ℕ) → length w ≤ last_place → a ≤ last_place → Part w a l w a l
part_start l h k = record { done = []; put = put_bytes_none h k; whole = refl }

module _ {w u v l : List ℕ} {a b c : ℕ} {left : List ℕ} where
  pub part_more : {k r : List ℕ} → Part w a l u b left → PutBytes u b k v c → left ≡ k ++ r → Part w a l v c r
  part_more {k} {r} p q e =
      record {
        done = p.done ++ k;
        put = put_bytes_more p.put q;
        whole = append_assoc p.done k r ∙ ap (λ (x : List ℕ). p.done ++ x) (sym e) ∙ p.whole;
      }

pub part_done : {w u l : List ℕ} {a b : ℕ} {left : List ℕ} → Part w a l u b left → left ≡ [] → PutBytes w a l u b
part_done p e = put_bytes_same p.put (sym (append-nil p.done) ∙ ap (λ (x : List ℕ). p.done ++ x) (sym e) ∙ p.whole)

-- bytes that were put at the front of a slice with room for them
pub put_fits : {w out : List ℕ} {next : ℕ} {l : List ℕ} → PutBytes w 0 l out next → length l ≤ length w → (next ≡ length l) × (take (length l) out ≡ l)
put_fits {w} {out} {next} {l} p h =
    (omega (arith, p.place, p.size), ap (take (length l)) (p.stored ∙ sets-eq l w 0 (omega arith)) ∙ take-append_seam l (drop (0 + length l) w))

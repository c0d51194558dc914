-- What a printer appends: bytes, over the one slice that it was made with. Assumes nothing.
--     Prints                           bytes appended
--     prints_none, prints_one          no byte, and one
--     prints_more, prints_same         one run of bytes after another; the same bytes, written otherwise
--     prints_end                       what the caller of a printer finds in the slice
--     Printing                         of some bytes a first part is appended, and these are left
--     printing_start, printing_more    nothing is appended; a run more
--     printing_done                    nothing is left
use Rattle.std.specs.Prelude.{◌≡◌, refl, List, [], ◌∷◌, ◌++◌, ℕ, ◌+◌, ◌≤◌, length, set}
use Rattle.std.proofs.Common.{sym, ap, subst, ◌∙◌, append_assoc, append-nil, arith}
use Rattle.general_laws.specs.Part.{last_place, sat}
use Rattle.print_bytes.specs.declared.Printer.{Printer}
use Rattle.print_bytes.specs.Put.{PutBytes, put_bytes_more, put_bytes_none, put_bytes_one, put_bytes_same}

-- the slice at exit is the one at entry with the bytes put at its place, which is a number that a word of the machine holds
pub record Prints (w : Printer) (l : List ℕ) (r : Printer) : Type 0 where
  pub same : r.out.ghost_name ≡ w.out.ghost_name
  pub put : w.at ≤ last_place → PutBytes w.out.now w.at l r.out.now r.at

-- the next place is a number that a word of the machine holds
next_low : {w u l : List ℕ} {a b : ℕ} → PutBytes w a l u b → b ≤ last_place
next_low p = omega (arith, p.place)

pub prints_none : {w : Printer} → length w.out.now ≤ last_place → Prints w [] w
prints_none h = record { same = refl; put = λ k. put_bytes_none h k }

pub prints_one : {w r : Printer} (b : ℕ) → length w.out.now ≤ last_place → r.out.ghost_name ≡ w.out.ghost_name → r.out.now ≡ set w.out.now w.at b
    → r.at ≡ sat (w.at + 1) → Prints w (b ∷ []) r
prints_one b h s e n = record { same = s; put = λ k. put_bytes_one b h e n }

pub prints_more : {a b c : Printer} {k l : List ℕ} → Prints a k b → Prints b l c → Prints a (k ++ l) c
prints_more p q = record { same = q.same ∙ p.same; put = λ h. put_bytes_more (p.put h) (q.put (next_low (p.put h))) }

pub prints_same : {a b : Printer} {k l : List ℕ} → Prints a k b → k ≡ l → Prints a l b
prints_same p e = record { same = p.same; put = λ k. put_bytes_same (p.put k) e }

-- once the printer is done, its slice is the caller's again
pub prints_end : {w r : Printer} {l out : List ℕ} → Prints w l r → w.at ≤ last_place → (w.out.ghost_name ≡ r.out.ghost_name → out ≡ r.out.now)
    → PutBytes w.out.now w.at l out r.at
prints_end {w} {r} {l} p k e = subst (λ (x : List ℕ). PutBytes w.out.now w.at l x r.at) (sym (e (sym p.same))) (p.put k)

-- of the bytes l a first part has been appended, and the bytes `left` are to follow
pub record Printing (w : Printer) (l : List ℕ) (u : Printer) (left : List ℕ) : Type 0 where
  pub done : List ℕ
  pub put : Prints w done u
  pub whole : done ++ left ≡ l

pub printing_start : {w : Printer} (l : List ℕ) → length w.out.now ≤ last_place → Printing w l w l
printing_start l h = record { done = []; put = prints_none h; whole = refl }

pub printing_more : {w u v : Printer} {l left k r : List ℕ} → Printing w l u left → Prints u k v → left ≡ k ++ r → Printing w l v r
printing_more {k = k} {r = r} p q e =
    record {
      done = p.done ++ k;
      put = prints_more p.put q;
      whole = append_assoc p.done k r ∙ ap (λ (x : List ℕ). p.done ++ x) (sym e) ∙ p.whole;
    }

pub printing_done : {w u : Printer} {l left : List ℕ} → Printing w l u left → left ≡ [] → Prints w l u
printing_done p e = prints_same p.put (sym (append-nil p.done) ∙ ap (λ (x : List ℕ). p.done ++ x) (sym e) ∙ p.whole)

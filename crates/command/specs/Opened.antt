-- A stored case: a line that names its command, and its input. Assumes nothing.
--     opened_of     the command, and the place where the input starts
--     opened_cut   the first bytes of a case tell it
--     opened_low   the input starts among them
--     index_of      the place of a byte in a list
--     word_command, opened_none, opened_line    by what is found there
use Rattle.std.specs.Prelude.{◌≡◌, refl, Bool, true, false, not, cond, List, ℕ, ◌+◌, ◌≤◌, eqb, ◌==◌, length, take}
use Rattle.std.specs.List.{position_or_len}
use Rattle.std.proofs.Common.{◌∙◌, arith, sym, ap, length-take, take-take, eq-eqb, ne_eqb}
use Rattle.std.proofs.lemmas.Bool.{eqb-false}
use Rattle.std.proofs.lemmas.List.Sums.{prefix_len-le-length}
use Rattle.command.specs.declared.Command.{Command}
use Rattle.command.specs.declared.Command.TheVariants.{Unknown}
use Rattle.command.specs.Named.{name_of}

-- the place of the first such byte in a list, or the list's length where none stands there
abbrev pub index_of : ℕ → List ℕ → ℕ
index_of b l = position_or_len (λ x. x == b) l

-- the bytes in which the line must end
abbrev pub line_room : ℕ
line_room = 128

-- the command that a line's first word names
unfoldable pub word_of : List ℕ → Command
word_of line = name_of (take (index_of 32 line) line)

-- by the first bytes of a case, in which its line ends, or no command is named
unfoldable pub opened_by : List ℕ → Command × ℕ
opened_by head =
    let end = index_of 10 head in
    cond (eqb end (length head)) (Unknown, 0) (word_of (take end head), end + 1)

abbrev pub opened_of : List ℕ → Command × ℕ
opened_of case = opened_by (take line_room case)

pub opened_cut : (k : ℕ) → line_room ≤ k → (case : List ℕ) → opened_of (take k case) ≡ opened_of case
opened_cut k h case = ap opened_by (take-take line_room k case h)

index_low : (b : ℕ) (l : List ℕ) → index_of b l ≤ length l
index_low b l = prefix_len-le-length (λ x. not (x == b)) l

opened_below : (head : List ℕ) → (opened_by head).1 ≤ length head
unfolding opened_by
opened_below head = go (eqb (index_of 10 head) (length head)) refl
  where
    go : (t : Bool) → eqb (index_of 10 head) (length head) ≡ t
        → (cond {A = Command × ℕ} t (Unknown, 0) (word_of (take (index_of 10 head) head), index_of 10 head + 1)).1 ≤ length head
    go true e = omega arith
    go false e = omega (arith, eqb-false (index_of 10 head) (length head) e, index_low 10 head)

pub opened_low : (case : List ℕ) → (opened_of case).1 ≤ line_room
opened_low case = omega (arith, opened_below (take line_room case), length-take line_room case)

-- ---- by what `find` finds

pub word_command : (line : List ℕ) (n : ℕ) (r : Command) → n ≡ index_of 32 line → r ≡ name_of (take n line) → r ≡ word_of line
unfolding word_of
word_command line n r e f = f ∙ ap (λ (k : ℕ). name_of (take k line)) e

module _ (case head : List ℕ) (n : ℕ) (is : head ≡ take line_room case) (at : n ≡ index_of 10 head) where
  abbrev by : Bool → ℕ → Command × ℕ
  by none end = cond none (Unknown, 0) (word_of (take end head), end + 1)

  opened_is : (b : Bool) → eqb n (length head) ≡ b → by b n ≡ opened_of case
  unfolding opened_by
  opened_is b e =
      sym (ap (λ (x : Bool). by x n) e)
      ∙ ap (λ (k : ℕ). by (eqb k (length head)) k) at
      ∙ ap opened_by is

  pub opened_none : n ≡ length head → (Unknown, 0) ≡ opened_of case
  opened_none e = opened_is _ (eq-eqb n (length head) e)

  pub opened_line : (n ≡ length head → ⊥) → (r : Command) → r ≡ word_of (take n head) → (r, n + 1) ≡ opened_of case
  opened_line other r e = ap (λ (x : Command). (x, n + 1)) e ∙ opened_is _ (ne_eqb n (length head) other)

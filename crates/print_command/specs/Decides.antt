-- How much of an input decides what is printed for it. Assumes nothing.
--     printed_known    nothing that follows changes it, once `input::known` says so
--     printed_cut      an input's first bytes, as many as decide or more
--     case_cut         the same of a stored case
--     printed_for_all  what is told of the bytes that were read holds of the whole input, where they decide or are all
use Rattle.std.specs.Prelude.{◌≡◌, ◌⊎◌, refl, true, Option, None, Some, IfSome, IsTrue, List, [], ◌∷◌, ◌++◌, ℕ, zero, suc, ◌+◌, ◌-◌, ◌≤◌, drop, take}
use Rattle.std.specs.Io.KnownBytes.{Consumes, IsAtEnd}
use Rattle.std.proofs.Common.{sym, ap, subst, ◌∙◌, append-nil, ⊎_elim, arith}
use Rattle.std.proofs.Math.Seq.{take-nil}
use Rattle.command.specs.declared.Command.{Command}
use Rattle.command.specs.declared.Command.TheVariants.{Lift, Read, Blocks, Help, Unknown}
use Rattle.command.specs.Opened.{line_room, opened_cut, opened_low, opened_of}
use Rattle.read_first.specs.Cut.{input_room}
use Rattle.read_first.proofs.Cut.{parse_cut}
use Rattle.read_input.specs.Known.{known_for, text_decides}
use Rattle.print_room.specs.Most.{lent}
use Rattle.print_lifted.specs.Input.{bytes_cut, bytes_known}
use Rattle.print_refusal.specs.Line.{read_bytes}
use Rattle.print_lines.specs.Lines.{blocks_bytes}
use Rattle.print_command.specs.Printed.{case_bytes, command_bytes, printed_for}

pub printed_known : (command : Command) (input : List ℕ) → known_for command input ≡ true → (more : List ℕ)
    → printed_for command input ≡ printed_for command (input ++ more)
unfolding command_bytes known_for
printed_known Lift input known more = bytes_known lent lent lent input known more
printed_known Read input known more = ap read_bytes (text_decides input known more lent lent)
printed_known Blocks input known more = ap blocks_bytes (text_decides input known more lent lent)
printed_known Help input known more = refl
printed_known Unknown input known more = refl

pub printed_cut : (command : Command) (k : ℕ) → input_room ≤ k → (input : List ℕ) → printed_for command (take k input) ≡ printed_for command input
unfolding command_bytes
printed_cut Lift k h input = bytes_cut lent lent lent k h input
printed_cut Read k h input = ap read_bytes (parse_cut k (omega arith) input lent lent)
printed_cut Blocks k h input = ap blocks_bytes (parse_cut k (omega arith) input lent lent)
printed_cut Help k h input = refl
printed_cut Unknown k h input = refl

-- what stands behind a place in a list's first elements
drop_take : (n k : ℕ) (l : List ℕ) → drop n (take k l) ≡ take (k - n) (drop n l)
drop_take zero k l = let e : k ≡ k - 0 = omega arith in ap (λ (j : ℕ). take j l) e
drop_take (suc n) k [] = ap (drop (suc n)) (take-nil k) ∙ sym (take-nil (k - suc n))
drop_take (suc n) zero (x ∷ l) = let e : 0 ≡ 0 - suc n = omega arith in ap (λ (j : ℕ). take j (drop n l)) e
drop_take (suc n) (suc k) (x ∷ l) = let e : k - n ≡ suc k - suc n = omega arith in drop_take n k l ∙ ap (λ (j : ℕ). take j (drop n l)) e

pub case_cut : (k : ℕ) → line_room + input_room ≤ k → (case : List ℕ) → case_bytes (take k case) ≡ case_bytes case
case_cut k h case =
    let o = opened_of case in
    ap (λ (x : Command × ℕ). printed_for x.0 (drop x.1 (take k case))) (opened_cut k (omega arith) case)
    ∙ ap (printed_for o.0) (drop_take o.1 k case)
    ∙ printed_cut o.0 (k - o.1) (omega (arith, opened_low case)) (drop o.1 case)

-- `before` and `after` are what a reader has left.
pub printed_for_all : (command : Command) (before after : Option (List ℕ)) (part : List ℕ) (P : List ℕ → Type 0) → Consumes before after part
    → IsTrue (known_for command part) ⊎ IsAtEnd after → P (printed_for command part) → IfSome before (λ input. P (printed_for command input))
printed_for_all command None after part P read decided printed = tt
printed_for_all command (Some all) None part P read decided printed = absurd read
printed_for_all command (Some all) (Some left) part P read decided printed =
    let same : printed_for command part ≡ printed_for command (part ++ left) =
    ⊎_elim (λ known. printed_known command part known left) (λ none. ap (printed_for command) (sym (ap (λ (l : List ℕ). part ++ l) none ∙ append-nil part))) decided in
    subst P (same ∙ ap (printed_for command) (sym read)) printed

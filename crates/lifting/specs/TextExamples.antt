-- Texts read and printed again by computation: the listing of document 01, and what each rule of 'The text' takes and refuses. Assumes
-- nothing.
use Rattle.std.specs.Prelude.{◌≡◌, refl, List, [], ◌∷◌, ◌++◌, ℕ}
use Rattle.std.proofs.Math.Option.{Option, none, some}
use Rattle.lifting.specs.Bytes.{bytes}
use Rattle.lifting.specs.Ast.{Func}
use Rattle.lifting.specs.Grammar.{read, print}

-- the text of what was read
abbrev again : Option Func → List ℕ
again none = []
again (some f) = print f

listing : List ℕ
listing = bytes "(func 0 2 3 0)\n(const 5 43)\n(region (in) (nodes 0) (out))\n(block 0)\n(op 0 4 (inst 128) (c 0) (c 0))\n"

listing_again : again (read listing) ≡ listing
unfolding listing read print
listing_again = refl

-- a form of every kind
every_form : List ℕ
every_form =
    bytes "(func 1 2 3 4)\n"
    ++ bytes "(const 5 43)\n"
    ++ bytes "(const 6 0)\n"
    ++ bytes "(param 0 7)\n"
    ++ bytes "(region (in (0 7)) (nodes 0 1 2 3) (out))\n"
    ++ bytes "(region (in) (nodes) (out (c 1)))\n"
    ++ bytes "(region (in) (nodes) (out (r 0 0)))\n"
    ++ bytes "(region (in (0 8) (9 8)) (nodes) (out (n 1 0) (d 0)))\n"
    ++ bytes "(region (in (0 8)) (nodes) (out))\n"
    ++ bytes "(block 0 1 2)\n"
    ++ bytes "(select bool (c 0) (cases 1 2) (outs (0 8)) 0)\n"
    ++ bytes "(loop 3 (d 0) (init (c 0) (r 0 0)) 0)\n"
    ++ bytes "(exit (inst 252 (0 5 1) (1 6 2) (2 6 3)) (c 0))\n"
    ++ bytes "(op 0 4 (inst 128) (c 0) (c 0))\n"
    ++ bytes "(op 7 0 (call 5) (r 0 0))\n"
    ++ bytes "(op 0 4 (ext 6 31))\n"
    ++ bytes "(ctrl 0 0 branch (ins) (to 4) (vals (4 (c 0))))\n"
    ++ bytes "(ctrl 4 7 (inst 251 (0 9 0)) (ins (c 0)) (to 1 2) (vals (1) (2)))\n"
    ++ bytes "(ctrl 5 0 bool (ins (d 2)) (to 4 4) (vals (4 (n 1 0))))\n"
    ++ bytes "(ctrl 6 0 return (ins (d 2)) (to) (vals))\n"
    ++ bytes "(ctrl 7 0 unreachable (ins) (to) (vals))\n"
    ++ bytes "(ctrl 8 0 (exit (inst 252)) (ins) (to) (vals))\n"

every_form_again : again (read every_form) ≡ every_form
unfolding every_form read print
every_form_again = refl

-- an imported function may have params
imported : read (bytes "(func 0 2 3 0)\n(const 5 43)\n(param 1 4)\n(imported)\n")
    ≡ some
    (record {
      attrs = 0;
      ret = 2;
      type = 3;
      control = 0;
      consts = record { id = 5; opcode = 43 } ∷ [];
      params = record { attrs = 1; type = 4 } ∷ [];
      regions = [];
      nodes = [];
      ops = [];
      ctrls = [];
    })
unfolding read
imported = refl

-- `(imported)` stands alone
region_after_imported : read (bytes "(func 0 2 3 0)\n(imported)\n(region (in) (nodes) (out))\n") ≡ none
unfolding read
region_after_imported = refl

no_region : read (bytes "(func 0 2 3 0)\n(const 5 43)\n") ≡ none
unfolding read
no_region = refl

params_before_consts : read (bytes "(func 0 2 3 0)\n(param 1 4)\n(const 5 43)\n(imported)\n") ≡ none
unfolding read
params_before_consts = refl

-- numbers fit 32 bits
highest_number : again (read (bytes "(func 0 2 3 4294967295)\n(imported)\n")) ≡ bytes "(func 0 2 3 4294967295)\n(imported)\n"
unfolding read print
highest_number = refl

number_of_33_bits : read (bytes "(func 0 2 3 4294967296)\n(imported)\n") ≡ none
unfolding read
number_of_33_bits = refl

leading_zero : read (bytes "(func 0 2 03 0)\n(imported)\n") ≡ none
unfolding read
leading_zero = refl

-- single spaces, each line ended by byte 10
two_spaces : read (bytes "(func 0  2 3 0)\n(imported)\n") ≡ none
unfolding read
two_spaces = refl

blank_line : read (bytes "(func 0 2 3 0)\n\n(imported)\n") ≡ none
unfolding read
blank_line = refl

no_last_newline : read (bytes "(func 0 2 3 0)\n(imported)") ≡ none
unfolding read
no_last_newline = refl

empty_text : read [] ≡ none
unfolding read
empty_text = refl

-- Document 01, 'To the testers': the starred items, as rows of one table under one theorem; and further texts, each of which rules out a
-- wrong lifting that the starred ones would let pass. A row is a text, a first id and what is claimed of the answer. Assumes nothing.
use Rattle.std.specs.Prelude.{◌≡◌, refl, Bool, true, false, ◌&&◌, List, [], ◌∷◌, ℕ, zero, suc, eqb, length}
use Prim.Native.String.{String}
use Rattle.opcodes.specs.declared.InstKind.TheVariants.{Phi}
use Rattle.lifting.specs.Bytes.{bytes}
use Rattle.general_laws.specs.Lists.{every}
use Rattle.lifting.specs.Limits.{func_words, work_words}
use Rattle.lifting.specs.Instructions.{Instruction}
use Rattle.lifting.specs.Words.{list_from}
use Rattle.lifting.specs.Answer.{Answer, listed, refused, answer}
use Rattle.lifting.specs.BlockRun.{parts, is_kind}

-- what a row claims: the words and the next free id; the number of blocks; the numbers of pairs of all phis; a refusal
pub data Claim : Type 0 where
  gives : List ℕ → ℕ → Claim
  blocks : ℕ → Claim
  pairs_of_phis : List ℕ → Claim
  refuses : ℕ → Claim

pub record Row : Type 0 where
  pub text : String
  pub first : ℕ
  pub claim : Claim

abbrev same : List ℕ → List ℕ → Bool
same [] [] = true
same [] (y ∷ m) = false
same (x ∷ l) [] = false
same (x ∷ l) (y ∷ m) = eqb x y && same l m

abbrev half : ℕ → ℕ
half zero = zero
half (suc zero) = zero
half (suc (suc n)) = suc (half n)

abbrev phi_pairs : List Instruction → List ℕ
phi_pairs [] = []
phi_pairs (i ∷ l) = elim (is_kind Phi i) [ true ↦ half (length i.ids) ∷ phi_pairs l | false ↦ phi_pairs l ]

abbrev holds : Answer → Claim → Bool
holds (listed ws next) (gives xs n) = same ws xs && eqb next n
holds (listed ws next) (blocks n) = eqb (length (parts (list_from ws)).blocks) n
holds (listed ws next) (pairs_of_phis ns) = same (phi_pairs (list_from ws)) ns
holds (listed ws next) (refuses n) = false
holds (refused m) (gives xs n) = false
holds (refused m) (blocks n) = false
holds (refused m) (pairs_of_phis ns) = false
holds (refused m) (refuses n) = eqb m n

-- with slices of 16,384 words, as the program lends them
unfoldable pub right : Row → Bool
unfolding answer list_from
right r = holds (answer (bytes r.text) r.first func_words work_words 16384) r.claim

abbrev row : String → ℕ → Claim → Row
row t n c = record { text = t; first = n; claim = c }

abbrev pub starred : List Row
starred =
    -- the listing
    row "(func 0 2 3 0)\n(const 5 43)\n(region (in) (nodes 0) (out))\n(block 0)\n(op 0 4 (inst 128) (c 0) (c 0))\n" 10
    (gives (54 ∷ 0 ∷ 2 ∷ 10 ∷ 1 ∷ 0 ∷ 1 ∷ 0 ∷ 1 ∷ 3 ∷ 248 ∷ 0 ∷ 0 ∷ 12 ∷ 0 ∷ 0 ∷ 128 ∷ 0 ∷ 4 ∷ 11 ∷ 0 ∷ 2 ∷ 5 ∷ 5 ∷ 253 ∷ 0 ∷ 0 ∷ 0 ∷ 0 ∷ 0 ∷ 56 ∷ 0 ∷ 0 ∷ 0 ∷ 0 ∷ 0 ∷ []) 13)
    -- no nodes: 1 block, `Return`
    ∷ row "(func 0 2 3 0)\n(region (in) (nodes) (out))\n" 10
    (gives (54 ∷ 0 ∷ 2 ∷ 10 ∷ 1 ∷ 0 ∷ 1 ∷ 0 ∷ 1 ∷ 3 ∷ 248 ∷ 0 ∷ 0 ∷ 11 ∷ 0 ∷ 0 ∷ 253 ∷ 0 ∷ 0 ∷ 0 ∷ 0 ∷ 0 ∷ 56 ∷ 0 ∷ 0 ∷ 0 ∷ 0 ∷ 0 ∷ []) 12)
    -- an exit alone: 1 block
    ∷ row "(func 0 2 3 0)\n(region (in) (nodes 0) (out))\n(exit (inst 252))\n" 10 (blocks 1)
    -- an empty loop on opcode 43, and on 41: 5 blocks each
    ∷ row "(func 0 2 3 0)\n(const 5 43)\n(region (in) (nodes 0) (out))\n(region (in) (nodes) (out))\n(loop 1 (c 0) (init) 0)\n" 10 (blocks 5)
    ∷ row "(func 0 2 3 0)\n(const 5 41)\n(region (in) (nodes 0) (out))\n(region (in) (nodes) (out))\n(loop 1 (c 0) (init) 0)\n" 10 (blocks 5)
    -- an empty `bool` select: 4 blocks
    ∷ row "(func 0 2 3 0)\n(const 5 43)\n(region (in) (nodes 0) (out))\n(region (in) (nodes) (out))\n(region (in) (nodes) (out))\n(select bool (c 0) (cases 1 2) (outs) 0)\n" 10
    (blocks 4)
    -- branch to region 1, which returns, no vals: 1 block; with `(vals (1))`: 2; with attributes 7: 2
    ∷ row "(func 0 2 3 0)\n(region (in) (nodes) (out))\n(region (in) (nodes) (out))\n(ctrl 0 0 branch (ins) (to 1) (vals))\n(ctrl 1 0 return (ins) (to) (vals))\n" 10
    (blocks 1)
    ∷ row "(func 0 2 3 0)\n(region (in) (nodes) (out))\n(region (in) (nodes) (out))\n(ctrl 0 0 branch (ins) (to 1) (vals (1)))\n(ctrl 1 0 return (ins) (to) (vals))\n" 10
    (blocks 2)
    ∷ row "(func 0 2 3 0)\n(region (in) (nodes) (out))\n(region (in) (nodes) (out))\n(ctrl 0 7 branch (ins) (to 1) (vals))\n(ctrl 1 0 return (ins) (to) (vals))\n" 10
    (blocks 2)
    -- `bool` to 1 and 1 with one value: refusal 13 (document 02, W7)
    ∷ row
    "(func 0 2 3 0)\n(const 5 43)\n(region (in) (nodes) (out))\n(region (in (0 4)) (nodes) (out))\n(ctrl 0 0 bool (ins (c 0)) (to 1 1) (vals (1 (c 0))))\n(ctrl 1 0 return (ins (r 1 0)) (to) (vals))\n"
    10 (refuses 13)
    -- no nodes, first id 4,194,301: accepted; 4,194,302: refusal 9 (document 02, W3)
    ∷ row "(func 0 2 3 0)\n(region (in) (nodes) (out))\n" 4194301
    (gives
    (54 ∷ 0 ∷ 2 ∷ 4194301 ∷ 1 ∷ 0 ∷ 1 ∷ 0 ∷ 1 ∷ 3 ∷ 248 ∷ 0 ∷ 0 ∷ 4194302 ∷ 0 ∷ 0 ∷ 253 ∷ 0 ∷ 0 ∷ 0 ∷ 0 ∷ 0 ∷ 56 ∷ 0 ∷ 0 ∷ 0 ∷ 0 ∷ 0 ∷ [])
    4194303)
    ∷ row "(func 0 2 3 0)\n(region (in) (nodes) (out))\n" 4194302 (refuses 9)
    ∷ []

pub starred_hold : every right starred ≡ true
unfolding right
starred_hold = refl

-- Further texts; the lists are the Rust's.
abbrev pub further : List Row
further =
    -- the way back of a loop on opcode 41 is unconditional
    row "(func 0 2 3 0)\n(const 5 41)\n(region (in) (nodes 0) (out))\n(region (in) (nodes) (out))\n(loop 1 (c 0) (init) 0)\n" 20
    (gives (54 ∷ 0 ∷ 2 ∷ 20 ∷ 1 ∷ 0 ∷ 1 ∷ 0 ∷ 1 ∷ 3 ∷ 248 ∷ 0 ∷ 0 ∷ 21 ∷ 0 ∷ 0 ∷ 249 ∷ 0 ∷ 0 ∷ 0 ∷ 0 ∷ 1 ∷ 22 ∷ 248 ∷ 0 ∷ 0 ∷ 22 ∷ 0 ∷ 0 ∷ 246 ∷ 0 ∷ 0 ∷ 0 ∷ 1 ∷ 0 ∷ 3 ∷ 0 ∷ 2 ∷ 25 ∷ 24 ∷ 249 ∷ 0 ∷ 0 ∷ 0 ∷ 0 ∷ 1 ∷ 23 ∷ 248 ∷ 0 ∷ 0 ∷ 23 ∷ 0 ∷ 0 ∷ 249 ∷ 0 ∷ 0 ∷ 0 ∷ 0 ∷ 1 ∷ 24 ∷ 248 ∷ 0 ∷ 0 ∷ 24 ∷ 0 ∷ 0 ∷ 249 ∷ 0 ∷ 0 ∷ 0 ∷ 0 ∷ 1 ∷ 22 ∷ 248 ∷ 0 ∷ 0 ∷ 25 ∷ 0 ∷ 0 ∷ 253 ∷ 0 ∷ 0 ∷ 0 ∷ 0 ∷ 0 ∷ 56 ∷ 0 ∷ 0 ∷ 0 ∷ 0 ∷ 0 ∷ []) 26)
    -- and on 48, a specialisation constant true, it is not
    ∷ row "(func 0 2 3 0)\n(const 5 48)\n(region (in) (nodes 0) (out))\n(region (in) (nodes) (out))\n(loop 1 (c 0) (init) 0)\n" 20
    (gives (54 ∷ 0 ∷ 2 ∷ 20 ∷ 1 ∷ 0 ∷ 1 ∷ 0 ∷ 1 ∷ 3 ∷ 248 ∷ 0 ∷ 0 ∷ 21 ∷ 0 ∷ 0 ∷ 249 ∷ 0 ∷ 0 ∷ 0 ∷ 0 ∷ 1 ∷ 22 ∷ 248 ∷ 0 ∷ 0 ∷ 22 ∷ 0 ∷ 0 ∷ 246 ∷ 0 ∷ 0 ∷ 0 ∷ 1 ∷ 0 ∷ 3 ∷ 0 ∷ 2 ∷ 25 ∷ 24 ∷ 249 ∷ 0 ∷ 0 ∷ 0 ∷ 0 ∷ 1 ∷ 23 ∷ 248 ∷ 0 ∷ 0 ∷ 23 ∷ 0 ∷ 0 ∷ 249 ∷ 0 ∷ 0 ∷ 0 ∷ 0 ∷ 1 ∷ 24 ∷ 248 ∷ 0 ∷ 0 ∷ 24 ∷ 0 ∷ 0 ∷ 250 ∷ 0 ∷ 0 ∷ 0 ∷ 0 ∷ 3 ∷ 5 ∷ 22 ∷ 25 ∷ 248 ∷ 0 ∷ 0 ∷ 25 ∷ 0 ∷ 0 ∷ 253 ∷ 0 ∷ 0 ∷ 0 ∷ 0 ∷ 0 ∷ 56 ∷ 0 ∷ 0 ∷ 0 ∷ 0 ∷ 0 ∷ []) 26)
    -- a loop swaps two values: each phi has a pair for each edge, in the order of kept blocks, and its own edge's value
    ∷ row "(func 0 2 3 0)\n(const 5 43)\n(const 6 43)\n(region (in) (nodes 0) (out))\n(region (in (0 4) (7 8)) (nodes 1) (out (r 1 1) (r 1 0)))\n(loop 1 (d 0) (init (c 0) (c 1)) 0)\n(block 0)\n(op 0 9 (inst 128) (r 1 0) (r 1 1))\n" 20
    (gives (54 ∷ 0 ∷ 2 ∷ 20 ∷ 1 ∷ 0 ∷ 1 ∷ 0 ∷ 1 ∷ 3 ∷ 248 ∷ 0 ∷ 0 ∷ 24 ∷ 0 ∷ 0 ∷ 249 ∷ 0 ∷ 0 ∷ 0 ∷ 0 ∷ 1 ∷ 25 ∷ 248 ∷ 0 ∷ 0 ∷ 25 ∷ 0 ∷ 0 ∷ 245 ∷ 0 ∷ 4 ∷ 21 ∷ 0 ∷ 4 ∷ 5 ∷ 24 ∷ 22 ∷ 27 ∷ 245 ∷ 7 ∷ 8 ∷ 22 ∷ 0 ∷ 4 ∷ 6 ∷ 24 ∷ 21 ∷ 27 ∷ 246 ∷ 0 ∷ 0 ∷ 0 ∷ 1 ∷ 0 ∷ 3 ∷ 0 ∷ 2 ∷ 28 ∷ 27 ∷ 249 ∷ 0 ∷ 0 ∷ 0 ∷ 0 ∷ 1 ∷ 26 ∷ 248 ∷ 0 ∷ 0 ∷ 26 ∷ 0 ∷ 0 ∷ 128 ∷ 0 ∷ 9 ∷ 23 ∷ 0 ∷ 2 ∷ 21 ∷ 22 ∷ 249 ∷ 0 ∷ 0 ∷ 0 ∷ 0 ∷ 1 ∷ 27 ∷ 248 ∷ 0 ∷ 0 ∷ 27 ∷ 0 ∷ 0 ∷ 250 ∷ 0 ∷ 0 ∷ 0 ∷ 0 ∷ 3 ∷ 23 ∷ 25 ∷ 28 ∷ 248 ∷ 0 ∷ 0 ∷ 28 ∷ 0 ∷ 0 ∷ 253 ∷ 0 ∷ 0 ∷ 0 ∷ 0 ∷ 0 ∷ 56 ∷ 0 ∷ 0 ∷ 0 ∷ 0 ∷ 0 ∷ []) 29)
    -- a select with an output, its cases' values in the order of the cases
    ∷ row "(func 0 2 3 0)\n(const 5 43)\n(const 6 43)\n(region (in) (nodes 0) (out (n 0 0)))\n(region (in) (nodes) (out (c 0)))\n(region (in) (nodes) (out (c 1)))\n(select bool (c 0) (cases 1 2) (outs (0 4)) 0)\n" 20
    (gives (54 ∷ 0 ∷ 2 ∷ 20 ∷ 1 ∷ 0 ∷ 1 ∷ 0 ∷ 1 ∷ 3 ∷ 248 ∷ 0 ∷ 0 ∷ 22 ∷ 0 ∷ 0 ∷ 247 ∷ 0 ∷ 0 ∷ 0 ∷ 1 ∷ 0 ∷ 2 ∷ 0 ∷ 1 ∷ 25 ∷ 250 ∷ 0 ∷ 0 ∷ 0 ∷ 0 ∷ 3 ∷ 5 ∷ 23 ∷ 24 ∷ 248 ∷ 0 ∷ 0 ∷ 23 ∷ 0 ∷ 0 ∷ 249 ∷ 0 ∷ 0 ∷ 0 ∷ 0 ∷ 1 ∷ 25 ∷ 248 ∷ 0 ∷ 0 ∷ 24 ∷ 0 ∷ 0 ∷ 249 ∷ 0 ∷ 0 ∷ 0 ∷ 0 ∷ 1 ∷ 25 ∷ 248 ∷ 0 ∷ 0 ∷ 25 ∷ 0 ∷ 0 ∷ 245 ∷ 0 ∷ 4 ∷ 21 ∷ 0 ∷ 4 ∷ 5 ∷ 23 ∷ 6 ∷ 24 ∷ 254 ∷ 0 ∷ 0 ∷ 0 ∷ 0 ∷ 1 ∷ 21 ∷ 56 ∷ 0 ∷ 0 ∷ 0 ∷ 0 ∷ 0 ∷ []) 26)
    -- a loop behind an exit: the exit's end is dropped, and its use of the loop's entry counts all the same, so the way back does not absorb it
    ∷ row "(func 0 2 3 0)\n(const 5 41)\n(region (in) (nodes 0 1) (out))\n(region (in) (nodes) (out))\n(exit (inst 252))\n(loop 1 (c 0) (init) 0)\n" 20
    (gives (54 ∷ 0 ∷ 2 ∷ 20 ∷ 1 ∷ 0 ∷ 1 ∷ 0 ∷ 1 ∷ 3 ∷ 248 ∷ 0 ∷ 0 ∷ 21 ∷ 0 ∷ 0 ∷ 252 ∷ 0 ∷ 0 ∷ 0 ∷ 0 ∷ 0 ∷ 248 ∷ 0 ∷ 0 ∷ 22 ∷ 0 ∷ 0 ∷ 246 ∷ 0 ∷ 0 ∷ 0 ∷ 1 ∷ 0 ∷ 3 ∷ 0 ∷ 2 ∷ 25 ∷ 24 ∷ 249 ∷ 0 ∷ 0 ∷ 0 ∷ 0 ∷ 1 ∷ 23 ∷ 248 ∷ 0 ∷ 0 ∷ 23 ∷ 0 ∷ 0 ∷ 249 ∷ 0 ∷ 0 ∷ 0 ∷ 0 ∷ 1 ∷ 24 ∷ 248 ∷ 0 ∷ 0 ∷ 24 ∷ 0 ∷ 0 ∷ 249 ∷ 0 ∷ 0 ∷ 0 ∷ 0 ∷ 1 ∷ 22 ∷ 248 ∷ 0 ∷ 0 ∷ 25 ∷ 0 ∷ 0 ∷ 253 ∷ 0 ∷ 0 ∷ 0 ∷ 0 ∷ 0 ∷ 56 ∷ 0 ∷ 0 ∷ 0 ∷ 0 ∷ 0 ∷ []) 26)
    -- roots in reverse post-order, targets taken last to first; a call and an ext; parameters
    ∷ row "(func 1 2 3 4)\n(param 0 6)\n(param 5 6)\n(region (in (0 6) (5 6)) (nodes 0) (out))\n(region (in (0 7)) (nodes) (out))\n(region (in) (nodes) (out))\n(region (in) (nodes) (out))\n(block 1 0)\n(op 0 6 (call 9) (r 0 0))\n(op 2 0 (ext 8 77) (r 0 1))\n(ctrl 0 0 (inst 251 (0 5 1)) (ins (r 0 1)) (to 2 1 3) (vals (1 (d 0))))\n(ctrl 1 3 return (ins (r 1 0)) (to) (vals))\n(ctrl 2 0 branch (ins) (to 1) (vals (1 (r 0 0))))\n(ctrl 3 0 unreachable (ins) (to) (vals))\n" 30
    (gives (54 ∷ 1 ∷ 2 ∷ 30 ∷ 1 ∷ 0 ∷ 1 ∷ 4 ∷ 1 ∷ 3 ∷ 55 ∷ 0 ∷ 6 ∷ 31 ∷ 0 ∷ 0 ∷ 55 ∷ 5 ∷ 6 ∷ 32 ∷ 0 ∷ 0 ∷ 248 ∷ 0 ∷ 0 ∷ 35 ∷ 0 ∷ 0 ∷ 12 ∷ 2 ∷ 0 ∷ 0 ∷ 1 ∷ 0 ∷ 4 ∷ 77 ∷ 2 ∷ 8 ∷ 32 ∷ 57 ∷ 0 ∷ 6 ∷ 34 ∷ 0 ∷ 2 ∷ 9 ∷ 31 ∷ 251 ∷ 0 ∷ 0 ∷ 0 ∷ 1 ∷ 0 ∷ 5 ∷ 1 ∷ 4 ∷ 32 ∷ 36 ∷ 37 ∷ 38 ∷ 248 ∷ 0 ∷ 0 ∷ 36 ∷ 0 ∷ 0 ∷ 249 ∷ 0 ∷ 0 ∷ 0 ∷ 0 ∷ 1 ∷ 37 ∷ 248 ∷ 0 ∷ 0 ∷ 37 ∷ 0 ∷ 0 ∷ 245 ∷ 0 ∷ 7 ∷ 33 ∷ 0 ∷ 4 ∷ 34 ∷ 35 ∷ 31 ∷ 36 ∷ 254 ∷ 3 ∷ 0 ∷ 0 ∷ 0 ∷ 1 ∷ 33 ∷ 248 ∷ 0 ∷ 0 ∷ 38 ∷ 0 ∷ 0 ∷ 255 ∷ 0 ∷ 0 ∷ 0 ∷ 0 ∷ 0 ∷ 56 ∷ 0 ∷ 0 ∷ 0 ∷ 0 ∷ 0 ∷ []) 39)
    -- another selection to 1 and 1 with one value: its phi has one pair
    ∷ row
    "(func 0 2 3 0)\n(const 5 43)\n(region (in) (nodes) (out))\n(region (in (0 4)) (nodes) (out))\n(ctrl 0 0 (inst 251) (ins (c 0)) (to 1 1) (vals (1 (c 0))))\n(ctrl 1 0 return (ins (r 1 0)) (to) (vals))\n"
    10 (pairs_of_phis (1 ∷ []))
    -- `bool` to 1 and 1 is refusal 13 where nothing reaches the line too, and before 9; to 0 and 0 it is 7
    ∷ row "(func 0 2 3 0)\n(const 5 43)\n(region (in) (nodes) (out))\n(region (in) (nodes) (out))\n(ctrl 0 0 return (ins) (to) (vals))\n(ctrl 1 0 bool (ins (c 0)) (to 1 1) (vals))\n" 10
    (refuses 13)
    ∷ row "(func 0 2 3 0)\n(const 5 43)\n(region (in) (nodes) (out))\n(region (in) (nodes) (out))\n(ctrl 0 0 bool (ins (c 0)) (to 1 1) (vals))\n(ctrl 1 0 return (ins) (to) (vals))\n" 5
    (refuses 13)
    ∷ row "(func 0 2 3 0)\n(const 5 43)\n(region (in) (nodes) (out))\n(ctrl 0 0 bool (ins (c 0)) (to 0 0) (vals))\n" 10 (refuses 7)
    -- a case that ends in an exit and has no outputs, beside a select with outs: it sends no value (document 02, W2)
    ∷ row "(func 0 2 3 0)\n(const 5 43)\n(region (in) (nodes 0) (out (n 0 0)))\n(region (in) (nodes) (out (c 0)))\n(region (in) (nodes 1) (out))\n(select bool (c 0) (cases 1 2) (outs (0 4)) 0)\n(exit (inst 252))\n" 20
    (gives (54 ∷ 0 ∷ 2 ∷ 20 ∷ 1 ∷ 0 ∷ 1 ∷ 0 ∷ 1 ∷ 3 ∷ 248 ∷ 0 ∷ 0 ∷ 22 ∷ 0 ∷ 0 ∷ 247 ∷ 0 ∷ 0 ∷ 0 ∷ 1 ∷ 0 ∷ 2 ∷ 0 ∷ 1 ∷ 25 ∷ 250 ∷ 0 ∷ 0 ∷ 0 ∷ 0 ∷ 3 ∷ 5 ∷ 23 ∷ 24 ∷ 248 ∷ 0 ∷ 0 ∷ 23 ∷ 0 ∷ 0 ∷ 249 ∷ 0 ∷ 0 ∷ 0 ∷ 0 ∷ 1 ∷ 25 ∷ 248 ∷ 0 ∷ 0 ∷ 24 ∷ 0 ∷ 0 ∷ 252 ∷ 0 ∷ 0 ∷ 0 ∷ 0 ∷ 0 ∷ 248 ∷ 0 ∷ 0 ∷ 25 ∷ 0 ∷ 0 ∷ 245 ∷ 0 ∷ 4 ∷ 21 ∷ 0 ∷ 2 ∷ 5 ∷ 23 ∷ 254 ∷ 0 ∷ 0 ∷ 0 ∷ 0 ∷ 1 ∷ 21 ∷ 56 ∷ 0 ∷ 0 ∷ 0 ∷ 0 ∷ 0 ∷ []) 26)
    -- no case sends one: the phi has no pair
    ∷ row "(func 0 2 3 0)\n(const 5 43)\n(region (in) (nodes 0) (out (n 0 0)))\n(region (in) (nodes 1) (out))\n(region (in) (nodes 2) (out))\n(select bool (c 0) (cases 1 2) (outs (0 4)) 0)\n(exit (inst 252))\n(exit (inst 252))\n" 20
    (pairs_of_phis (0 ∷ []))
    -- but for this, outputs are as many as outs: where the exit is not the last node; where there are fewer but not none; beside a select
    -- without outs; where the last node is a select all of whose cases exit; where it is a loop whose body exits; and of a loop's body
    ∷ row "(func 0 2 3 0)\n(const 5 43)\n(region (in) (nodes 0) (out))\n(region (in) (nodes) (out (c 0)))\n(region (in) (nodes 1 2) (out))\n(select bool (c 0) (cases 1 2) (outs (0 4)) 0)\n(exit (inst 252))\n(block)\n" 20
    (refuses 6)
    ∷ row "(func 0 2 3 0)\n(const 5 43)\n(region (in) (nodes 0) (out))\n(region (in) (nodes) (out (c 0) (c 0)))\n(region (in) (nodes 1) (out (c 0)))\n(select bool (c 0) (cases 1 2) (outs (0 4) (0 4)) 0)\n(exit (inst 252))\n" 20
    (refuses 6)
    ∷ row "(func 0 2 3 0)\n(const 5 43)\n(region (in) (nodes 0) (out))\n(region (in) (nodes) (out))\n(region (in) (nodes 1) (out (c 0)))\n(select bool (c 0) (cases 1 2) (outs) 0)\n(exit (inst 252))\n" 20
    (refuses 6)
    ∷ row "(func 0 2 3 0)\n(const 5 43)\n(region (in) (nodes 0) (out))\n(region (in) (nodes) (out (c 0)))\n(region (in) (nodes 1) (out))\n(region (in) (nodes 2) (out))\n(region (in) (nodes 3) (out))\n(select bool (c 0) (cases 1 2) (outs (0 4)) 0)\n(select bool (c 0) (cases 3 4) (outs) 0)\n(exit (inst 252))\n(exit (inst 252))\n" 20
    (refuses 6)
    ∷ row "(func 0 2 3 0)\n(const 5 43)\n(region (in) (nodes 0) (out))\n(region (in) (nodes) (out (c 0)))\n(region (in) (nodes 1) (out))\n(region (in) (nodes 2) (out))\n(select bool (c 0) (cases 1 2) (outs (0 4)) 0)\n(loop 3 (c 0) (init) 0)\n(exit (inst 252))\n" 20
    (refuses 6)
    ∷ row "(func 0 2 3 0)\n(const 5 43)\n(region (in) (nodes 0) (out))\n(region (in (0 4)) (nodes 1) (out))\n(loop 1 (c 0) (init (c 0)) 0)\n(exit (inst 252))\n" 20
    (refuses 6)
    -- a select behind a block in a loop's body: each merge has its own control number, the select's in the block that absorbed it (document 02, W4)
    ∷ row "(func 0 2 3 0)\n(const 5 43)\n(region (in) (nodes 0 1) (out))\n(region (in) (nodes 2 3) (out))\n(region (in) (nodes) (out))\n(region (in) (nodes) (out))\n(block)\n(loop 1 (c 0) (init) 2)\n(block)\n(select bool (c 0) (cases 2 3) (outs) 1)\n" 20
    (gives (54 ∷ 0 ∷ 2 ∷ 20 ∷ 1 ∷ 0 ∷ 1 ∷ 0 ∷ 1 ∷ 3 ∷ 248 ∷ 0 ∷ 0 ∷ 21 ∷ 0 ∷ 0 ∷ 249 ∷ 0 ∷ 0 ∷ 0 ∷ 0 ∷ 1 ∷ 22 ∷ 248 ∷ 0 ∷ 0 ∷ 22 ∷ 0 ∷ 0 ∷ 246 ∷ 0 ∷ 0 ∷ 0 ∷ 1 ∷ 0 ∷ 3 ∷ 2 ∷ 2 ∷ 28 ∷ 27 ∷ 249 ∷ 0 ∷ 0 ∷ 0 ∷ 0 ∷ 1 ∷ 23 ∷ 248 ∷ 0 ∷ 0 ∷ 23 ∷ 0 ∷ 0 ∷ 247 ∷ 0 ∷ 0 ∷ 0 ∷ 1 ∷ 0 ∷ 2 ∷ 1 ∷ 1 ∷ 26 ∷ 250 ∷ 0 ∷ 0 ∷ 0 ∷ 0 ∷ 3 ∷ 5 ∷ 24 ∷ 25 ∷ 248 ∷ 0 ∷ 0 ∷ 24 ∷ 0 ∷ 0 ∷ 249 ∷ 0 ∷ 0 ∷ 0 ∷ 0 ∷ 1 ∷ 26 ∷ 248 ∷ 0 ∷ 0 ∷ 25 ∷ 0 ∷ 0 ∷ 249 ∷ 0 ∷ 0 ∷ 0 ∷ 0 ∷ 1 ∷ 26 ∷ 248 ∷ 0 ∷ 0 ∷ 26 ∷ 0 ∷ 0 ∷ 249 ∷ 0 ∷ 0 ∷ 0 ∷ 0 ∷ 1 ∷ 27 ∷ 248 ∷ 0 ∷ 0 ∷ 27 ∷ 0 ∷ 0 ∷ 250 ∷ 0 ∷ 0 ∷ 0 ∷ 0 ∷ 3 ∷ 5 ∷ 22 ∷ 28 ∷ 248 ∷ 0 ∷ 0 ∷ 28 ∷ 0 ∷ 0 ∷ 253 ∷ 0 ∷ 0 ∷ 0 ∷ 0 ∷ 0 ∷ 56 ∷ 0 ∷ 0 ∷ 0 ∷ 0 ∷ 0 ∷ []) 29)
    -- a control number above 2, of a select and of a loop, and in a root that nothing reaches
    ∷ row "(func 0 2 3 0)\n(const 5 43)\n(region (in) (nodes 0) (out))\n(region (in) (nodes) (out))\n(region (in) (nodes) (out))\n(select bool (c 0) (cases 1 2) (outs) 3)\n" 10 (refuses 4)
    ∷ row "(func 0 2 3 0)\n(const 5 43)\n(region (in) (nodes 0) (out))\n(region (in) (nodes) (out))\n(loop 1 (c 0) (init) 4294967295)\n" 10 (refuses 4)
    ∷ row "(func 0 2 3 0)\n(const 5 43)\n(region (in) (nodes) (out))\n(region (in) (nodes 0) (out))\n(region (in) (nodes) (out))\n(loop 2 (c 0) (init) 3)\n(ctrl 0 0 return (ins) (to) (vals))\n" 10 (refuses 4)
    -- a select and a loop without one
    ∷ row "(func 0 2 3 0)\n(const 5 43)\n(region (in) (nodes 0) (out))\n(region (in) (nodes) (out))\n(region (in) (nodes) (out))\n(select bool (c 0) (cases 1 2) (outs))\n" 10 (refuses 2)
    ∷ row "(func 0 2 3 0)\n(const 5 43)\n(region (in) (nodes 0) (out))\n(region (in) (nodes) (out))\n(loop 1 (c 0) (init))\n" 10 (refuses 2)
    -- an imported function has no blocks
    ∷ row "(func 0 2 3 0)\n(param 0 4)\n(imported)\n" 20
    (gives (54 ∷ 0 ∷ 2 ∷ 20 ∷ 1 ∷ 0 ∷ 1 ∷ 0 ∷ 1 ∷ 3 ∷ 55 ∷ 0 ∷ 4 ∷ 21 ∷ 0 ∷ 0 ∷ 56 ∷ 0 ∷ 0 ∷ 0 ∷ 0 ∷ 0 ∷ []) 22)
    -- and gives an id to itself and to each parameter: both sides of the highest id, with two parameters and with none
    ∷ row "(func 0 2 3 0)\n(param 0 4)\n(param 0 4)\n(imported)\n" 4194300
    (gives
    (54 ∷ 0 ∷ 2 ∷ 4194300 ∷ 1 ∷ 0 ∷ 1 ∷ 0 ∷ 1 ∷ 3 ∷ 55 ∷ 0 ∷ 4 ∷ 4194301 ∷ 0 ∷ 0 ∷ 55 ∷ 0 ∷ 4 ∷ 4194302 ∷ 0 ∷ 0 ∷ 56 ∷ 0 ∷ 0 ∷ 0 ∷ 0 ∷ 0 ∷ [])
    4194303)
    ∷ row "(func 0 2 3 0)\n(param 0 4)\n(param 0 4)\n(imported)\n" 4194301 (refuses 9)
    ∷ row "(func 0 2 3 0)\n(imported)\n" 4194302 (gives (54 ∷ 0 ∷ 2 ∷ 4194302 ∷ 1 ∷ 0 ∷ 1 ∷ 0 ∷ 1 ∷ 3 ∷ 56 ∷ 0 ∷ 0 ∷ 0 ∷ 0 ∷ 0 ∷ []) 4194303)
    ∷ row "(func 0 2 3 0)\n(imported)\n" 4194303 (refuses 9)
    ∷ []

pub further_hold : every right further ≡ true
unfolding right
further_hold = refl

-- The layout of the function slice. Words 0 to 3 are the func line's numbers. A pool is a table of entries of one width, with room for a
-- fixed number of them. Pool k's count stands at word 4 + k, the largest first word that it was given at word 18 + k, and its entries one
-- after the other from its base on. The pools follow one another from word 32 on: `proofs/Pools` proves that they lie apart. Assumes nothing.
--     entry_words, entry_room     the widths and the rooms as numbers
use Rattle.std.specs.Prelude.{List, [], ◌∷◌, ℕ, suc, ◌+◌, ◌*◌, ◌≤◌, ◌<◌, get_or}
use Rattle.std.proofs.Common.{mul-le-mul_right, suc-mul, arith}
use Rattle.lifting.specs.Limits.{max_regions, max_nodes, max_ops, max_consts, max_params, max_values, max_decls, max_immediates, max_targets}

pub record Extent : Type 0 where
  pub base : ℕ
  pub width : ℕ
  pub room : ℕ

-- The pools' names. Each of the lists that a text holds has one, and so has each kind of line.
abbrev pub consts : ℕ
consts = 0

abbrev pub params : ℕ
params = 1

-- region inputs and select outs
abbrev pub decls : ℕ
decls = 2

-- every V form, wherever it stands
abbrev pub values : ℕ
values = 3

-- every `(kind operandkind word)`
abbrev pub imms : ℕ
imms = 4

-- every number of `(to R..)`
abbrev pub targets : ℕ
targets = 5

-- the numbers of all regions' lists of nodes, of all blocks' lists of ops, of all places of child regions
abbrev pub node_refs : ℕ
node_refs = 6

abbrev pub op_refs : ℕ
op_refs = 7

abbrev pub child_refs : ℕ
child_refs = 8

-- every `(R V..)` of `(vals (R V..)..)`
abbrev pub entries : ℕ
entries = 9

abbrev pub regions : ℕ
regions = 10

abbrev pub nodes : ℕ
nodes = 11

abbrev pub ops : ℕ
ops = 12

abbrev pub ctrls : ℕ
ctrls = 13

abbrev pub pool_total : ℕ
pool_total = 14

-- Each pool's width and room, in the order of their names. Refusal 3 bounds most rooms. Of a text that passes 5 and 7 there are no more
-- node numbers than nodes, op numbers than ops, child regions than regions, entries than targets, and ctrl lines than regions.
unfoldable pub shapes : List (ℕ × ℕ)
shapes =
    (2, max_consts)
    ∷ (2, max_params)
    ∷ (2, max_decls)
    ∷ (2, max_values)
    ∷ (3, max_immediates)
    ∷ (1, max_targets)
    ∷ (1, max_nodes)
    ∷ (1, max_ops)
    ∷ (1, max_regions)
    ∷ (2, max_targets)
    ∷ (3, max_regions)
    ∷ (8, max_nodes)
    ∷ (7, max_ops)
    ∷ (8, max_regions)
    ∷ []

-- one pool after the other
unfoldable pub lay : ℕ → List (ℕ × ℕ) → List Extent
lay base [] = []
lay base (s ∷ ss) = record { base = base; width = s.0; room = s.1 } ∷ lay (base + s.1 * s.0) ss

unfoldable pub pools : List Extent
unfolding shapes lay
pools = lay 32 shapes

unfoldable pub pool_of : ℕ → Extent
unfolding pools
pool_of k = get_or pools k (record { base = 0; width = 0; room = 0 })

unfoldable pub base : ℕ → ℕ
unfolding pool_of
base k = (pool_of k).base

unfoldable pub width : ℕ → ℕ
unfolding pool_of
width k = (pool_of k).width

unfoldable pub room : ℕ → ℕ
unfolding pool_of
room k = (pool_of k).room

-- where pool k ends
unfoldable pub end : ℕ → ℕ
end k = base k + room k * width k

-- the first word that no pool has: what the function slice needs
abbrev pub func_need : ℕ
func_need = 15648

-- Where pool k lies.
pub record Placed (k : ℕ) : Type 0 where
  pub above : 32 ≤ base k
  pub below : end k ≤ func_need
  pub room : room k ≤ 2048
  pub narrow : width k ≤ 8
  pub wide : 1 ≤ width k

-- entry i of pool k ends within the pool
pub entry_inside : (k i : ℕ) → i < room k → base k + i * width k + width k ≤ end k
unfolding end
entry_inside k i h = omega (arith, scaled (suc i) (room k) (width k) h, suc-mul i (width k))
  where
    scaled : (a b c : ℕ) → a ≤ b → a * c ≤ b * c
    scaled a b c l = mul-le-mul_right c l

-- an entry before another of the same pool
pub entry_before : (k i j : ℕ) → i < j → base k + i * width k + width k ≤ base k + j * width k
entry_before k i j h = omega (arith, mul-le-mul_right (width k) h, suc-mul i (width k))

-- the widths and the rooms, as numbers that compute wherever they stand
abbrev pub entry_words : ℕ → ℕ
entry_words k = get_or (2 ∷ 2 ∷ 2 ∷ 2 ∷ 3 ∷ 1 ∷ 1 ∷ 1 ∷ 1 ∷ 2 ∷ 3 ∷ 8 ∷ 7 ∷ 8 ∷ []) k 0

abbrev pub entry_room : ℕ → ℕ
entry_room k = get_or (256 ∷ 64 ∷ 512 ∷ 2048 ∷ 512 ∷ 512 ∷ 128 ∷ 512 ∷ 128 ∷ 512 ∷ 128 ∷ 128 ∷ 512 ∷ 128 ∷ []) k 0

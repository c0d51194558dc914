-- The walk of a text by computation: its points by number, the points that the numbers say, the parents of its regions, and words that it leaves.
-- Assumes nothing.
use Rattle.std.specs.Prelude.{◌≡◌, refl, List, [], ◌∷◌, ◌++◌, map, ℕ, ◌+◌, ◌-◌}
use Rattle.std.proofs.Math.Option.{Option, none, some}
use Rattle.std.proofs.Math.Decide.{ℕ_discrete}
use Rattle.lifting.specs.Bytes.{bytes}
use Rattle.general_laws.specs.Lists.{below}
use Rattle.lifting.specs.Ast.{Func}
use Rattle.lifting.specs.Grammar.{read}
use Rattle.lifting.specs.Order.{roots}
use Rattle.lifting.specs.Points.{region_entry, region_exit, node_entry, node_exit, points}
use Rattle.lifting.specs.Walk.{walk_of}
use Rattle.work.specs.Layout.{points_at, parents_at, parents_end}
use Rattle.walk_points.specs.Numbers.{point_number, point_of}
use Rattle.walk_points.specs.Parents.{parent_word}
use Rattle.walk_points.specs.Words.{walk_word}

-- a block, and a select whose second case holds a loop; region 4 follows region 0
text : List ℕ
text =
    bytes "(func 0 2 3 0)\n(const 5 43)\n"
    ++ bytes "(region (in) (nodes 0 1) (out))\n"
    ++ bytes "(region (in) (nodes) (out))\n"
    ++ bytes "(region (in) (nodes 2) (out))\n"
    ++ bytes "(region (in) (nodes) (out))\n"
    ++ bytes "(region (in) (nodes) (out))\n"
    ++ bytes "(block)\n"
    ++ bytes "(select bool (c 0) (cases 1 2) (outs) 0)\n"
    ++ bytes "(loop 3 (c 0) (init) 0)\n"
    ++ bytes "(ctrl 0 0 branch (ins) (to 4) (vals))\n"
    ++ bytes "(ctrl 4 0 return (ins) (to) (vals))\n"

abbrev numbers : Option Func → List ℕ
numbers none = []
numbers (some F) = map point_number (points (walk_of F))

abbrev parents : Option Func → List ℕ
parents none = []
parents (some F) = map (parent_word F) (below 5)

numbers_of : numbers (read text) ≡ 0 ∷ 256 ∷ 257 ∷ 258 ∷ 2 ∷ 3 ∷ 4 ∷ 260 ∷ 6 ∷ 7 ∷ 261 ∷ 5 ∷ 259 ∷ 1 ∷ 8 ∷ 9 ∷ []
unfolding text read walk_of roots
numbers_of = refl

points_of : map point_of (0 ∷ 256 ∷ 257 ∷ 258 ∷ 2 ∷ 3 ∷ []) ≡ region_entry 0 ∷ node_entry 0 ∷ node_exit 0 ∷ node_entry 1 ∷ region_entry 1 ∷ region_exit 1 ∷ []
unfolding point_of
points_of = refl

-- regions 1 and 2 are node 1's, region 3 is node 2's
parents_of : parents (read text) ≡ 0 ∷ 2 ∷ 2 ∷ 3 ∷ 0 ∷ []
unfolding text read ℕ_discrete
parents_of = refl

-- the words at the ends of both tables and beside them, where each word was 7: 16 points, and 128 parents
abbrev words : Option Func → List ℕ
words none = []
words (some F) = map (walk_word F (λ x. 7)) ((points_at - 1) ∷ points_at ∷ (points_at + 15) ∷ (points_at + 16) ∷ (parents_at - 1) ∷ parents_at ∷ (parents_at + 1) ∷ (parents_end - 1) ∷ parents_end ∷ [])

words_of : words (read text) ≡ 7 ∷ 0 ∷ 9 ∷ 7 ∷ 7 ∷ 0 ∷ 2 ∷ 0 ∷ 7 ∷ []
unfolding text read walk_of roots ℕ_discrete walk_word
words_of = refl

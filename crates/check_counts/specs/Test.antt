-- Refusal 6, but for ctrl lines, as a test of the function slice's words: what the code computes. specs/Same says that it is the definition.
-- Assumes nothing.
--     counts_test      the test
--     CountsSafe      what the code needs to stay within the slice
use Rattle.std.specs.Prelude.{◌≡◌, Bool, true, false, cond, ◌&&◌, ◌||◌, List, ℕ, zero, suc, ◌+◌, ◌/◌, ◌%◌, ◌≤◌, ◌<◌, eqb, leb, ltb, length}
use Rattle.general_laws.specs.Lists.{below, every}
use Rattle.func.specs.declared.NodeKind.{NodeKind}
use Rattle.func.specs.declared.NodeKind.TheVariants.{Block, SelectBool, SelectInst, Loop, Exit}
use Rattle.func.specs.Kinds.{node_kind_from}
use Rattle.func.specs.Layout.{func_need, params, node_refs, child_refs, regions, nodes, ctrls, entry_room}
use Rattle.func.specs.Store.{count}
use Rattle.func.specs.Tables.{word}

-- how many inputs and outputs region r has, how many values, children and outputs node n has, and its child i
abbrev pub ins_in : List ℕ → ℕ → ℕ
ins_in w r = word regions w r 0 % 4096

abbrev pub results_in : List ℕ → ℕ → ℕ
results_in w r = word regions w r 2 % 4096

abbrev pub value_count_in : List ℕ → ℕ → ℕ
value_count_in w n = word nodes w n 3 % 4096

abbrev pub child_count_in : List ℕ → ℕ → ℕ
child_count_in w n = word nodes w n 5 % 4096

abbrev pub outs_in : List ℕ → ℕ → ℕ
outs_in w n = word nodes w n 6 % 4096

abbrev pub child_in : List ℕ → ℕ → ℕ → ℕ
child_in w n i = word child_refs w (word nodes w n 5 / 4096 + i) 0

-- how many nodes region r has, and its node i
abbrev pub node_count_in : List ℕ → ℕ → ℕ
node_count_in w r = word regions w r 1 % 4096

abbrev pub node_in : List ℕ → ℕ → ℕ → ℕ
node_in w r i = word node_refs w (word regions w r 1 / 4096 + i) 0

-- the kind of node n
abbrev pub kind_in : List ℕ → ℕ → NodeKind
kind_in w n = node_kind_from (word nodes w n 0)

-- the last of region r's m nodes is an exit, whose kind's number is 4; no other number is an exit's
abbrev pub ends_at : List ℕ → ℕ → ℕ → Bool
ends_at w r zero = false
ends_at w r (suc k) = eqb (word nodes w (node_in w r k) 0) 4

abbrev pub ends_test : List ℕ → ℕ → Bool
ends_test w r = ends_at w r (node_count_in w r)

-- region c's outputs fit the outs of node n
abbrev pub outs_test : List ℕ → ℕ → ℕ → Bool
outs_test w n c = eqb (results_in w c) (outs_in w n) || (eqb (results_in w c) 0 && ends_test w c)

-- region c fits as a case of node n, and as a loop's body
abbrev pub case_test : List ℕ → ℕ → ℕ → Bool
case_test w n c = eqb (ins_in w c) 0 && outs_test w n c

abbrev pub body_test : List ℕ → ℕ → ℕ → Bool
body_test w n c = eqb (value_count_in w n) (ins_in w c + 1) && eqb (results_in w c) (ins_in w c)

unfoldable pub cases_test : List ℕ → ℕ → Bool
cases_test w n = every (λ i. case_test w n (child_in w n i)) (below (child_count_in w n))

-- node n fits, by its kind
abbrev pub node_kind_test : List ℕ → ℕ → NodeKind → Bool
node_kind_test w n Block = true
node_kind_test w n SelectBool = eqb (child_count_in w n) 2 && cases_test w n
node_kind_test w n SelectInst = ltb 0 (child_count_in w n) && cases_test w n
node_kind_test w n Loop = body_test w n (child_in w n 0)
node_kind_test w n Exit = true

abbrev pub node_test : List ℕ → ℕ → Bool
node_test w n = node_kind_test w n (kind_in w n)

unfoldable pub nodes_test : List ℕ → Bool
nodes_test w = every (node_test w) (below (count nodes w))

-- the function's body, if it has one
abbrev pub results_test : List ℕ → ℕ → Bool
results_test w n = cond (eqb (count ctrls w) 0) (leb n 1) (eqb n 0)

unfoldable pub func_test : List ℕ → Bool
func_test w = cond (eqb (count regions w) 0) true (eqb (ins_in w 0) (count params w) && results_test w (results_in w 0))

unfoldable pub counts_test : List ℕ → Bool
counts_test w = func_test w && nodes_test w

pub record CountsSafe (w : List ℕ) : Type 0 where
  pub size : func_need ≤ length w
  pub region_room : count regions w ≤ entry_room regions
  pub node_room : count nodes w ≤ entry_room nodes
  pub child_room : count child_refs w ≤ entry_room child_refs
  -- the children of a node stand in their pool, and each is a region
  pub child_runs : (n : ℕ) → n < count nodes w → word nodes w n 5 / 4096 + child_count_in w n ≤ count child_refs w
  pub child_low : (i : ℕ) → i < count child_refs w → word child_refs w i 0 < count regions w
  pub loop_child : (n : ℕ) → n < count nodes w → kind_in w n ≡ Loop → 0 < child_count_in w n
  -- the nodes of a region stand in theirs, and each is a node
  pub ref_room : count node_refs w ≤ entry_room node_refs
  pub region_runs : (r : ℕ) → r < count regions w → word regions w r 1 / 4096 + node_count_in w r ≤ count node_refs w
  pub node_low : (i : ℕ) → i < count node_refs w → word node_refs w i 0 < count nodes w

-- What the parts of a text can add to its list, in words, and the number of words that no list exceeds. Definitions. Assumes nothing.
use Rattle.std.specs.Prelude.{List, [], ◌∷◌, ℕ, zero, suc, ◌+◌, ◌*◌, length}
use Rattle.general_laws.specs.Lists.{find}
use Rattle.lifting.specs.Ast.{ControlInst, Func, Inst, Node, Op, Value, block, exit, loop, select}
use Rattle.lifting.specs.Parts.{block_ops, children_of, ctrl_insts, ctrl_of, immediates, node_insts, node_of, op_insts, op_of, region_of, targets, values, vals_or}
use Rattle.lifting.specs.Limits.{max_decls, max_immediates, max_nodes, max_ops, max_params, max_regions, max_targets, max_values}
use Rattle.lifting.specs.Points.{BlockLifting, CfgPoint, Merge, Terminator, eq_point, loop_merge, no_merge, node_entry, node_exit, region_entry, region_exit, selection_merge}
use Rattle.lifting.specs.Walk.{walk_of}
use Rattle.lifting.specs.Absorb.{count_in}
use Rattle.lifting_blocks.specs.Totals.{total}
use Rattle.lifting_sizes.specs.Sums.{weighed}

-- opcode, attributes, result type, result, and the two counts
abbrev pub head : ℕ
head = 6

-- an immediate
abbrev pub imm_weight : ℕ
imm_weight = 3

-- The most words of a list: 23,184, which is 10 + 6 + 384 + 6,144 + 1,408 + 3,072 + 5,120 + 1,536 + 4,096 + 512 + 640 + 256. In order: function,
-- end, parameters; label and way out of each point, of which a region and a node have two each; a merge for each node; phis; ops, with a
-- callee's id and a literal; immediates; a value is one word as an operand or an input, two in a phi, where its label stands behind it; targets
-- of ctrl lines. Then the ids of all other ways out: of a region one at its entry, three at its exit (a loop's condition and two targets) and
-- one where it is a case; of a node one at its entry and one at its exit.
abbrev pub max_words : ℕ
max_words =
    (head + imm_weight + 1)
    + head
    + head * max_params
    + (head + head) * (2 * max_regions + 2 * max_nodes)
    + (head + imm_weight + 2) * max_nodes
    + head * max_decls
    + (head + imm_weight + 1) * max_ops
    + imm_weight * max_immediates
    + 2 * max_values
    + max_targets
    + (1 + 3 + 1) * max_regions
    + (1 + 1) * max_nodes

-- the immediates of INSTs
abbrev pub imm_total : List Inst → ℕ
imm_total l = total (λ i. length i.imms) l

-- an op
abbrev pub op_weight : Op → ℕ
op_weight o = (head + imm_weight + 1) + (imm_weight * imm_total (op_insts o.kind) + length o.operands)

-- a merge
abbrev pub merge_weight : Merge → ℕ
merge_weight no_merge = 0
merge_weight (selection_merge a u) = head + imm_weight + 1
merge_weight (loop_merge a b u) = head + imm_weight + 2

-- a merge and a way out, but for the way out's head
abbrev pub end_weight : Terminator → ℕ
end_weight t = merge_weight t.merge + (imm_weight * imm_total (ctrl_insts t.kind) + (length t.ins + length t.targets))

-- a weight that counts only where there is any
abbrev pub if_any : ℕ → ℕ → ℕ
if_any zero n = 0
if_any (suc k) n = n

-- a ctrl line: its values move along edges or are inputs
abbrev pub moved_by : ControlInst → ℕ
moved_by c = total (λ e. length e.1) c.vals

abbrev pub ctrl_weight : ControlInst → ℕ
ctrl_weight c = imm_weight * imm_total (ctrl_insts c.kind) + (length c.ins + (2 * moved_by c + length c.to))

-- a node: what its entry's way out reads, and what moves along the edges to it that have no values of their own
abbrev pub read_at : Node → List Value
read_at (block is) = []
read_at (select k v cs ds u) = v ∷ []
read_at (loop b c vs u) = []
read_at (exit i vs) = vs

abbrev pub inits_of : Node → List Value
inits_of (block is) = []
inits_of (select k v cs ds u) = []
inits_of (loop b c vs u) = vs
inits_of (exit i vs) = []

module _ (F : Func) where
  -- the ops of a block
  abbrev pub ops_weight : List ℕ → ℕ
  ops_weight is = total (λ i. op_weight (op_of F i)) is

  -- a node's entry, but for the heads: a merge, one target or a case each, immediates, inputs, ops
  abbrev pub node_weight : Node → ℕ
  node_weight d = (head + imm_weight + 2) + (1 + (length (children_of d) + (imm_weight * imm_total (node_insts d) + (length (read_at d) + ops_weight (block_ops d)))))

  -- a visited point, but for its phis; and with two words for each value that it sends to others
  abbrev pub block_weight : BlockLifting → ℕ
  block_weight b = (head + head) + (ops_weight b.ops + end_weight b.term)

  -- the inits of a loop, which an edge without values gives to its phis
  abbrev pub defaults_at : CfgPoint → List Value
  defaults_at (region_entry r) = []
  defaults_at (region_exit r) = []
  defaults_at (node_entry n) = inits_of (node_of F n)
  defaults_at (node_exit n) = []

  -- the values that a way out sends to p, if it leads there; and all that it sends
  abbrev pub carried : Terminator → CfgPoint → ℕ
  carried t p = if_any (count_in p t.targets) (length (vals_or (find eq_point p t.vals) (defaults_at p)))

  abbrev pub flow : Terminator → ℕ
  flow t = total (λ x. carried t x.0) (walk_of F)

  abbrev pub sent : CfgPoint × BlockLifting → ℕ
  sent x = block_weight x.1 + 2 * flow x.1.term

  -- The same by what the text has for the point: but for the heads of its label and its way out, and for the inits of a loop, which the point
  -- before it sends; and all of it.
  abbrev pub weight_at : CfgPoint → ℕ
  weight_at (region_entry r) = 1
  weight_at (region_exit r) = 3 + (2 * length (region_of F r).outs + weighed ctrl_weight (ctrl_of F r))
  weight_at (node_entry n) = node_weight (node_of F n)
  weight_at (node_exit n) = 1

  abbrev pub point_weight : CfgPoint → ℕ
  point_weight p = ((head + head) + weight_at p) + 2 * length (defaults_at p)

  -- all points, by the counts of the text's lines
  abbrev pub lines_weight : ℕ
  lines_weight = 29 * length F.regions + (37 * length F.nodes + (10 * length F.ops + (imm_weight * length (immediates F) + (2 * length (values F) + length (targets F)))))

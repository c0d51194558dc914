-- The control numbers of merges: a function with 0 for each, and two functions that differ in these numbers only. Assumes nothing.
use Rattle.std.specs.Prelude.{◌≡◌, [], map, ℕ}
use Rattle.std.proofs.Math.ListN.{get_or-map}
use Rattle.lifting.specs.Ast.{Node, block, select, loop, exit, Func}
use Rattle.lifting.specs.Parts.{node_of}

-- a node, and a function, with 0 for each control number
abbrev pub cleared_node : Node → Node
cleared_node (block is) = block is
cleared_node (select k v cs ds u) = select k v cs ds 0
cleared_node (loop b c is u) = loop b c is 0
cleared_node (exit i vs) = exit i vs

abbrev pub controls_cleared : Func → Func
controls_cleared F = record {
  attrs = F.attrs;
  ret = F.ret;
  type = F.type;
  control = F.control;
  consts = F.consts;
  params = F.params;
  regions = F.regions;
  nodes = map cleared_node F.nodes;
  ops = F.ops;
  ctrls = F.ctrls;
}

-- they differ in control numbers only
abbrev pub SameButControls : Func → Func → Type 0
SameButControls F G = controls_cleared F ≡ controls_cleared G

-- line by line
pub node_cleared : (F : Func) (n : ℕ) → node_of (controls_cleared F) n ≡ cleared_node (node_of F n)
node_cleared F n = get_or-map cleared_node F.nodes n (block [])

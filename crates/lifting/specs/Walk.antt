-- Document 01, 'Blocks and their order': the block at each point as `from_func_decl` gives it, and the walk that visits the points.
-- Where to go next is passed down, so no parents are looked up. Assumes nothing.
use Rattle.std.specs.Prelude.{Bool, true, false, List, [], ◌∷◌, ◌++◌, map, ℕ, zero, suc, length, eqb}
use Rattle.std.proofs.Math.Option.{Option, none, some}
use Rattle.std.proofs.Math.Decide.{ℕ_discrete}
use Rattle.opcodes.specs.Table.{opcode_of}
use Rattle.opcodes.specs.declared.InstKind.TheVariants.{ConstantTrue}
use Rattle.lifting.specs.Ast.{Value, const, region_input, node_output, data_inst_output, bool_cond, Decl, Node, block, select, loop, exit, return, branch, select_branch, exit_invocation, ControlInst, Func}
use Rattle.lifting.specs.Parts.{const_of, region_of, node_of, ctrl_of, has_body, children_of, outs_of, ins_keys, out_keys}
use Rattle.lifting.specs.Points.{CfgPoint, region_entry, region_exit, node_entry, node_exit, no_merge, selection_merge, loop_merge, Terminator, BlockLifting, Table, straight, nothing_here, plain}
use Rattle.lifting.specs.Order.{roots}

-- where a region stands: a root, or in a node
pub data Place : Type 0 where
  top : Place
  in_node : ℕ → Place

-- the point that comes before the nodes ns, the last ones of region r
abbrev pub next_point : ℕ → List ℕ → CfgPoint
next_point r [] = region_exit r
next_point r (n ∷ ns) = node_entry n

-- no entry for no values
abbrev pub some_vals : CfgPoint → List Value → List (CfgPoint × List Value)
some_vals p [] = []
some_vals p (v ∷ vs) = (p, v ∷ vs) ∷ []

-- the way out that a ctrl line says
abbrev pub line_term : ControlInst → Terminator
line_term c = record {
  attrs = c.attrs;
  kind = c.kind;
  ins = c.ins;
  targets = map region_entry c.to;
  vals = map (λ e. (region_entry e.0, e.1)) c.vals;
  merge = no_merge;
}

module _ (F : Func) where
  -- phis for the inputs of a root but the body, whose inputs are the parameters
  abbrev pub entry_keys : ℕ → Place → List Value
  entry_keys zero top = []
  entry_keys (suc r) top = ins_keys F (suc r)
  entry_keys r (in_node n) = []

  abbrev pub entry_decls : ℕ → Place → List Decl
  entry_decls zero top = []
  entry_decls (suc r) top = (region_of F (suc r)).ins
  entry_decls r (in_node n) = []

  abbrev pub entry_block : ℕ → Place → BlockLifting
  entry_block r p = record { keys = entry_keys r p; decls = entry_decls r p; defaults = []; ops = []; term = straight (next_point r (region_of F r).nodes) }

  -- the way out of a root: its ctrl line, or a return of its outputs
  abbrev pub root_term : Option ControlInst → ℕ → Terminator
  root_term none r = record { attrs = 0; kind = return; ins = (region_of F r).outs; targets = []; vals = []; merge = no_merge }
  root_term (some c) r = line_term c

  -- Condition opcode 41 makes a loop's way back unconditional.
  abbrev pub always : Value → Bool
  always (const n) = eqb (const_of F n).opcode (opcode_of ConstantTrue)
  always (region_input r i) = false
  always (node_output n i) = false
  always (data_inst_output i) = false

  abbrev pub loop_term : Bool → ℕ → Value → List Value → Terminator
  loop_term true n c vs = record { attrs = 0; kind = branch; ins = []; targets = node_entry n ∷ []; vals = some_vals (node_entry n) vs; merge = no_merge }
  loop_term false n c vs = record {
    attrs = 0;
    kind = select_branch bool_cond;
    ins = c ∷ [];
    targets = node_entry n ∷ node_exit n ∷ [];
    vals = some_vals (node_entry n) vs;
    merge = no_merge;
  }

  -- the way out of a region of node n, which has the outputs vs
  abbrev pub child_term : Node → ℕ → List Value → Terminator
  child_term (block is) n vs = nothing_here
  child_term (select k v cs ds u) n vs = record { attrs = 0; kind = branch; ins = []; targets = node_exit n ∷ []; vals = some_vals (node_exit n) vs; merge = no_merge }
  child_term (loop b c is u) n vs = loop_term (always c) n c vs
  child_term (exit i ws) n vs = nothing_here

  abbrev pub exit_term : ℕ → Place → Terminator
  exit_term r top = root_term (ctrl_of F r) r
  exit_term r (in_node n) = child_term (node_of F n) n (region_of F r).outs

  abbrev pub exit_block : ℕ → Place → BlockLifting
  exit_block r p = plain (exit_term r p)

  -- at a node's entry: a block's ops; a select's branch to its cases; a loop's phis, which take the inits along every edge that has no
  -- values of its own; an exit
  abbrev pub in_block : Node → ℕ → BlockLifting
  in_block (block is) n = record { keys = []; decls = []; defaults = []; ops = is; term = straight (node_exit n) }
  in_block (select k v cs ds u) n =
      plain (record { attrs = 0; kind = select_branch k; ins = v ∷ []; targets = map region_entry cs; vals = []; merge = selection_merge (node_exit n) u })
  in_block (loop b c is u) n = record {
    keys = ins_keys F b;
    decls = (region_of F b).ins;
    defaults = is;
    ops = [];
    term = record { attrs = 0; kind = branch; ins = []; targets = region_entry b ∷ []; vals = []; merge = loop_merge (node_exit n) (region_exit b) u };
  }
  in_block (exit i vs) n = plain (record { attrs = 0; kind = exit_invocation i; ins = vs; targets = []; vals = []; merge = no_merge })

  -- at a node's exit: phis for its outputs, and on to q
  abbrev pub out_block : Node → ℕ → CfgPoint → BlockLifting
  out_block d n q = record { keys = out_keys n (outs_of d); decls = outs_of d; defaults = []; ops = []; term = straight q }

  -- Points are visited before and after what they hold. The walk of a region visits its nodes, and a node's walk visits its regions in
  -- turn; w walks a region at its place.
  abbrev pub walk_kids : (ℕ → Place → Table) → ℕ → List ℕ → Table
  walk_kids w n [] = []
  walk_kids w n (c ∷ cs) = w c (in_node n) ++ walk_kids w n cs

  abbrev pub walk_node : (ℕ → Place → Table) → ℕ → CfgPoint → Table
  walk_node w n q = (node_entry n, in_block (node_of F n) n) ∷ (walk_kids w n (children_of (node_of F n)) ++ ((node_exit n, out_block (node_of F n) n q) ∷ []))

  abbrev pub walk_nodes : (ℕ → Place → Table) → ℕ → List ℕ → Table
  walk_nodes w r [] = []
  walk_nodes w r (n ∷ ns) = walk_node w n (next_point r ns) ++ walk_nodes w r ns

  -- at most k regions deep
  abbrev pub walk_region : ℕ → ℕ → Place → Table
  walk_region zero r p = []
  walk_region (suc k) r p = (region_entry r, entry_block r p) ∷ (walk_nodes (λ c q. walk_region k c q) r (region_of F r).nodes ++ ((region_exit r, exit_block r p) ∷ []))

  abbrev pub walk_roots : ℕ → List ℕ → Table
  walk_roots k [] = []
  walk_roots k (r ∷ rs) = walk_region k r top ++ walk_roots k rs

-- Without ctrl lines the body is walked, with them the roots. An imported function has no blocks.
unfoldable pub walk_of : Func → Table
unfolding roots ℕ_discrete
walk_of F = elim (has_body F.regions) [ true ↦ walk_roots F (suc (length F.regions)) (roots F) | false ↦ [] ]

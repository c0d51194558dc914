-- A small function with a line of each kind: it keeps to what `func_back` asks, so that it is read back. Assumes nothing.
use Rattle.std.specs.Prelude.{◌≡◌, refl, List, [], ◌∷◌, ℕ, ◌≤◌, length}
use Rattle.std.proofs.Common.{lit≤}
use Rattle.lifting.specs.Limits.{within_limits}
use Rattle.lifting.specs.Parts as text
use Rattle.lifting.specs.Ast.{const, region_input, node_output, data_inst_output, Inst, inst, call, ext, bool_cond, spv_inst, Decl, block, select, loop, exit, return, select_branch, Func}
use Rattle.func.specs.Layout.{func_need}
use Rattle.func.specs.Keep.{keep_func}
use Rattle.func.specs.Decode.{func_of}
use Rattle.func.specs.Whole.{entry_list, empty_pools}
use Rattle.func.proofs.Whole.{clear_empty}
use Rattle.func.specs.Back.{RowFits}
use Rattle.func.proofs.Back.{func_back}

decl : ℕ → ℕ → Decl
decl a t = record { attrs = a; type = t }

switch : Inst
switch = record { opcode = 251; imms = record { kind = 0; operand = 5; word = 9 } ∷ record { kind = 2; operand = 6; word = 7 } ∷ [] }

example : Func
unfolding decl switch
example = record {
  attrs = 7;
  ret = 2;
  type = 3;
  control = 1;
  consts = record { id = 5; opcode = 43 } ∷ [];
  params = decl 0 4 ∷ [];
  regions = record { ins = decl 0 4 ∷ []; nodes = 0 ∷ 1 ∷ []; outs = [] }
      ∷ record { ins = []; nodes = 2 ∷ 3 ∷ []; outs = const 0 ∷ region_input 0 0 ∷ [] }
      ∷ record { ins = decl 1 4 ∷ decl 2 4 ∷ []; nodes = []; outs = node_output 1 1 ∷ [] }
      ∷ [];
  nodes = block (0 ∷ 2 ∷ []) ∷ select bool_cond (const 0) (1 ∷ 2 ∷ []) (decl 0 4 ∷ decl 9 4 ∷ []) 2 ∷ loop 1 (data_inst_output 2) (const 0 ∷ []) 1 ∷ exit switch (const 0 ∷ []) ∷ select (spv_inst switch) (const 0) (2 ∷ []) [] 0 ∷ [];
  ops = record { attrs = 0; type = 4; kind = inst switch; operands = const 0 ∷ const 0 ∷ [] } ∷ record { attrs = 1; type = 0; kind = call 17; operands = [] } ∷ record { attrs = 0; type = 4; kind = ext 18 19; operands = data_inst_output 0 ∷ [] } ∷ [];
  ctrls = (0, record { attrs = 0; kind = select_branch (spv_inst switch); ins = const 0 ∷ []; to = 1 ∷ 2 ∷ []; vals = (2, const 0 ∷ region_input 0 0 ∷ []) ∷ (1, []) ∷ [] })
      ∷ (1, record { attrs = 3; kind = return; ins = data_inst_output 0 ∷ []; to = []; vals = [] })
      ∷ [];
}

example_fits : RowFits example
unfolding example decl switch within_limits text.values text.decls text.insts text.immediates text.targets text.node_list text.op_list text.child_list entry_list
example_fits = record {
  limits = refl;
  node_refs = lit≤ tt;
  op_refs = lit≤ tt;
  child_refs = lit≤ tt;
  entries = lit≤ tt;
  ctrls = lit≤ tt;
  firsts = refl;
}

example_back : (w : List ℕ) → func_need ≤ length w → func_of (keep_func example (empty_pools w)) ≡ example
example_back w h = func_back example (clear_empty w h) example_fits

-- The rules of refusal 4 that are asked entry by entry, by the words of the function slice. Assumes nothing.
--     rule_test, all_test      of an entry, and of all entries of the rule's pool
--     rule_fits              past refusal 3 the pool is within its room
use Rattle.std.specs.Prelude.{Bool, List, ℕ, ◌≤◌, leb, ltb, get_or}
use Rattle.general_laws.specs.Lists.{every}
use Rattle.lifting.specs.Limits.{max_opcode, max_control}
use Rattle.lifting.specs.References.{imm_fits}
use Rattle.func.specs.Layout.{entry_room, consts, params, decls, values, imms, nodes, ops}
use Rattle.func.specs.Store.{count, view}
use Rattle.func.specs.Decode.{decode_imm, value_of}
use Rattle.check_limits.specs.Limits.{LimitsReady}
use Rattle.check_insts.specs.Test.{opcode_fits, callee_test, op_inst_test}
use Rattle.check_values.specs.Test.{named_test}
use Rattle.check_rules.specs.declared.Rule.{Rule}
use Rattle.check_rules.specs.declared.Rule.TheVariants.{Named, ConstId, ParamType, DeclType, Callee, ConstOpcode, ImmFits, NodeControl, NodeInst, OpInst}

-- the pool of each rule, and what the rule asks of an entry. A node without an INST has 0 for its opcode, and one
-- without a merge 0 for its control number, which fit.
abbrev pub pool_for : Rule → ℕ
pool_for Named = values
pool_for ConstId = consts
pool_for ParamType = params
pool_for DeclType = decls
pool_for Callee = ops
pool_for ConstOpcode = consts
pool_for ImmFits = imms
pool_for NodeControl = nodes
pool_for NodeInst = nodes
pool_for OpInst = ops

abbrev pub rule_test : List ℕ → Rule → List ℕ → Bool
rule_test w Named e = named_test w (value_of e)
rule_test w ConstId e = ltb 0 (get_or e 0 0)
rule_test w ParamType e = ltb 0 (get_or e 1 0)
rule_test w DeclType e = ltb 0 (get_or e 1 0)
rule_test w Callee e = callee_test (get_or e 2 0) (get_or e 3 0)
rule_test w ConstOpcode e = leb (get_or e 1 0) max_opcode
rule_test w ImmFits e = imm_fits (decode_imm e)
rule_test w NodeControl e = leb (get_or e 7 0) max_control
rule_test w NodeInst e = opcode_fits (get_or e 1 0)
rule_test w OpInst e = op_inst_test (get_or e 2 0) (get_or e 3 0)

unfoldable pub all_test : List ℕ → Rule → Bool
all_test w r = every (rule_test w r) (view (pool_for r) w)

pub rule_fits : {w : List ℕ} → LimitsReady w → (r : Rule) → count (pool_for r) w ≤ entry_room (pool_for r)
rule_fits f Named = f.values
rule_fits f ConstId = f.consts
rule_fits f ParamType = f.params
rule_fits f DeclType = f.decls
rule_fits f Callee = f.ops
rule_fits f ConstOpcode = f.consts
rule_fits f ImmFits = f.imms
rule_fits f NodeControl = f.nodes
rule_fits f NodeInst = f.nodes
rule_fits f OpInst = f.ops

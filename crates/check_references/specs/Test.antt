-- The tests that judge refusal 4 by the words of the function slice. Assumes nothing.
--     references_test     4 but for the opcodes of ctrl lines, which the reader of the text judges: 3 bounds no ctrl lines
use Rattle.std.specs.Prelude.{Bool, ◌&&◌, List, ℕ, ltb, get_or}
use Rattle.func.specs.Layout.{node_refs, op_refs, nodes, ops}
use Rattle.check_rules.specs.declared.Rule.TheVariants.{Named, ConstId, ParamType, DeclType, Callee, ConstOpcode, ImmFits, NodeControl, NodeInst, OpInst}
use Rattle.check_rules.specs.Test.{all_test}
use Rattle.check_const_ids.specs.Test.{distinct_test}
use Rattle.check_lines.specs.Test.{below_test, regions_test}

-- ids that are not 0: return and function type, constants, types of parameters, of inputs and of outs, callees
unfoldable pub ids_test : List ℕ → Bool
ids_test w = ltb 0 (get_or w 1 0) && (ltb 0 (get_or w 2 0) && (all_test w ConstId && (all_test w ParamType && (all_test w DeclType && all_test w Callee))))

unfoldable pub insts_test : List ℕ → Bool
insts_test w = all_test w ImmFits && (all_test w NodeInst && all_test w OpInst)

unfoldable pub references_test : List ℕ → Bool
references_test w =
    all_test w Named
    && below_test node_refs nodes w
    && below_test op_refs ops w
    && regions_test w
    && ids_test w
    && distinct_test w
    && all_test w ConstOpcode
    && all_test w NodeControl
    && insts_test w

-- Document 01, refusal 4: a reference names nothing (a `(d I)` whose T is 0, an `(n N I)` that is no select's output); an id is 0 where 0 has
-- no meaning; a const id repeats; an opcode or operand kind is over 65,535, an operand kind 0, or an immediate kind over 2; an INST's
-- opcode is one of the opcode table's; and (document 02, W4) a merge's control number is over 2. Assumes nothing.
use Rattle.std.specs.Prelude.{Bool, not, ◌&&◌, ◌++◌, map, leb, ltb, length}
use Rattle.std.proofs.Math.Decide.{ℕ_discrete}
use Rattle.opcodes.specs.Table.{table}
use Rattle.general_laws.specs.Lists.{every, within, distinct}
use Rattle.lifting.specs.Ast.{Value, const, region_input, node_output, data_inst_output, Imm, Inst, Node, Func}
use Rattle.lifting.specs.Parts.{region_of, node_of, op_of, outs_of, node_control, values, insts, node_list, op_list, child_list, ctrl_regions, required_ids}
use Rattle.lifting.specs.Limits.{max_opcode, max_imm_kind, max_control}

-- A value names something: a constant, an input, a select's output, the result of an op that has one. A line that is not there holds nothing
-- (Parts), so asking for its input, output or result also asks that it be there.
abbrev pub named : Func → Value → Bool
named F (const n) = ltb n (length F.consts)
named F (region_input r i) = ltb i (length (region_of F r).ins)
named F (node_output n i) = ltb i (length (outs_of (node_of F n)))
named F (data_inst_output i) = ltb 0 (op_of F i).type

abbrev pub imm_fits : Imm → Bool
imm_fits m = leb m.kind max_imm_kind && ltb 0 m.operand && leb m.operand max_opcode

abbrev pub inst_fits : Inst → Bool
inst_fits i = leb i.opcode max_opcode && not (within i.opcode table) && every imm_fits i.imms

-- 0 none, 1 unroll or flatten, 2 don't; others are refused by 4 (document 02, W4)
abbrev pub control_holds : Node → Bool
control_holds n = leb (node_control n) max_control

-- A text passes 4.
unfoldable pub references_hold : Func → Bool
unfolding values insts node_list op_list child_list ctrl_regions required_ids ℕ_discrete
references_hold F =
    every (named F) (values F)
    && every (λ n. ltb n (length F.nodes)) (node_list F)
    && every (λ i. ltb i (length F.ops)) (op_list F)
    && every (λ r. ltb r (length F.regions)) (child_list F ++ ctrl_regions F)
    && every (λ x. ltb 0 x) (required_ids F)
    && distinct (map (λ c. c.id) F.consts)
    && every (λ c. leb c.opcode max_opcode) F.consts
    && every control_holds F.nodes
    && every inst_fits (insts F)

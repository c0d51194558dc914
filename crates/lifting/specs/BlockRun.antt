-- Document 01, 'Running the regions and the blocks': the run of the blocks of an instruction list. It sees the instructions alone.
-- Assumes nothing.
use Rattle.std.specs.Prelude.{Bool, true, false, not, cond, ◌||◌, List, [], ◌∷◌, ◌++◌, map, ℕ, zero, suc, eqb, length}
use Rattle.std.proofs.Math.Option.{Option, none, some}
use Rattle.std.proofs.Math.Decide.{ℕ_discrete}
use Rattle.opcodes.specs.declared.InstKind.{InstKind}
use Rattle.opcodes.specs.declared.InstKind.TheVariants.{ExtInst, FunctionParameter, FunctionEnd, FunctionCall, Phi, LoopMerge, SelectionMerge, Label, Branch, BranchConditional, Return, ReturnValue, Unreachable}
use Rattle.opcodes.specs.Table.{opcode_of}
use Rattle.general_laws.specs.Lists.{choose, find, keys, within, tabulate}
use Rattle.lifting.specs.Machine.{Out, go, halt}
use Rattle.lifting.specs.Ast.{SelectionKind, bool_cond, spv_inst, Const}
use Rattle.lifting.specs.Instructions.{Instruction}
use Rattle.lifting.specs.World.{World, Executed, End, returned, exited, dead, stuck, Mem, put, puts, reads, reading, pick}

-- an instruction of a kind of the table
abbrev pub is_kind : InstKind → Instruction → Bool
is_kind k i = eqb i.opcode (opcode_of k)

abbrev pub cons_if : {A : Type 0} → Bool → A → List A → List A
cons_if true x l = x ∷ l
cons_if false x l = l

-- what stands before the first label, and the blocks: a label's id and what follows it, up to the next label or the function's end
pub record Parts : Type 0 where
  pub before : List Instruction
  pub blocks : List (ℕ × List Instruction)

abbrev pub add_part : Instruction → Parts → Parts
add_part i p = cond (is_kind Label i) (record { before = []; blocks = (i.result, p.before) ∷ p.blocks })
    (cond (is_kind FunctionEnd i) (record { before = []; blocks = p.blocks }) (record { before = i ∷ p.before; blocks = p.blocks }))

abbrev pub parts : List Instruction → Parts
parts [] = record { before = []; blocks = [] }
parts (i ∷ l) = add_part i (parts l)

-- the parameters' ids
abbrev pub param_ids : List Instruction → List ℕ
param_ids [] = []
param_ids (i ∷ l) = cond (is_kind FunctionParameter i) (i.result ∷ param_ids l) (param_ids l)

-- In an emitted block the last instruction is the way out, whatever its opcode. What stands before it, other than label, phis and merge, is
-- ops, again whatever the opcode.
abbrev pub phis_of : List Instruction → List Instruction
phis_of [] = []
phis_of (i ∷ []) = []
phis_of (i ∷ j ∷ l) = cons_if (is_kind Phi i) i (phis_of (j ∷ l))

abbrev pub is_merge : Instruction → Bool
is_merge i = is_kind LoopMerge i || is_kind SelectionMerge i

-- the ops and the way out
abbrev pub run_of : List Instruction → List Instruction
run_of [] = []
run_of (i ∷ []) = i ∷ []
run_of (i ∷ j ∷ l) = cons_if (not (is_kind Phi i || is_merge i)) i (run_of (j ∷ l))

-- the id that a phi pairs with block l; 0, which is never set, where there is none
abbrev pub pair_of : ℕ → List ℕ → ℕ
pair_of l [] = 0
pair_of l (v ∷ []) = 0
pair_of l (v ∷ k ∷ r) = choose (ℕ_discrete l k) v (pair_of l r)

abbrev pub pairs_for : ℕ → List Instruction → List ℕ
pairs_for l [] = []
pairs_for l (i ∷ is) = pair_of l i.ids ∷ pairs_for l is

abbrev pub results : List Instruction → List ℕ
results [] = []
results (i ∷ l) = i.result ∷ results l

-- The labels among its ids are its targets, the other ids its inputs.
abbrev pub labels_among : List ℕ → List ℕ → List ℕ
labels_among L [] = []
labels_among L (x ∷ l) = cons_if (within x L) x (labels_among L l)

abbrev pub others_in : List ℕ → List ℕ → List ℕ
others_in L [] = []
others_in L (x ∷ l) = cons_if (not (within x L)) x (others_in L l)

-- The first id of a 57 or 12 is the call's or ext's ID and isn't read.
abbrev pub has_callee : Instruction → Bool
has_callee i = is_kind FunctionCall i || is_kind ExtInst i

abbrev pub head_id : List ℕ → Option ℕ
head_id [] = none
head_id (x ∷ l) = some x

abbrev pub tail_ids : List ℕ → List ℕ
tail_ids [] = []
tail_ids (x ∷ l) = l

abbrev pub callee_in : Instruction → Option ℕ
callee_in i = cond (has_callee i) (head_id i.ids) none

abbrev pub operands_in : Instruction → List ℕ
operands_in i = cond (has_callee i) (tail_ids i.ids) i.ids

-- the selection's kind: `bool`, which is 250, or its opcode, with its immediates
abbrev pub selection_of : Instruction → SelectionKind
selection_of i = cond (is_kind BranchConditional i) bool_cond (spv_inst (record { opcode = i.opcode; imms = i.imms }))

-- the block that runs, by its label; its instructions still to do; values by id
pub record BlockState (Val : Type 0) : Type 0 where
  pub at : ℕ
  pub todo : List Instruction
  pub mem : Mem Val ℕ

abbrev pub first_label : List (ℕ × List Instruction) → ℕ
first_label [] = 0
first_label (x ∷ l) = x.0

abbrev pub first_body : List (ℕ × List Instruction) → List Instruction
first_body [] = []
first_body (x ∷ l) = x.1

module _ {Val : Type 0} (W : World Val) where
  abbrev pub set_id : ℕ → (ℕ → Option Val) → ℕ → ℕ → Option Val
  set_id zero e n = e
  set_id (suc r) e n = put ℕ_discrete e (suc r) (W.result n)

  abbrev pub execute_inst : Instruction → List Val → Mem Val ℕ → Mem Val ℕ
  execute_inst i vs m = record {
    env = set_id i.result m.env (length m.log);
    log = m.log ++ (record { opcode = i.opcode; attrs = i.attrs; type = i.type; imms = i.imms; callee = callee_in i; vals = vs } ∷ []);
  }

  module _ (bs : List (ℕ × List Instruction)) where
    -- On the way in along an edge, from block l to block k, all phis together take the values of the ids paired with the block it leaves;
    -- the ops follow, then the way out.
    abbrev pub come_in : ℕ → ℕ → Option (List Instruction) → Mem Val ℕ → Out (BlockState Val) (End Val)
    come_in l k none m = halt stuck
    come_in l k (some body) m =
        reading (reads m.env (pairs_for l (phis_of body)))
        (λ ws. go (record { at = k; todo = run_of body; mem = record { env = puts ℕ_discrete m.env (results (phis_of body)) ws; log = m.log } }))

    abbrev pub go_to : ℕ → ℕ → Mem Val ℕ → Out (BlockState Val) (End Val)
    go_to l k m = come_in l k (find ℕ_discrete k bs) m

    -- to the n-th of these targets; a pick beyond them leads nowhere
    abbrev pub go_nth : ℕ → List ℕ → ℕ → Mem Val ℕ → Out (BlockState Val) (End Val)
    go_nth l [] n m = halt stuck
    go_nth l (t ∷ ts) zero m = go_to l t m
    go_nth l (t ∷ ts) (suc n) m = go_nth l ts n m

    -- 249 goes to its target, any other with targets to the one that the rule picks, and one without is an exit
    abbrev pub other_way : ℕ → Instruction → List ℕ → List Val → Mem Val ℕ → Out (BlockState Val) (End Val)
    other_way l i [] vs m = halt (exited (record { opcode = i.opcode; imms = i.imms }) vs)
    other_way l i (t ∷ ts) vs m = cond (is_kind Branch i) (go_to l t m) (go_nth l (t ∷ ts) (pick W (selection_of i) vs (length (t ∷ ts))) m)

    -- 253 and 254 return, 255 is unreachable
    abbrev pub way_by : ℕ → Instruction → List ℕ → List Val → Mem Val ℕ → Out (BlockState Val) (End Val)
    way_by l i ts vs m = cond (is_kind Return i || is_kind ReturnValue i) (halt (returned vs)) (cond (is_kind Unreachable i) (halt dead) (other_way l i ts vs m))

    -- The way out reads its inputs.
    abbrev pub way_out : ℕ → Instruction → Mem Val ℕ → Out (BlockState Val) (End Val)
    way_out l i m = reading (reads m.env (others_in (keys bs) i.ids)) (λ vs. way_by l i (labels_among (keys bs) i.ids) vs m)

    abbrev pub do_insts : List Instruction → ℕ → Mem Val ℕ → Out (BlockState Val) (End Val)
    do_insts [] l m = halt stuck
    do_insts (i ∷ []) l m = way_out l i m
    do_insts (i ∷ j ∷ is) l m = reading (reads m.env (operands_in i)) (λ vs. go (record { at = l; todo = j ∷ is; mem = execute_inst i vs m }))

    abbrev pub block_step : BlockState Val → Out (BlockState Val) (End Val)
    block_step s = do_insts s.todo s.at s.mem

    abbrev pub block_log : BlockState Val → List (Executed Val)
    block_log s = s.mem.log

  -- at first the constants' ids, which the text gives, and the parameters' are set
  abbrev pub ids_at_first : List Const → List Instruction → ℕ → Option Val
  ids_at_first cs l =
      let ps = param_ids (parts l).before in
      puts ℕ_discrete (puts ℕ_discrete (λ x. none) (map (λ c. c.id) cs) (tabulate W.constant 0 (length cs))) ps (tabulate W.arg 0 (length ps))

  -- Blocks run from the first one.
  abbrev pub block_start : List Const → List Instruction → BlockState Val
  block_start cs l = record { at = first_label (parts l).blocks; todo = run_of (first_body (parts l).blocks); mem = record { env = ids_at_first cs l; log = [] } }

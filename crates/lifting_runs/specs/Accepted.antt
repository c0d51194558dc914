-- What the refusals leave of a text with a body, as its runs need it: each field under the refusal that gives it. Assumes nothing.
use Rattle.std.specs.Prelude.{◌≡◌, ◌⊎◌, false, true, List, ℕ, suc, ◌<◌, length}
use Rattle.std.proofs.Math.Option.{some}
use Rattle.opcodes.specs.Table.{table}
use Rattle.general_laws.specs.Lists.{within}
use Rattle.lifting.specs.Ast.{ControlInst, ControlInstKind, DataInstKind, Decl, Func, Inst, SelectionKind, Value, bool_cond, branch, call, const, data_inst_output, exit, exit_invocation, ext, inst, loop, region_input, return, select, select_branch, spv_inst, unreachable}
use Rattle.lifting.specs.Parts.{block_ops, children_of, const_of, ctrl_of, node_of, op_of, region_of, vals_for}
use Rattle.lifting.specs.Tree.{around_itself}
use Rattle.lifting.specs.Counts.{ends_in_exit}
use Rattle.lifting.specs.Points.{BlockLifting, CfgPoint, Table, edge_of}
use Rattle.lifting.specs.Walk.{walk_of}
use Rattle.lifting.specs.Absorb.{kept}
use Rattle.general_laws.specs.Members.{All, In, NoDup}

-- 4: an INST's opcode is one of the opcode table's
abbrev pub FreeInst : Inst → Type 0
FreeInst i = within i.opcode table ≡ false

abbrev pub FreeOp : DataInstKind → Type 0
FreeOp (inst i) = FreeInst i
FreeOp (call f) = Unit {0}
FreeOp (ext s n) = Unit {0}

abbrev pub FreeSelection : SelectionKind → Type 0
FreeSelection bool_cond = Unit {0}
FreeSelection (spv_inst i) = FreeInst i

abbrev pub FreeKind : ControlInstKind → Type 0
FreeKind unreachable = Unit {0}
FreeKind return = Unit {0}
FreeKind branch = Unit {0}
FreeKind (select_branch k) = FreeSelection k
FreeKind (exit_invocation i) = FreeInst i

-- 6 and 7: counts of cases and targets
abbrev pub Enough : SelectionKind → ℕ → Type 0
Enough bool_cond n = n ≡ 2
Enough (spv_inst i) n = 0 < n

abbrev pub WayFit : ControlInstKind → ℕ → Type 0
WayFit unreachable n = n ≡ 0
WayFit return n = n ≡ 0
WayFit branch n = n ≡ 1
WayFit (select_branch k) n = Enough k n
WayFit (exit_invocation i) n = n ≡ 0

-- 6: a case has as many outputs as its select has outs, or none at all where its last node is an exit (W2)
abbrev pub OutsFit : Func → ℕ → ℕ → Type 0
OutsFit F c n = (length (region_of F c).outs ≡ n) ⊎ ((length (region_of F c).outs ≡ 0) × (ends_in_exit F (region_of F c).nodes ≡ true))

-- no child
abbrev pub Root : Func → ℕ → Type 0
Root F r = (n : ℕ) → In r (children_of (node_of F n)) → ⊥

module _ (F : Func) where
  pub record Forest : Type 0 where
    -- 5: a node stands exactly once in all regions' lists
    pub nodes_once : (r : ℕ) → NoDup (region_of F r).nodes
    pub node_once : (n r s : ℕ) → In n (region_of F r).nodes → In n (region_of F s).nodes → r ≡ s
    -- 5: an op exactly once in all blocks' lists
    pub ops_once : (n : ℕ) → NoDup (block_ops (node_of F n))
    pub op_once : (i n k : ℕ) → In i (block_ops (node_of F n)) → In i (block_ops (node_of F k)) → n ≡ k
    -- 5: no region is child of two places
    pub cases_once : (n : ℕ) → NoDup (children_of (node_of F n))
    pub child_once : (n k c : ℕ) → In c (children_of (node_of F n)) → In c (children_of (node_of F k)) → n ≡ k
    -- 4: a child is a region of the text
    pub child_range : (n c : ℕ) → In c (children_of (node_of F n)) → c < length F.regions
    -- 5: no region is child of itself, directly or through others
    pub no_cycle : (r : ℕ) → r < length F.regions → around_itself F r ≡ false

  pub record Targets : Type 0 where
    -- a text with a body
    pub some_region : 0 < length F.regions
    -- 4: a target is a region of the text
    pub in_range : (r s : ℕ) {c : ControlInst} → ctrl_of F r ≡ some c → In s c.to → s < length F.regions
    -- 5: region 0 is no child
    pub body_root : Root F 0
    -- 7: no target is a child, or region 0
    pub target_root : (r s : ℕ) {c : ControlInst} → ctrl_of F r ≡ some c → In s c.to → Root F s
    pub not_body : (r s : ℕ) {c : ControlInst} → ctrl_of F r ≡ some c → In s c.to → (t : ℕ) × (s ≡ suc t)

  pub record Fitting : Type 0 where
    -- 6: unequal counts
    pub loop_ins : (n : ℕ) {b : ℕ} {c : Value} {is : List Value} {u : ℕ} → node_of F n ≡ loop b c is u → length is ≡ length (region_of F b).ins
    pub loop_outs : (n : ℕ) {b : ℕ} {c : Value} {is : List Value} {u : ℕ} → node_of F n ≡ loop b c is u → length (region_of F b).outs ≡ length (region_of F b).ins
    pub case_outs : (n c : ℕ) {k : SelectionKind} {v : Value} {cs : List ℕ} {ds : List Decl} {u : ℕ} → node_of F n ≡ select k v cs ds u → In c cs → OutsFit F c (length ds)
    pub edge_ins : (r s : ℕ) {c : ControlInst} → ctrl_of F r ≡ some c → In s c.to → length (vals_for c s) ≡ length (region_of F s).ins
    pub cases_count : (n : ℕ) {k : SelectionKind} {v : Value} {cs : List ℕ} {ds : List Decl} {u : ℕ} → node_of F n ≡ select k v cs ds u → Enough k (length cs)
    -- 7: counts of targets
    pub ctrl_way : (r : ℕ) {c : ControlInst} → ctrl_of F r ≡ some c → WayFit c.kind (length c.to)
    -- 4: opcodes of the table
    pub select_free : (n : ℕ) {k : SelectionKind} {v : Value} {cs : List ℕ} {ds : List Decl} {u : ℕ} → node_of F n ≡ select k v cs ds u → FreeSelection k
    pub exit_free : (n : ℕ) {i : Inst} {vs : List Value} → node_of F n ≡ exit i vs → FreeInst i
    pub ctrl_free : (r : ℕ) {c : ControlInst} → ctrl_of F r ≡ some c → FreeKind c.kind
    pub op_free : (i : ℕ) → FreeOp (op_of F i).kind

  pub record Numbered (first : ℕ) : Type 0 where
    -- 9: the first id is above 0 and above each constant's
    pub positive : 0 < first
    pub under : (n : ℕ) → n < length F.consts → (const_of F n).id < first
    -- 4: no const id repeats, and none is 0
    pub once : (n k : ℕ) → n < length F.consts → k < length F.consts → (const_of F n).id ≡ (const_of F k).id → n ≡ k
    pub nonzero : (n : ℕ) → n < length F.consts → 0 < (const_of F n).id

  -- a constant, a parameter, or a value that a kept block sets
  pub data Settled (K : Table) : Value → Type 0 where
    a_const : {n : ℕ} → n < length F.consts → Settled K (const n)
    a_param : {i : ℕ} → i < length F.params → Settled K (region_input 0 i)
    a_phi : {v : Value} (x : CfgPoint × BlockLifting) → In x K → In v x.1.keys → Settled K v
    a_result : {i t : ℕ} (x : CfgPoint × BlockLifting) → In x K → In i x.1.ops → (op_of F i).type ≡ suc t → Settled K (data_inst_output i)

  -- 10: a kept instruction uses no other value
  pub record Settles (K : Table) : Type 0 where
    pub operands : (x : CfgPoint × BlockLifting) (i : ℕ) → In x K → In i x.1.ops → All (Settled K) (op_of F i).operands
    pub inputs : (x : CfgPoint × BlockLifting) → In x K → All (Settled K) x.1.term.ins
    pub edges : (x : CfgPoint × BlockLifting) (q : CfgPoint) → In x K → In q x.1.term.targets → All (Settled K) (edge_of K x.1.term q)

  pub record Accepted (first : ℕ) : Type 0 where
    pub forest : Forest
    pub targets : Targets
    pub fitting : Fitting
    pub numbered : Numbered first
    pub settles : Settles (kept (walk_of F))

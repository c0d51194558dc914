-- Document 02, W7: a conditional branch may not name one label twice. No 250 of the list does: a `bool` ctrl has two targets (refusal 13), a select's
-- cases are two regions (5), and a loop's way back goes on to its entry or its exit. Different points have different labels. Assumes nothing.
use Rattle.std.specs.Prelude.{◌≡◌, Bool, true, false, ℕ, eqb, length}
use Rattle.std.proofs.Math.Path.{refl}
use Rattle.std.proofs.Common.{sym, ap, subst, ◌∙◌, inl, inr, arith, eqb-true}
use mathlib.Core.List.{List, [], ◌∷◌, ◌++◌, map}
use Rattle.std.proofs.Math.Option.{Option, none, some}
use Rattle.std.proofs.lemmas.Bool.{eqb-false}
use Rattle.opcodes.specs.Table.{opcode_of, table}
use Rattle.opcodes.specs.declared.InstKind.TheVariants.{BranchConditional}
use Rattle.general_laws.specs.Lists.{within}
use Rattle.lifting.specs.Ast.{ControlInst, ControlInstKind, DataInstKind, Decl, Func, Node, Value, block, bool_cond, branch, call, exit, exit_invocation, ext, inst, loop, return, select, select_branch, spv_inst, unreachable}
use Rattle.lifting.specs.Parts.{children_of, ctrl_of, node_of, op_of, region_of}
use Rattle.lifting.specs.References.{references_hold}
use Rattle.lifting.specs.Tree.{is_tree}
use Rattle.lifting.specs.Control.{bool_distinct, control_fits, kind_fits, targets_differ}
use Rattle.lifting.specs.Points.{BlockLifting, CfgPoint, Merge, Table, loop_merge, no_merge, region_entry, selection_merge}
use Rattle.lifting.specs.Walk.{Place, always, child_term, exit_block, in_block, in_node, loop_term, root_term, top, walk_of}
use Rattle.lifting.specs.Absorb.{kept}
use Rattle.lifting.specs.Ids.{id_of, label, label_of, names}
use Rattle.lifting.specs.Instructions.{Instruction, body_insts, function_inst, instructions, label_inst, merge_insts, op_inst, op_opcode, param_inst, param_insts, phi_inst, phi_insts, term_inst, term_opcode}
use Rattle.general_laws.specs.Members.{All, In, NoDup, all_from, all_in, here, in_cases, in_nil, nodup_map}
use Rattle.lifting_runs.specs.Accepted.{FreeKind, FreeOp, WayFit}
use Rattle.general_laws.specs.Tests.{both, distinct_once}
use Rattle.lifting_runs.specs.Refers.{refers}
use Rattle.lifting_runs.specs.Fits.{ctrl_differs, ctrl_tests, forest}
use Rattle.lifting_runs.specs.Each.{Each, each_kept, every_walked}
use Rattle.lifting_runs.specs.Ids.{label_inj}
use Rattle.lifting_runs.specs.EmitRun.{BlockOk, OpOk, Sound, target_named}
use Rattle.lifting_runs.specs.Listing.{all_blocks, all_body, all_list, all_params, all_phis, free_kind}
use Rattle.lifting_blocks.specs.Labels.{LabelsDiffer}

-- a way out by `bool` has one input and no target twice
abbrev Apart : ControlInstKind → List Value → List CfgPoint → Type 0
Apart unreachable vs ps = Unit {0}
Apart return vs ps = Unit {0}
Apart branch vs ps = Unit {0}
Apart (select_branch bool_cond) vs ps = (length vs ≡ 1) × NoDup ps
Apart (select_branch (spv_inst i)) vs ps = Unit {0}
Apart (exit_invocation i) vs ps = Unit {0}

abbrev Parted : BlockLifting → Type 0
Parted b = Apart b.term.kind b.term.ins b.term.targets

entries_once : (rs : List ℕ) → NoDup rs → NoDup (map region_entry rs)
entries_once = nodup_map region_entry (λ x y e. cc)

-- 7 and 13, at a ctrl line
ctrl_apart : (k : ControlInstKind) (vs : List Value) (to : List ℕ) → kind_fits k (length vs) (length to) ≡ true → bool_distinct k to ≡ true → Apart k vs (map region_entry to)
ctrl_apart unreachable vs to e d = tt
ctrl_apart return vs to e d = tt
ctrl_apart branch vs to e d = tt
ctrl_apart (select_branch bool_cond) vs to e d = (eqb-true (length vs) 1 (both (eqb (length vs) 1) _ e).0, entries_once to (distinct_once to d))
ctrl_apart (select_branch (spv_inst i)) vs to e d = tt
ctrl_apart (exit_invocation i) vs to e d = tt

module _ (F : Func) (references : references_hold F ≡ true) (tree : is_tree F ≡ true) (control : control_fits F ≡ true) (differ : targets_differ F ≡ true) where
  root_parted : (r : ℕ) (o : Option ControlInst) → ctrl_of F r ≡ o → let t = root_term F o r in Apart t.kind t.ins t.targets
  root_parted r none e = tt
  root_parted r (some c) e = ctrl_apart c.kind c.ins c.to (ctrl_tests F control r e).1 (ctrl_differs F differ r e)

  loop_parted : (b : Bool) (n : ℕ) (c : Value) (vs : List Value) → let t = loop_term F b n c vs in Apart t.kind t.ins t.targets
  loop_parted true n c vs = tt
  loop_parted false n c vs = (refl, (λ i. elim (in_cases i) [ inl e ↦ let z : ◌≡◌ {A = ℕ} 0 1 = cc in omega arith | inr j ↦ in_nil j ], (in_nil, tt)))

  child_parted : (d : Node) (n : ℕ) (vs : List Value) → let t = child_term F d n vs in Apart t.kind t.ins t.targets
  child_parted (block is) n vs = tt
  child_parted (select k v cs ds u) n vs = tt
  child_parted (loop b c is u) n vs = loop_parted (always F c) n c vs
  child_parted (exit i ws) n vs = tt

  exit_parted : (r : ℕ) (p : Place) → Parted (exit_block F r p)
  exit_parted r top = root_parted r (ctrl_of F r) refl
  exit_parted r (in_node n) = child_parted (node_of F n) n (region_of F r).outs

  -- 5, at a node
  in_parted : (d : Node) (n : ℕ) → NoDup (children_of d) → Parted (in_block F d n)
  in_parted (block is) n h = tt
  in_parted (select bool_cond v cs ds u) n h = (refl, entries_once cs h)
  in_parted (select (spv_inst i) v cs ds u) n h = tt
  in_parted (loop b c is u) n h = tt
  in_parted (exit i vs) n h = tt

  walk_parted : Each Parted (walk_of F)
  walk_parted = every_walked F _ {R = λ r. Unit {0}} (λ r p t. tt) exit_parted (λ n. in_parted (node_of F n) n ((forest F (refers F references) tree).0.cases_once n)) (λ n q. tt) (λ r i. tt)

  pub kept_parted : Each Parted (kept (walk_of F))
  kept_parted = each_kept Parted tt (λ b h. tt) (λ b c h k. k) (walk_of F) walk_parted

module _ (F : Func) (first : ℕ) (T K : Table) (ok : Sound F first T K) where
  -- the text's own opcodes are none of the table's (4)
  free_apart : (i : Instruction) → within i.opcode table ≡ false → LabelsDiffer i
  free_apart i f e = absurd (eqb-false i.opcode (opcode_of BranchConditional) (free_kind i.opcode BranchConditional f) e)

  way_apart : (k : ControlInstKind) (vs : List Value) (ps : List CfgPoint) → FreeKind k → WayFit k (length ps) → Apart k vs ps → ((p : CfgPoint) → In p ps → In (label p) (names F T K))
      → (i : Instruction) → i.opcode ≡ term_opcode k vs → i.ids ≡ map (id_of F first T K) vs ++ map (label_of F first T K) ps → LabelsDiffer i
  way_apart unreachable vs ps f w a n i o x e = absurd (omega (arith, o, e))
  way_apart return [] ps f w a n i o x e = absurd (omega (arith, o, e))
  way_apart return (v ∷ vs) ps f w a n i o x e = absurd (omega (arith, o, e))
  way_apart branch vs ps f w a n i o x e = absurd (omega (arith, o, e))
  way_apart (select_branch bool_cond) [] ps f w a n i o x e = absurd (omega (arith, a.0))
  way_apart (select_branch bool_cond) (v ∷ u ∷ vs) ps f w a n i o x e = absurd (omega (arith, a.0))
  way_apart (select_branch bool_cond) (v ∷ []) [] f w a n i o x e = absurd (omega (arith, w))
  way_apart (select_branch bool_cond) (v ∷ []) (p ∷ []) f w a n i o x e = absurd (omega (arith, w))
  way_apart (select_branch bool_cond) (v ∷ []) (p ∷ q ∷ r ∷ ps) f w a n i o x e = absurd (omega (arith, w))
  way_apart (select_branch bool_cond) (v ∷ []) (p ∷ q ∷ []) f w a n i o x e = record {
    condition = id_of F first T K v;
    true_label = label_of F first T K p;
    false_label = label_of F first T K q;
    ids_are = x;
    differ = λ s. a.1.0 (subst (λ (z : CfgPoint). In z (q ∷ [])) (sym (label_inj F first T K ok.numbered p q (n p here) s)) here);
  }
  way_apart (select_branch (spv_inst j)) vs ps f w a n i o x e = free_apart i (ap (λ (m : ℕ). within m table) o ∙ f) e
  way_apart (exit_invocation j) vs ps f w a n i o x e = free_apart i (ap (λ (m : ℕ). within m table) o ∙ f) e

  term_apart : (b : BlockLifting) → BlockOk F first T K b → Parted b → LabelsDiffer (term_inst F first T K b.term)
  unfolding term_inst
  term_apart b h a =
      let t = b.term in
      way_apart t.kind t.ins t.targets h.kind_free h.way_fit a (target_named F first T K b h) (term_inst F first T K t) refl refl

  op_apart : (i : Instruction) (k : DataInstKind) → i.opcode ≡ op_opcode k → FreeOp k → LabelsDiffer i
  op_apart i (inst j) o f e = free_apart i (ap (λ (m : ℕ). within m table) o ∙ f) e
  op_apart i (call c) o f e = absurd (omega (arith, o, e))
  op_apart i (ext s n) o f e = absurd (omega (arith, o, e))

  ops_apart : (is : List ℕ) → All (OpOk F first T K) is → All LabelsDiffer (map (op_inst F first T K) is)
  unfolding op_inst
  ops_apart [] h = tt
  ops_apart (i ∷ is) h = (op_apart (op_inst F first T K i) (op_of F i).kind refl h.0.0, ops_apart is h.1)

  -- the others are none
  phis_apart : (q : CfgPoint) (ks : List Value) (ds : List Decl) (j : ℕ) → All LabelsDiffer (phi_insts F first T K q ks ds j)
  unfolding phi_inst
  phis_apart q = all_phis F first T K LabelsDiffer q (λ v d j e. absurd (omega (arith, e)))

  merge_apart : (m : Merge) → All LabelsDiffer (merge_insts F first T K m)
  unfolding merge_insts
  merge_apart no_merge = tt
  merge_apart (selection_merge a u) = (λ e. absurd (omega (arith, e)), tt)
  merge_apart (loop_merge a b u) = (λ e. absurd (omega (arith, e)), tt)

  label_apart : (q : CfgPoint) → LabelsDiffer (label_inst F first T K q)
  unfolding label_inst
  label_apart q e = absurd (omega (arith, e))

  params_apart : (ds : List Decl) (i : ℕ) → All LabelsDiffer (param_insts F first T K ds i)
  unfolding param_inst
  params_apart = all_params F first T K LabelsDiffer (λ d i e. absurd (omega (arith, e)))

  block_apart : (q : CfgPoint) (b : BlockLifting) → BlockOk F first T K b → Parted b → All LabelsDiffer (body_insts F first T K q b)
  block_apart q b h a = all_body F first T K LabelsDiffer q b (phis_apart q b.keys b.decls 0) (ops_apart b.ops h.ops_ok) (merge_apart b.term.merge) (term_apart b h a)

  -- each 250 of the list
  pub list_apart : Each Parted K → All LabelsDiffer (instructions F first T K)
  unfolding function_inst
  list_apart h =
      all_list F first T K LabelsDiffer (λ e. absurd (omega (arith, e))) (params_apart F.params 0)
      (all_blocks F first T K LabelsDiffer K (all_from _ K (λ x i. (label_apart x.0, block_apart x.0 x.1 (all_in _ K ok.all_ok x i) (all_in _ K h x i)))))
      (λ e. absurd (omega (arith, e)))

-- Document 02, W4: the control number of a select or a loop becomes the immediate of its merge. What is claimed of each merge of the list: it is that
-- of a node of the text, names that node's exit and carries that node's control number, which is 0, 1 or 2. And none is lost. Assumes nothing.
--     merge_stays    the merge of each visited point that stands in a kept block is in the list
use Rattle.std.specs.Prelude.{◌≡◌, Bool, ℕ, zero, suc, ◌≤◌, ◌<◌, get_or}
use Rattle.std.proofs.Math.Path.{refl, ap, subst}
use Rattle.std.proofs.Common.{sym, ◌∙◌, arith}
use Rattle.std.proofs.Math.Bool.{false}
use mathlib.Core.List.{List, [], ◌∷◌, ◌++◌}
use Rattle.std.proofs.Math.Option.{Option, none}
use Rattle.std.proofs.Math.Decide.{dec_lt}
use Rattle.std.proofs.Math.ListN.{length}
use Rattle.opcodes.specs.Table.{opcode_of}
use Rattle.opcodes.specs.declared.InstKind.TheVariants.{LoopMerge, SelectionMerge}
use Rattle.general_laws.specs.Lists.{gather}
use Rattle.lifting.specs.Ast.{ControlInstKind, Decl, Func, SelectionKind, Value, branch, exit_invocation, loop, return, select, select_branch, unreachable}
use Rattle.lifting.specs.Parts.{node_of}
use Rattle.lifting.specs.Limits.{max_control}
use Rattle.lifting.specs.Points.{BlockLifting, CfgPoint, Merge, Table, Terminator, loop_merge, no_merge, node_exit, region_exit, selection_merge}
use Rattle.lifting.specs.Walk.{walk_of}
use Rattle.lifting.specs.Absorb.{if_branch, if_empty, if_no_merge, if_zero, kept, the_only, sole_target, use_count}
use Rattle.lifting.specs.Instructions.{Instruction, end_inst, instructions, loop_control, merge_insts, param_insts, selection_control, short, term_inst}
use Rattle.general_laws.specs.Members.{In, in_left, in_nil, in_right, there}
use Rattle.lifting_runs.specs.Shaped.{Shaped}
use Rattle.lifting_blocks.specs.Flat.{Status, absorbs_here, absorbs_next, absorbs_target, goes, gone, no_pair, pass_part, part_at, starts, status_at, up_to}
use Rattle.lifting_blocks.specs.FlatLaws.{absorb_last, absorb_next}
use Rattle.lifting_blocks.specs.ListFlat.{writing}
use Rattle.lifting_blocks.specs.Laws.{instructions_are}

-- no merge, or one of the text: of a select or a loop, with its exit and its control number
pub data Own (F : Func) : Merge → Type 0 where
  no_merge_law : Own F no_merge
  of_select : {n : ℕ} {k : SelectionKind} {v : Value} {cs : List ℕ} {ds : List Decl} {u : ℕ} → node_of F n ≡ select k v cs ds u → Own F (selection_merge (node_exit n) u)
  of_loop : {n b : ℕ} {c : Value} {is : List Value} {u : ℕ} → node_of F n ≡ loop b c is u → Own F (loop_merge (node_exit n) (region_exit b) u)

module _ (F : Func) where
  abbrev pub OwnOf : BlockLifting → Type 0
  OwnOf b = Own F b.term.merge

-- of an instruction: the immediate and the labels of a select's merge, and of a loop's
pub data OfSelect (F : Func) (label : CfgPoint → ℕ) (i : Instruction) : Type 0 where
  select_merge : (n : ℕ) {k : SelectionKind} {v : Value} {cs : List ℕ} {ds : List Decl} {u : ℕ} → node_of F n ≡ select k v cs ds u → u ≤ max_control
      → i.imms ≡ short selection_control u → i.ids ≡ label (node_exit n) ∷ [] → OfSelect F label i

pub data OfLoop (F : Func) (label : CfgPoint → ℕ) (i : Instruction) : Type 0 where
  loop_merge_law : (n : ℕ) {b : ℕ} {c : Value} {is : List Value} {u : ℕ} → node_of F n ≡ loop b c is u → u ≤ max_control
      → i.imms ≡ short loop_control u → i.ids ≡ label (node_exit n) ∷ label (region_exit b) ∷ [] → OfLoop F label i

-- what is claimed of each instruction
pub record OwnControl (F : Func) (label : CfgPoint → ℕ) (i : Instruction) : Type 0 where
  pub selection : i.opcode ≡ opcode_of SelectionMerge → OfSelect F label i
  pub loop : i.opcode ≡ opcode_of LoopMerge → OfLoop F label i

-- ---- no merge is lost

-- a way out with a merge has no target that can be absorbed
sole_none : (t : Terminator) → ¬ (t.merge ≡ no_merge) → sole_target t ≡ none
sole_none t n =
    ap (λ (o : Option CfgPoint). if_zero t.attrs (if_branch t.kind (if_empty t.ins (if_empty t.vals o)))) (by_merge t.merge n)
    ∙ ap (λ (o : Option CfgPoint). if_zero t.attrs (if_branch t.kind (if_empty t.ins o))) (by_list t.vals)
    ∙ ap (λ (o : Option CfgPoint). if_zero t.attrs (if_branch t.kind o)) (by_list t.ins)
    ∙ ap (if_zero t.attrs) (by_kind t.kind)
    ∙ by_attrs t.attrs
  where
    by_merge : (m : Merge) → ¬ (m ≡ no_merge) → if_no_merge m (the_only t.targets) ≡ none
    by_merge no_merge n = absurd (n refl)
    by_merge (selection_merge a u) n = refl
    by_merge (loop_merge a b u) n = refl

    by_list : {A : Type 0} (l : List A) → ◌≡◌ {A = Option CfgPoint} (if_empty l none) none
    by_list [] = refl
    by_list (x ∷ l) = refl

    by_kind : (k : ControlInstKind) → ◌≡◌ {A = Option CfgPoint} (if_branch k none) none
    by_kind unreachable = refl
    by_kind return = refl
    by_kind branch = refl
    by_kind (select_branch k) = refl
    by_kind (exit_invocation i) = refl

    by_attrs : (n : ℕ) → ◌≡◌ {A = Option CfgPoint} (if_zero n none) none
    by_attrs zero = refl
    by_attrs (suc n) = refl

in_up_to : {A : Type 0} {x : A} (f : ℕ → List A) (n i : ℕ) → i < n → In x (f i) → In x (up_to f n)
unfolding up_to
in_up_to f zero i h j = absurd (omega arith)
in_up_to {x = x} f (suc n) i h j = by_case (dec_lt i n) (λ l. in_up_to f n i l j)
  where
    by_case : Dec (i < n) → (i < n → In x (up_to f n)) → In x (up_to f n ++ f n)
    by_case (yes l) g = in_left (f n) (g l)
    by_case (no l) g = in_right (up_to f n) (subst (λ (k : ℕ). In x (f k)) (omega arith) j)

module _ (F : Func) (ok : Shaped F) (first : ℕ) where
  abbrev T : Table
  T = walk_of F

  abbrev K : Table
  K = kept (walk_of F)

  abbrev at : ℕ → CfgPoint × BlockLifting
  at i = get_or (walk_of F) i no_pair

  -- it absorbs nothing, so its way out is that of the block in which it stands
  not_absorbing : (i : ℕ) → sole_target (at i).1.term ≡ none → absorbs_here (use_count T) T i ≡ false
  unfolding absorbs_next
  not_absorbing i e = by_case (dec_lt (suc i) (length T))
    where
      by_case : Dec (suc i < length T) → absorbs_here (use_count T) T i ≡ false
      by_case (yes h) = absorb_next (use_count T) T i h ∙ ap (λ (o : Option CfgPoint). absorbs_target o (at (suc i)).0 (use_count T (at (suc i)).0) (at (suc i)).1.keys) e
      by_case (no n) = absorb_last (use_count T) T i (omega arith)

  in_part : (j : Instruction) (x : CfgPoint × BlockLifting) (s : Status) → ¬ (s ≡ gone) → In j (merge_insts F first T K x.1.term.merge) → In j (pass_part (writing F first T K) s false x)
  unfolding pass_part
  in_part j x gone n i = absurd (n refl)
  in_part j x starts n i = in_right ((writing F first T K).start x.0 x.1.keys x.1.decls) (in_right (gather (writing F first T K).op x.1.ops) (in_left (term_inst F first T K x.1.term ∷ []) i))
  in_part j x (goes h) n i = in_right (gather (writing F first T K).op x.1.ops) (in_left (term_inst F first T K x.1.term ∷ []) i)

  pub merge_stays : (i : ℕ) → i < length (walk_of F) → ¬ (status_at (use_count (walk_of F)) (walk_of F) i ≡ gone) → (j : Instruction)
      → In j (merge_insts F first (walk_of F) (kept (walk_of F)) (get_or (walk_of F) i no_pair).1.term.merge) → In j (instructions F first (walk_of F) (kept (walk_of F)))
  unfolding instructions part_at merge_insts
  merge_stays i h n j m =
      let none_there = not_absorbing i (sole_none (at i).1.term (λ e. in_nil (subst (λ (g : Merge). In j (merge_insts F first T K g)) e m))) in
      let in_it = subst (λ (b : Bool). In j (pass_part (writing F first T K) (status_at (use_count T) T i) b (at i))) (sym none_there) (in_part j (at i) (status_at (use_count T) T i) n m) in
      let in_blocks = subst (λ (l : List Instruction). In j l) (sym (instructions_are F ok first)) (in_up_to (part_at (use_count T) (writing F first T K) T) (length T) i h in_it) in
      there (in_right (param_insts F first T K F.params 0) (in_left (end_inst F first T K ∷ []) in_blocks))

-- What each visited point writes: a block's label and phis where one starts, the ops, and the merge and way out where it ends. Assumes nothing.
--     items_gone, items_starts, items_goes    by where the point stands
--     head_is, param_items_law, params_are, last_is  function, parameters, function end
--     list_is                                 the whole list, point by point
use Rattle.std.specs.Prelude.{◌≡◌, Bool, get_or, length}
use Rattle.std.proofs.Math.Path.{refl, sym, ap, ap₂}
use Rattle.std.proofs.Common.{◌∙◌, add-suc, add-zero, suc-add, zero-add}
use Rattle.std.proofs.Math.Bool.{true, false}
use mathlib.Core.List.{List, [], ◌∷◌, ◌++◌, append-nil}
use Prim.Native.Nat.{ℕ, suc, ◌+◌, ◌<◌}
use Rattle.opcodes.specs.Table.{opcode_of}
use Rattle.opcodes.specs.declared.InstKind.TheVariants.{Function, FunctionEnd, FunctionParameter}
use Rattle.general_laws.specs.Lists.{gather}
use Rattle.lifting.specs.Ast.{Decl, Func, Region, Value}
use Rattle.lifting.specs.Parts.{has_body}
use Rattle.lifting.specs.Points.{BlockLifting, CfgPoint, Table, Terminator}
use Rattle.lifting.specs.Walk.{walk_of}
use Rattle.lifting.specs.Absorb.{absorb, kept, use_count}
use Rattle.lifting.specs.Instructions.{Instruction, block_insts, end_inst, function_control, function_inst, instructions, label_inst, list_of, merge_insts, op_inst, param_inst, param_insts, phi_insts, short, term_inst}
use Rattle.lifting_blocks.specs.Flat.{Status, goes, gone, no_pair, pass_part, part_at, starts, unless_absorbs, up_to}
use Rattle.lifting_blocks.specs.FlatLaws.{gather_up_to, up_to_same}
use Rattle.lifting_blocks.specs.ListFlat.{writing}
use Rattle.lifting_blocks.specs.Laws as flat
use Rattle.general_laws.specs.Gather.{gather_append}
use Rattle.lifting_runs.specs.Shaped.{Shaped}
use Rattle.lifting_runs.proofs.EveryText.{walk_none}
use Rattle.terminators.specs.At.{visited_block, point_at}
use Rattle.block_absorbs.specs.Absorbs.{absorbs, stands}
use Rattle.lifting.specs.Ids.{id_of}
use Rattle.func.specs.Tables.{param_of}
use Rattle.emit_value_ids.specs.Later.{function_id, param_id}
use Rattle.emit_words.specs.Put.{Item, id}
use Rattle.emit_words.specs.Items.{inst_items, list_items}
use Rattle.emit_insts.specs.Parts.{front_same, front_items, inst_front, merge_in, op_in, start_in, term_in, up_to_front}

pub list_append : (k l : List Instruction) → list_items (k ++ l) ≡ list_items k ++ list_items l
unfolding list_items
list_append k l = gather_append inst_items k l

pub list_one : (i : Instruction) (l : List Instruction) → list_items (i ∷ l) ≡ inst_items i ++ list_items l
unfolding list_items
list_one i l = refl

list_last : (i : Instruction) → list_items (i ∷ []) ≡ inst_items i
unfolding list_items
list_last i = append-nil (inst_items i)

module _ (F : Func) (first : ℕ) where
  abbrev T : Table
  T = walk_of F

  abbrev K : Table
  K = kept (walk_of F)

  -- the phis of a block
  abbrev pub phi_items : CfgPoint → List Value → List Decl → List Item
  phi_items p ks ds = list_items (phi_insts F first T K p ks ds 0)

  -- a block's end, unless the point absorbs the next one
  abbrev pub end_if : Bool → Terminator → List Item
  end_if true t = []
  end_if false t = merge_in F first t.merge ++ term_in F first t

  -- the point at position i
  abbrev pub point_items : ℕ → List Item
  point_items i = list_items (part_at (use_count T) (writing F first T K) T i)

  abbrev pub op_items_at : ℕ → List Item
  op_items_at i = gather (op_in F first) (visited_block F i).ops

  abbrev pub end_at : ℕ → List Item
  end_at i = end_if (absorbs F i) (visited_block F i).term

  ops_items : (is : List ℕ) → list_items (gather (λ i. op_inst F first T K i ∷ []) is) ≡ gather (op_in F first) is
  unfolding list_items
  ops_items [] = refl
  ops_items (i ∷ is) = ap (λ (l : List Item). op_in F first i ++ l) (ops_items is)

  end_items : (g : Bool) (p : CfgPoint) (t : Terminator) → list_items (unless_absorbs (writing F first T K) g ((writing F first T K).end p t)) ≡ end_if g t
  unfolding list_items
  end_items true p t = refl
  end_items false p t =
      list_append (merge_insts F first T K t.merge) (term_inst F first T K t ∷ []) ∙ ap (λ (l : List Item). merge_in F first t.merge ++ l) (list_last (term_inst F first T K t))

  body_items : (g : Bool) (p : CfgPoint) (x : BlockLifting)
      → list_items (gather (writing F first T K).op x.ops ++ unless_absorbs (writing F first T K) g ((writing F first T K).end p x.term)) ≡ gather (op_in F first) x.ops ++ end_if g x.term
  body_items g p x =
      list_append (gather (writing F first T K).op x.ops) _ ∙ ap₂ (λ (a b : List Item). a ++ b) (ops_items x.ops) (end_items g p x.term)

  by_gone : (s : Status) (g : Bool) (x : CfgPoint × BlockLifting) → s ≡ gone → list_items (pass_part (writing F first T K) s g x) ≡ []
  unfolding pass_part list_items
  by_gone s g x e = ap (λ (t : Status). list_items (pass_part (writing F first T K) t g x)) e

  by_starts : (s : Status) (g : Bool) (x : CfgPoint × BlockLifting) → s ≡ starts
      → list_items (pass_part (writing F first T K) s g x) ≡ (start_in F first x.0 ++ phi_items x.0 x.1.keys x.1.decls) ++ (gather (op_in F first) x.1.ops ++ end_if g x.1.term)
  unfolding pass_part
  by_starts s g x e =
      ap (λ (t : Status). list_items (pass_part (writing F first T K) t g x)) e
      ∙ list_append (label_inst F first T K x.0 ∷ phi_insts F first T K x.0 x.1.keys x.1.decls 0) _
      ∙ ap₂ (λ (a b : List Item). a ++ b) (list_one (label_inst F first T K x.0) _) (body_items g x.0 x.1)

  by_goes : (s : Status) (h : CfgPoint) (g : Bool) (x : CfgPoint × BlockLifting) → s ≡ goes h
      → list_items (pass_part (writing F first T K) s g x) ≡ gather (op_in F first) x.1.ops ++ end_if g x.1.term
  unfolding pass_part
  by_goes s h g x e = ap (λ (t : Status). list_items (pass_part (writing F first T K) t g x)) e ∙ body_items g h x.1

  pub items_gone : (i : ℕ) → stands F i ≡ gone → point_items i ≡ []
  unfolding part_at
  items_gone i e = by_gone (stands F i) (absorbs F i) (get_or T i no_pair) e

  pub items_starts : (i : ℕ) → stands F i ≡ starts
      → point_items i ≡ (start_in F first (point_at F i) ++ phi_items (point_at F i) (visited_block F i).keys (visited_block F i).decls) ++ (op_items_at i ++ end_at i)
  unfolding part_at
  items_starts i e = by_starts (stands F i) (absorbs F i) (get_or T i no_pair) e

  pub items_goes : (i : ℕ) {h : CfgPoint} → stands F i ≡ goes h → point_items i ≡ op_items_at i ++ end_at i
  unfolding part_at
  items_goes i {h} e = by_goes (stands F i) h (absorbs F i) (get_or T i no_pair) e

  -- ---- the list

  abbrev pub head_in : List Item
  head_in = inst_items (function_inst F first T K)

  abbrev pub param_items : List Item
  param_items = list_items (param_insts F first T K F.params 0)

  abbrev pub last_in : List Item
  last_in = inst_items (end_inst F first T K)

  pub head_is : front_items (opcode_of Function) F.attrs F.ret first (short function_control F.control) 1 ++ (id F.type ∷ []) ≡ head_in
  unfolding function_inst
  head_is =
      ap (λ (r : ℕ). front_items (opcode_of Function) F.attrs F.ret r (short function_control F.control) 1 ++ (id F.type ∷ [])) (sym (function_id F first))
      ∙ sym (inst_front (function_inst F first T K))

  pub last_is : front_items (opcode_of FunctionEnd) 0 0 0 [] 0 ≡ last_in
  last_is = sym (inst_front (end_inst F first T K) ∙ append-nil _)

  -- parameter i
  abbrev pub param_in : ℕ → List Item
  param_in i = inst_items (param_inst F first T K (param_of F i) i)

  pub param_items_law : (i : ℕ) → i < length F.params → (a t r : ℕ) → a ≡ (param_of F i).attrs → t ≡ (param_of F i).type → r ≡ first + 1 + i
      → front_items (opcode_of FunctionParameter) a t r [] 0 ≡ param_in i
  unfolding param_inst id_of
  param_items_law i h a t r ea et er =
      front_same 0 refl ea et (er ∙ sym (param_id F first i h)) refl ∙ sym (inst_front (param_inst F first T K (param_of F i) i) ∙ append-nil _)

  params_from : (ds : List Decl) (k : ℕ)
      → up_to (λ i. inst_items (param_inst F first T K (get_or ds i (record { attrs = 0; type = 0 })) (k + i))) (length ds) ≡ list_items (param_insts F first T K ds k)
  unfolding up_to param_insts list_items
  params_from [] k = refl
  params_from (d ∷ ds) k =
      let g : ℕ → List Item = λ i. inst_items (param_inst F first T K (get_or (d ∷ ds) i (record { attrs = 0; type = 0 })) (k + i)) in
      up_to_front g (length ds)
      ∙ ap₂ (λ (a b : List Item). a ++ b) (ap (λ (n : ℕ). inst_items (param_inst F first T K d n)) (add-zero k))
      (up_to_same (λ i. g (suc i)) _ (λ i. ap (λ (n : ℕ). inst_items (param_inst F first T K (get_or ds i (record { attrs = 0; type = 0 })) n)) (add-suc k i ∙ sym (suc-add k i))) (length ds)
      ∙ params_from ds (suc k))

  pub params_are : up_to param_in (length F.params) ≡ param_items
  params_are = up_to_same param_in _ (λ i. ap (λ (n : ℕ). inst_items (param_inst F first T K (param_of F i) n)) (sym (zero-add i))) (length F.params) ∙ params_from F.params 0

  list_up_to : (f : ℕ → List Instruction) (n : ℕ) → list_items (up_to f n) ≡ up_to (λ i. list_items (f i)) n
  unfolding list_items
  list_up_to f n = gather_up_to inst_items f n

  no_insts : (t : Table) → t ≡ [] → list_items (block_insts F first t (kept t) (kept t)) ≡ up_to point_items (length t)
  unfolding kept absorb block_insts up_to list_items
  no_insts t e = ap (λ (u : Table). list_items (block_insts F first u (kept u) (kept u))) e ∙ sym (ap (λ (u : Table). up_to point_items (length u)) e)

  blocks_are : ((has_body F.regions ≡ true) → Shaped F) → list_items (block_insts F first T K K) ≡ up_to point_items (length T)
  blocks_are ok = go F.regions refl
    where
      go : (rs : List Region) → F.regions ≡ rs → list_items (block_insts F first T K K) ≡ up_to point_items (length T)
      go [] e = no_insts T (walk_none F e)
      go (r ∷ rs) e = let s = ok (ap has_body e) in ap list_items (flat.instructions_are F s first) ∙ list_up_to _ (length T)

  pub list_is : ((has_body F.regions ≡ true) → Shaped F) → list_items (list_of F first) ≡ head_in ++ (param_items ++ (up_to point_items (length T) ++ last_in))
  unfolding list_of instructions
  list_is ok =
      list_one (function_inst F first T K) _
      ∙ ap (λ (l : List Item). head_in ++ l)
      (list_append (param_insts F first T K F.params 0) (block_insts F first T K K ++ (end_inst F first T K ∷ []))
      ∙ ap (λ (l : List Item). param_items ++ l)
      (list_append (block_insts F first T K K) (end_inst F first T K ∷ [])
      ∙ ap₂ (λ (a b : List Item). a ++ b) (blocks_are ok) (list_last (end_inst F first T K))))

-- Refusal 4 by the words of the function slice. Assumes nothing.
--     references_test_law     of a text that passes 3, the words pass, and its ctrl lines' opcodes fit, exactly if the text passes 4
use Rattle.std.specs.Prelude.{◌≡◌, refl, true, false, ◌&&◌, ◌||◌, eqb, length, get_or}
use Rattle.std.proofs.Math.Path.{sym, ap}
use Rattle.std.proofs.Common.{◌∙◌, arith, lit<}
use Rattle.std.proofs.Math.Bool.{Bool, and-true, and_assoc, and_comm}
use mathlib.Core.List.{List, [], ◌∷◌, ◌++◌, map, map-map}
use Prim.Native.Nat.{ℕ, ◌+◌, ◌%◌, ◌≤◌, ◌<◌, min}
use Rattle.std.proofs.Math.Decide.{ℕ_discrete}
use Rattle.std.proofs.Math.Dec.{leb, ltb}
use Rattle.std.proofs.Math.ListN.{get_or-eq_default}
use borrow.Author.Tests.{ltb-true, ltb-false, lt-ltb, le-ltb, eqb-true, eqb-false, eq-eqb, ne_eqb}
use Rattle.general_laws.specs.Lists.{every, gather, keys, distinct}
use Rattle.lifting.specs.Limits.{max_opcode, max_control, within_limits}
use Rattle.lifting.specs.Ast.{Value, const, region_input, node_output, data_inst_output, Inst, DataInstKind, inst, call, ext, Op, bool_cond, spv_inst, Node, block, select, loop, exit, Region, ControlInst, Func}
use Rattle.lifting.specs.Parts.{outs_of, node_insts, op_insts, ctrl_insts, callee_ids}
use Rattle.lifting.specs.Parts as text
use Rattle.lifting.specs.References.{named, imm_fits, inst_fits, control_holds, references_hold}
use Rattle.func.specs.Layout.{pool_total, consts, targets, node_refs, op_refs, child_refs, entries, regions, nodes, ops, ctrls, entry_room}
use Rattle.func.proofs.Pools.{inside, entry_room_law}
use Rattle.func.specs.Store.{count, most, view}
use Rattle.func.specs.Adds.{largest}
use Rattle.func.specs.Keep.{one_word, const_words, decl_words, value_words, imm_words, inst_opcode, op_number, op_first, node_cells, op_cells}
use Rattle.func.specs.Decode.{decode_number}
use Rattle.func.specs.Whole.{collections, sizes, entry_list}
use Rattle.func.specs.Back.{lowered}
use Rattle.func.proofs.Back.{value_lowered}
use Rattle.func.specs.Tables.{word}
use Rattle.func.specs.Stored.{Stored}
use Rattle.func.proofs.Stored.{ins_count, outs_count, op_type}
use Rattle.check_rules.specs.declared.Rule.{Rule}
use Rattle.check_rules.specs.declared.Rule.TheVariants.{Named, ConstId, ParamType, DeclType, Callee, ConstOpcode, ImmFits, NodeControl, NodeInst, OpInst}
use Rattle.general_laws.specs.Every.{every_append, every_gather, every_map, every_keys, every_same, every_both}
use Rattle.check_references.specs.Largest.{every_each, below_largest}
use Rattle.check_rules.specs.Test.{rule_fits, pool_for, all_test, rule_test}
use Rattle.check_insts.specs.Test.{opcode_fits, callee_test, op_inst_test}
use Rattle.check_values.specs.Test.{named_test}
use Rattle.check_lines.specs.Test.{below_test, regions_test}
use Rattle.check_references.specs.Test.{ids_test, insts_test, references_test}
use Rattle.check_const_ids.specs.Test.{distinct_test}
use Rattle.check_limits.specs.Limits.{limits_test_law, LimitsReady, ready}

-- The numbers that name lines. A count stops above the room, and is 0 exactly if the size is.
capped_zero : (n m : ℕ) → eqb (min n (m + 1)) 0 ≡ eqb n 0
capped_zero n m = go (eqb n 0) refl
  where
    go : (b : Bool) → eqb n 0 ≡ b → eqb (min n (m + 1)) 0 ≡ eqb n 0
    go true e = rw e (eq-eqb (min n (m + 1)) 0 (let h = eqb-true n 0 e in omega arith))
    go false e = rw e (ne_eqb (min n (m + 1)) 0 (λ z. eqb-false n 0 e (omega arith)))

below_is : {A : Type 0} (f : A → ℕ) (xs : List A) (k p m : ℕ) (w : List ℕ) → count k w ≡ min (length xs) (entry_room k + 1) → most k w ≡ largest (map (λ a. one_word (f a)) xs) → count p w ≡ m
    → below_test k p w ≡ every (λ a. ltb (f a) m) xs
below_is f xs k p m w c l t =
    (λ i. eqb (c i) 0 || ltb (l i) (t i))
    ∙ ap (λ (b : Bool). b || ltb (largest (map (λ a. one_word (f a)) xs)) m) (capped_zero (length xs) (entry_room k))
    ∙ sym (below_largest f xs m)

-- A line's number that is kept as 65,535 at most names a line exactly if it does itself, as there are fewer lines.
by_row : (r n : ℕ) (a : ℕ → Bool) (b : Bool) → n ≤ 65535 → (r < n → a r ≡ b) → (n ≤ r → b ≡ false) → (ltb (min r 65535) n && a (min r 65535)) ≡ b
by_row r n a b l p q = go (ltb r n) refl
  where
    go : (x : Bool) → ltb r n ≡ x → (ltb (min r 65535) n && a (min r 65535)) ≡ b
    go true e =
        let h = ltb-true r n e in
        let m : min r 65535 ≡ r = omega arith in
        (λ i. ltb (m i) n && a (m i)) ∙ ap (λ (x : Bool). x && a r) e ∙ p h
    go false e =
        let h = ltb-false r n e in
        ap (λ (x : Bool). x && a (min r 65535)) (le-ltb (min r 65535) n (omega arith)) ∙ sym (q h)

-- What the kinds of nodes and ops ask.
node_opcode_law : (n : Node) → opcode_fits (inst_opcode (node_insts n)) ≡ every (λ i. opcode_fits i.opcode) (node_insts n)
unfolding opcode_fits ℕ_discrete
node_opcode_law (block is) = refl
node_opcode_law (select bool_cond v cs ds u) = refl
node_opcode_law (select (spv_inst i) v cs ds u) = sym (and-true (opcode_fits i.opcode))
node_opcode_law (loop b c vs u) = refl
node_opcode_law (exit i vs) = sym (and-true (opcode_fits i.opcode))

op_opcode_law : (k : DataInstKind) → op_inst_test (op_number k) (op_first k) ≡ every (λ i. opcode_fits i.opcode) (op_insts k)
op_opcode_law (inst i) = sym (and-true (opcode_fits i.opcode))
op_opcode_law (call f) = refl
op_opcode_law (ext s n) = refl

op_callee : (k : DataInstKind) → callee_test (op_number k) (op_first k) ≡ every (λ x. ltb 0 x) (callee_ids k)
op_callee (inst i) = refl
op_callee (call f) = sym (and-true (ltb 0 f))
op_callee (ext s n) = sym (and-true (ltb 0 s))

module _ {F : Func} {w : List ℕ} (s : Stored F w) (limits : within_limits F ≡ true) where
  fit : LimitsReady w
  fit = ready w s.size (limits_test_law F w s ∙ limits)

  total : (k : ℕ) → k < pool_total → count k w ≤ entry_room k → count k w ≡ get_or (sizes F) k 0
  total k l h = omega (arith, s.counts k l)

  held : (k : ℕ) → k < 9 → count k w ≤ entry_room k → view k w ≡ get_or (collections F) k []
  held k l h = s.views k l (omega (arith, total k (omega arith) h))

  region_total : count regions w ≡ length F.regions
  region_total = total regions (lit< tt) fit.regions

  node_total : count nodes w ≡ length F.nodes
  node_total = total nodes (lit< tt) fit.nodes

  op_total : count ops w ≡ length F.ops
  op_total = total ops (lit< tt) fit.ops

  -- values
  few : (k : ℕ) → k < pool_total → count k w ≤ entry_room k → count k w ≤ 65535
  few k l h = omega (arith, (inside k l).room, entry_room_law k)

  low : (v : Value) → named_test w (lowered v) ≡ named F v
  unfolding named_test
  low (const n) =
      let t = total consts (lit< tt) fit.consts in
      sym (and-true (ltb (min n 65535) (count consts w)))
      ∙ by_row n (count consts w) (λ k. true) (ltb n (length F.consts)) (few consts (lit< tt) fit.consts) (λ h. sym (lt-ltb n (length F.consts) (omega arith)))
      (λ h. le-ltb n (length F.consts) (omega arith))
  low (region_input r x) =
      by_row r (count regions w) (λ n. ltb x (word regions w n 0 % 4096)) (ltb x (length (text.region_of F r).ins)) (few regions (lit< tt) fit.regions)
      (λ h. ap (ltb x) (ins_count s fit.regions r (omega (arith, region_total)) fit.decls))
      (λ h. ap (λ (g : Region). ltb x (length g.ins)) (get_or-eq_default F.regions _ {n = r} (omega (arith, region_total))) ∙ le-ltb x 0 (omega arith))
  low (node_output n x) =
      by_row n (count nodes w) (λ m. ltb x (word nodes w m 6 % 4096)) (ltb x (length (outs_of (text.node_of F n)))) (few nodes (lit< tt) fit.nodes)
      (λ h. ap (ltb x) (outs_count s fit.nodes n (omega (arith, node_total)) fit.decls))
      (λ h. ap (λ (g : Node). ltb x (length (outs_of g))) (get_or-eq_default F.nodes _ {n = n} (omega (arith, node_total))) ∙ le-ltb x 0 (omega arith))
  low (data_inst_output o) =
      by_row o (count ops w) (λ m. ltb 0 (word ops w m 1)) (ltb 0 (text.op_of F o).type) (few ops (lit< tt) fit.ops)
      (λ h. ap (ltb 0) (op_type s fit.ops o (omega (arith, op_total))))
      (λ h. ap (λ (g : Op). ltb 0 g.type) (get_or-eq_default F.ops _ {n = o} (omega (arith, op_total))))

  -- a rule over a pool of parts is one over its collection
  over : {A : Type 0} (r : Rule) → pool_for r < 9 → (f : A → List ℕ) (xs : List A) → get_or (collections F) (pool_for r) [] ≡ map f xs → all_test w r ≡ every (λ a. rule_test w r (f a)) xs
  unfolding all_test
  over r l f xs e = ap (every (rule_test w r)) (held (pool_for r) l (rule_fits fit r) ∙ e) ∙ every_map (rule_test w r) f xs

  values_named : all_test w Named ≡ every (named F) (text.values F)
  values_named = over Named (lit< tt) value_words (text.values F) refl ∙ every_same (λ v. ap (named_test w) (value_lowered v) ∙ low v) (text.values F)

  const_ids_law : all_test w ConstId ≡ every (λ x. ltb 0 x) (map (λ c. c.id) F.consts)
  const_ids_law = over ConstId (lit< tt) const_words F.consts refl ∙ sym (every_map (λ x. ltb 0 x) (λ c. c.id) F.consts)

  param_types : all_test w ParamType ≡ every (λ x. ltb 0 x) (map (λ d. d.type) F.params)
  param_types = over ParamType (lit< tt) decl_words F.params refl ∙ sym (every_map (λ x. ltb 0 x) (λ d. d.type) F.params)

  decl_types : all_test w DeclType ≡ every (λ x. ltb 0 x) (map (λ d. d.type) (text.decls F))
  decl_types = over DeclType (lit< tt) decl_words (text.decls F) refl ∙ sym (every_map (λ x. ltb 0 x) (λ d. d.type) (text.decls F))

  const_opcodes : all_test w ConstOpcode ≡ every (λ c. leb c.opcode max_opcode) F.consts
  const_opcodes = over ConstOpcode (lit< tt) const_words F.consts refl

  imms_fit : all_test w ImmFits ≡ every imm_fits (text.immediates F)
  imms_fit = over ImmFits (lit< tt) imm_words (text.immediates F) refl

  -- a rule over rows is one over their lines
  callees : all_test w Callee ≡ every (λ x. ltb 0 x) (gather (λ o. callee_ids o.kind) F.ops)
  unfolding all_test op_cells
  callees =
      every_each (rule_test w Callee) (λ (o : Op). every (λ x. ltb 0 x) (callee_ids o.kind))
      (λ e o r. (λ i. callee_test (r.cell 2 (lit< tt) i) (r.cell 3 (lit< tt) i)) ∙ op_callee o.kind)
      (s.rows.ops fit.ops)
      ∙ sym (every_gather (λ x. ltb 0 x) (λ o. callee_ids o.kind) F.ops)

  fits : Inst → Bool
  fits i = opcode_fits i.opcode

  node_insts_law : all_test w NodeInst ≡ every fits (gather node_insts F.nodes)
  unfolding all_test node_cells fits
  node_insts_law =
      every_each (rule_test w NodeInst) (λ n. every fits (node_insts n)) (λ e n r. ap opcode_fits (r.cell 1 (lit< tt)) ∙ node_opcode_law n) (s.rows.nodes fit.nodes)
      ∙ sym (every_gather fits node_insts F.nodes)

  node_controls : all_test w NodeControl ≡ every control_holds F.nodes
  unfolding all_test node_cells
  node_controls = every_each (rule_test w NodeControl) control_holds (λ e n r. ap (λ (u : ℕ). leb u max_control) (r.cell 7 (lit< tt))) (s.rows.nodes fit.nodes)

  op_insts_law : all_test w OpInst ≡ every fits (gather (λ o. op_insts o.kind) F.ops)
  unfolding all_test op_cells fits
  op_insts_law =
      every_each (rule_test w OpInst) (λ (o : Op). every fits (op_insts o.kind))
      (λ e o r. (λ i. op_inst_test (r.cell 2 (lit< tt) i) (r.cell 3 (lit< tt) i)) ∙ op_opcode_law o.kind)
      (s.rows.ops fit.ops)
      ∙ sym (every_gather fits (λ o. op_insts o.kind) F.ops)

  -- the numbers of nodes, ops and regions
  nodes_below : below_test node_refs nodes w ≡ every (λ n. ltb n (length F.nodes)) (text.node_list F)
  nodes_below = below_is (λ n. n) (text.node_list F) node_refs nodes (length F.nodes) w (s.counts node_refs (lit< tt)) (s.mosts node_refs (lit< tt)) node_total

  ops_below : below_test op_refs ops w ≡ every (λ n. ltb n (length F.ops)) (text.op_list F)
  ops_below = below_is (λ n. n) (text.op_list F) op_refs ops (length F.ops) w (s.counts op_refs (lit< tt)) (s.mosts op_refs (lit< tt)) op_total

  region : ℕ → Bool
  region r = ltb r (length F.regions)

  children_below : below_test child_refs regions w ≡ every region (text.child_list F)
  unfolding region
  children_below = below_is (λ n. n) (text.child_list F) child_refs regions (length F.regions) w (s.counts child_refs (lit< tt)) (s.mosts child_refs (lit< tt)) region_total

  ctrls_below : below_test ctrls regions w ≡ every (λ c. region c.0) F.ctrls
  unfolding region
  ctrls_below = below_is (λ (c : ℕ × ControlInst). c.0) F.ctrls ctrls regions (length F.regions) w (s.counts ctrls (lit< tt)) s.ctrl_most region_total

  targets_below : below_test targets regions w ≡ every (λ c. every region c.1.to) F.ctrls
  unfolding region text.targets
  targets_below =
      below_is (λ n. n) (text.targets F) targets regions (length F.regions) w (s.counts targets (lit< tt)) (s.mosts targets (lit< tt)) region_total
      ∙ every_gather region (λ c. c.1.to) F.ctrls

  entries_below : below_test entries regions w ≡ every (λ c. every region (keys c.1.vals)) F.ctrls
  unfolding region entry_list
  entries_below =
      below_is (λ (e : ℕ × List Value). e.0) (entry_list F) entries regions (length F.regions) w (s.counts entries (lit< tt)) s.entry_most region_total
      ∙ every_gather (λ (e : ℕ × List Value). region e.0) (λ (c : ℕ × ControlInst). c.1.vals) F.ctrls
      ∙ every_same (λ (c : ℕ × ControlInst). sym (every_keys region c.1.vals)) F.ctrls

  ctrl_regions_law : every region (text.ctrl_regions F) ≡ (every (λ c. region c.0) F.ctrls && (every (λ c. every region c.1.to) F.ctrls && every (λ c. every region (keys c.1.vals)) F.ctrls))
  unfolding text.ctrl_regions
  ctrl_regions_law =
      every_gather region (λ (c : ℕ × ControlInst). c.0 ∷ (c.1.to ++ keys c.1.vals)) F.ctrls
      ∙ every_both (λ (c : ℕ × ControlInst). region c.0) (λ c. every region (c.1.to ++ keys c.1.vals)) F.ctrls
      ∙ ap (λ (b : Bool). every (λ (c : ℕ × ControlInst). region c.0) F.ctrls && b)
      (every_same (λ (c : ℕ × ControlInst). every_append region c.1.to (keys c.1.vals)) F.ctrls
      ∙ every_both (λ (c : ℕ × ControlInst). every region c.1.to) (λ c. every region (keys c.1.vals)) F.ctrls)

  regions_below : regions_test w ≡ every (λ r. ltb r (length F.regions)) (text.child_list F ++ text.ctrl_regions F)
  unfolding regions_test region
  regions_below =
      (λ i. children_below i && (ctrls_below i && (targets_below i && entries_below i)))
      ∙ ap (λ (b : Bool). every region (text.child_list F) && b) (sym ctrl_regions_law)
      ∙ sym (every_append region (text.child_list F) (text.ctrl_regions F))

  -- ids
  ids_given : ids_test w ≡ every (λ x. ltb 0 x) (text.required_ids F)
  unfolding ids_test text.required_ids
  ids_given =
      let p : ℕ → Bool = λ x. ltb 0 x in
      let cs = map (λ c. c.id) F.consts in
      let ps = map (λ d. d.type) F.params in
      let ds = map (λ d. d.type) (text.decls F) in
      let os = gather (λ o. callee_ids o.kind) F.ops in
      (λ i. ltb 0 (s.head 1 (lit< tt) i) && (ltb 0 (s.head 2 (lit< tt) i) && (const_ids_law i && (param_types i && (decl_types i && callees i)))))
      ∙ ap (λ (b : Bool). p F.ret && (p F.type && b))
      (sym
      (every_append p cs (ps ++ (ds ++ os)) ∙ ap (λ (b : Bool). every p cs && b) (every_append p ps (ds ++ os) ∙ ap (λ (b : Bool). every p ps && b) (every_append p ds os))))

  ids_distinct : distinct_test w ≡ distinct (map (λ c. c.id) F.consts)
  unfolding distinct_test
  ids_distinct = ap distinct (ap (map decode_number) (held consts (lit< tt) fit.consts) ∙ map-map decode_number const_words F.consts)

  -- INSTs
  insts_fit : (b : Bool) → b ≡ every fits (gather (λ c. ctrl_insts c.1.kind) F.ctrls) → (insts_test w && b) ≡ every inst_fits (text.insts F)
  unfolding insts_test fits opcode_fits text.insts text.immediates
  insts_fit b e =
      let ns = gather node_insts F.nodes in
      let os = gather (λ o. op_insts o.kind) F.ops in
      let cs = gather (λ (c : ℕ × ControlInst). ctrl_insts c.1.kind) F.ctrls in
      and_assoc (all_test w ImmFits) (all_test w NodeInst && all_test w OpInst) b
      ∙ ap (λ (x : Bool). all_test w ImmFits && x) (and_assoc (all_test w NodeInst) (all_test w OpInst) b)
      ∙ (λ i. imms_fit i && (node_insts_law i && (op_insts_law i && e i)))
      ∙ (λ i. every_gather imm_fits (λ (j : Inst). j.imms) (ns ++ (os ++ cs)) i && sym (every_append fits ns (os ++ cs) ∙ ap (λ (x : Bool). every fits ns && x) (every_append fits os cs)) i)
      ∙ sym (every_both (λ (j : Inst). every imm_fits j.imms) fits (ns ++ (os ++ cs)))
      ∙ every_same (λ (j : Inst). and_comm (every imm_fits j.imms) (fits j)) (ns ++ (os ++ cs))

pub references_test_law : (F : Func) (w : List ℕ) (b : Bool) → Stored F w → within_limits F ≡ true → b ≡ every (λ i. opcode_fits i.opcode) (gather (λ c. ctrl_insts c.1.kind) F.ctrls) → (references_test w && b) ≡ references_hold F
unfolding references_test references_hold fits
references_test_law F w b s h e =
    let x = all_test w Named && below_test node_refs nodes w && below_test op_refs ops w && regions_test w && ids_test w && distinct_test w && all_test w ConstOpcode && all_test w NodeControl in
    and_assoc x (insts_test w) b
    ∙ (λ i. values_named s h i && nodes_below s h i && ops_below s h i && regions_below s h i && ids_given s h i && ids_distinct s h i && const_opcodes s h i && node_controls s h i && insts_fit s h b e i)

-- A text that passes refusals 3 to 7 fits the function slice, so that all of it stands there and is read back. Assumes nothing.
--     fits_few           so does a text that passes 3 to 5 and has no more ctrl lines and entries than the slice has room for
--     few_control        a text that passes 7 too has no more
--     fits_checked       both in one step: what the slice asks of a text follows from the refusals' own tests
--     tables_checked     so its words are tables that the accessors read
use Rattle.std.specs.Prelude.{◌≡◌, refl, Bool, true, ◌&&◌, not, List, [], ◌∷◌, ◌++◌, map, ℕ, zero, suc, ◌≤◌, ◌<◌, get_or}
use Rattle.std.proofs.Common.{ap, arith, length-append}
use Rattle.std.proofs.Math.Dec.{leb, ltb}
use Rattle.std.proofs.Math.ListN.{length}
use borrow.Author.Tests.{ltb-true, le-leb}
use Rattle.lifting_runs.specs.StandsOnce.{stands_once_law}
use Rattle.general_laws.specs.Lists.{every, gather, within, distinct, below, keys}
use Rattle.lifting.specs.Ast.{Value, const, region_input, node_output, data_inst_output, block, call, ControlInst, Func}
use Rattle.lifting.specs.Parts as text
use Rattle.lifting.specs.Limits.{max_regions, max_targets, max_opcode, within_limits}
use Rattle.lifting.specs.References.{named, inst_fits, control_holds, references_hold}
use Rattle.lifting.specs.Tree.{stands_once, around_itself, roots_have_ways_out, is_tree}
use Rattle.lifting.specs.Order.{roots}
use Rattle.lifting.specs.Control.{ctrl_fits, is_root, kind_fits, reached_fit, control_fits}
use Rattle.general_laws.specs.Members.{In, All, in_within}
use Rattle.general_laws.specs.Tests.{both, every_in, every_all, all_split, distinct_once}
use Rattle.func.specs.Whole.{Clear, entry_list}
use Rattle.func.specs.Keep.{keep_func}
use Rattle.func.specs.Back.{first_fits, RowFits, Limits}
use Rattle.func.proofs.Back.{limits_of}
use Rattle.func.specs.Tables.{Tables}
use Rattle.func.proofs.Tables.{tables_func}
use Rattle.general_laws.specs.Fewer.{fewer, fewer_below}

-- a line that holds something is one of the list's
line_below_law : {A : Type 0} (l : List A) (d : A) (f : A → ℕ) → f d ≡ 0 → (n : ℕ) → 0 < f (get_or l n d) → n < length l
line_below_law [] d f z n h = absurd (omega arith)
line_below_law (x ∷ l) d f z zero h = omega arith
line_below_law (x ∷ l) d f z (suc n) h = omega (arith, line_below_law l d f z n h)

-- the first number of a value that names something is that of a line
first_kept : (F : Func) → Limits F → (v : Value) → named F v ≡ true → first_fits v ≡ true
first_kept F m (const n) e = le-leb n 65535 (omega (arith, ltb-true n _ e, m.consts))
first_kept F m (region_input r i) e =
    let h = ltb-true i _ e in
    let b : r < length F.regions = line_below_law F.regions (record { ins = []; nodes = []; outs = [] }) (λ r. length r.ins) refl r (omega arith) in
    le-leb r 65535 (omega (arith, m.regions))
first_kept F m (node_output n i) e =
    let h = ltb-true i _ e in
    let b : n < length F.nodes = line_below_law F.nodes (block []) (λ n. length (text.outs_of n)) refl n (omega arith) in
    le-leb n 65535 (omega (arith, m.nodes))
first_kept F m (data_inst_output i) e =
    let h = ltb-true 0 (text.op_of F i).type e in
    let b : i < length F.ops = line_below_law F.ops (record { attrs = 0; type = 0; kind = call 0; operands = [] }) (λ o. o.type) refl i (omega arith) in
    le-leb i 65535 (omega (arith, m.ops))

every_more : {A : Type 0} (p q : A → Bool) → ((x : A) → p x ≡ true → q x ≡ true) → (l : List A) → every p l ≡ true → every q l ≡ true
every_more p q h [] e = refl
every_more p q h (x ∷ l) e = let b = both (p x) (every p l) e in rw (h x b.0) (every_more p q h l b.1)

length_keys : {A : Type 0} (l : List (ℕ × A)) → length (keys l) ≡ length l
length_keys [] = refl
length_keys (x ∷ l) = ap suc (length_keys l)

-- no more entries than targets
gather_fewer : {A B C : Type 0} (f : A → List B) (g : A → List C) (l : List A) → ((x : A) → In x l → length (f x) ≤ length (g x)) → length (gather f l) ≤ length (gather g l)
gather_fewer f g [] h = omega arith
gather_fewer f g (x ∷ l) h =
    omega (arith, length-append (f x) (gather f l), length-append (g x) (gather g l), h x In.here, gather_fewer f g l (λ y i. h y (In.there i)))

entries_fit : (F : Func) (c : ControlInst) → ctrl_fits F c ≡ true → length c.vals ≤ length c.to
entries_fit F c e =
    let a = both _ (kind_fits c.kind (length c.ins) (length c.to)) e in
    let b = both _ (every (λ r. within r c.to) (keys c.vals)) a.0 in
    let d = both (every (λ r. ltb 0 r && is_root F r) c.to) (distinct (keys c.vals)) b.0 in
    let r = fewer (keys c.vals) c.to (distinct_once (keys c.vals) d.1) (λ x i. in_within x c.to (every_in (λ r. within r c.to) (keys c.vals) b.1 x i)) in
    omega (arith, length_keys c.vals)

-- as many ctrl lines and entries of theirs as the function slice has room for
pub record Few (F : Func) : Type 0 where
  pub ctrls : length F.ctrls ≤ max_regions
  pub entries : length (entry_list F) ≤ max_targets

module _ (F : Func) (references : references_hold F ≡ true) where
  -- refusal 4's test, by its parts
  record Below : Type 0 where
    values : every (named F) (text.values F) ≡ true
    nodes : All (λ n. n < length F.nodes) (text.node_list F)
    ops : All (λ i. i < length F.ops) (text.op_list F)
    children : All (λ r. r < length F.regions) (text.child_list F)
    ctrls : All (λ r. r < length F.regions) (text.ctrl_regions F)

  below_all : Below
  unfolding references_hold
  below_all =
      let z = both _ (every inst_fits (text.insts F)) references in
      let a = both _ (every control_holds F.nodes) z.0 in
      let b = both _ (every (λ c. leb c.opcode max_opcode) F.consts) a.0 in
      let c = both _ (distinct (map (λ c. c.id) F.consts)) b.0 in
      let d = both _ (every (λ x. ltb 0 x) (text.required_ids F)) c.0 in
      let e = both _ (every (λ r. ltb r (length F.regions)) (text.child_list F ++ text.ctrl_regions F)) d.0 in
      let f = both _ (every (λ i. ltb i (length F.ops)) (text.op_list F)) e.0 in
      let g = both (every (named F) (text.values F)) (every (λ n. ltb n (length F.nodes)) (text.node_list F)) f.0 in
      let r = all_split (λ r. r < length F.regions) (text.child_list F) (text.ctrl_regions F) (every_all _ _ (λ r t. ltb-true r (length F.regions) t) (text.child_list F ++ text.ctrl_regions F) e.1) in
      record {
        values = g.0;
        nodes = every_all _ _ (λ n t. ltb-true n (length F.nodes) t) (text.node_list F) g.1;
        ops = every_all _ _ (λ i t. ltb-true i (length F.ops) t) (text.op_list F) f.1;
        children = r.0;
        ctrls = r.1;
      }

-- refusal 5's test: its first three parts
record Once (F : Func) : Type 0 where
  nodes : stands_once (length F.nodes) (text.node_list F) ≡ true
  ops : stands_once (length F.ops) (text.op_list F) ≡ true
  children : distinct (text.child_list F) ≡ true

once_all : (F : Func) → is_tree F ≡ true → Once F
unfolding is_tree
once_all F tree =
    let a = both _ (roots_have_ways_out F.ctrls (text.child_list F) (length F.regions)) tree in
    let b = both _ (not (within 0 (text.child_list F))) a.0 in
    let c = both _ (every (λ r. not (around_itself F r)) (below (length F.regions))) b.0 in
    let d = both _ (distinct (text.child_list F)) c.0 in
    let e = both (stands_once (length F.nodes) (text.node_list F)) (stands_once (length F.ops) (text.op_list F)) d.0 in
    record { nodes = e.0; ops = e.1; children = d.1 }

-- refusal 7's: no ctrl twice for a region, and each line by itself
record Ways (F : Func) : Type 0 where
  once : distinct (keys F.ctrls) ≡ true
  each : every (λ c. ctrl_fits F c.1) F.ctrls ≡ true

ways_all : (F : Func) → control_fits F ≡ true → Ways F
unfolding control_fits
ways_all F control =
    let a = both _ (every (λ c. ctrl_fits F c.1) F.ctrls) control in
    let b = both _ (reached_fit F.ctrls (roots F)) a.0 in
    let c = both (distinct (keys F.ctrls)) (every (is_root F) (keys F.ctrls)) b.0 in
    record { once = c.0; each = a.1 }

keys_below : (n : ℕ) (l : List (ℕ × ControlInst)) → All (λ r. r < n) (gather (λ c. c.0 ∷ (c.1.to ++ keys c.1.vals)) l) → All (λ r. r < n) (keys l)
keys_below n [] h = tt
keys_below n (c ∷ l) h =
    let s = all_split (λ r. r < n) (c.0 ∷ (c.1.to ++ keys c.1.vals)) _ h in
    (s.0.0, keys_below n l s.1)

module _ (F : Func) (limits : within_limits F ≡ true) (references : references_hold F ≡ true) where
  pub fits_few : is_tree F ≡ true → Few F → RowFits F
  fits_few tree few =
      let m = limits_of F limits in
      let b = below_all F references in
      let o = once_all F tree in
      record {
        limits = limits;
        node_refs = omega (arith, m.nodes, fewer_below (length F.nodes) (text.node_list F) (stands_once_law (length F.nodes) (text.node_list F) o.nodes b.nodes) b.nodes);
        op_refs = omega (arith, m.ops, fewer_below (length F.ops) (text.op_list F) (stands_once_law (length F.ops) (text.op_list F) o.ops b.ops) b.ops);
        child_refs = omega (arith, m.regions, fewer_below (length F.regions) (text.child_list F) (distinct_once (text.child_list F) o.children) b.children);
        entries = few.entries;
        ctrls = few.ctrls;
        firsts = every_more (named F) first_fits (first_kept F m) (text.values F) b.values;
      }

  pub few_control : control_fits F ≡ true → Few F
  unfolding entry_list text.targets text.ctrl_regions
  few_control control =
      let m = limits_of F limits in
      let w = ways_all F control in
      record {
        ctrls = omega (arith, m.regions, length_keys F.ctrls, fewer_below (length F.regions) (keys F.ctrls) (distinct_once (keys F.ctrls) w.once) (keys_below (length F.regions) F.ctrls (below_all F references).ctrls));
        entries = omega (arith, m.targets, gather_fewer (λ c. c.1.vals) (λ c. c.1.to) F.ctrls (λ c i. entries_fit F c.1 (every_in _ F.ctrls w.each c i)));
      }

pub record Checked (F : Func) : Type 0 where
  pub limits : within_limits F ≡ true
  pub references : references_hold F ≡ true
  pub tree : is_tree F ≡ true
  pub control : control_fits F ≡ true

module _ (F : Func) (ok : Checked F) where
  pub fits_checked : RowFits F
  fits_checked = fits_few F ok.limits ok.references ok.tree (few_control F ok.limits ok.references ok.control)

  pub tables_checked : {w : List ℕ} → Clear w → Tables (keep_func F w)
  tables_checked c = tables_func F c fits_checked

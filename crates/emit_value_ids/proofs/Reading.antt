-- What is read of the tables of ids. Assumes nothing.
--     known_as, known_const    what a value names is one of the text
--     later_some, later_none    a later one of a run
--     read_const, read_input, read_output, read_result    its id
use mathlib.Core.Path.{◌≡◌, refl, sym, ap, subst, ◌∙◌}
use mathlib.Core.Logic.{inl}
use mathlib.Core.List.{List, [], ◌∷◌}
use Prim.Native.Nat.{ℕ, zero, suc, ◌+◌, ◌≤◌, ◌<◌}
use native.Mathlib.Omega.{arith}
use lib.ListN.{get_or, length}
use borrow.Author.Tests.{ltb-true}
use Rattle.lifting.specs.Limits.{highest_id}
use Rattle.lifting.specs.Ast.{Func, Region, Value, block, const, data_inst_output, node_output, region_input}
use Rattle.lifting.specs.Parts.{const_of, node_of, op_of, outs_of, region_of}
use Rattle.lifting.specs.Walk.{walk_of}
use Rattle.lifting.specs.Absorb.{kept}
use Rattle.lifting.specs.Ids.{Name, id_of, value}
use Rattle.func.proofs.Tables.{few_ops}
use Rattle.func.specs.Decode.{func_of}
use Rattle.lifting_runs.specs.Ids.{id_const}
use Rattle.work.specs.Layout.{input_ids_at, output_ids_at, result_ids_at, ids_end}
use Rattle.walk_points.specs.Walk.{few_nodes}
use Rattle.emit_names.specs.Ids.{Ids, id_in, new_in}
use Rattle.emit_names.specs.Names.{few_ins, few_outs, names_few, typed_low}
use Rattle.emit_value_ids.specs.Later.{KnownValue, id_low, input_later, later_id, output_later}

-- a line that has an i-th part is one of the text
line_low : {A B : Type 0} (f : A → List B) (d : A) → f d ≡ [] → (l : List A) (r i : ℕ) → i < length (f (get_or l r d)) → r < length l
line_low f d e [] r i h = absurd (omega (arith, h, ap length e))
line_low f d e (x ∷ l) zero i h = omega arith
line_low f d e (x ∷ l) (suc r) i h = omega (arith, line_low f d e l r i h)

pub known_as : {w : List ℕ} {v x : Value} → KnownValue w v → v ≡ x → KnownValue w x
known_as {w} k e = subst (KnownValue w) e k

pub later_some : (x i : ℕ) → ¬ (x ≡ 0) → x + i ≡ later_id x i
later_some zero i n = absurd (n refl)
later_some (suc x) i n = refl

pub later_none : (x i : ℕ) → x ≡ 0 → 0 ≡ later_id x i
later_none zero i e = refl
later_none (suc x) i e = absurd (omega arith)

pub known_const : {w : List ℕ} {n : ℕ} → KnownValue w (const n) → n < length (func_of w).consts
known_const {w} {n} k = ltb-true n (length (func_of w).consts) k.names

pub read_const : (F : Func) (first n : ℕ) {s x : ℕ} → s ≡ n → x ≡ (const_of F s).id → x ≡ id_in F first (const n)
read_const F first n e q = q ∙ ap (λ (j : ℕ). (const_of F j).id) e ∙ sym (id_const F first (walk_of F) (kept (walk_of F)) n)

module _ {w u : List ℕ} {first : ℕ} (t : Ids (func_of w) first u) where
  -- an id, and a number below 4,096 more
  low_sum : {v : Value} → KnownValue w v → (x : Name) (i : ℕ) → first ≤ highest_id → i ≤ 4095 → new_in (func_of w) first x + i ≤ 4294967295
  low_sum k x i h l = omega (arith, id_low (func_of w) first x, names_few k.tables (inl k.bodied.walkable))

  module _ {r i : ℕ} (k : KnownValue w (region_input r i)) where
    input_in : i < length (region_of (func_of w) r).ins
    input_in = ltb-true i (length (region_of (func_of w) r).ins) k.names

    region_low : r < length (func_of w).regions
    region_low = line_low (λ (x : Region). x.ins) _ refl (func_of w).regions r i input_in

    small : r < 128
    small = omega (arith, region_low, k.bodied.walkable.named.few)

    pub input_room_law : ids_end ≤ length u → first ≤ highest_id → {s : ℕ} → s ≡ r → (input_ids_at + s < length u) × (get_or u (input_ids_at + s) 0 + i ≤ 4294967295)
    input_room_law z h {s} e = (
      omega (arith, small),
      omega (
        arith,
        ap (λ (x : ℕ). get_or u (input_ids_at + x) 0) e,
        t.input r small,
        low_sum k (value (region_input r 0)) i h (omega (arith, input_in, few_ins k.tables r region_low)),
      ),
    )

    pub read_input : {s x : ℕ} → s ≡ r → x ≡ later_id (get_or u (input_ids_at + s) 0) i → x ≡ id_in (func_of w) first (region_input r i)
    unfolding id_of
    read_input e q =
        q ∙ ap (λ (y : ℕ). later_id (get_or u (input_ids_at + y) 0) i) e ∙ ap (λ (y : ℕ). later_id y i) (t.input r small)
        ∙ sym (input_later (func_of w) k.bodied first r i input_in)

  module _ {n i : ℕ} (k : KnownValue w (node_output n i)) where
    output_in : i < length (outs_of (node_of (func_of w) n))
    output_in = ltb-true i (length (outs_of (node_of (func_of w) n))) k.names

    node_low : n < length (func_of w).nodes
    node_low = line_low outs_of (block []) refl (func_of w).nodes n i output_in

    low : n < 128
    low = omega (arith, node_low, few_nodes k.tables)

    pub output_room : ids_end ≤ length u → first ≤ highest_id → {s : ℕ} → s ≡ n → (output_ids_at + s < length u) × (get_or u (output_ids_at + s) 0 + i ≤ 4294967295)
    output_room z h {s} e = (
      omega (arith, low),
      omega (
        arith,
        ap (λ (x : ℕ). get_or u (output_ids_at + x) 0) e,
        t.output n low,
        low_sum k (value (node_output n 0)) i h (omega (arith, output_in, few_outs k.tables n node_low)),
      ),
    )

    pub read_output : {s x : ℕ} → s ≡ n → x ≡ later_id (get_or u (output_ids_at + s) 0) i → x ≡ id_in (func_of w) first (node_output n i)
    unfolding id_of
    read_output e q =
        q ∙ ap (λ (y : ℕ). later_id (get_or u (output_ids_at + y) 0) i) e ∙ ap (λ (y : ℕ). later_id y i) (t.output n low)
        ∙ sym (output_later (func_of w) k.bodied first n i output_in)

  module _ {o : ℕ} (k : KnownValue w (data_inst_output o)) where
    pub result_low : o < 512
    result_low =
        let p = ltb-true 0 (op_of (func_of w) o).type k.names in
        omega (arith, typed_low (func_of w) o (λ z. omega (arith, p, z)), few_ops k.tables)

    pub read_result : {s : ℕ} → s ≡ o → get_or u (result_ids_at + s) 0 ≡ id_in (func_of w) first (data_inst_output o)
    unfolding id_of
    read_result e = ap (λ (y : ℕ). get_or u (result_ids_at + y) 0) e ∙ t.result o result_low

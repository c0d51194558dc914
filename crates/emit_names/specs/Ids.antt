-- New ids in the work slice: of each region's first input, each node's first output, each op's result, each point's label.
-- What got no id has the word 0. Assumes nothing.
--     ids_kept, blank-blocks    tables that stay, and that there are none where the blocks are laid out
--     slot_name, name_slot, slot_from, slot_to    the word of a name, and the name of a word
--     ids_words    words that hold the numbers of their names are the tables
use Rattle.std.specs.Prelude.{◌≡◌, refl, Bool, true, false, cond, List, ℕ, zero, suc, ◌+◌, ◌-◌, ◌≤◌, ◌<◌, ltb, get_or}
use Rattle.std.proofs.Common.{sym, ap, ◌∙◌, arith, ltb-true, ltb-false}
use Rattle.std.proofs.Math.Option.{Option, none, some}
use Rattle.general_laws.specs.Compare.{lower, higher}
use Rattle.lifting.specs.Ast.{Func, Value, const, data_inst_output, node_output, region_input}
use Rattle.lifting.specs.Points.{CfgPoint}
use Rattle.lifting.specs.Walk.{walk_of}
use Rattle.lifting.specs.Absorb.{kept}
use Rattle.lifting.specs.Ids.{Name, id_of, label, label_of, names, new_id, next_id, number_in, the_function, value}
use Rattle.work.specs.Layout.{ids_at, input_ids_at, output_ids_at, result_ids_at, label_ids_at, ids_end}
use Rattle.walk_points.specs.Numbers.{Small, number_back, point_low, point_back, point_number, point_of}

-- the new ids of a function's own walk
module _ (F : Func) where
  -- the names that get one, in order
  abbrev pub names_of : List Name
  names_of = names F (walk_of F) (kept (walk_of F))

  module _ (first : ℕ) where
    abbrev pub new_in : Name → ℕ
    new_in x = new_id F first (walk_of F) (kept (walk_of F)) x

    abbrev pub id_in : Value → ℕ
    id_in v = id_of F first (walk_of F) (kept (walk_of F)) v

    abbrev pub label_in : CfgPoint → ℕ
    label_in p = label_of F first (walk_of F) (kept (walk_of F)) p

    abbrev pub next_in : ℕ
    next_in = next_id F first (walk_of F) (kept (walk_of F))

-- the tables: an id, or 0 where nothing got one
pub record Ids (F : Func) (first : ℕ) (u : List ℕ) : Type 0 where
  pub input : (r : ℕ) → r < 128 → get_or u (input_ids_at + r) 0 ≡ new_in F first (value (region_input r 0))
  pub output : (n : ℕ) → n < 128 → get_or u (output_ids_at + n) 0 ≡ new_in F first (value (node_output n 0))
  pub result : (o : ℕ) → o < 512 → get_or u (result_ids_at + o) 0 ≡ new_in F first (value (data_inst_output o))
  pub label : (q : ℕ) → q < 512 → get_or u (label_ids_at + q) 0 ≡ new_in F first (label (point_of q))

-- nothing has an id yet
pub record IdsBlank (u : List ℕ) : Type 0 where
  pub word : (x : ℕ) → ids_at ≤ x → x < ids_end → get_or u x 0 ≡ 0

pub ids_kept : {F : Func} {first : ℕ} {u v : List ℕ} → Ids F first u → ((x : ℕ) → ids_at ≤ x → x < ids_end → get_or v x 0 ≡ get_or u x 0) → Ids F first v
ids_kept t same = record {
  input = λ r h. same (input_ids_at + r) (omega arith) (omega arith) ∙ t.input r h;
  output = λ n h. same (output_ids_at + n) (omega arith) (omega arith) ∙ t.output n h;
  result = λ o h. same (result_ids_at + o) (omega arith) (omega arith) ∙ t.result o h;
  label = λ q h. same (label_ids_at + q) (omega arith) (omega arith) ∙ t.label q h;
}

-- ---- the words by name

-- the word that holds the id of a name, for those that have one: a later input or output has the id of the first one plus its number
abbrev pub slot_of : Name → Option ℕ
slot_of the_function = none
slot_of (value (const n)) = none
slot_of (value (region_input r zero)) = some (input_ids_at + r)
slot_of (value (region_input r (suc i))) = none
slot_of (value (node_output n zero)) = some (output_ids_at + n)
slot_of (value (node_output n (suc i))) = none
slot_of (value (data_inst_output o)) = some (result_ids_at + o)
slot_of (label p) = some (label_ids_at + point_number p)

-- its region, node, op or point is one for which the tables have a word
abbrev pub NameFits : Name → Type 0
NameFits the_function = Unit {0}
NameFits (value (const n)) = Unit {0}
NameFits (value (region_input r i)) = r < 128
NameFits (value (node_output n i)) = n < 128
NameFits (value (data_inst_output o)) = o < 512
NameFits (label p) = Small p

-- the name whose id word s holds
unfoldable pub name_in : ℕ → Name
name_in s =
    cond (ltb s output_ids_at) (value (region_input (s - input_ids_at) 0))
    (cond (ltb s result_ids_at) (value (node_output (s - output_ids_at) 0))
    (cond (ltb s label_ids_at) (value (data_inst_output (s - result_ids_at))) (label (point_of (s - label_ids_at)))))

pub input_name : (r : ℕ) → r < 128 → name_in (input_ids_at + r) ≡ value (region_input r 0)
unfolding name_in
input_name r h = lower (input_ids_at + r) output_ids_at _ _ (omega arith) ∙ ap (λ (x : ℕ). value (region_input x 0)) (omega arith)

pub output_name : (n : ℕ) → n < 128 → name_in (output_ids_at + n) ≡ value (node_output n 0)
unfolding name_in
output_name n h =
    higher (output_ids_at + n) output_ids_at _ _ (omega arith)
    ∙ lower (output_ids_at + n) result_ids_at _ _ (omega arith)
    ∙ ap (λ (x : ℕ). value (node_output x 0)) (omega arith)

pub result_name : (o : ℕ) → o < 512 → name_in (result_ids_at + o) ≡ value (data_inst_output o)
unfolding name_in
result_name o h =
    higher (result_ids_at + o) output_ids_at _ _ (omega arith)
    ∙ higher (result_ids_at + o) result_ids_at _ _ (omega arith)
    ∙ lower (result_ids_at + o) label_ids_at _ _ (omega arith)
    ∙ ap (λ (x : ℕ). value (data_inst_output x)) (omega arith)

pub label_name : (q : ℕ) → name_in (label_ids_at + q) ≡ label (point_of q)
unfolding name_in
label_name q =
    higher (label_ids_at + q) output_ids_at _ _ (omega arith)
    ∙ higher (label_ids_at + q) result_ids_at _ _ (omega arith)
    ∙ higher (label_ids_at + q) label_ids_at _ _ (omega arith)
    ∙ ap (λ (x : ℕ). label (point_of x)) (omega arith)

same_slot : {a b : ℕ} → some a ≡ some b → a ≡ b
same_slot e = cc

no_slot : {b : ℕ} → none ≡ some b → ⊥
no_slot {b} e = let z : ◌≡◌ {A = ℕ} 0 1 = cc in omega arith

-- a word is that of one name only
pub slot_name : (x : Name) → NameFits x → (s : ℕ) → slot_of x ≡ some s → name_in s ≡ x
slot_name the_function f s e = absurd (no_slot e)
slot_name (value (const n)) f s e = absurd (no_slot e)
slot_name (value (region_input r zero)) f s e = ap name_in (sym (same_slot e)) ∙ input_name r f
slot_name (value (region_input r (suc i))) f s e = absurd (no_slot e)
slot_name (value (node_output n zero)) f s e = ap name_in (sym (same_slot e)) ∙ output_name n f
slot_name (value (node_output n (suc i))) f s e = absurd (no_slot e)
slot_name (value (data_inst_output o)) f s e = ap name_in (sym (same_slot e)) ∙ result_name o f
slot_name (label p) f s e = ap name_in (sym (same_slot e)) ∙ label_name (point_number p) ∙ ap label (point_back p f)

-- and each word of the tables is that of its name
pub name_slot : (s : ℕ) → ids_at ≤ s → s < ids_end → slot_of (name_in s) ≡ some s
unfolding name_in
name_slot s a b = go (ltb s output_ids_at) (ltb s result_ids_at) (ltb s label_ids_at) refl refl refl
  where
    go : (x y z : Bool) → ltb s output_ids_at ≡ x → ltb s result_ids_at ≡ y → ltb s label_ids_at ≡ z
        → slot_of (cond x (value (region_input (s - input_ids_at) 0)) (cond y (value (node_output (s - output_ids_at) 0)) (cond z (value (data_inst_output (s - result_ids_at))) (label (point_of (s - label_ids_at))))))
        ≡ some s
    go true y z e f g = ap some (omega (arith, ltb-true s output_ids_at e))
    go false true z e f g = ap some (omega (arith, ltb-false s output_ids_at e))
    go false false true e f g = ap some (omega (arith, ltb-false s result_ids_at f))
    go false false false e f g =
        let h = ltb-false s label_ids_at g in
        ap (λ (x : ℕ). some (label_ids_at + x)) (number_back (s - label_ids_at)) ∙ ap some (omega arith)

-- the words of the tables lie between their start and their end
pub slot_from : (x : Name) (s : ℕ) → slot_of x ≡ some s → ids_at ≤ s
slot_from the_function s e = absurd (no_slot e)
slot_from (value (const n)) s e = absurd (no_slot e)
slot_from (value (region_input r zero)) s e = omega (arith, same_slot e)
slot_from (value (region_input r (suc i))) s e = absurd (no_slot e)
slot_from (value (node_output n zero)) s e = omega (arith, same_slot e)
slot_from (value (node_output n (suc i))) s e = absurd (no_slot e)
slot_from (value (data_inst_output o)) s e = omega (arith, same_slot e)
slot_from (label p) s e = omega (arith, same_slot e)

pub slot_to : (x : Name) → NameFits x → (s : ℕ) → slot_of x ≡ some s → s < ids_end
slot_to the_function f s e = absurd (no_slot e)
slot_to (value (const n)) f s e = absurd (no_slot e)
slot_to (value (region_input r zero)) f s e = omega (arith, same_slot e)
slot_to (value (region_input r (suc i))) f s e = absurd (no_slot e)
slot_to (value (node_output n zero)) f s e = omega (arith, same_slot e)
slot_to (value (node_output n (suc i))) f s e = absurd (no_slot e)
slot_to (value (data_inst_output o)) f s e = omega (arith, same_slot e)
slot_to (label p) f s e = omega (arith, same_slot e, point_low p f)

-- words that hold the numbers of their names
pub ids_words : {F : Func} {first : ℕ} {u : List ℕ} → ((s : ℕ) → ids_at ≤ s → s < ids_end → get_or u s 0 ≡ number_in first (name_in s) (names_of F)) → Ids F first u
unfolding new_id
ids_words {F} {first} {u} w = record {
  input = λ r h. w (input_ids_at + r) (omega arith) (omega arith) ∙ ap (λ (x : Name). number_in first x (names_of F)) (input_name r h);
  output = λ n h. w (output_ids_at + n) (omega arith) (omega arith) ∙ ap (λ (x : Name). number_in first x (names_of F)) (output_name n h);
  result = λ o h. w (result_ids_at + o) (omega arith) (omega arith) ∙ ap (λ (x : Name). number_in first x (names_of F)) (result_name o h);
  label = λ q h. w (label_ids_at + q) (omega arith) (omega arith) ∙ ap (λ (x : Name). number_in first x (names_of F)) (label_name q);
}

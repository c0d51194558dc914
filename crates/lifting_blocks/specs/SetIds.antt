-- Refusal 10 by ids: a value that names something is set, by the text, by a parameter or by a kept block, exactly if its id is not 0.
-- Assumes nothing.
use Rattle.std.proofs.Math.Path.{◌≡◌, refl, sym, subst}
use Rattle.std.proofs.Common.{ap, ◌∙◌, arith, ltb-true}
use Rattle.std.proofs.Math.Logic.{inl, inr}
use Rattle.std.specs.Prelude.{Bool, List, [], ◌∷◌, ◌++◌, map, ℕ, zero, suc, ◌+◌, ◌<◌, get_or, length}
use Rattle.std.proofs.Math.Bool.{true, false}
use Rattle.std.proofs.Math.Dec.{leb-suc-suc, leb-zero, ltb}
use Rattle.general_laws.specs.Lists.{choose_no, member}
use Rattle.lifting.specs.Ast.{Func, Value, const, data_inst_output, eq_value, node_output, region_input}
use Rattle.lifting.specs.Parts.{const_of}
use Rattle.lifting.specs.References.{named}
use Rattle.lifting.specs.Order.{roots}
use Rattle.lifting.specs.Points.{CfgPoint, Table, points}
use Rattle.lifting.specs.Walk.{walk_of}
use Rattle.lifting.specs.Absorb.{kept}
use Rattle.lifting.specs.Ids.{Name, eq_name, id_of, label, names, new_id, new_values, number_in, op_keys, param_keys, the_function, value}
use Rattle.lifting.specs.Answer.{is_set, set_values}
use Rattle.general_laws.specs.Members.{In, NoDup, here, in_cases, in_left, in_map, in_member, in_split, map_in, not_member, there}
use Rattle.lifting_runs.specs.Accepted.{Numbered}
use Rattle.lifting_runs.specs.Ids.{number_from_law}
use Rattle.lifting_runs.specs.IdsOnce
use Rattle.lifting_runs.specs.IdsOnce.{number_at}
use Rattle.lifting_runs.specs.Shaped.{Shaped}
use Rattle.lifting_runs.proofs.Shaped.{depth, in_order, tree, walk_is, walk_once}
use Rattle.lifting_blocks.specs.Phis.{phi_keys_kept}

pub positive : (n : ℕ) → 0 < n → ltb 0 n ≡ true
positive zero h = absurd (omega arith)
positive (suc n) h = leb-suc-suc 0 n ∙ leb-zero n

-- a name that is not there has number 0
number_none : (k : ℕ) (x : Name) (l : List Name) → ¬ (In x l) → number_in k x l ≡ 0
number_none k x [] n = refl
number_none k x (y ∷ l) n =
    choose_no {A = ℕ} (eq_name x y) k (number_in (suc k) x l) (λ e. n (subst (λ (z : Name). In x (z ∷ l)) e here)) ∙ number_none (suc k) x l (λ i. n (there i))

module _ (F : Func) (T K : Table) where
  value_named : (v : Value) → In v (new_values F T K) → In (value v) (names F T K)
  unfolding names
  value_named v i = there (in_left (map label (points K)) (in_map value i))

  named_value : (v : Value) → In (value v) (names F T K) → In v (new_values F T K)
  unfolding names
  named_value v i = elim (in_cases i) [
    | inl e ↦ absurd (let z : ◌≡◌ {A = ℕ} 0 1 = cc in omega arith)
    | inr j ↦ elim (in_split (map value (new_values F T K)) (map label (points K)) j) [
      | inl a ↦ (let w = map_in value (new_values F T K) a in subst (λ (u : Value). In u (new_values F T K)) (sym (value_same w.2)) w.1)
      | inr b ↦ absurd (not_label (map_in label (points K) b).2)
    ]
  ]
    where
      value_same : {u : Value} → value v ≡ value u → v ≡ u
      value_same e = cc

      not_label : {p : CfgPoint} → value v ≡ label p → ⊥
      not_label e = let z : ◌≡◌ {A = ℕ} 0 1 = cc in omega arith

  -- a new id is 0 exactly where the value has no name
  new_set : (first : ℕ) → 0 < first → (v : Value) → member eq_value v (new_values F T K) ≡ ltb 0 (new_id F first T K (value v))
  unfolding new_id
  new_set first pos v = by_case (member eq_value v (new_values F T K)) refl
    where
      by_case : (b : Bool) → member eq_value v (new_values F T K) ≡ b → b ≡ ltb 0 (number_in first (value v) (names F T K))
      by_case true e = sym (positive (number_in first (value v) (names F T K)) (omega (arith, pos, number_from_law first (value v) (names F T K) (value_named v (in_member eq_value v (new_values F T K) e)))))
      by_case false e = sym (ap (ltb 0) (number_none first (value v) (names F T K) (λ i. not_member eq_value v (new_values F T K) e (named_value v i))))

-- No name stands twice, so the k-th name has the k-th id; this asks for no refusal after 7.
module _ (F : Func) (ok : Shaped F) where
  pub shaped_names_once : NoDup (names F (walk_of F) (kept (walk_of F)))
  shaped_names_once = subst (λ (T : Table). NoDup (names F T (kept T))) (walk_is F ok)
      (IdsOnce.names_once F (depth F ok) (tree F ok) ok.targets.body_root ok.forest (roots F) (in_order F ok).no_child (rw (walk_is F ok) (walk_once F ok)))

  pub id_at : (first k : ℕ) → k < length (names F (walk_of F) (kept (walk_of F))) → new_id F first (walk_of F) (kept (walk_of F)) (get_or (names F (walk_of F) (kept (walk_of F))) k the_function) ≡ first + k
  unfolding new_id
  id_at first k h = number_at (names F (walk_of F) (kept (walk_of F))) shaped_names_once first k the_function h

module _ (F : Func) (ok : Shaped F) (first : ℕ) (num : Numbered F first) where
  abbrev T : Table
  T = walk_of F

  abbrev K : Table
  K = kept (walk_of F)

  set_new : (v : Value) → member eq_value v (set_values F K) ≡ ltb 0 (new_id F first T K (value v))
  set_new v = ap (λ (l : List Value). member eq_value v (param_keys F ++ (l ++ op_keys F K))) (phi_keys_kept F ok) ∙ new_set F T K first num.positive v

  pub set_id_law : (v : Value) → named F v ≡ true → is_set F (kept (walk_of F)) v ≡ ltb 0 (id_of F first (walk_of F) (kept (walk_of F)) v)
  unfolding id_of
  set_id_law (const n) h = sym (positive (const_of F n).id (num.nonzero n (ltb-true n (length F.consts) h)))
  set_id_law (region_input r i) h = set_new (region_input r i)
  set_id_law (node_output n i) h = set_new (node_output n i)
  set_id_law (data_inst_output i) h = set_new (data_inst_output i)

  -- what has an id is set, whatever it names
  pub set_of_id : (v : Value) → 0 < id_of F first (walk_of F) (kept (walk_of F)) v → is_set F (kept (walk_of F)) v ≡ true
  unfolding id_of
  set_of_id (const n) h = refl
  set_of_id (region_input r i) h = set_new (region_input r i) ∙ positive _ h
  set_of_id (node_output n i) h = set_new (node_output n i) ∙ positive _ h
  set_of_id (data_inst_output i) h = set_new (data_inst_output i) ∙ positive _ h

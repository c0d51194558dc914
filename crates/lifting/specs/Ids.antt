-- Document 01, 'Blocks and their order': ids in order: function, parameters, phis as points are visited (dropped ones too), op results in
-- kept blocks, labels. Assumes nothing.
use Rattle.std.specs.Prelude.{◌≡◌, List, [], ◌∷◌, ◌++◌, map, ℕ, zero, suc, ◌+◌}
use Rattle.std.proofs.Math.Decide.{ℕ_discrete}
use Rattle.std.proofs.Math.ListN.{length}
use Rattle.general_laws.specs.Lists.{choose, tabulate, gather}
use Rattle.lifting.specs.Ast.{Value, const, region_input, node_output, data_inst_output, eq_value, Func}
use Rattle.lifting.specs.Parts.{const_of, op_of}
use Rattle.lifting.specs.Points.{CfgPoint, eq_point, Table, points}

-- what gets a new id: the function, a value, the label of a block
pub data Name : Type 0 where
  the_function : Name
  value : Value → Name
  label : CfgPoint → Name
  deriving Discrete as Name-discrete

unfoldable pub eq_name : (x y : Name) → Dec (x ≡ y)
unfolding eq_value eq_point
eq_name = Name-discrete eq_value eq_point

-- the parameters, as values: region 0's inputs
abbrev pub param_keys : Func → List Value
param_keys F = tabulate (region_input 0) 0 (length F.params)

-- an op whose T is 0 has no result
abbrev pub result_of : ℕ → ℕ → List Value
result_of zero i = []
result_of (suc t) i = data_inst_output i ∷ []

-- the values that phis set, and those that ops set
abbrev pub phi_keys : Table → List Value
phi_keys T = gather (λ x. x.1.keys) T

abbrev pub op_keys : Func → Table → List Value
op_keys F T = gather (λ x. gather (λ i. result_of (op_of F i).type i) x.1.ops) T

-- the values that get an id, in order: T is the walk, K what is kept of it
abbrev pub new_values : Func → Table → Table → List Value
new_values F T K = param_keys F ++ (phi_keys T ++ op_keys F K)

unfoldable pub names : Func → Table → Table → List Name
names F T K = the_function ∷ (map value (new_values F T K) ++ map label (points K))

-- k + the place of x in the list; 0, which is no id, where it has none
abbrev pub number_in : ℕ → Name → List Name → ℕ
number_in k x [] = 0
number_in k x (y ∷ l) = choose (eq_name x y) k (number_in (suc k) x l)

module _ (F : Func) (first : ℕ) (T K : Table) where
  -- New ids run from the first id to one below the next free id, none twice.
  unfoldable pub new_id : Name → ℕ
  unfolding names eq_name ℕ_discrete
  new_id x = number_in first x (names F T K)

  unfoldable pub next_id : ℕ
  unfolding names
  next_id = first + length (names F T K)

  unfoldable pub id_of : Value → ℕ
  unfolding new_id
  id_of (const n) = (const_of F n).id
  id_of (region_input r i) = new_id (value (region_input r i))
  id_of (node_output n i) = new_id (value (node_output n i))
  id_of (data_inst_output i) = new_id (value (data_inst_output i))

  unfoldable pub label_of : CfgPoint → ℕ
  unfolding new_id
  label_of p = new_id (label p)

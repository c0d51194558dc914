-- Demand 2, of a list's own ids: the results that its instructions give are the new ids from the first to one below the next free one, none
-- twice. The list gives each name that is numbered its id, in another order, so every id stands in it as often as among the names' ids.
-- Assumes nothing.
use Rattle.std.specs.Prelude.{◌≡◌, length}
use Rattle.std.proofs.Math.Path.{refl, sym, ap, ap₂}
use Rattle.std.proofs.Common.{◌∙◌, subst}
use mathlib.Core.List.{List, [], ◌∷◌, ◌++◌, map, map-append, map-map}
use Prim.Native.Nat.{ℕ, zero, suc, ◌+◌, ◌≤◌, ◌<◌}
use Rattle.std.proofs.Math.Decide.{ℕ_discrete}
use native.Mathlib.Omega.{arith}
use Rattle.general_laws.specs.Lists.{choose, choose_no, choose_yes, gather, tabulate, times}
use Rattle.lifting.specs.Ast.{Decl, Func, Value, region_input}
use Rattle.lifting.specs.Parts.{op_of}
use Rattle.lifting.specs.Points.{BlockLifting, CfgPoint, Merge, Table, loop_merge, no_merge, points, selection_merge}
use Rattle.lifting.specs.Ids.{Name, eq_name, id_of, label, label_of, names, new_id, new_values, next_id, number_in, op_keys, param_keys, phi_keys, result_of, the_function, value}
use Rattle.lifting.specs.Instructions.{Instruction, block_insts, body_insts, end_inst, function_inst, instructions, label_inst, merge_insts, op_inst, param_insts, phi_insts, result_id, term_inst}
use Rattle.lifting.specs.BlockRun.{results}
use Rattle.general_laws.specs.Members.{All, In, NoDup, all_append, all_in, here, in_tabulate, in_times, nodup_tabulate, nodup_times, tabulate_in, there, times_append, times_in, times_nodup}
use Rattle.general_laws.specs.Tests.{all_gather, all_tabulate}
use Rattle.lifting_runs.specs.EmitRun.{Sound, results_phis}
use Rattle.lifting_runs.specs.ListIds.{if_given, given_ids, RunOn, Fresh}

-- how often a number stands in a list
abbrev many : ℕ → List ℕ → ℕ
many = times ℕ_discrete

-- xs has each number as often as they do, but for 0, which it has not
run_on : (a n : ℕ) (xs : List ℕ) → 0 < a → many 0 xs ≡ 0 → ((x : ℕ) → many (suc x) xs ≡ many (suc x) (tabulate (λ i. i) a n)) → RunOn a (a + n) xs
run_on a n xs pos none same = record { once = times_nodup xs at_most; in_range = ranged; has_each = having }
  where
    at_most : (x : ℕ) → many x xs ≤ 1
    at_most zero = omega arith
    at_most (suc x) = omega (arith, same x, nodup_times (suc x) (tabulate (λ i. i) a n) (nodup_tabulate (λ i. i) (λ i j e. e) a n))

    ranged : (x : ℕ) → In x xs → (a ≤ x) × (x < a + n)
    ranged zero i = absurd (omega (arith, in_times 0 xs i))
    ranged (suc x) i =
        let w = tabulate_in (λ (k : ℕ). k) a n (times_in ℕ_discrete (suc x) (tabulate (λ k. k) a n) (omega (arith, same x, in_times (suc x) xs i))) in
        (omega (arith, w.1, w.2), omega (arith, w.2, w.3))

    having : (x : ℕ) → a ≤ x → x < a + n → In x xs
    having zero l h = absurd (omega arith)
    having (suc x) l h = times_in ℕ_discrete (suc x) xs (omega (arith, same x, in_times (suc x) (tabulate (λ i. i) a n) (in_tabulate (λ i. i) a n (suc x) l h)))

-- what is alike at each element
map_alike : {A B : Type 0} (f g : A → B) (l : List A) → ((x : A) → In x l → f x ≡ g x) → map f l ≡ map g l
map_alike f g [] h = refl
map_alike {A} {B} f g (x ∷ l) h = ap₂ (λ (y : B) (r : List B). y ∷ r) (h x here) (map_alike f g l (λ y i. h y (there i)))

-- without repeats the names' numbers run on from the first
numbers_run : (m : ℕ) (l : List Name) → NoDup l → map (λ x. number_in m x l) l ≡ tabulate (λ i. i) m (length l)
numbers_run m [] n = refl
numbers_run m (y ∷ l) n = ap₂ (λ (k : ℕ) (r : List ℕ). k ∷ r) (choose_yes {A = ℕ} (eq_name y y) m (number_in (suc m) y l) refl)
    (map_alike _ _ l (λ x i. choose_no {A = ℕ} (eq_name x y) m (number_in (suc m) x l) (λ e. n.0 (subst (λ (z : Name). In z l) e i))) ∙ numbers_run (suc m) l n.1)

-- no list gives the id 0
given_none : (l : List Instruction) → many 0 (given_ids l) ≡ 0
given_none [] = refl
given_none (i ∷ l) = by_result i.result (given_none l)
  where
    by_result : (r : ℕ) → many 0 (given_ids l) ≡ 0 → many 0 (if_given r (given_ids l)) ≡ 0
    by_result zero h = h
    by_result (suc r) h = omega (arith, choose_no {A = ℕ} (ℕ_discrete 0 (suc r)) 1 0 (λ e. omega arith))

module _ (x : ℕ) where
  no_zero : ◌≡◌ {A = ℕ} (choose (ℕ_discrete (suc x) 0) 1 0) 0
  no_zero = choose_no {A = ℕ} (ℕ_discrete (suc x) 0) 1 0 (λ e. omega arith)

  -- how often a list gives an id above 0, by all results
  given_many : (l : List Instruction) → many (suc x) (given_ids l) ≡ many (suc x) (results l)
  given_many [] = refl
  given_many (i ∷ l) = by_result i.result (given_many l)
    where
      by_result : (r : ℕ) → many (suc x) (given_ids l) ≡ many (suc x) (results l) → many (suc x) (if_given r (given_ids l)) ≡ many (suc x) (r ∷ results l)
      by_result zero h = omega (arith, no_zero)
      by_result (suc r) h = omega arith

  -- of the instructions, one kind after the other
  abbrev gives : List Instruction → ℕ
  gives l = many (suc x) (results l)

  gives_append : (k l : List Instruction) → gives (k ++ l) ≡ gives k + gives l
  gives_append [] l = omega arith
  gives_append (i ∷ k) l = omega (arith, gives_append k l)

  module _ (F : Func) (first : ℕ) (T K : Table) (ok : Sound F first T K) where
    -- how often some values have the id
    abbrev of_values : List Value → ℕ
    of_values vs = many (suc x) (map (id_of F first T K) vs)

    values_append : (k l : List Value) → of_values (k ++ l) ≡ of_values k + of_values l
    values_append k l = ap (many (suc x)) (map-append (id_of F first T K) k l) ∙ times_append (suc x) (map (id_of F first T K) k) (map (id_of F first T K) l)

    -- the values that ops set
    abbrev results_of : List ℕ → List Value
    results_of is = gather (λ i. result_of (op_of F i).type i) is

    gives_ops : (is : List ℕ) → gives (map (op_inst F first T K) is) ≡ of_values (results_of is)
    unfolding op_inst
    gives_ops [] = refl
    gives_ops (i ∷ is) = by_type (op_of F i).type (gives_ops is)
      where
        by_type : (t : ℕ) → gives (map (op_inst F first T K) is) ≡ of_values (results_of is)
            → many (suc x) (result_id F first T K t i ∷ results (map (op_inst F first T K) is)) ≡ of_values (result_of t i ++ results_of is)
        by_type zero h = omega (arith, no_zero)
        by_type (suc t) h = omega arith

    gives_merge : (m : Merge) → gives (merge_insts F first T K m) ≡ 0
    unfolding merge_insts
    gives_merge no_merge = refl
    gives_merge (selection_merge a u) = omega (arith, no_zero)
    gives_merge (loop_merge a b u) = omega (arith, no_zero)

    gives_way : (b : BlockLifting) → gives (term_inst F first T K b.term ∷ []) ≡ 0
    unfolding term_inst
    gives_way b = omega (arith, no_zero)

    gives_body : (q : CfgPoint) (b : BlockLifting) → gives (body_insts F first T K q b) ≡ of_values b.keys + of_values (results_of b.ops)
    unfolding body_insts
    gives_body q b =
        let P = phi_insts F first T K q b.keys b.decls 0 in
        let O = map (op_inst F first T K) b.ops in
        let M = merge_insts F first T K b.term.merge in
        let t : List Instruction = term_inst F first T K b.term ∷ [] in
        omega (arith, gives_append P (O ++ (M ++ t)), gives_append O (M ++ t), gives_append M t, ap (many (suc x)) (results_phis F first T K ok q b.keys b.decls 0), gives_ops b.ops, gives_merge b.term.merge, gives_way b)

    gives_blocks : (L : Table) → gives (block_insts F first T K L) ≡ of_values (phi_keys L ++ op_keys F L) + many (suc x) (map (label_of F first T K) (points L))
    unfolding block_insts label_inst
    gives_blocks [] = refl
    gives_blocks (y ∷ L) =
        omega (
          arith,
          gives_append (body_insts F first T K y.0 y.1) (block_insts F first T K L),
          gives_body y.0 y.1,
          gives_blocks L,
          values_append (phi_keys (y ∷ L)) (op_keys F (y ∷ L)),
          values_append (phi_keys L) (op_keys F L),
          values_append y.1.keys (phi_keys L),
          values_append (results_of y.1.ops) (op_keys F L),
        )

    gives_params : (ds : List Decl) (i : ℕ) → gives (param_insts F first T K ds i) ≡ of_values (tabulate (region_input 0) i (length ds))
    unfolding param_insts
    gives_params [] i = refl
    gives_params (d ∷ ds) i = omega (arith, gives_params ds (suc i))

    -- of the names' ids
    abbrev of_names : List Name → ℕ
    of_names l = many (suc x) (map (new_id F first T K) l)

    gives_list : All (Fresh F first T K) (new_values F K K) → gives (instructions F first T K) ≡ of_names (names F K K)
    unfolding instructions function_inst names label_of
    gives_list fresh =
        let ps = param_insts F first T K F.params 0 in
        let bs = block_insts F first T K K in
        let vs : List Name = map value (new_values F K K) in
        let values : map (new_id F first T K) vs ≡ map (id_of F first T K) (new_values F K K)
        = map-map (new_id F first T K) value (new_values F K K) ∙ map_alike _ _ (new_values F K K) (λ v i. sym (all_in (Fresh F first T K) (new_values F K K) fresh v i)) in
        let labels : map (new_id F first T K) (map label (points K)) ≡ map (label_of F first T K) (points K) = map-map (new_id F first T K) label (points K) in
        omega (
          arith,
          gives_append ps (bs ++ (end_inst F first T K ∷ [])),
          gives_append bs (end_inst F first T K ∷ []),
          gives_params F.params 0,
          gives_blocks K,
          no_zero,
          ap (many (suc x)) (map-append (new_id F first T K) vs (map label (points K)) ∙ ap₂ (λ (k l : List ℕ). k ++ l) values labels),
          times_append (suc x) (map (id_of F first T K) (new_values F K K)) (map (label_of F first T K) (points K)),
          values_append (param_keys F) (phi_keys K ++ op_keys F K),
        )

-- The list's ids are those of the names, which run on from the first: parameters, phis and results have new ids.
module _ (F : Func) (first : ℕ) (T K : Table) (ok : Sound F first T K) (same : phi_keys K ≡ phi_keys T) (once : NoDup (names F T K)) (phis : All (Fresh F first T K) (phi_keys T)) where
  fresh : All (Fresh F first T K) (new_values F T K)
  unfolding id_of
  fresh =
      all_append (Fresh F first T K) (param_keys F) _ (all_tabulate (Fresh F first T K) (region_input 0) 0 (length F.params) (λ i h. refl))
      (all_append (Fresh F first T K) (phi_keys T) _ phis
      (all_gather (Fresh F first T K) _ K (λ y h. all_gather (Fresh F first T K) _ y.1.ops (λ i g. by_type (op_of F i).type i))))
    where
      by_type : (t i : ℕ) → All (Fresh F first T K) (result_of t i)
      by_type zero i = tt
      by_type (suc t) i = (refl, tt)

  same_values : new_values F T K ≡ new_values F K K
  same_values = ap (λ (l : List Value). param_keys F ++ (l ++ op_keys F K)) (sym same)

  same_names : names F T K ≡ names F K K
  unfolding names
  same_names = ap (λ (vs : List Value). the_function ∷ (map value vs ++ map label (points K))) same_values

  pub ids_run_on : RunOn first (next_id F first T K) (given_ids (instructions F first T K))
  unfolding next_id new_id
  ids_run_on = run_on first (length (names F T K)) (given_ids (instructions F first T K)) ok.numbered.positive (given_none (instructions F first T K)) (λ x.
      given_many x (instructions F first T K)
      ∙ gives_list x F first T K ok (subst (All (Fresh F first T K)) same_values fresh)
      ∙ ap (many (suc x)) (ap (map (new_id F first T K)) (sym same_names) ∙ numbers_run first (names F T K) once))

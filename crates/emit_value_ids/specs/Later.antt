-- The ids of single names: of the function, of parameters, and of the inputs of a region and the outputs of a node, which follow on from the first
-- one's. Assumes nothing.
--     function_id, param_id    for texts with a body and for imported functions
--     param_later, input_later, output_later    the id of a later one from that of the first
--     id_low       an id stays below the first one plus the number of names
--     bodied_stands, known_stands    what the reading of an id asks of a text follows from what the reader promises
use Rattle.std.specs.Prelude.{◌≡◌, refl, true, List, [], ◌∷◌, ◌++◌, map, eqb, get_or, length}
use Rattle.std.proofs.Common.{sym, subst, ◌∙◌, inl, inr, append_assoc, append-nil, arith, eqb-true}
use Rattle.std.proofs.Math.Path.{ap}
use Prim.Native.Nat.{ℕ, zero, suc, ◌+◌, ◌≤◌, ◌<◌}
use Rattle.std.proofs.Math.Decide.{ℕ_discrete}
use Rattle.general_laws.specs.Tests.{both, split}
use Rattle.general_laws.specs.Lists.{choose_no, choose_yes, tabulate}
use Rattle.lifting.specs.Ast.{ControlInst, Func, Region, Value, data_inst_output, node_output, region_input}
use Rattle.lifting.specs.Parts.{ins_keys, node_of, out_keys, outs_of, region_of}
use Rattle.lifting.specs.References.{named}
use Rattle.lifting.specs.Counts.{body_fits, body_outs, counts_agree}
use Rattle.lifting.specs.Points.{CfgPoint, Table, points}
use Rattle.lifting.specs.Walk.{walk_of}
use Rattle.lifting.specs.Absorb.{kept}
use Rattle.lifting.specs.Ids.{Name, eq_name, label, names, new_id, new_values, number_in, op_keys, param_keys, phi_keys, the_function, value}
use Rattle.general_laws.specs.Gather.{map_append}
use Rattle.func.specs.Decode.{func_of}
use Rattle.func.specs.Tables.{Tables}
use Rattle.lifting_runs.specs.Ids.{number_range}
use Rattle.general_laws.specs.Members.{All, map_tabulate}
use Rattle.lifting_blocks.specs.Flat.{up_to}
use Rattle.walk_points.specs.Walk.{Walkable}
use Rattle.check_text.specs.Same.{Stands}
use Rattle.blocks.specs.Words.{walkable_stands}
use Rattle.terminators.specs.At.{point_at}
use Rattle.emit_names.specs.Ids.{names_of, new_in}
use Rattle.emit_names.specs.Names.{KeyRun, all_label, all_results, all_run, inputs, key_run, label_names, names_flat, no_keys_law, not_function, outputs, phi_names, result_names}

-- ---- single names

pub function_id : (F : Func) (first : ℕ) → new_in F first the_function ≡ first
unfolding new_id names
function_id F first =
    let T : Table = walk_of F in
    choose_yes {A = ℕ} (eq_name the_function the_function) first (number_in (suc first) the_function (map value (new_values F T (kept T)) ++ map label (points (kept T)))) refl

-- past the function
past_function : (first : ℕ) (v : Value) (l : List Name) → number_in first (value v) (the_function ∷ l) ≡ number_in (suc first) (value v) l
past_function first v l = choose_no {A = ℕ} (eq_name (value v) the_function) first (number_in (suc first) (value v) l) (λ e. not_function (sym e))

module _ (f : ℕ → Name) (inj : (i j : ℕ) → f i ≡ f j → i ≡ j) where
  -- the i-th of a run
  number_run : (a n i k : ℕ) (l : List Name) → i < n → number_in k (f (a + i)) (tabulate f a n ++ l) ≡ k + i
  number_run a zero i k l h = absurd (omega arith)
  number_run a (suc n) zero k l h = choose_yes {A = ℕ} (eq_name (f (a + 0)) (f a)) k _ (ap f (omega arith)) ∙ omega arith
  number_run a (suc n) (suc i) k l h =
      choose_no {A = ℕ} (eq_name (f (a + suc i)) (f a)) k _ (λ e. omega (arith, inj (a + suc i) a e))
      ∙ ap (λ (j : ℕ). number_in (suc k) (f j) (tabulate f (suc a) n ++ l)) (omega arith)
      ∙ number_run (suc a) n i (suc k) l (omega arith)
      ∙ omega arith

  number_first : (n i k : ℕ) (l : List Name) → i < n → number_in k (f i) (tabulate f 0 n ++ l) ≡ k + i
  number_first n i k l h = ap (λ (j : ℕ). number_in k (f j) (tabulate f 0 n ++ l)) (omega arith) ∙ number_run 0 n i k l h

input_number : (r i j : ℕ) → value (region_input r i) ≡ value (region_input r j) → i ≡ j
input_number r i j e = cc

output_number : (n i j : ℕ) → value (node_output n i) ≡ value (node_output n j) → i ≡ j
output_number n i j e = cc

pub param_id : (F : Func) (first i : ℕ) → i < length F.params → new_in F first (value (region_input 0 i)) ≡ first + 1 + i
unfolding new_id names
param_id F first i h =
    let T : Table = walk_of F in
    let rest : List Value = phi_keys T ++ op_keys F (kept T) in
    let f : ℕ → Name = λ j. value (region_input 0 j) in
    past_function first (region_input 0 i) (map value (param_keys F ++ rest) ++ map label (points (kept T)))
    ∙ ap (λ (l : List Name). number_in (suc first) (f i) (l ++ map label (points (kept T)))) (map_append value (param_keys F) rest)
    ∙ ap (number_in (suc first) (f i)) (append_assoc (map value (param_keys F)) (map value rest) (map label (points (kept T))))
    ∙ ap (λ (l : List Name). number_in (suc first) (f i) (l ++ (map value rest ++ map label (points (kept T))))) (map_tabulate value (region_input 0) 0 (length F.params))
    ∙ number_first f (input_number 0) (length F.params) i (suc first) (map value rest ++ map label (points (kept T))) h
    ∙ omega arith

-- ---- runs

-- the id of the i-th of a run from that of the first, 0 where that has none
abbrev pub later_id : ℕ → ℕ → ℕ
later_id zero i = 0
later_id (suc x) i = suc x + i

later_from : (x i : ℕ) → 0 < x → later_id x i ≡ x + i
later_from zero i h = absurd (omega arith)
later_from (suc x) i h = refl

pub param_later : (F : Func) (first i : ℕ) → i < length F.params → new_in F first (value (region_input 0 i)) ≡ later_id (new_in F first (value (region_input 0 0))) i
param_later F first i h =
    let a = param_id F first 0 (omega arith) in
    param_id F first i h ∙ omega (arith, a, later_from (new_in F first (value (region_input 0 0))) i (omega (arith, a)))

-- lists in which the names f 0, f 1, .., n of them, stand all together or not at all
data Whole (f : ℕ → Name) (n : ℕ) : List Name → Type 0 where
  nothing : Whole f n []
  run : {l : List Name} → Whole f n l → Whole f n (tabulate f 0 n ++ l)
  free : {x : Name} {l : List Name} → ((i : ℕ) → ¬ (f i ≡ x)) → Whole f n l → Whole f n (x ∷ l)

-- none of the names f 0, f 1, ..
abbrev Other : (ℕ → Name) → Name → Type 0
Other f x = (i : ℕ) → ¬ (f i ≡ x)

module _ (f : ℕ → Name) (n : ℕ) where
  whole_append : {k l : List Name} → Whole f n k → Whole f n l → Whole f n (k ++ l)
  whole_append nothing q = q
  whole_append {l = l} (run {l = m} p) q = subst (Whole f n) (sym (append_assoc (tabulate f 0 n) m l)) (run (whole_append p q))
  whole_append (free h p) q = free h (whole_append p q)

  whole_other : (l : List Name) → All (Other f) l → Whole f n l
  whole_other [] h = nothing
  whole_other (x ∷ l) h = free h.0 (whole_other l h.1)

  whole_up_to : (g : ℕ → List Name) (m : ℕ) → ((i : ℕ) → i < m → Whole f n (g i)) → Whole f n (up_to g m)
  unfolding up_to
  whole_up_to g zero h = nothing
  whole_up_to g (suc m) h = whole_append (whole_up_to g m (λ i l. h i (omega arith))) (h m (omega arith))

  whole_run : Whole f n (tabulate f 0 n)
  whole_run = subst (Whole f n) (append-nil (tabulate f 0 n)) (run nothing)

  module _ (inj : (i j : ℕ) → f i ≡ f j → i ≡ j) where
    number_later : {l : List Name} → Whole f n l → (k i : ℕ) → 0 < k → i < n → number_in k (f i) l ≡ later_id (number_in k (f 0) l) i
    number_later nothing k i p h = refl
    number_later (run {l = l} q) k i p h =
        let a = number_first f inj n 0 k l (omega arith) in
        let b = later_from (number_in k (f 0) (tabulate f 0 n ++ l)) i (omega (arith, a)) in
        number_first f inj n i k l h ∙ omega (arith, a, b)
    number_later (free {x} {l} o q) k i p h =
        choose_no {A = ℕ} (eq_name (f i) x) k (number_in (suc k) (f i) l) (o i)
        ∙ number_later q (suc k) i (omega arith) h
        ∙ ap (λ (z : ℕ). later_id z i) (sym (choose_no {A = ℕ} (eq_name (f 0) x) k (number_in (suc k) (f 0) l) (o 0)))

-- ---- the names of a text with a body

-- what refusals 1 to 7 leave of a text with a body: its tree can be walked, and region 0 has an input for each parameter
pub record Bodied (F : Func) : Type 0 where
  pub walkable : Walkable F
  pub params : length (region_of F 0).ins ≡ length F.params

-- a value that names something, in a text with a body that stands in the words w
pub record KnownValue (w : List ℕ) (v : Value) : Type 0 where
  pub tables : Tables w
  pub bodied : Bodied (func_of w)
  pub names : named (func_of w) v ≡ true

input_region : {r s i j : ℕ} → value (region_input r i) ≡ value (region_input s j) → r ≡ s
input_region e = cc

output_node : {n s i j : ℕ} → value (node_output n i) ≡ value (node_output s j) → n ≡ s
output_node e = cc

input_output : {r n i j : ℕ} → value (region_input r i) ≡ value (node_output n j) → ⊥
input_output {r} {n} {i} {j} e = let z : ◌≡◌ {A = ℕ} 0 1 = cc in omega arith

input_result : {r i o : ℕ} → value (region_input r i) ≡ value (data_inst_output o) → ⊥
input_result {r} {i} {o} e = let z : ◌≡◌ {A = ℕ} 0 1 = cc in omega arith

output_result : {n i o : ℕ} → value (node_output n i) ≡ value (data_inst_output o) → ⊥
output_result {n} {i} {o} e = let z : ◌≡◌ {A = ℕ} 0 1 = cc in omega arith

value_label : {v : Value} {p : CfgPoint} → value v ≡ label p → ⊥
value_label {v} {p} e = let z : ◌≡◌ {A = ℕ} 0 1 = cc in omega arith

-- a run of the names themselves, and a run of others
same_run : (g : ℕ → Value) (n : ℕ) → Whole (λ i. value (g i)) n (map value (tabulate g 0 n))
same_run g n = subst (Whole (λ i. value (g i)) n) (sym (map_tabulate value g 0 n)) (whole_run (λ i. value (g i)) n)

other_run : (f : ℕ → Name) (n : ℕ) (g : ℕ → Value) (c : ℕ) → ((i j : ℕ) → ¬ (f i ≡ value (g j))) → Whole f n (map value (tabulate g 0 c))
other_run f n g c h = whole_other f n (map value (tabulate g 0 c)) (all_run (Other f) g c (λ j i. h i j))

module _ (F : Func) (ok : Bodied F) where
  module _ (f : ℕ → Name) (n : ℕ) (is_value : (i o : ℕ) → ¬ (f i ≡ value (data_inst_output o))) (is_label : (i : ℕ) (p : CfgPoint) → ¬ (f i ≡ label p))
      (ins : (r : ℕ) → Whole f n (map value (ins_keys F r))) (outs : (d : ℕ) → Whole f n (map value (out_keys d (outs_of (node_of F d))))) where
    keys_whole : {s : ℕ} {ks : List Value} → KeyRun F s ks → Whole f n (map value ks)
    keys_whole no_keys_law = nothing
    keys_whole (inputs {r} h e) = ins r
    keys_whole (outputs {n = d} h e) = outs d

    abbrev m : ℕ
    m = length (walk_of F)

    abbrev rest : List Name
    rest = map value (param_keys F) ++ (up_to (phi_names F) m ++ (up_to (result_names F) m ++ up_to (label_names F) m))

    rest_whole : Whole f n rest
    rest_whole =
        whole_append f n (subst (λ (c : ℕ). Whole f n (map value (tabulate (region_input 0) 0 c))) ok.params (ins 0))
        (whole_append f n (whole_up_to f n (phi_names F) m (λ i h. keys_whole (key_run F ok.walkable i h)))
        (whole_append f n (whole_up_to f n (result_names F) m (λ i h. whole_other f n (result_names F i) (all_results F (Other f) (λ o l j. is_value j o) i)))
        (whole_up_to f n (label_names F) m (λ i h. whole_other f n (label_names F i) (all_label F (Other f) i (λ j. is_label j (point_at F i)))))))

    in_rest : (first : ℕ) (v : Value) → new_in F first (value v) ≡ number_in (suc first) (value v) rest
    unfolding new_id
    in_rest first v = ap (number_in first (value v)) (names_flat F (inl ok.walkable) refl) ∙ past_function first v rest

    run_later : ((i j : ℕ) → f i ≡ f j → i ≡ j) → (g : ℕ → Value) → ((i : ℕ) → f i ≡ value (g i)) → (first i : ℕ) → i < n
        → new_in F first (value (g i)) ≡ later_id (new_in F first (value (g 0))) i
    run_later inj g e first i h =
        in_rest first (g i)
        ∙ ap (λ (x : Name). number_in (suc first) x rest) (sym (e i))
        ∙ number_later f n inj rest_whole (suc first) i (omega arith) h
        ∙ ap (λ (z : ℕ). later_id z i) (ap (λ (x : Name). number_in (suc first) x rest) (e 0) ∙ sym (in_rest first (g 0)))

  pub input_later : (first r i : ℕ) → i < length (region_of F r).ins → new_in F first (value (region_input r i)) ≡ later_id (new_in F first (value (region_input r 0))) i
  input_later first r i h =
      let n : ℕ = length (region_of F r).ins in
      run_later (λ j. value (region_input r j)) n (λ j o. input_result) (λ j p. value_label)
      (λ s. split (ℕ_discrete r s)
      (λ e. subst (λ (z : ℕ). Whole (λ j. value (region_input r j)) n (map value (ins_keys F z))) e (same_run (region_input r) n))
      (λ d. other_run (λ j. value (region_input r j)) n (region_input s) (length (region_of F s).ins) (λ j k e. d (input_region e))))
      (λ d. other_run (λ j. value (region_input r j)) n (node_output d) (length (outs_of (node_of F d))) (λ j k. input_output))
      (input_number r) (region_input r) (λ j. refl) first i h

  pub output_later : (first n i : ℕ) → i < length (outs_of (node_of F n)) → new_in F first (value (node_output n i)) ≡ later_id (new_in F first (value (node_output n 0))) i
  output_later first n i h =
      let c : ℕ = length (outs_of (node_of F n)) in
      run_later (λ j. value (node_output n j)) c (λ j o. output_result) (λ j p. value_label)
      (λ s. other_run (λ j. value (node_output n j)) c (region_input s) (length (region_of F s).ins) (λ j k e. input_output (sym e)))
      (λ s. split (ℕ_discrete n s)
      (λ e. subst (λ (z : ℕ). Whole (λ j. value (node_output n j)) c (map value (out_keys z (outs_of (node_of F z))))) e (same_run (node_output n) c))
      (λ d. other_run (λ j. value (node_output n j)) c (node_output s) (length (outs_of (node_of F s))) (λ j k e. d (output_node e))))
      (output_number n) (node_output n) (λ j. refl) first i h

-- ---- how high an id is

pub id_low : (F : Func) (first : ℕ) (x : Name) → new_in F first x ≤ first + length (names_of F)
unfolding new_id
id_low F first x = elim (number_range first x (names_of F)) [ inl z ↦ omega (arith, z) | inr h ↦ omega (arith, h.1) ]

-- ---- from the reader's promise

body_params : (rs : List Region) (n : ℕ) (l : List (ℕ × ControlInst)) → 0 < length rs → body_fits rs n l ≡ true
    → length (get_or rs 0 (record { ins = []; nodes = []; outs = [] })).ins ≡ n
body_params [] n l h e = absurd (omega arith)
body_params (r ∷ rs) n l h e = eqb-true (length r.ins) n (both (eqb (length r.ins) n) (body_outs l (length r.outs)) e).0

counted : (F : Func) → counts_agree F ≡ true → body_fits F.regions (length F.params) F.ctrls ≡ true
unfolding counts_agree
counted F e = (both _ _ (both _ _ e).0).0

module _ {w : List ℕ} (s : Stands (func_of w) w) (h : 0 < length (func_of w).regions) where
  pub bodied_stands : Bodied (func_of w)
  bodied_stands = record {
    walkable = walkable_stands s h;
    params = body_params (func_of w).regions (length (func_of w).params) (func_of w).ctrls h (counted (func_of w) s.passes.counts);
  }

  pub known_stands : (v : Value) → named (func_of w) v ≡ true → KnownValue w v
  known_stands v e = record { tables = s.tables; bodied = bodied_stands; names = e }

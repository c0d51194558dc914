-- The steps by which the names of one visited point get their ids. Assumes nothing.
--     gives_run, gives_one, gives_nothing     a run of names, a single one, and none
--     Results, result-..   a pass over the ops of a node
--     op_some, op_none, op_low, results_are, no_results    the results of an op, and of a position
--     word_of, phi_room, gives_phis    the phis of a position
use Rattle.std.specs.Prelude.{◌≡◌, refl, true, false, List, [], ◌∷◌, map, ℕ, zero, suc, ◌+◌, ◌≤◌, ◌<◌, ltb, get_or, length, set}
use Rattle.std.proofs.Common.{sym, subst, ◌∙◌, arith, ltb-true, ltb-false}
use Rattle.std.proofs.Math.Path.{ap}
use Rattle.std.proofs.Math.Option.{Option, some}
use Rattle.std.proofs.lemmas.List.{length-map}
use Rattle.lifting.specs.Ast.{Func, Value, data_inst_output, node_output, region_input}
use Rattle.lifting.specs.Parts.{node_of, op_of, outs_of, region_of}
use Rattle.lifting.specs.Points.{CfgPoint}
use Rattle.lifting.specs.Walk.{walk_of}
use Rattle.lifting.specs.Ids.{Name, result_of, value}
use Rattle.func.specs.Decode.{func_of}
use Rattle.func.specs.Tables.{Tables}
use Rattle.func.proofs.Tables.{few_ops}
use Rattle.work.specs.Layout.{statuses_at, ids_end, work_need}
use Rattle.lifting_blocks.specs.Flat.{up_to}
use Rattle.walk_points.specs.Walk.{Walkable, few_nodes}
use Rattle.terminators.specs.At.{visited_block, in_text_law, point_at}
use Rattle.terminators.specs.Visited.{Visited}
use Rattle.blocks.specs.Laid.{Laid}
use Rattle.emit_names.specs.Ids.{slot_of}
use Rattle.emit_names.specs.Names.{KeyRun, few_phis, inputs, key_low, key_run, key_word, length_up_to, no_keys_law, one_result, op_names, ops_of_law, point_ops, ops_names, outputs, phi_names, result_some, result_names, typed_low}
use Rattle.emit_names.specs.Numbered.{GivesIds, gives_as, gives_length, gives_none, gives_turn, numbered_words, put_at, run_words}
use Rattle.emit_names.specs.Runs.{run_none, some_run}
use Rattle.emit_names.specs.Standing.{kept_here}

-- ---- one run of names

-- the phis of a position
pub gives_run : {F : Func} {s : ℕ} {ks : List Value} → KeyRun F s ks → {n k x : ℕ} {u v : List ℕ} → n ≡ length ks → x ≡ k + n → v ≡ run_words u s k n
    → GivesIds (map value ks) k u x v
unfolding numbered_words
gives_run {s = s} no_keys_law {n} {k} {x} {u} e y w = record { next = omega arith; words = w ∙ sym (run_none u s k n e) }
gives_run {F} (inputs {r} h q) {n} {k} {x} {u} e y w =
    some_run (region_input r) (ap some (sym q)) (λ i. refl) (length (region_of F r).ins) e y w
gives_run {F} (outputs {n = d} h q) {n} {k} {x} {u} e y w =
    some_run (node_output d) (ap some (sym q)) (λ i. refl) (length (outs_of (node_of F d))) e y w

-- a single name that has a word
pub gives_one : {l : List Name} {x : Name} {s : ℕ} → l ≡ x ∷ [] → slot_of x ≡ some s → {k n : ℕ} {u v : List ℕ} → n ≡ k + 1 → v ≡ set u s k → GivesIds l k u n v
unfolding numbered_words
gives_one {x = x} {s} e q {k} {n} {u} {v} a w =
    gives_as (sym e) (record { next = a; words = w ∙ ap (λ (o : Option ℕ). put_at u k o) (sym q) })

pub gives_nothing : {l : List Name} → l ≡ [] → (k : ℕ) (u : List ℕ) → GivesIds l k u k u
gives_nothing e k u = gives_as (sym e) (gives_none k u)

-- ---- a pass over the ops of a node

pub record Results (F : Func) (l : List ℕ) (u₀ : List ℕ) (count k₀ j : ℕ) (u : List ℕ) (k : ℕ) : Type 0 where
  pub all : count ≡ length l
  pub few : count ≤ 4095
  pub below : j ≤ count
  pub size : work_need ≤ length u
  pub given : GivesIds (up_to (λ i. op_names F (get_or l i 0)) j) k₀ u₀ k u

pub result_first : {F : Func} {l u : List ℕ} {count k : ℕ} → count ≡ length l → length l ≤ 4095 → work_need ≤ length u → Results F l u count k 0 u k
unfolding up_to
result_first {u = u} {k = k} e h z = record { all = e; few = omega arith; below = omega arith; size = z; given = gives_none k u }

module _ {F : Func} {l u₀ : List ℕ} {count k₀ j : ℕ} {u : List ℕ} {k : ℕ} (p : Results F l u₀ count k₀ j u k) where
  pub result_room : k₀ ≤ 4000000000 → k < 4294967295
  result_room h =
      omega (arith, p.given.next, length_up_to (λ i. op_names F (get_or l i 0)) 1 j (λ i l'. one_result F (get_or l i 0)), p.below, p.few)

  pub result_next : {o : ℕ} {v : List ℕ} {n : ℕ} → j < count → o ≡ get_or l j 0 → GivesIds (op_names F o) k u n v → Results F l u₀ count k₀ (j + 1) v n
  result_next h e g = record {
    all = p.all;
    few = p.few;
    below = omega arith;
    size = omega (arith, p.size, gives_length g);
    given = gives_turn (λ i. op_names F (get_or l i 0)) j p.given (gives_as (ap (op_names F) e) g);
  }

  pub result_done : count ≤ j → GivesIds (ops_names F l) k₀ u₀ k u
  result_done h = let e : j ≡ length l = omega (arith, p.below, p.all) in gives_as (ap (up_to (λ i. op_names F (get_or l i 0))) e) p.given

-- ---- results

pub op_some : (F : Func) (o : ℕ) → ltb 0 (op_of F o).type ≡ true → op_names F o ≡ value (data_inst_output o) ∷ []
op_some F o e = go (op_of F o).type (ltb-true 0 (op_of F o).type e)
  where
    go : (t : ℕ) → 0 < t → map value (result_of t o) ≡ value (data_inst_output o) ∷ []
    go zero h = absurd (omega arith)
    go (suc t) h = refl

pub op_none : (F : Func) (o : ℕ) → ltb 0 (op_of F o).type ≡ false → op_names F o ≡ []
op_none F o e = go (op_of F o).type (ltb-false 0 (op_of F o).type e)
  where
    go : (t : ℕ) → t ≤ 0 → map value (result_of t o) ≡ []
    go zero h = refl
    go (suc t) h = absurd (omega arith)

-- ---- phis

module _ {w u : List ℕ} {m : ℕ} (k : Visited w u m) (i : ℕ) (h : i < m) where
  -- the word of the ids of a position's phis, by its point
  pub word_of : {p : CfgPoint} → p ≡ point_at (func_of w) i → {x : ℕ} → x ≡ key_word (func_of w) p → (x ≡ key_word (func_of w) (point_at (func_of w) i)) × (x < ids_end)
  word_of e {x} q =
      let z : x ≡ key_word (func_of w) (point_at (func_of w) i) = q ∙ ap (key_word (func_of w)) e in
      (z, omega (arith, z, key_low (func_of w) k.walkable (few_nodes k.tables) (point_at (func_of w) i) (in_text_law (func_of w) k.walkable i (omega (arith, k.count)))))

module _ {w u : List ℕ} {m : ℕ} (k : Laid w u m) (i : ℕ) (h : i < m) {n s : ℕ} (e : n ≡ length (visited_block (func_of w) i).keys) (q : s ≡ key_word (func_of w) (point_at (func_of w) i)) where
  ok : Walkable (func_of w)
  ok = (k.walked (omega arith)).walkable

  inside : i < length (walk_of (func_of w))
  inside = omega (arith, k.count)

  pub phi_room : s < ids_end → {x : ℕ} → x ≤ 4000000000 → (s < length u) × (x + n ≤ 4294967295)
  phi_room l z = (
    omega (arith, k.size),
    omega (arith, e, few_phis k.tables ok i inside, length-map (visited_block (func_of w) i).keys value),
  )

  pub gives_phis : {x y : ℕ} {v : List ℕ} → y ≡ x + n → v ≡ run_words u s x n → GivesIds (phi_names (func_of w) i) x u y v
  gives_phis a b = gives_run (subst (λ (z : ℕ). KeyRun (func_of w) z (visited_block (func_of w) i).keys) (sym q) (key_run (func_of w) ok i inside)) e a b

-- an op that has a result is one of the text
pub op_low : {w : List ℕ} → Tables w → (o : ℕ) → ltb 0 (op_of (func_of w) o).type ≡ true → o < 512
op_low {w} t o e = omega (arith, typed_low (func_of w) o (λ z. omega (arith, ltb-true 0 (op_of (func_of w) o).type e)), few_ops t)

-- the results of a position in a kept block are those of its point's ops
module _ {w u : List ℕ} {m : ℕ} (k : Laid w u m) (i : ℕ) (h : i < m) (kept : ¬ (get_or u (statuses_at + i) 0 ≡ 0)) {p : CfgPoint} (e : p ≡ point_at (func_of w) i) where
  pub results_are : ops_names (func_of w) (point_ops (func_of w) p) ≡ result_names (func_of w) i
  results_are =
      ap (λ (q : CfgPoint). ops_names (func_of w) (point_ops (func_of w) q)) e
      ∙ sym (result_some (func_of w) i (kept_here k i h kept)
      ∙ ap (ops_names (func_of w)) (ops_of_law (func_of w) (k.walked (omega arith)).walkable i (omega (arith, k.count))))

  pub no_results : point_ops (func_of w) p ≡ [] → (x : ℕ) (v : List ℕ) → GivesIds (result_names (func_of w) i) x v x v
  unfolding up_to
  no_results q x v = gives_nothing (sym results_are ∙ ap (ops_names (func_of w)) q) x v

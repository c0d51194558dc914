-- Any pass over kept blocks weighs at most what it weighs at each visited point. So the pairs of a phi are two words for each way out that sends its
-- block a value for it. Assumes nothing.
use Rattle.std.proofs.Math.Path.{◌≡◌, refl}
use Rattle.std.proofs.Common.{sym, ap, ◌∙◌}
use Rattle.std.specs.Prelude.{Bool, true, false, get_or, length}
use mathlib.Core.List.{List, [], ◌∷◌, ◌++◌}
use Rattle.std.proofs.Math.Option.{Option, none}
use Prim.Native.Nat.{ℕ, zero, suc, ◌+◌, ◌-◌, ◌*◌, ◌≤◌, ◌<◌}
use native.Mathlib.Omega.{arith}
use Rattle.general_laws.specs.Gather.{gather_none}
use Rattle.general_laws.specs.Lists.{find, gather}
use Rattle.lifting.specs.Ast.{Func, Node, Value, block, const, exit, loop, select}
use Rattle.lifting.specs.Parts.{node_of, vals_or}
use Rattle.lifting.specs.Points.{BlockLifting, CfgPoint, Table, Terminator, edge_of, eq_point}
use Rattle.lifting.specs.Walk.{in_block, walk_of}
use Rattle.lifting.specs.Absorb.{count_in, kept, use_count}
use Rattle.lifting.specs.Ids.{id_of, label_of}
use Rattle.lifting.specs.Instructions.{Instruction, if_used, pairs}
use Rattle.lifting.specs.Words.{inst_words}
use Rattle.general_laws.specs.Members.{All, In, all_in}
use Rattle.lifting_runs.specs.Pairs.{counted_in}
use Rattle.lifting_runs.specs.Tour.{find_unique, unique_of}
use Rattle.lifting_runs.specs.Terms.{TermOk}
use Rattle.lifting_runs.specs.Shaped.{Shaped}
use Rattle.lifting_runs.proofs.Shaped.{walk_once}
use Rattle.lifting_blocks.specs.Chain.{chain_all, some_injective}
use Rattle.lifting_blocks.specs.Steps.{Step, step_entry, step_exit, step_in, step_out, walk_steps}
use Rattle.lifting_blocks.specs.Flat.{Pass, Status, absorbs_here, goes, gone, no_pair, pass_part, part_at, starts, status_at, unless_absorbs, up_to}
use Rattle.lifting_blocks.specs.ListFlat.{pairing}
use Rattle.lifting_blocks.specs.Totals.{total}
use Rattle.lifting_blocks.specs.Laws
use Rattle.lifting_sizes.specs.Sums.{total_append, total_le, total_ones, total_scale, total_up_to}
use Rattle.lifting_sizes.specs.Weights.{carried, defaults_at, if_any, inits_of}

-- A pass over kept blocks, where each end weighs at most e if P holds of its way out.
module _ {A : Type 0} (wt : A → ℕ) (m : Pass A) (P : Terminator → Type 0) (e : Terminator → ℕ) (ends : (h : CfgPoint) (t : Terminator) → P t → total wt (m.end h t) ≤ e t) where
  -- at a visited point
  abbrev pub part_weight : CfgPoint × BlockLifting → ℕ
  part_weight x = total wt (m.start x.0 x.1.keys x.1.decls) + (total wt (gather m.op x.1.ops) + e x.1.term)

  -- an end that may be absorbed, a part, and all parts
  end_weight_law : (g : Bool) (h : CfgPoint) (t : Terminator) → P t → total wt (unless_absorbs m g (m.end h t)) ≤ e t
  end_weight_law true h t p = omega arith
  end_weight_law false h t p = ends h t p

  part_weight_law : (s : Status) (g : Bool) (x : CfgPoint × BlockLifting) → (¬ (s ≡ gone) → P x.1.term) → total wt (pass_part m s g x) ≤ part_weight x
  unfolding pass_part
  part_weight_law gone g x p = omega arith
  part_weight_law starts g x p = omega (
    arith,
    total_append wt (m.start x.0 x.1.keys x.1.decls) (gather m.op x.1.ops ++ unless_absorbs m g (m.end x.0 x.1.term)),
    total_append wt (gather m.op x.1.ops) (unless_absorbs m g (m.end x.0 x.1.term)),
    end_weight_law g x.0 x.1.term (p (λ e. let z : ◌≡◌ {A = ℕ} 0 1 = cc in omega arith)),
  )
  part_weight_law (goes h) g x p =
      omega (arith, total_append wt (gather m.op x.1.ops) (unless_absorbs m g (m.end h x.1.term)), end_weight_law g h x.1.term (p (λ e. let z : ◌≡◌ {A = ℕ} 0 1 = cc in omega arith)))

  -- P need hold only of the points that are not gone
  pub pass_weight : (c : CfgPoint → ℕ) (T : Table) → ((i : ℕ) → i < length T → ¬ (status_at c T i ≡ gone) → P (get_or T i no_pair).1.term) → total wt (up_to (part_at c m T) (length T)) ≤ total part_weight T
  unfolding part_at
  pass_weight c T p = omega (
    arith,
    total_up_to wt part_weight no_pair (λ i. 0) T (part_at c m T) (λ i h. omega (arith, part_weight_law (status_at c T i) (absorbs_here c T i) (get_or T i no_pair) (p i h))),
  )

abbrev pub inst_weight : Instruction → ℕ
inst_weight i = length (inst_words i)

module _ (F : Func) (ok : Shaped F) (first : ℕ) where
  abbrev T : Table
  T = walk_of F

  abbrev K : Table
  K = kept (walk_of F)

  -- what an edge without values gives to phis is known from the point
  in_defaults : (d : Node) (n : ℕ) → (in_block F d n).defaults ≡ inits_of d
  in_defaults (block is) n = refl
  in_defaults (select k v cs ds u) n = refl
  in_defaults (loop b c is u) n = refl
  in_defaults (exit i vs) n = refl

  step_defaults : (x : CfgPoint × BlockLifting) (o : Option CfgPoint) → Step F x o → x.1.defaults ≡ defaults_at F x.0
  step_defaults x o (step_entry v) = refl
  step_defaults x o (step_in {n} v sf h) = in_defaults (node_of F n) n
  step_defaults x o (step_out v sf) = refl
  step_defaults x o (step_exit v a) = refl

  defaults_at_law : All (λ x. x.1.defaults ≡ defaults_at F x.0) T
  defaults_at_law = chain_all (Step F) _ step_defaults T none (walk_steps F ok)

  -- the values that the way out of y sends to q
  abbrev sent_to : CfgPoint → CfgPoint × BlockLifting → ℕ
  sent_to q y = carried F y.1.term q

  module _ (x : CfgPoint × BlockLifting) (here : In x T) where
    abbrev q : CfgPoint
    q = x.0

    -- a way out that leads here with enough values sends one to each phi
    enough : (t : Terminator) → TermOk T t → 0 < count_in q t.targets → length x.1.keys ≡ length (vals_or (find eq_point q t.vals) (defaults_at F q))
    enough t tk l =
        let w = tk.to q (counted_in q t.targets l) in
        let b : x.1 ≡ w.0 = some_injective (sym w.1 ∙ find_unique T (unique_of T (walk_once F ok)) q x.1 here) in
        omega (
          arith,
          ap (λ (b : BlockLifting). length b.keys) b,
          w.2,
          ap (λ (b : BlockLifting). length (vals_or (find eq_point q t.vals) b.defaults)) b,
          ap (λ (l : List Value). length (vals_or (find eq_point q t.vals) l)) (all_in _ T defaults_at_law x here),
        )

    -- the pairs of phi j: two words for each way out that sends more than j values here
    pub pairs_weight : (j : ℕ) → j < length x.1.keys → length (pairs F first T K K q j) ≤ 2 * total (λ y. if_any (sent_to q y - j) 1) T
    pairs_weight j low = omega (
      arith,
      total_ones (pairs F first T K K q j),
      ap (total one) (Laws.pairs_are F ok first q j),
      pass_weight one (pairing F first T K q j) (TermOk T) each ends (use_count T) T (Laws.stands_fit F ok),
      total_le (part_weight one (pairing F first T K q j) (TermOk T) each ends) (λ y. 2 * if_any (sent_to q y - j) 1) T (λ y i. omega (arith, ap (total one) (gather_none y.1.ops))),
      total_scale 2 (λ y. if_any (sent_to q y - j) 1) T,
    )
      where
        one : ℕ → ℕ
        one n = 1

        each : Terminator → ℕ
        each t = 2 * if_any (carried F t q - j) 1

        more : (n : ℕ) → j < n → 2 ≤ 2 * if_any (n - j) 1
        more n l = by_rest (n - j) refl
          where
            by_rest : (k : ℕ) → n - j ≡ k → 2 ≤ 2 * if_any k 1
            by_rest zero e = absurd (omega arith)
            by_rest (suc k) e = omega arith

        ends : (h : CfgPoint) (t : Terminator) → TermOk T t → total one ((pairing F first T K q j).end h t) ≤ each t
        ends h t tk = by_count_law (count_in q t.targets) refl
          where
            ws : List ℕ
            ws = id_of F first T K (get_or (edge_of K t q) j (const 0)) ∷ label_of F first T K h ∷ []

            by_count_law : (n : ℕ) → count_in q t.targets ≡ n → total one (if_used n ws) ≤ 2 * if_any (if_any n (length (vals_or (find eq_point q t.vals) (defaults_at F q))) - j) 1
            by_count_law zero e = omega arith
            by_count_law (suc n) e = more (length (vals_or (find eq_point q t.vals) (defaults_at F q))) (omega (arith, enough t tk (omega arith)))

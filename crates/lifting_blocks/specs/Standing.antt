-- The exit of an exit node, and of a case that ends in one, stands in no kept block (W2), so a way out that is written takes as many values along
-- each edge as the target has phis. Assumes nothing.
--     ended_gone     such a point is gone
--     stands_term    the way out of a point that is not
use Rattle.std.specs.Prelude.{◌≡◌, refl, Bool, get_or}
use Rattle.std.proofs.Common.{sym, ◌∙◌, subst, inl, inr}
use Rattle.std.proofs.Math.Path.{ap}
use Rattle.std.proofs.Math.Bool.{true, false}
use mathlib.Core.List.{List, [], ◌∷◌}
use Rattle.std.proofs.Math.Option.{Option, none, some}
use Prim.Native.Nat.{ℕ, zero, suc, ◌<◌}
use Rattle.std.proofs.Math.Decide.{dec_lt, ℕ_discrete}
use native.Mathlib.Omega.{arith}
use Rattle.std.proofs.Math.ListN.{length}
use Rattle.general_laws.specs.Lists.{choose, choose_yes}
use Rattle.lifting.specs.Ast.{Decl, Func, SelectionKind, Value, select}
use Rattle.lifting.specs.Parts.{node_of, region_of}
use Rattle.lifting.specs.Counts.{ends_in_exit}
use Rattle.lifting.specs.Points.{BlockLifting, CfgPoint, Table, Terminator, block_at, eq_point, node_entry, node_exit, points, region_entry, region_exit, straight}
use Rattle.lifting.specs.Walk.{Place, walk_of}
use Rattle.lifting.specs.Absorb.{sole_target, use_count}
use Rattle.general_laws.specs.Members.{In, all_in, in_cases, in_get_or, in_nil}
use Rattle.lifting_runs.specs.Places.{VisitedAt, whole}
use Rattle.lifting_runs.specs.Tour.{same_position}
use Rattle.lifting_runs.specs.Ended.{CaseEnds, Ended}
use Rattle.lifting_runs.proofs.Ended.{last_exit, case_ended, suffix_last}
use Rattle.lifting_runs.specs.Terms.{TermOk}
use Rattle.lifting_runs.specs.Shaped.{Shaped}
use Rattle.lifting_runs.proofs.Shaped.{laid, terms, visited_out, walk_once}
use Rattle.lifting_runs.proofs.EndedKept.{case_ends, count_case, count_out, last, last_leads}
use Rattle.lifting_blocks.specs.Flat.{Status, by_count, carry, absorbs_here, absorbs_next, absorbs_target, gone, goes, no_keys, no_pair, starts, status, status_at, status_from}
use Rattle.lifting_blocks.specs.FlatLaws.{absorb_last, absorb_next}
use Rattle.lifting_blocks.specs.Chain.{chain_get_or}
use Rattle.lifting_blocks.specs.Steps.{Step, step_entry, step_exit, step_in, step_out, walk_steps}
use Rattle.lifting_blocks.specs.Neighbours.{block_in}
use Rattle.lifting_blocks.specs.Follow.{goes_on, walk_follows}

-- positions
position : (T : Table) (p : CfgPoint) → In p (points T) → (k : ℕ) × (k < length T) × ((get_or T k no_pair).0 ≡ p)
position [] p h = absurd (in_nil h)
position (x ∷ T) p h = elim (in_cases h) [ inl e ↦ (0, omega arith, sym e) | inr i ↦ (let w = position T p i in (suc w.0, omega (arith, w.1), w.2)) ]

abbrev first_point : List CfgPoint → CfgPoint
first_point [] = region_entry 0
first_point (p ∷ ps) = p

first_target : {p q : CfgPoint} → straight p ≡ straight q → p ≡ q
first_target z = ap (λ (t : Terminator). first_point t.targets) z

-- what has use count 0 is absorbed by none
loose : (o : Option CfgPoint) (q : CfgPoint) (n : ℕ) (ks : List Value) → n ≡ 0 → absorbs_target o q n ks ≡ false
loose none q n ks e = refl
loose (some t) q n ks e = by_case (eq_point t q) (ℕ_discrete n 1)
  where
    by_case : (d : Dec (t ≡ q)) (g : Dec (n ≡ 1)) → choose d (choose g (no_keys ks) false) false ≡ false
    by_case (yes z) (yes u) = absurd (omega arith)
    by_case (yes z) (no u) = refl
    by_case (no z) g = refl

fast : (q : CfgPoint) (n : ℕ) (ks : List Value) → n ≡ 1 → ks ≡ [] → absorbs_target (some q) q n ks ≡ true
fast q n ks e k = choose_yes (eq_point q q) (choose (ℕ_discrete n 1) (no_keys ks) false) false refl ∙ choose_yes (ℕ_discrete n 1) (no_keys ks) false e ∙ ap no_keys k

off_true : (s : Status) (p : CfgPoint) (n : ℕ) → s ≡ gone → status (carry s p true) n ≡ gone
off_true s p n e = ap (λ (x : Status). status (carry x p true) n) e

fresh_zero : (s : Status) (p : CfgPoint) (n : ℕ) → n ≡ 0 → status (carry s p false) n ≡ gone
fresh_zero gone p n e = ap by_count e
fresh_zero starts p n e = ap by_count e
fresh_zero (goes h) p n e = ap by_count e

module _ (F : Func) (ok : Shaped F) where
  abbrev T : Table
  T = walk_of F

  abbrev c : CfgPoint → ℕ
  c = use_count (walk_of F)

  abbrev at : ℕ → CfgPoint × BlockLifting
  at i = get_or (walk_of F) i no_pair

  zero_gone : (i : ℕ) → c (at i).0 ≡ 0 → status_at (use_count (walk_of F)) (walk_of F) i ≡ gone
  unfolding status_from absorbs_next
  zero_gone zero e = ap by_count e
  zero_gone (suc i) e = ap (λ (b : Bool). status (carry (status_at c T i) (at i).0 b) (c (at (suc i)).0)) (by_case (dec_lt (suc i) (length T))) ∙ fresh_zero (status_at c T i) (at i).0 (c (at (suc i)).0) e
    where
      by_case : Dec (suc i < length T) → absorbs_here c T i ≡ false
      by_case (yes h) = absorb_next c T i h ∙ loose (sole_target (at i).1.term) (at (suc i)).0 (c (at (suc i)).0) (at (suc i)).1.keys e
      by_case (no n) = absorb_last c T i (omega arith)

  -- the block at a position is the one found at its point
  at_block : (i : ℕ) → i < length (walk_of F) → block_at (walk_of F) (at i).0 ≡ (at i).1
  at_block i h = block_in T (walk_once F ok) (at i) (in_get_or T i no_pair h)

  module _ (r : ℕ) (ce : CaseEnds F r) where
    abbrev l : ℕ
    l = last F ok r ce

    -- right behind the exit of the case's last node
    next_case : (i : ℕ) → i < length (walk_of F) → (at i).0 ≡ region_exit r → (k : ℕ) × (i ≡ suc k) × ((at k).0 ≡ node_exit l) × ((at k).1.term ≡ straight (region_exit r))
    next_case i h e =
        let w = position T (node_exit l) (visited_out F ok ce.stands (suffix_last F (region_of F r).nodes ce.ends whole)) in
        let k = w.0 in
        let f = walk_follows F ok k w.1 (subst (λ (p : CfgPoint). goes_on F p ≡ true) (sym w.2) refl) in
        let t : (at k).1.term ≡ straight (region_exit r) = ap (λ (b : BlockLifting). b.term) (sym (at_block k w.1)) ∙ ap (λ (p : CfgPoint). (block_at T p).term) w.2 ∙ last_leads F ok r ce in
        let same : straight (at (suc k)).0 ≡ straight (region_exit r) = sym f.1 ∙ t in
        let point : (at (suc k)).0 ≡ region_exit r = first_target same in
        (k, same_position no_pair T (walk_once F ok) i (suc k) h f.0 (e ∙ sym point), w.2, t)

    case_gone : (i : ℕ) → i < length (walk_of F) → (at i).0 ≡ region_exit r → status_at (use_count (walk_of F)) (walk_of F) i ≡ gone
    unfolding status_from absorbs_next
    case_gone i h e = by_place (next_case i h e)
      where
        by_place : (k : ℕ) × (i ≡ suc k) × ((at k).0 ≡ node_exit l) × ((at k).1.term ≡ straight (region_exit r)) → status_at (use_count (walk_of F)) (walk_of F) i ≡ gone
        by_place (k, z, p, t) =
            let here_too : (at (suc k)).0 ≡ region_exit r = ap (λ (n : ℕ). (at n).0) (sym z) ∙ e in
            let below : suc k < length T = omega arith in
            let before : status_at c T k ≡ gone = zero_gone k (ap c p ∙ count_out F ok l (last_exit F (region_of F r).nodes ce.ends)) in
            let no_keys_law : (at (suc k)).1.keys ≡ [] = ap (λ (b : BlockLifting). b.keys) (sym (at_block (suc k) below) ∙ ap (block_at T) here_too ∙ (laid F ok).exit_at ce.stands) in
            let joins : absorbs_here c T k ≡ true = absorb_next c T k below
            ∙ ap (λ (x : Terminator). absorbs_target (sole_target x) (at (suc k)).0 (c (at (suc k)).0) (at (suc k)).1.keys) (t ∙ ap straight (sym here_too))
            ∙ fast (at (suc k)).0 (c (at (suc k)).0) (at (suc k)).1.keys (ap c here_too ∙ count_case F ok r ce) no_keys_law in
            ap (status_at c T) z ∙ ap (λ (b : Bool). status (carry (status_at c T k) (at k).0 b) (c (at (suc k)).0)) joins ∙ off_true (status_at c T k) (at k).0 (c (at (suc k)).0) before

  pub ended_gone : (i : ℕ) → i < length (walk_of F) → Ended F (get_or (walk_of F) i no_pair).0 → status_at (use_count (walk_of F)) (walk_of F) i ≡ gone
  ended_gone i h en = by_point (at i).0 refl en
    where
      by_point : (p : CfgPoint) → (at i).0 ≡ p → Ended F p → status_at (use_count (walk_of F)) (walk_of F) i ≡ gone
      by_point (region_entry r) e en = absurd en
      by_point (region_exit r) e en = case_gone r en i h e
      by_point (node_entry n) e en = absurd en
      by_point (node_exit n) e en = zero_gone i (ap c e ∙ count_out F ok n en)

  -- in the text's words: the exit of a case whose last node is an exit
  exit_visited : (x : CfgPoint × BlockLifting) (o : Option CfgPoint) → Step F x o → (c : ℕ) → x.0 ≡ region_exit c → (p : Place) × VisitedAt F c p
  exit_visited x o (step_entry v) c e = absurd (let z : ◌≡◌ {A = ℕ} 0 1 = cc in omega arith)
  exit_visited x o (step_in v sf h) c e = absurd (let z : ◌≡◌ {A = ℕ} 0 1 = cc in omega arith)
  exit_visited x o (step_out v sf) c e = absurd (let z : ◌≡◌ {A = ℕ} 0 1 = cc in omega arith)
  exit_visited x o (step_exit {r} {p} v a) c e = let z : r ≡ c = cc in (p, subst (λ (s : ℕ). VisitedAt F s p) z v)

  pub case_exit_gone : (n c : ℕ) {k : SelectionKind} {v : Value} {cs : List ℕ} {ds : List Decl} {u : ℕ} → node_of F n ≡ select k v cs ds u → In c cs → ends_in_exit F (region_of F c).nodes ≡ true
      → (i : ℕ) → i < length (walk_of F) → (get_or (walk_of F) i no_pair).0 ≡ region_exit c → status_at (use_count (walk_of F)) (walk_of F) i ≡ gone
  case_exit_gone n c e j en i h q = case_gone c (case_ends F ok n e j en (exit_visited (at i) _ (chain_get_or (Step F) T none (walk_steps F ok) i h) c q).1) i h q

  pub stands_term : (i : ℕ) → i < length (walk_of F) → ¬ (status_at (use_count (walk_of F)) (walk_of F) i ≡ gone) → TermOk (walk_of F) (get_or (walk_of F) i no_pair).1.term
  stands_term i h n = elim (all_in _ T (terms F ok) (at i) (in_get_or T i no_pair h)) [ inl lo ↦ absurd (n (ended_gone i h (case_ended F (at i).0 lo))) | inr f ↦ f ]

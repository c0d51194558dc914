-- The lines of a function, put one visited point at a time. Assumes nothing.
--     chain_run, run_suc, run_next, run_end     the points of a block, by position
--     lines_are                       the lines are what stands at each position, one after the other
--     part_starts, part_goes          what stands at a position, by where its point stands
--     part_gone, part_is              and by its words
--     side_region, side_node          a point by its number
--     lines_none                      a function without a body has no lines
use Rattle.std.specs.Prelude.{◌≡◌, Bool, true, false, cond, eqb, ltb, length, get_or, drop}
use Rattle.std.proofs.Math.Path.{refl, ap}
use Rattle.std.proofs.Common.{sym, subst, ◌∙◌, add-one, arith, lt-ltb, le-ltb}
use mathlib.Core.List.{List, [], ◌∷◌, ◌++◌}
use Prim.Native.Nat.{ℕ, zero, suc, ◌+◌, ◌-◌, ◌/◌, ◌%◌, ◌≤◌, ◌<◌}
use Rattle.lifting.specs.Bytes.{bytes}
use Rattle.lifting.specs.Digits.{digits}
use Rattle.general_laws.specs.Lists.{choose_no, choose_yes, gather}
use Rattle.lifting.specs.Ast.{Func, Region}
use Rattle.lifting.specs.Points.{CfgPoint, region_entry, region_exit, node_entry, node_exit, eq_point, Terminator, Table, points}
use Rattle.lifting.specs.Walk.{walk_of}
use Rattle.lifting.specs.Absorb.{absorb, use_count, kept}
use Rattle.general_laws.specs.Gather.{gather_none}
use Rattle.general_laws.specs.Members.{In, NoDup}
use Rattle.lifting_runs.specs.Shaped.{Shaped}
use Rattle.lifting_blocks.specs.Flat.{Pass, Status, gone, starts, goes, absorbs_here, block_part, block_parts, unless_absorbs, pass_part, part_at, up_to, no_pair}
use Rattle.lifting_blocks.specs.Laws.{each_once, pass_is}
use Rattle.walk_points.specs.Numbers.{node_base, point_number, point_of, point_back, point_low, Small}
use Rattle.terminators.specs.At.{point_at, visited_block}
use Rattle.block_absorbs.specs.Absorbs.{stands, absorbs, absorbed, status_word, word_gone, word_starts, word_goes, goes_from}
use Rattle.print_lines.specs.Lines.{point_bytes, absorbed_run, run_from, chain_of, start_bytes, end_bytes, block_bytes, block_lines}

-- ---- the points of a block

points_in : (T : Table) (i : ℕ) → i < length T → In (get_or T i no_pair).0 (points T)
points_in [] i h = absurd (omega arith)
points_in (x ∷ T) zero h = In.here
points_in (x ∷ T) (suc i) h = In.there (points_in T i (omega arith))

module _ (c : CfgPoint → ℕ) where
  run_at_law : (T : Table) (i : ℕ) → NoDup (points T) → i < length T → run_from c (get_or T i no_pair).0 T ≡ absorbed_run c (drop i T)
  unfolding run_from
  run_at_law [] i once h = absurd (omega arith)
  run_at_law (x ∷ T) zero once h = choose_yes (eq_point x.0 x.0) _ _ refl
  run_at_law (x ∷ T) (suc i) once h =
      let p = (get_or T i no_pair).0 in
      choose_no (eq_point p x.0) _ _ (λ e. once.0 (subst (λ (q : CfgPoint). In q (points T)) e (points_in T i (omega arith)))) ∙ run_at_law T i once.1 (omega arith)

  pub run_suc : (T : Table) (i : ℕ) → i < length T → absorbed_run c (drop i T) ≡ (get_or T i no_pair).0 ∷ cond (absorbs_here c T i) (absorbed_run c (drop (suc i) T)) []
  unfolding absorbed_run absorbs_here
  run_suc [] i h = absurd (omega arith)
  run_suc (x ∷ T) zero h = refl
  run_suc (x ∷ T) (suc i) h = run_suc T i (omega arith)

  pub run_next : (T : Table) (i : ℕ) → i < length T → absorbed_run c (drop i T) ≡ (get_or T i no_pair).0 ∷ cond (absorbs_here c T i) (absorbed_run c (drop (i + 1) T)) []
  run_next T i h = run_suc T i h ∙ ap (λ (n : ℕ). (get_or T i no_pair).0 ∷ cond (absorbs_here c T i) (absorbed_run c (drop n T)) []) (sym (add-one i))

  pub run_end : (T : Table) (i : ℕ) → length T ≤ i → absorbed_run c (drop i T) ≡ []
  unfolding absorbed_run
  run_end [] zero h = refl
  run_end [] (suc i) h = refl
  run_end (x ∷ T) zero h = absurd (omega arith)
  run_end (x ∷ T) (suc i) h = run_end T i (omega arith)

-- ---- what stands at a position

module _ (F : Func) where
  abbrev T : Table
  T = walk_of F

  -- the run that starts at position i
  abbrev pub run_at : ℕ → List CfgPoint
  run_at i = absorbed_run (use_count (walk_of F)) (drop i (walk_of F))

  pub chain_run : Shaped F → (i : ℕ) → i < length T → chain_of F (point_at F i) ≡ run_at i
  unfolding chain_of
  chain_run ok i h = run_at_law (use_count T) T i (each_once F ok) h

  -- a pass over kept blocks
  abbrev pub line_pass : Pass ℕ
  line_pass = record { start = λ p ks ds. start_bytes F p; op = λ i. []; end = end_bytes F }

  abbrev pub line_at : ℕ → List ℕ
  line_at i = part_at (use_count (walk_of F)) line_pass (walk_of F) i

  lines_pass : (K : Table) → gather (block_bytes F) K ≡ block_parts line_pass K
  unfolding block_bytes block_parts block_part
  lines_pass [] = refl
  lines_pass (x ∷ K) =
      ap (λ (l : List ℕ). (start_bytes F x.0 ++ end_bytes F x.0 x.1.term) ++ l) (lines_pass K)
      ∙ ap (λ (l : List ℕ). (start_bytes F x.0 ++ (l ++ end_bytes F x.0 x.1.term)) ++ block_parts line_pass K) (sym (gather_none x.1.ops))

  pub lines_are : Shaped F → block_lines F ≡ up_to line_at (length T)
  unfolding block_lines
  lines_are ok = lines_pass (kept T) ∙ pass_is F ok line_pass

  -- the start of a line, unless the point before absorbs this one
  abbrev pub begin_bytes : Bool → CfgPoint → List ℕ
  begin_bytes true p = []
  begin_bytes false p = start_bytes F p

  abbrev pub close_bytes : Bool → CfgPoint → Terminator → List ℕ
  close_bytes true p t = []
  close_bytes false p t = end_bytes F p t

  by_absorb : (g : Bool) (p : CfgPoint) (t : Terminator) (ops : List ℕ) → gather {B = ℕ} (λ (i : ℕ). []) ops ++ unless_absorbs line_pass g (end_bytes F p t) ≡ close_bytes g p t
  by_absorb true p t ops = ap (λ (l : List ℕ). l ++ []) (gather_none ops)
  by_absorb false p t ops = ap (λ (l : List ℕ). l ++ end_bytes F p t) (gather_none ops)

  at_status : (i : ℕ) (s : Status) → stands F i ≡ s → line_at i ≡ pass_part line_pass s (absorbs F i) (get_or T i no_pair)
  unfolding part_at
  at_status i s e = ap (λ (s : Status). pass_part line_pass s (absorbs F i) (get_or T i no_pair)) e

  pub part_gone : (i : ℕ) → status_word (stands F i) (point_at F i) ≡ 0 → line_at i ≡ []
  unfolding pass_part
  part_gone i e = at_status i gone (word_gone (stands F i) (point_at F i) e)

  pub part_starts : (i : ℕ) → stands F i ≡ starts → line_at i ≡ start_bytes F (point_at F i) ++ close_bytes (absorbs F i) (point_at F i) (visited_block F i).term
  unfolding pass_part
  part_starts i e = at_status i starts e ∙ ap (λ (l : List ℕ). start_bytes F (point_at F i) ++ l) (by_absorb (absorbs F i) (point_at F i) (visited_block F i).term (visited_block F i).ops)

  pub part_goes : (i : ℕ) (h : CfgPoint) → stands F i ≡ goes h → line_at i ≡ close_bytes (absorbs F i) h (visited_block F i).term
  unfolding pass_part
  part_goes i h e = at_status i (goes h) e ∙ by_absorb (absorbs F i) h (visited_block F i).term (visited_block F i).ops

  module _ (small : (j : ℕ) → j < length T → Small (point_at F j)) (i : ℕ) (h : i < length T) (s : ℕ) (word : s ≡ status_word (stands F i) (point_at F i)) (used : ¬ (s ≡ 0)) where
    pub part_is : (b : Bool) → absorbed F i ≡ b
        → (line_at i ≡ begin_bytes b (point_at F i) ++ close_bytes (absorbs F i) (point_of (s - 1)) (visited_block F i).term) × (s - 1 < 512)
    part_is false e =
        let st = word_starts F i e (λ z. used (word ∙ z)) in
        let n : s - 1 ≡ point_number (point_at F i) = omega (arith, word, ap (λ (x : Status). status_word x (point_at F i)) st) in
        let p : point_at F i ≡ point_of (s - 1) = sym (ap point_of n ∙ point_back (point_at F i) (small i h)) in
        (part_starts i st ∙ ap (λ (q : CfgPoint). start_bytes F (point_at F i) ++ close_bytes (absorbs F i) q (visited_block F i).term) p, omega (arith, n, point_low (point_at F i) (small i h)))
    part_is true e =
        let g = word_goes F i e (λ z. used (word ∙ z)) in
        let from = goes_from F i g.1 in
        let low : Small g.0 = subst Small (sym from.2) (small from.0 (omega (arith, from.1))) in
        let n : s - 1 ≡ point_number g.0 = omega (arith, word, g.2) in
        let p : g.0 ≡ point_of (s - 1) = sym (ap point_of n ∙ point_back g.0 low) in
        (part_goes i g.0 g.1 ∙ ap (λ (q : CfgPoint). close_bytes (absorbs F i) q (visited_block F i).term) p, omega (arith, n, point_low g.0 low))

-- ---- a point by its number

-- with what a point's name begins, its number among those of its kind, and the side
abbrev pub side_bytes : List ℕ → ℕ → List ℕ
side_bytes k x = k ++ (digits (x / 2) ++ cond (eqb (x % 2) 0) (bytes "+") (bytes "-"))

by_side : (k : List ℕ) (a b : ℕ → CfgPoint) → ((n : ℕ) → point_bytes (a n) ≡ k ++ (digits n ++ bytes "+")) → ((n : ℕ) → point_bytes (b n) ≡ k ++ (digits n ++ bytes "-"))
    → (x : ℕ) (t : Bool) → point_bytes (cond t (a (x / 2)) (b (x / 2))) ≡ k ++ (digits (x / 2) ++ cond t (bytes "+") (bytes "-"))
by_side k a b e f x true = e (x / 2)
by_side k a b e f x false = f (x / 2)

side_is : (x : ℕ) (t : Bool) → ltb x node_base ≡ t → point_bytes (point_of x) ≡ cond t (side_bytes (bytes " r") x) (side_bytes (bytes " n") (x - node_base))
unfolding point_of
side_is x t e = ap (λ (t : Bool). point_bytes (cond t region node)) e ∙ go t
  where
    region : CfgPoint
    region = cond (eqb (x % 2) 0) (region_entry (x / 2)) (region_exit (x / 2))

    node : CfgPoint
    node = cond (eqb ((x - node_base) % 2) 0) (node_entry ((x - node_base) / 2)) (node_exit ((x - node_base) / 2))

    go : (t : Bool) → point_bytes (cond t region node) ≡ cond t (side_bytes (bytes " r") x) (side_bytes (bytes " n") (x - node_base))
    go true = by_side (bytes " r") region_entry region_exit (λ n. refl) (λ n. refl) x (eqb (x % 2) 0)
    go false = by_side (bytes " n") node_entry node_exit (λ n. refl) (λ n. refl) (x - node_base) (eqb ((x - node_base) % 2) 0)

pub side_region : (x : ℕ) → x < node_base → point_bytes (point_of x) ≡ side_bytes (bytes " r") x
side_region x h = side_is x true (lt-ltb x node_base h)

pub side_node : (x : ℕ) → node_base ≤ x → point_bytes (point_of x) ≡ side_bytes (bytes " n") (x - node_base)
side_node x h = side_is x false (le-ltb x node_base h)

-- ---- no body

-- a function without a body has no lines
pub lines_none : (F : Func) → length F.regions ≡ 0 → block_lines F ≡ []
unfolding block_lines kept absorb walk_of
lines_none F e = go F.regions refl e
  where
    go : (rs : List Region) → F.regions ≡ rs → length rs ≡ 0 → block_lines F ≡ []
    go [] q z = rw q
    go (r ∷ rs) q z = absurd (omega arith)

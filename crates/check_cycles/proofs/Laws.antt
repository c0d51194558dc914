-- What the proofs of this crate cite, over plain variables. Assumes nothing.
use mathlib.Core.Path.{◌≡◌, refl, sym, ap, subst, ◌∙◌}
use mathlib.Core.Bool.{Bool, true, false}
use mathlib.Core.List.{List, ◌++◌}
use Prim.Native.Nat.{ℕ, suc, ◌+◌, ◌-◌, ◌/◌, ◌%◌, ◌≤◌, ◌<◌}
use native.Mathlib.Decide.{ℕ_discrete}
use native.Mathlib.Omega.{arith}
use lib.Dec.{eqb}
use lib.ListN.{length, set, length-set}
use borrow.Author.Tests.{eqb-true, eqb-false}
use Rattle.general_laws.specs.Lists.{gather}
use Rattle.func.specs.Layout.{node_refs, child_refs, regions, nodes}
use Rattle.func.specs.Tables.{word}
use Rattle.work.specs.Layout.{stamps_at, work_need}
use Rattle.general_laws.specs.Tests.{split}
use Rattle.check_marks.specs.Test.{pool_numbers, child_refs_in, kids, parent_in, acyclic}
use Rattle.check_marks.specs.Marks.{ClearBelow, mark_all, mark_done, mark_append, numbers_first, numbers_next, numbers_done, parent_table, table_is, parent_low}
use Rattle.check_cycles.specs.Stamps.{parent, stamp, OutwardEnd, Way, free, Stamped, Climbed, way_one, way_on, way_out_law, out_root, found_cycle, all_clean, acyclic_same, stamped_same, free_low, free_less, stamp_same, stamp_other, parent_other}

-- the loop over a region's nodes
module _ (w : List ℕ) (v : ℕ) where
  pub adopt_first : (r n a : ℕ) (u : List ℕ) → n ≡ word regions w r 1 % 4096 → a ≡ word regions w r 1 / 4096 → mark_all (kids w r) v u ≡ mark_all (gather (child_refs_in w) (pool_numbers node_refs w a (n - 0))) v u
  unfolding kids
  adopt_first r n a u e q =
      ap (λ (l : List ℕ). mark_all (gather (child_refs_in w) l) v u)
      (ap (λ (z : ℕ). pool_numbers node_refs w (word regions w r 1 / 4096) z) (sym e) ∙ numbers_first node_refs w (word regions w r 1 / 4096) a n q)

  pub adopt_turn : {y : List ℕ} (a b i n x at c : ℕ) (u t : List ℕ) → y ≡ mark_all (gather (child_refs_in w) (pool_numbers node_refs w a (n - i))) v u → i < n → b ≡ a + 1 → x ≡ word node_refs w a 0 → at ≡ word nodes w x 5 / 4096 + 0 → c ≡ word nodes w x 5 % 4096
      → t ≡ mark_all (pool_numbers child_refs w at c) v u
      → y ≡ mark_all (gather (child_refs_in w) (pool_numbers node_refs w b (n - (i + 1)))) v t
  adopt_turn a b i n x at c u t y h q e f g m =
      let rest = gather (child_refs_in w) (pool_numbers node_refs w b (n - (i + 1))) in
      let z : at ≡ word nodes w x 5 / 4096 = omega arith in
      y
      ∙ ap (λ (l : List ℕ). mark_all (gather (child_refs_in w) l) v u) (numbers_next node_refs w a b i n h q)
      ∙ ap (λ (y : ℕ). mark_all (child_refs_in w y ++ rest) v u) (sym e)
      ∙ mark_append (child_refs_in w x) rest v u
      ∙ ap (λ (l : List ℕ). mark_all rest v (mark_all l v u)) (sym (ap (λ (y : ℕ). pool_numbers child_refs w y c) z ∙ ap (pool_numbers child_refs w (word nodes w x 5 / 4096)) g))
      ∙ ap (mark_all rest v) (sym m)

  pub adopt_done : (a i n : ℕ) (u : List ℕ) → n ≤ i → mark_all (gather (child_refs_in w) (pool_numbers node_refs w a (n - i))) v u ≡ u
  adopt_done a i n u h = ap (λ (l : List ℕ). mark_all (gather (child_refs_in w) l) v u) (numbers_done node_refs w a i n h) ∙ mark_done v u

-- A climb from region r is at region `at`: from each region that it has stamped the way leads there, in no more steps than it stamped regions.
pub record Climb (p : ℕ → ℕ) (n r at : ℕ) (u : List ℕ) : Type 0 where
  pub few : n ≤ stamps_at
  pub size : work_need ≤ length u
  pub low : (c : ℕ) → c < n → p c ≤ n
  pub same : (c : ℕ) → c < n → parent u c ≡ p c
  pub here : at < n
  pub old : (c : ℕ) → c < n → stamp u c ≤ r + 1
  pub seen : (c : ℕ) → c < r → 0 < stamp u c
  pub start : (r ≡ at → ⊥) → 0 < stamp u r
  pub out : (c : ℕ) → c < n → 0 < stamp u c → stamp u c ≤ r → (j : ℕ) × OutwardEnd p c j
  pub back : (c : ℕ) → c < n → stamp u c ≡ r + 1 → (i : ℕ) × (0 < i) × (i + free u n ≤ n) × Way p i c at

module _ (p : ℕ → ℕ) (n r : ℕ) where
  -- where the climb stops
  module _ (at : ℕ) (u : List ℕ) (k : Climb p n r at u) where
    -- where the region here has a way out, each region with a stamp has one
    climb_over : (j : ℕ) → OutwardEnd p at j → 0 < stamp u at → Stamped p n (r + 1) u
    climb_over j o h = record {
      few = k.few;
      size = k.size;
      low = k.low;
      same = k.same;
      old = k.old;
      seen = λ c l. split (ℕ_discrete c r) (λ e. subst (λ (x : ℕ). 0 < stamp u x) (sym e) root) (λ e. k.seen c (omega arith));
      out = λ c l z.
          split (ℕ_discrete (stamp u c) (r + 1)) (λ e. let w = k.back c l e in way_out_law p w.0 c at j w.3 o)
          (λ e. k.out c l z (omega (arith, k.old c l)));
    }
      where
        root : 0 < stamp u r
        root = split (ℕ_discrete r at) (λ e. subst (λ (x : ℕ). 0 < stamp u x) (sym e) h) k.start

    climb_met : stamp u at ≡ r + 1 → acyclic p n ≡ false
    climb_met e = let w = k.back at k.here e in found_cycle p n at w.0 k.here w.1 (omega (arith, w.2)) w.3

    climb_other : 0 < stamp u at → (stamp u at ≡ r + 1 → ⊥) → Stamped p n (r + 1) u
    climb_other h e = let o = k.out at k.here h (omega (arith, k.old at k.here)) in climb_over o.0 o.1 h

    -- the region has a stamp: which one tells
    pub climb_end : (stamp u at ≡ 0 → ⊥) → Climbed (eqb (stamp u at) (r + 1)) p n r u
    climb_end z = go (eqb (stamp u at) (r + 1)) refl
      where
        go : (b : Bool) → eqb (stamp u at) (r + 1) ≡ b → Climbed b p n r u
        go true q = climb_met (eqb-true (stamp u at) (r + 1) q)
        go false q = climb_other (omega arith) (eqb-false (stamp u at) (r + 1) q)

  -- where the region has no stamp yet, and gets it
  module _ (at : ℕ) (u : List ℕ) (k : Climb p n r at u) (z : stamp u at ≡ 0) where
    abbrev next : List ℕ
    next = set u (stamps_at + at) (r + 1)

    inside : stamps_at + at < length u
    inside = omega (arith, k.few, k.here, k.size)

    mine : stamp next at ≡ r + 1
    mine = stamp_same u at (r + 1) inside

    other : (c : ℕ) → (c ≡ at → ⊥) → stamp next c ≡ stamp u c
    other c e = stamp_other u at (r + 1) c e

    pub climb_less : free u n ≡ suc (free next n)
    climb_less = free_less u at (r + 1) n k.here inside z (omega arith)

    -- the region's parent, read after it was stamped
    pub climb_parent : (x : ℕ) → x ≡ parent next at → p at ≡ x
    climb_parent x e = sym (e ∙ parent_other u at (r + 1) at (omega (arith, k.few, k.here)) ∙ k.same at k.here)

    kept : (c : ℕ) → 0 < stamp u c → 0 < stamp next c
    kept c h = split (ℕ_discrete c at) (λ e. absurd (omega (arith, z, ap (stamp u) e))) (λ e. omega (arith, other c e))

    set_old : (c : ℕ) → c < n → stamp next c ≤ r + 1
    set_old c l = split (ℕ_discrete c at) (λ e. omega (arith, mine, ap (stamp next) e)) (λ e. omega (arith, other c e, k.old c l))

    set_start : 0 < stamp next r
    set_start = split (ℕ_discrete r at) (λ e. omega (arith, mine, ap (stamp next) e)) (λ e. kept r (k.start e))

    set_out : (c : ℕ) → c < n → 0 < stamp next c → stamp next c ≤ r → (j : ℕ) × OutwardEnd p c j
    set_out c l h o =
        split (ℕ_discrete c at) (λ e. absurd (omega (arith, mine, ap (stamp next) e)))
        (λ e. k.out c l (omega (arith, other c e)) (omega (arith, other c e)))

    pub climb_further : (s : ℕ) → p at ≡ suc s → Climb p n r s next
    climb_further s e = record {
      few = k.few;
      size = omega (arith, length-set u (stamps_at + at) (r + 1), k.size);
      low = k.low;
      same = λ c l. parent_other u at (r + 1) c (omega (arith, k.few)) ∙ k.same c l;
      here = omega (arith, k.low at k.here);
      old = set_old;
      seen = λ c l. kept c (k.seen c l);
      start = λ d. set_start;
      out = set_out;
      back = λ c l q.
          split (ℕ_discrete c at) (λ d. (1, omega arith, omega (arith, climb_less, free_low u n), subst (λ (x : ℕ). Way p 1 x s) (sym d) (way_one p at s e)))
          (λ d. let w = k.back c l (sym (other c d) ∙ q) in (suc w.0, omega arith, omega (arith, climb_less, w.2), way_on p w.0 c at s w.3 e));
    }

    pub climb_root : p at ≡ 0 → Stamped p n (r + 1) next
    climb_root e = record {
      few = k.few;
      size = omega (arith, length-set u (stamps_at + at) (r + 1), k.size);
      low = k.low;
      same = λ c l. parent_other u at (r + 1) c (omega (arith, k.few)) ∙ k.same c l;
      old = set_old;
      seen = λ c l. split (ℕ_discrete c r) (λ d. subst (λ (x : ℕ). 0 < stamp next x) (sym d) set_start) (λ d. kept c (k.seen c (omega arith)));
      out = λ c l h.
          split (ℕ_discrete c at) (λ d. (0, out_root p c (ap p d ∙ e)))
          (λ d.
          split (ℕ_discrete (stamp u c) (r + 1)) (λ q. let w = k.back c l q in way_out_law p w.0 c at 0 w.3 (out_root p at e))
          (λ q. k.out c l (omega (arith, other c d)) (omega (arith, k.old c l))));
    }

-- the climbs one after the other: u is what the work slice w has become
module _ (n r : ℕ) (w u : List ℕ) (s : Stamped (parent w) n r u) where
  still : (c : ℕ) → c < n → parent w c ≡ parent u c
  still c l = sym (s.same c l)

  small : (c : ℕ) → c < n → parent u c ≤ n
  small c l = omega (arith, s.same c l, s.low c l)

  pub around_own : Stamped (parent u) n r u
  around_own = stamped_same (parent w) (parent u) n still s.low r u s

  module _ (x : Bool) (t : List ℕ) (k : Climbed x (parent u) n r t) where
    pub around_hit : x ≡ true → false ≡ acyclic (parent w) n
    around_hit e = sym (acyclic_same (parent w) (parent u) n still s.low ∙ subst (λ (b : Bool). Climbed b (parent u) n r t) e k)

    pub around_next : x ≡ false → Stamped (parent w) n (r + 1) t
    around_next e = stamped_same (parent u) (parent w) n s.same small (r + 1) t (subst (λ (b : Bool). Climbed b (parent u) n r t) e k)

  pub around_done : n ≤ r → true ≡ acyclic (parent w) n
  around_done h = sym (all_clean (parent w) n (λ c l. s.out c l (s.seen c (omega arith))))

-- the table of parents
module _ (w : List ℕ) (n : ℕ) (t u : List ℕ) (h : n ≤ length t) (z : ClearBelow n t) (e : u ≡ parent_table w n t) where
  table_at : (c : ℕ) → c < n → parent u c ≡ parent_in w n c
  table_at c l = ap (λ (x : List ℕ). parent x c) e ∙ table_is w n n t h z c l

  pub table_low : (c : ℕ) → c < n → parent u c ≤ n
  table_low c l = omega (arith, table_at c l, parent_low w n c)

  -- also where the words behind it have changed
  pub table_acyclic : (v : List ℕ) → ((c : ℕ) → c < n → parent v c ≡ parent u c) → acyclic (parent v) n ≡ acyclic (parent_in w n) n
  table_acyclic v s = acyclic_same (parent v) (parent_in w n) n (λ c l. s c l ∙ table_at c l) (λ c l. omega (arith, s c l, table_low c l))

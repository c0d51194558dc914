-- The steps of the loops that count uses. Assumes nothing.
use mathlib.Core.Path.{◌≡◌, refl, sym, ap, subst, ◌∙◌}
use mathlib.Core.List.{List, [], ◌∷◌, ◌++◌, append_assoc, append-nil}
use Prim.Native.Nat.{ℕ, ◌+◌, ◌*◌, ◌≤◌, ◌<◌}
use native.Mathlib.Numerals.{add-one}
use native.Mathlib.Omega.{arith}
use lib.ListN.{get_or, length, length-append, length-take, set, take}
use lib.Seq.{get_or-set_other, take-length, take-suc}
use Rattle.lifting.specs.Ast.{Func}
use Rattle.lifting.specs.Points.{CfgPoint, region_entry}
use Rattle.lifting.specs.Walk.{walk_of}
use Rattle.lifting.specs.Absorb.{labels}
use Rattle.func.specs.Decode.{func_of}
use Rattle.general_laws.specs.Members.{in_get_or}
use Rattle.lifting_runs.proofs.Shaped.{walk_first}
use Rattle.work.specs.Layout.{uses_at, uses_end}
use Rattle.work.specs.Aside.{Aside, aside_none, aside_set, aside_more}
use Rattle.lifting_blocks.specs.Totals.{first_point, uses_of}
use Rattle.walk_points.specs.Numbers.{Small, point_low, point_number}
use Rattle.walk_points.specs.Walk.{Walkable}
use Rattle.terminators.specs.At.{visited_block}
use Rattle.terminators.specs.Visited.{Visited, label_small, visited_below}
use Rattle.block_uses.specs.Uses.{Tallied, Tally, tally_low, tally_more, uses_all, uses_next, uses_none, uses_to}

pub visited_aside : {w u v : List ℕ} {m : ℕ} → Visited w u m → Aside uses_at uses_end u v → length v ≡ length u → Visited w v m
visited_aside k s l = visited_below k (λ x h. s.before x (omega arith)) l

-- ---- the labels of one position, in the words w at the start

pub record Labelling (func w : List ℕ) (m i count j : ℕ) (work : List ℕ) : Type 0 where
  pub visited : Visited func work m
  pub inside : i < m
  pub all : count ≡ length (labels (visited_block (func_of func) i).term)
  pub most : count ≤ 4097
  pub below : j ≤ count
  pub few : length (uses_to (func_of func) i) ≤ 1 + 4097 * i
  pub tally : Tally (uses_to (func_of func) i ++ take j (labels (visited_block (func_of func) i).term)) work
  pub same : length work ≡ length w
  pub aside : Aside uses_at uses_end w work

pub label_first : {func w : List ℕ} {m i : ℕ} → Visited func w m → Tallied (func_of func) i w → i < m → {count : ℕ}
    → count ≡ length (labels (visited_block (func_of func) i).term) → count ≤ 4097
    → Labelling func w m i count 0 w
label_first {func} {w} {i = i} k t h e l = record {
  visited = k;
  inside = h;
  all = e;
  most = l;
  below = omega arith;
  few = t.few;
  tally = subst (λ (x : List CfgPoint). Tally x w) (sym (append-nil (uses_to (func_of func) i))) t.tally;
  same = refl;
  aside = aside_none uses_at uses_end w;
}

module _ {func w : List ℕ} {m i count j : ℕ} {work : List ℕ} (f : Labelling func w m i count j work) where
  abbrev F : Func
  F = func_of func

  abbrev ls : List CfgPoint
  ls = labels (visited_block F i).term

  module _ (h : j < count) where
    abbrev p : CfgPoint
    p = get_or ls j (region_entry 0)

    inner : j < length ls
    inner = omega (arith, f.all)

    small : Small p
    small = label_small f.visited i f.inside p (in_get_or ls j (region_entry 0) inner)

    pub label_room : {q : ℕ} → q ≡ point_number p → ((q < 512) × (uses_end ≤ length work)) × (get_or work (uses_at + q) 0 < 4000000)
    label_room {q} e =
        let low : q < 512 = omega (arith, point_low p small) in
        let n : length (take j ls) ≤ 4097 = omega (arith, take_low ls j, f.most) in (
          (low, omega (arith, f.visited.size)),
          omega
              (arith, tally_low f.tally q low, length-append (uses_to F i) (take j ls), f.few, f.inside, f.visited.few),
        )
      where
        take_low : {A : Type 0} (l : List A) (k : ℕ) → length (take k l) ≤ k
        take_low l k = omega (arith, length-take k l)

    pub label_next : {q : ℕ} → q ≡ point_number p → {out : List ℕ} → out ≡ set work (uses_at + q) (get_or work (uses_at + q) 0 + 1) → length out ≡ length work
        → Labelling func w m i count (j + 1) out
    label_next {q} e {out} eo l =
        let low : q < 512 = omega (arith, point_low p small) in
        let s : Aside uses_at uses_end w out = subst (Aside uses_at uses_end w) (sym eo)
        (aside_set f.aside (uses_at + q) (get_or work (uses_at + q) 0 + 1) (omega arith) (omega arith)) in
        let one : take (j + 1) ls ≡ take j ls ++ (p ∷ []) = ap (λ (n : ℕ). take n ls) (add-one j) ∙ take-suc ls j (region_entry 0) inner in
        let more : uses_to F i ++ take (j + 1) ls ≡ (uses_to F i ++ take j ls) ++ (p ∷ []) = ap (λ (x : List CfgPoint). uses_to F i ++ x) one ∙ sym
        (append_assoc (uses_to F i) (take j ls) (p ∷ [])) in
        let bumped : Tally ((uses_to F i ++ take j ls) ++ (p ∷ [])) (set work (uses_at + q) (get_or work (uses_at + q) 0 + 1)) =
        subst (λ (x : ℕ). Tally ((uses_to F i ++ take j ls) ++ (p ∷ [])) (set work (uses_at + x) (get_or work (uses_at + x) 0 + 1))) (sym e)
        (tally_more f.tally (omega (arith, f.visited.size)) p small) in
        record {
          visited =
              visited_below f.visited (λ x h. subst (λ (z : List ℕ). get_or z x 0 ≡ get_or work x 0) (sym eo)
              (get_or-set_other work (uses_at + q) x (get_or work (uses_at + q) 0 + 1) 0 (λ y. omega arith))) l;
          inside = f.inside;
          all = f.all;
          most = f.most;
          below = omega arith;
          few = f.few;
          tally = subst (λ (x : List CfgPoint). Tally x out) (sym more) (subst (Tally ((uses_to F i ++ take j ls) ++ (p ∷ []))) (sym eo) bumped);
          same = l ∙ f.same;
          aside = s;
        }

  pub label_done : count ≤ j → Tallied F (i + 1) work
  label_done h =
      let e : j ≡ length ls = omega (arith, f.below, f.all) in
      let whole : uses_to F (i + 1) ≡ uses_to F i ++ take j ls =
      uses_next F i (omega (arith, f.inside, f.visited.count)) ∙ sym
      (ap (λ (n : ℕ). uses_to F i ++ take n ls) e ∙ ap (λ (x : List CfgPoint). uses_to F i ++ x) (take-length ls)) in
      record {
        tally = subst (λ (x : List CfgPoint). Tally x work) (sym whole) f.tally;
        few = omega (arith, ap length (uses_next F i (omega (arith, f.inside, f.visited.count))), length-append (uses_to F i) ls, f.few, f.most, f.all);
      }

-- ---- all positions

pub record Counting (func w : List ℕ) (m i : ℕ) (work : List ℕ) : Type 0 where
  pub visited : Visited func work m
  pub below : i ≤ m
  pub tallied : Tallied (func_of func) i work
  pub same : length work ≡ length w
  pub aside : Aside uses_at uses_end w work

pub count_first : {func w : List ℕ} {m : ℕ} → Visited func w m → Tallied (func_of func) 0 w → Counting func w m 0 w
count_first {w = w} k t = record { visited = k; below = omega arith; tallied = t; same = refl; aside = aside_none uses_at uses_end w }

module _ {func w : List ℕ} {m i : ℕ} {work : List ℕ} (f : Counting func w m i work) where
  pub count_next : i < m → {out : List ℕ} → Tallied (func_of func) (i + 1) out → Aside uses_at uses_end work out → length out ≡ length work
      → Counting func w m (i + 1) out
  count_next h t s l =
      record { visited = visited_aside f.visited s l; below = omega arith; tallied = t; same = l ∙ f.same; aside = aside_more f.aside s }

  pub count_done : m ≤ i → Tally (uses_of (walk_of (func_of func))) work
  count_done h =
      subst (λ (x : List CfgPoint). Tally x work)
      (uses_all (func_of func) i (omega (arith, f.visited.count)) (omega (arith, f.below, f.visited.count))) f.tallied.tally

-- ---- the first point

pub first_room : {u : List ℕ} → Tally [] u → get_or u (uses_at + 0) 0 < 4000000
first_room t = omega (arith, tally_low t 0 (omega arith))

pub first_tallied : (w : List ℕ) → Walkable (func_of w) → {u : List ℕ} → Tally [] u → uses_end ≤ length u → {v : List ℕ}
    → v ≡ set u (uses_at + 0) (get_or u (uses_at + 0) 0 + 1)
    → Tallied (func_of w) 0 v
first_tallied w ok {u} t z {v} e =
    let one : uses_to (func_of w) 0 ≡ region_entry 0 ∷ [] = uses_none (func_of w) ∙ ap first_point (walk_first (func_of w) ok.shaped).1 in
    record {
      tally = subst (λ (x : List CfgPoint). Tally x v) (sym one) (subst (Tally (region_entry 0 ∷ [])) (sym e) (tally_more t z (region_entry 0) (omega arith)));
      few = omega (arith, ap length one);
    }

pub first_aside : {u v : List ℕ} (x : ℕ) → v ≡ set u (uses_at + 0) x → Aside uses_at uses_end u v
first_aside {u} x e = subst (Aside uses_at uses_end u) (sym e) (aside_set (aside_none uses_at uses_end u) (uses_at + 0) x (omega arith) (omega arith))

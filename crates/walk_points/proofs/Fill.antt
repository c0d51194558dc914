-- The steps of the loops that fill the table of parents, from the last node or child to the first. Assumes nothing.
use mathlib.Core.Path.{◌≡◌, refl, sym, ap, subst, ◌∙◌}
use mathlib.Core.List.{List, ◌∷◌}
use Prim.Native.Nat.{ℕ, ◌+◌, ◌-◌, ◌≤◌, ◌<◌}
use native.Mathlib.Omega.{arith}
use lib.ListN.{length, get_or, set, drop, length-set}
use lib.Seq.{drop-length}
use Rattle.lifting.specs.Parts.{node_of, children_of}
use Rattle.func.specs.Decode.{func_of}
use Rattle.func.specs.Tables.{Tables}
use Rattle.work.specs.Layout.{parents_at, parents_end}
use Rattle.work.specs.Aside.{Aside, aside_none, aside_set, aside_more}
use Rattle.walk_roots.specs.Tables.{RegionsNamed, drop_one}
use Rattle.walk_points.specs.Parents.{Parents, Empty, Adopted, Names, names_more, ParentsFrom, parents_first, parents_more}
use Rattle.walk_points.specs.Walk.{few_nodes}

-- the children of node n from child i on name it
pub record Adopting (func : List ℕ) (n : ℕ) (w : List ℕ) (i : ℕ) (work : List ℕ) : Type 0 where
  pub tables : Tables func
  pub named : RegionsNamed (func_of func)
  pub known : n < length (func_of func).nodes
  pub size : parents_end ≤ length w
  pub below : i ≤ length (children_of (node_of (func_of func) n))
  pub same : length work ≡ length w
  pub aside : Aside parents_at parents_end w work
  pub names : Names n (drop i (children_of (node_of (func_of func) n))) w work

pub adopt_first : {func w : List ℕ} {n : ℕ} → Tables func → RegionsNamed (func_of func) → n < length (func_of func).nodes → parents_end ≤ length w
    → {i : ℕ} → i ≡ length (children_of (node_of (func_of func) n)) → Adopting func n w i w
adopt_first {func} {w} {n} t h k z {i} e =
    let l : List ℕ = children_of (node_of (func_of func) n) in
    record {
      tables = t;
      named = h;
      known = k;
      size = z;
      below = omega arith;
      same = refl;
      aside = aside_none parents_at parents_end w;
      names = subst (λ (y : List ℕ). Names n y w w) (sym (ap (λ (j : ℕ). drop j l) e ∙ drop-length l)) (λ r g. refl);
    }

module _ {func : List ℕ} {n : ℕ} {w : List ℕ} {i : ℕ} {work : List ℕ} (f : Adopting func n w i work) where
  pub adopt_number : n < 128
  adopt_number = omega (arith, f.known, few_nodes f.tables)

  module _ (more : 0 < i) {r : ℕ} (er : r ≡ get_or (children_of (node_of (func_of func) n)) (i - 1) 0) where
    pub adopt_low : (r < 128) × (parents_end ≤ length work)
    adopt_low = omega (arith, f.named.child n (i - 1) f.known (omega (arith, f.below)), f.named.few, f.size, f.same)

    pub adopt_next : Adopting func n w (i - 1) (set work (parents_at + r) (n + 1))
    adopt_next =
        let l : List ℕ = children_of (node_of (func_of func) n) in
        let q : i - 1 + 1 ≡ i = omega arith in
        let one : drop (i - 1) l ≡ r ∷ drop i l =
        drop_one l (i - 1) 0 (omega (arith, f.below)) ∙ ap (λ (y : ℕ). y ∷ drop (i - 1 + 1) l) (sym er) ∙ ap (λ (j : ℕ). r ∷ drop j l) q in
        record {
          tables = f.tables;
          named = f.named;
          known = f.known;
          size = f.size;
          below = omega (arith, f.below);
          same = length-set work (parents_at + r) (n + 1) ∙ f.same;
          aside = aside_set f.aside (parents_at + r) (n + 1) (omega arith) (omega (arith, adopt_low.0));
          names = subst (λ (y : List ℕ). Names n y w (set work (parents_at + r) (n + 1))) (sym one) (names_more n (drop i l) w work f.names r adopt_low.0 adopt_low.1);
        }

  pub adopt_done : i ≤ 0 → Adopted (func_of func) n w work
  adopt_done z =
      let q : i ≡ 0 = omega arith in
      record { word = subst (λ (j : ℕ). Names n (drop j (children_of (node_of (func_of func) n))) w work) q f.names }

-- the nodes from node i on are in the table
pub record Filling (func w : List ℕ) (i : ℕ) (work : List ℕ) : Type 0 where
  pub tables : Tables func
  pub named : RegionsNamed (func_of func)
  pub size : parents_end ≤ length w
  pub below : i ≤ length (func_of func).nodes
  pub same : length work ≡ length w
  pub aside : Aside parents_at parents_end w work
  pub words : ParentsFrom (func_of func) i work

pub fill_first : {func w : List ℕ} → Tables func → RegionsNamed (func_of func) → parents_end ≤ length w → Empty w
    → {i : ℕ} → i ≡ length (func_of func).nodes → Filling func w i w
fill_first {func} {w} t h z b {i} e = record {
  tables = t;
  named = h;
  size = z;
  below = omega arith;
  same = refl;
  aside = aside_none parents_at parents_end w;
  words = subst (λ (k : ℕ). ParentsFrom (func_of func) k w) (sym e) (parents_first b (func_of func));
}

module _ {func w : List ℕ} {i : ℕ} {work : List ℕ} (f : Filling func w i work) where
  pub fill_next : 0 < i → {out : List ℕ} → Adopted (func_of func) (i - 1) work out → Aside parents_at parents_end work out → length out ≡ length work
      → Filling func w (i - 1) out
  fill_next more {out} a s l =
      let q : i ≡ i - 1 + 1 = omega arith in
      record {
        tables = f.tables;
        named = f.named;
        size = f.size;
        below = omega (arith, f.below);
        same = l ∙ f.same;
        aside = aside_more f.aside s;
        words = parents_more (func_of func) (i - 1) work out (omega (arith, f.below)) (subst (λ (k : ℕ). ParentsFrom (func_of func) k work) q f.words) a;
      }

  pub fill_done : i ≤ 0 → Parents (func_of func) work
  fill_done z =
      let q : i ≡ 0 = omega arith in
      record { word = subst (λ (k : ℕ). ParentsFrom (func_of func) k work) q f.words }

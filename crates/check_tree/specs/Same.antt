-- The test of the words is the definition, for every text that passes refusals 3 and 4. Assumes nothing.
--     tree_safe     the code stays within the slices
--     tree_test_law     what it computes is refusal 5
use Rattle.std.specs.Prelude.{◌≡◌, Bool, false, ◌&&◌, eqb, leb, ltb}
use Rattle.std.proofs.Math.Path.{refl, sym, ap}
use Rattle.std.proofs.Common.{subst, ◌∙◌, zero-add, arith, lit<}
use Rattle.std.proofs.Math.Bool.{true, not, cond}
use mathlib.Core.List.{List, [], ◌∷◌, ◌++◌, map}
use Rattle.std.proofs.Math.Option.{Option, none, some}
use Prim.Native.Nat.{ℕ, zero, suc, ◌+◌, ◌/◌, ◌%◌, ◌≤◌, ◌<◌, min}
use Rattle.std.proofs.Math.Decide.{ℕ_discrete}
use Rattle.std.proofs.Math.ListN.{length, get_or, get_or-map, get_or-eq_default}
use borrow.Author.Tests.{eqb-true, eq-eqb, leb-true, ltb-true, ltb-false}
use Rattle.general_laws.specs.Every.{every_at, every_split}
use Rattle.general_laws.specs.Tests.{both, split}
use Rattle.general_laws.specs.Lists.{tabulate, below, every, gather, within, distinct}
use Rattle.lifting.specs.Ast.{Func, block}
use Rattle.lifting.specs.Parts.{region_of, node_of, children_of, values, insts, node_list, op_list, child_list, ctrl_regions, required_ids}
use Rattle.lifting.specs.Limits.{max_opcode, within_limits}
use Rattle.lifting.specs.References.{named, inst_fits, control_holds, references_hold}
use Rattle.lifting.specs.Tree.{stands_once, holds, some_if, parent_below, parent_of, around, around_itself, roots_have_ways_out, is_tree}
use Rattle.general_laws.specs.Gather.{gather_same}
use Rattle.func.specs.Layout.{node_refs, op_refs, child_refs, regions, nodes, ops, ctrls, entry_room}
use Rattle.func.specs.Store.{count, view}
use Rattle.func.proofs.Store.{length_view}
use Rattle.func.specs.Keep.{one_word}
use Rattle.func.specs.Decode.{decode_number}
use Rattle.func.specs.Whole.{collections, sizes}
use Rattle.func.specs.Tables.{Listed, word}
use Rattle.func.proofs.Tables.{list_count, item_is}
use Rattle.func.specs.Stored.{Stored}
use Rattle.func.proofs.Stored.{stored_nodes, stored_children, unsingle}
use Rattle.general_laws.specs.Fewer.{fits}
use Rattle.check_marks.specs.Once.{Below, within_same, within_other, tab_same_test, once, once_back}
use Rattle.check_marks.specs.Test.{pool_numbers, refs, once_test, child_fit, child_test, node_refs_in, child_refs_in, kids, parent_in, climbs, acyclic, cycle_test, tree_test, Refs, TreeSafe}
use Rattle.check_marks.specs.Marks.{climb_out, climb_back, climb_on, climb_none}
use Rattle.check_marks.specs.Fit.{fit_low, fit_forth, fit_back}

-- a list that a function gives, place by place
tabulated : (f : ℕ → ℕ) (xs : List ℕ) (a : ℕ) → ((i j : ℕ) → i < length xs → j ≡ a + i → f j ≡ get_or xs i 0) → tabulate f a (length xs) ≡ xs
tabulated f [] a h = refl
tabulated f (x ∷ xs) a h =
    ap (λ (z : ℕ). z ∷ tabulate f (suc a) (length xs)) (h 0 a (omega arith) (omega arith))
    ∙ ap (λ (l : List ℕ). x ∷ l) (tabulated f xs (suc a) (λ i j l e. h (suc i) j (omega arith) (omega arith)))

-- a list of a row
listed_is : {p : ℕ} {xs w : List ℕ} {x : ℕ} → Listed p one_word xs w x → pool_numbers p w (x / 4096) (x % 4096) ≡ xs
unfolding pool_numbers
listed_is {p} {xs} {w} {x} s =
    ap (pool_numbers p w (x / 4096)) (list_count s)
    ∙ tabulated (λ i. word p w i 0) xs (x / 4096) (λ i j h e. ap (λ (z : List ℕ). get_or z 0 0) (item_is s i h 0 e))

-- without a row there is no list
row_none : (k p j : ℕ) (w : List ℕ) (n : ℕ) → count k w ≤ n → pool_numbers p w (word k w n j / 4096) (word k w n j % 4096) ≡ []
unfolding pool_numbers
row_none k p j w n h =
    let e : get_or (view k w) n [] ≡ [] = get_or-eq_default (view k w) [] {n = n} (omega (arith, length_view k w)) in
    ap (λ (z : List ℕ). pool_numbers p w (get_or z j 0 / 4096) (get_or z j 0 % 4096)) e

-- what the lines of a list give, by their numbers
gather_lines : {A : Type 0} (f : A → List ℕ) (xs : List A) (d : A) (a : ℕ) (g : ℕ → List ℕ) → ((i : ℕ) → i < length xs → g (a + i) ≡ f (get_or xs i d)) → gather g (tabulate (λ i. i) a (length xs)) ≡ gather f xs
gather_lines f [] d a g h = refl
gather_lines f (x ∷ xs) d a g h =
    let z : a ≡ a + 0 = omega arith in
    ap (λ (l : List ℕ). l ++ gather g (tabulate (λ i. i) (suc a) (length xs))) (ap g z ∙ h 0 (omega arith))
    ∙ ap (λ (l : List ℕ). f x ++ l) (gather_lines f xs d (suc a) g (λ i m. let y : suc a + i ≡ a + suc i = omega arith in ap g y ∙ h (suc i) (omega arith)))

within_append : (c : ℕ) (a b : List ℕ) → within c (a ++ b) ≡ cond (within c a) true (within c b)
within_append c [] b = refl
within_append c (x ∷ a) b =
    split (ℕ_discrete c x) (λ e. rw (within_same c x (a ++ b) e, within_same c x a e)) (λ e. rw (within_other c x (a ++ b) e, within_other c x a e, within_append c a b))

-- The parents of the text.
abbrev code : Option ℕ → ℕ
code none = 0
code (some s) = suc s

module _ (F : Func) where
  holds_is : (ns : List ℕ) (c : ℕ) → holds F ns c ≡ within c (gather (λ n. children_of (node_of F n)) ns)
  holds_is [] c = refl
  holds_is (n ∷ ns) c = rw (within_append c (children_of (node_of F n)) (gather (λ n. children_of (node_of F n)) ns), holds_is ns c)

  code_if : (b : Bool) (s : ℕ) (o : Option ℕ) → cond b (suc s) (code o) ≡ code (some_if F b s o)
  code_if true s o = refl
  code_if false s o = refl

  module _ (p : ℕ → ℕ) (e : (c : ℕ) → p c ≡ code (parent_of F c)) where
    climbs_are : (r k at : ℕ) → climbs p r k at ≡ within r (around F k at)
    climbs_are r zero at = climb_none p r at
    climbs_are r (suc k) at = go (parent_of F at) refl (λ s. climbs_are r k s)
      where
        go : (o : Option ℕ) → parent_of F at ≡ o → ((s : ℕ) → climbs p r k s ≡ within r (around F k s)) → climbs p r (suc k) at ≡ within r (elim o [ none ↦ [] | some s ↦ s ∷ around F k s ])
        go none q i = climb_out p r k at (e at ∙ ap code q)
        go (some s) q i =
            let y : p at ≡ suc s = e at ∙ ap code q in
            split (ℕ_discrete r s) (λ d. climb_back p r k at (y ∙ ap suc (sym d)) ∙ sym (within_same r s (around F k s) d))
            (λ d. climb_on p r k at s y d ∙ i s ∙ sym (within_other r s (around F k s) d))

-- two tests that pass together
and_true : (a b : Bool) → a ≡ true → b ≡ true → (a && b) ≡ true
and_true a b e f = rw (e, f)

same_test : (a b : Bool) → (a ≡ true → b ≡ true) → (b ≡ true → a ≡ true) → a ≡ b
same_test true b f g = sym (f refl)
same_test false true f g = g refl
same_test false false f g = refl

-- what refusals 3 and 4 say of the lines and of the references
limits : (F : Func) → within_limits F ≡ true → (length F.regions ≤ 128) × (length F.nodes ≤ 128) × (length F.ops ≤ 512)
unfolding within_limits
limits F e =
    let a = (both _ _ (both _ _ (both _ _ (both _ _ (both _ _ (both _ _ e).0).0).0).0).0).0 in
    let b = both _ _ a in
    let c = both _ _ b.0 in
    (leb-true _ _ c.0, leb-true _ _ c.1, leb-true _ _ b.1)

references : (F : Func) → references_hold F ≡ true → Below (length F.nodes) (node_list F) × Below (length F.ops) (op_list F) × Below (length F.regions) (child_list F)
unfolding references_hold
references F e =
    let a = every (named F) (values F) in
    let b = every (λ n. ltb n (length F.nodes)) (node_list F) in
    let c = every (λ i. ltb i (length F.ops)) (op_list F) in
    let d = every (λ r. ltb r (length F.regions)) (child_list F ++ ctrl_regions F) in
    let x = every (λ x. ltb 0 x) (required_ids F) in
    let y = distinct (map (λ c. c.id) F.consts) in
    let z = every (λ c. leb c.opcode max_opcode) F.consts in
    let u = every control_holds F.nodes in
    let q = both (a && b && c) d (both (a && b && c && d) x (both (a && b && c && d && x) y (both (a && b && c && d && x && y) z (both (a && b && c && d && x && y && z) u (both (a && b && c && d && x && y && z && u) (every inst_fits (insts F)) e).0).0).0).0).0 in
    let r = both (a && b) c q.0 in
    ((both a b r.0).1, r.1, (every_split (λ r. ltb r (length F.regions)) (child_list F) (ctrl_regions F) q.1).0)

module _ (F : Func) (w : List ℕ) (s : Stored F w) (l : within_limits F ≡ true) (h : references_hold F ≡ true) where
  region_count : count regions w ≡ length F.regions
  region_count = omega (arith, s.counts regions (lit< tt), limits F l)

  node_count : count nodes w ≡ length F.nodes
  node_count = omega (arith, s.counts nodes (lit< tt), limits F l)

  op_count : count ops w ≡ length F.ops
  op_count = omega (arith, s.counts ops (lit< tt), limits F l)

  -- a pool of references that is within its room
  module _ (k : ℕ) (xs : List ℕ) (b : k < 9) (z : get_or (sizes F) k 0 ≡ length xs) (v : get_or (collections F) k [] ≡ map one_word xs) where
    ref_count : count k w ≡ min (length xs) (entry_room k + 1)
    ref_count = s.counts k (omega arith) ∙ ap (λ (n : ℕ). min n (entry_room k + 1)) z

    ref_at : count k w ≤ entry_room k → (j : ℕ) → word k w j 0 ≡ get_or xs j 0
    ref_at f j =
        sym (get_or-map decode_number (view k w) j [])
        ∙ ap (λ (x : List (List ℕ)). get_or (map decode_number x) j 0) (s.views k b (omega (arith, ref_count)) ∙ v)
        ∙ ap (λ (x : List ℕ). get_or x j 0) (unsingle xs)

    refs_are : count k w ≤ entry_room k → refs k w ≡ xs
    unfolding pool_numbers
    refs_are f =
        let e : count k w ≡ length xs = omega (arith, ref_count) in
        ap (pool_numbers k w 0) e ∙ tabulated (λ i. word k w i 0) xs 0 (λ i j m q. ref_at f j ∙ ap (λ (n : ℕ). get_or xs n 0) (omega arith))

    refs_named : (p : ℕ) → count p w ≤ entry_room k → Below (count p w) xs → Refs k p w
    refs_named p o c = record {
      low = o;
      named = λ f i m. subst (λ x. x < count p w) (sym (ref_at f i)) (ltb-true _ _ (every_at (λ x. ltb x (count p w)) xs c i 0 (omega (arith, ref_count))));
    }

  child_refs_count : count child_refs w ≡ min (length (child_list F)) 129
  child_refs_count = omega (arith, ref_count child_refs (child_list F) (lit< tt) refl refl)

  -- every reference names something
  node_below : Below (count nodes w) (node_list F)
  node_below = subst (λ n. Below n (node_list F)) (sym node_count) (references F h).0

  op_below : Below (count ops w) (op_list F)
  op_below = subst (λ n. Below n (op_list F)) (sym op_count) (references F h).1

  child_below : Below (count regions w) (child_list F)
  child_below = subst (λ n. Below n (child_list F)) (sym region_count) (references F h).2

  children_are : count child_refs w ≤ entry_room child_refs → (n : ℕ) → child_refs_in w n ≡ children_of (node_of F n)
  children_are g n = go (ltb n (count nodes w)) refl
    where
      go : (b : Bool) → ltb n (count nodes w) ≡ b → child_refs_in w n ≡ children_of (node_of F n)
      go true q = listed_is (stored_children s (omega (arith, node_count, limits F l)) n (omega (arith, node_count, ltb-true n (count nodes w) q)) g)
      go false q =
          row_none nodes child_refs 5 w n (ltb-false n (count nodes w) q)
          ∙ ap children_of (sym (get_or-eq_default F.nodes _ {n = n} (omega (arith, node_count, ltb-false n (count nodes w) q))))

  -- the children of the nodes one after the other
  lists_are : count child_refs w ≤ entry_room child_refs → gather (child_refs_in w) (below (count nodes w)) ≡ refs child_refs w
  unfolding child_list
  lists_are g =
      gather_same (child_refs_in w) (λ n. children_of (node_of F n)) (children_are g) (below (count nodes w))
      ∙ ap (λ (n : ℕ). gather (λ n. children_of (node_of F n)) (below n)) node_count
      ∙ gather_lines children_of F.nodes (block []) 0 (λ n. children_of (node_of F n)) (λ i h. ap (λ (k : ℕ). children_of (node_of F k)) (zero-add i))
      ∙ sym (refs_are child_refs (child_list F) (lit< tt) refl refl g)

  pub tree_safe : TreeSafe w
  tree_safe = record {
    size = s.size;
    region_room = omega (arith, region_count, limits F l);
    node_room = omega (arith, node_count, limits F l);
    node_refs_law = refs_named node_refs (node_list F) (lit< tt) refl refl nodes (omega (arith, node_count, limits F l)) node_below;
    op_refs_law = refs_named op_refs (op_list F) (lit< tt) refl refl ops (omega (arith, op_count, limits F l)) op_below;
    child_refs_law = refs_named child_refs (child_list F) (lit< tt) refl refl regions (omega (arith, region_count, limits F l)) child_below;
    region_runs = λ f r m. (stored_nodes s (omega (arith, region_count, limits F l)) r (omega (arith, region_count)) f).piece.within;
    node_lists = lists_are;
    node_runs = λ f n m. (stored_children s (omega (arith, node_count, limits F l)) n (omega (arith, node_count)) f).piece.within;
  }

  ctrl_count : count ctrls w ≡ min (length F.ctrls) 129
  ctrl_count = omega (arith, s.counts ctrls (lit< tt))

  -- the regions around a region
  module _ (f : count node_refs w ≤ entry_room node_refs) (g : count child_refs w ≤ entry_room child_refs) where
    kids_are : (r : ℕ) → r < length F.regions → kids w r ≡ gather (λ n. children_of (node_of F n)) (region_of F r).nodes
    unfolding kids
    kids_are r m =
        gather_same (child_refs_in w) (λ n. children_of (node_of F n)) (children_are g) (node_refs_in w r)
        ∙ ap (gather (λ n. children_of (node_of F n))) (listed_is (stored_nodes s tree_safe.region_room r m f))

    parent_is : (k : ℕ) → k ≤ length F.regions → (c : ℕ) → parent_in w k c ≡ code (parent_below F k c)
    unfolding parent_in
    parent_is zero m c = refl
    parent_is (suc k) m c =
        ap (λ (l : List ℕ). cond (within c l) (suc k) (parent_in w k c)) (kids_are k (omega arith))
        ∙ ap (λ (b : Bool). cond b (suc k) (parent_in w k c)) (sym (holds_is F (region_of F k).nodes c))
        ∙ ap (cond (holds F (region_of F k).nodes c) (suc k)) (parent_is k (omega arith) c)
        ∙ code_if F (holds F (region_of F k).nodes c) k (parent_below F k c)

    around_are : cycle_test w ≡ every (λ r. not (around_itself F r)) (below (length F.regions))
    around_are =
        ap (λ (n : ℕ). acyclic (parent_in w n) n) region_count
        ∙ tab_same_test (λ r. not (climbs (parent_in w (length F.regions)) r (length F.regions) r)) (λ r. not (around_itself F r)) 0 (length F.regions)
        (λ r m. ap not (climbs_are F (parent_in w (length F.regions)) (parent_is (length F.regions) (omega arith)) r (length F.regions) r))

  -- a pool in which each line stands once
  module _ (k p : ℕ) (xs : List ℕ) (m : k < 9) (z : get_or (sizes F) k 0 ≡ length xs) (v : get_or (collections F) k [] ≡ map one_word xs) (r : Refs k p w) (b : Below (count p w) xs) where
    once_forth : once_test k p w ≡ true → stands_once (count p w) xs ≡ true
    once_forth e =
        let q = both (eqb (count k w) (count p w)) (distinct (refs k w)) e in
        let c : count k w ≡ count p w = eqb-true (count k w) (count p w) q.0 in
        once_back (count p w) xs b (omega (arith, ref_count k xs m z v, r.low)) (ap distinct (sym (refs_are k xs m z v (omega (arith, r.low)))) ∙ q.1)

    once_from : stands_once (count p w) xs ≡ true → once_test k p w ≡ true
    once_from e =
        let q = once (count p w) xs b e in
        let c : count k w ≡ count p w = omega (arith, ref_count k xs m z v, r.low, q.0) in
        and_true (eqb (count k w) (count p w)) (distinct (refs k w)) (eq-eqb (count k w) (count p w) c) (ap distinct (refs_are k xs m z v (omega (arith, r.low))) ∙ q.1)

  -- the parts of the two tests
  abbrev once_nodes : Bool
  once_nodes = stands_once (length F.nodes) (node_list F)

  abbrev once_ops : Bool
  once_ops = stands_once (length F.ops) (op_list F)

  abbrev no_cycle : Bool
  no_cycle = every (λ r. not (around_itself F r)) (below (length F.regions))

  abbrev ways_out : Bool
  ways_out = roots_have_ways_out F.ctrls (child_list F) (length F.regions)

  fit_same : length (child_list F) ≡ count child_refs w → child_fit (length F.regions) (length (child_list F)) (count ctrls w) ≡ child_fit (count regions w) (count child_refs w) (count ctrls w)
  fit_same e = ap (λ (n : ℕ). child_fit n (length (child_list F)) (count ctrls w)) (sym region_count) ∙ ap (λ (c : ℕ). child_fit (count regions w) c (count ctrls w)) e

  tree_forth : tree_test w ≡ true → is_tree F ≡ true
  unfolding tree_test is_tree
  tree_forth e =
      let a = once_test node_refs nodes w in
      let b = once_test op_refs ops w in
      let t = tree_safe in
      let q = both (a && b && child_test w) (cycle_test w) e in
      let r = both (a && b) (child_test w) q.0 in
      let o = both a b r.0 in
      let k = both (child_fit (count regions w) (count child_refs w) (count ctrls w)) (distinct (0 ∷ refs child_refs w)) r.1 in
      let c : count child_refs w ≤ entry_room child_refs = omega (arith, fit_low (count regions w) (count child_refs w) (count ctrls w) k.0, t.child_refs_law.low) in
      let n : count node_refs w ≤ entry_room node_refs = omega (arith, t.node_refs_law.low, eqb-true (count node_refs w) (count nodes w) (both (eqb (count node_refs w) (count nodes w)) (distinct (refs node_refs w)) o.0).0) in
      let m : length (child_list F) ≡ count child_refs w = omega (arith, child_refs_count) in
      let d : distinct (0 ∷ child_list F) ≡ true = ap (λ (l : List ℕ). distinct (0 ∷ l)) (sym (refs_are child_refs (child_list F) (lit< tt) refl refl c)) ∙ k.1 in
      let z = both (not (within 0 (child_list F))) (distinct (child_list F)) d in
      and_true (once_nodes && once_ops && distinct (child_list F) && no_cycle && not (within 0 (child_list F))) ways_out
      (and_true (once_nodes && once_ops && distinct (child_list F) && no_cycle) (not (within 0 (child_list F)))
      (and_true (once_nodes && once_ops && distinct (child_list F)) no_cycle
      (and_true (once_nodes && once_ops) (distinct (child_list F))
      (and_true once_nodes once_ops
      (subst (λ x. stands_once x (node_list F) ≡ true) node_count (once_forth node_refs nodes (node_list F) (lit< tt) refl refl t.node_refs_law node_below o.0))
      (subst (λ x. stands_once x (op_list F) ≡ true) op_count (once_forth op_refs ops (op_list F) (lit< tt) refl refl t.op_refs_law op_below o.1)))
      z.1)
      (sym (around_are n c) ∙ q.1))
      z.0)
      (fit_back F.ctrls (length F.regions) (count ctrls w) (child_list F) ctrl_count (references F h).2 d (fit_same m ∙ k.0))

  tree_back : is_tree F ≡ true → tree_test w ≡ true
  unfolding tree_test is_tree
  tree_back e =
      let t = tree_safe in
      let q = both (once_nodes && once_ops && distinct (child_list F) && no_cycle && not (within 0 (child_list F))) ways_out e in
      let r = both (once_nodes && once_ops && distinct (child_list F) && no_cycle) (not (within 0 (child_list F))) q.0 in
      let o = both (once_nodes && once_ops && distinct (child_list F)) no_cycle r.0 in
      let k = both (once_nodes && once_ops) (distinct (child_list F)) o.0 in
      let j = both once_nodes once_ops k.0 in
      let d : distinct (0 ∷ child_list F) ≡ true = and_true (not (within 0 (child_list F))) (distinct (child_list F)) r.1 k.1 in
      let x : length (child_list F) ≤ length F.regions = fits (length F.regions) (child_list F) (references F h).2 k.1 in
      let m : length (child_list F) ≡ count child_refs w = omega (arith, child_refs_count, limits F l) in
      let c : count child_refs w ≤ entry_room child_refs = omega (arith, limits F l) in
      let a : once_test node_refs nodes w ≡ true = once_from node_refs nodes (node_list F) (lit< tt) refl refl t.node_refs_law node_below (subst (λ x. stands_once x (node_list F) ≡ true) (sym node_count) j.0) in
      let n : count node_refs w ≤ entry_room node_refs = omega (arith, t.node_refs_law.low, eqb-true (count node_refs w) (count nodes w) (both (eqb (count node_refs w) (count nodes w)) (distinct (refs node_refs w)) a).0) in
      and_true (once_test node_refs nodes w && once_test op_refs ops w && child_test w) (cycle_test w)
      (and_true (once_test node_refs nodes w && once_test op_refs ops w) (child_test w)
      (and_true (once_test node_refs nodes w) (once_test op_refs ops w) a
      (once_from op_refs ops (op_list F) (lit< tt) refl refl t.op_refs_law op_below (subst (λ x. stands_once x (op_list F) ≡ true) (sym op_count) j.1)))
      (and_true (child_fit (count regions w) (count child_refs w) (count ctrls w)) (distinct (0 ∷ refs child_refs w))
      (sym (fit_same m) ∙ fit_forth F.ctrls (length F.regions) (count ctrls w) (child_list F) ctrl_count (references F h).2 d q.1)
      (ap (λ (l : List ℕ). distinct (0 ∷ l)) (refs_are child_refs (child_list F) (lit< tt) refl refl c) ∙ d)))
      (around_are n c ∙ o.1)

  pub tree_test_law : tree_test w ≡ is_tree F
  tree_test_law = same_test (tree_test w) (is_tree F) tree_forth tree_back

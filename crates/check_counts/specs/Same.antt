-- The test of the words is the definition, for every text that passes refusals 3 to 5. Assumes nothing.
--     counts_safe     the code stays within the slice
--     counts_test_law     what it computes, with what the reader judged of ctrl lines, is refusal 6
use Rattle.std.specs.Prelude.{◌≡◌, Bool, false, not, ◌&&◌, ◌||◌, leb, get_or}
use Rattle.std.proofs.Math.Path.{refl, ap}
use Rattle.std.proofs.Common.{sym, subst, ◌∙◌, arith, lit<, eqb-true, eq-eqb, ne_eqb, leb-true, ltb-true}
use Rattle.std.proofs.Math.Bool.{true, cond, and_comm}
use mathlib.Core.List.{List, [], ◌∷◌, ◌++◌, map}
use Prim.Native.Nat.{ℕ, zero, suc, ◌+◌, ◌/◌, ◌≤◌, ◌<◌}
use Rattle.std.proofs.Math.Dec.{eqb, ltb}
use Rattle.std.proofs.Math.ListN.{length, get_or-map}
use Rattle.std.proofs.lemmas.Bool.{eqb-false}
use Rattle.general_laws.specs.Every.{every_at, every_parts, every_split}
use Rattle.lifting_runs.specs.StandsOnce.{stands_once_law}
use Rattle.general_laws.specs.Lists.{below, every, within, distinct}
use Rattle.lifting.specs.Ast.{bool_cond, spv_inst, Node, block, select, loop, exit, Region, ControlInst, Func}
use Rattle.lifting.specs.Parts.{region_of, node_of, children_of, outs_of, node_values, node_list, op_list, child_list, ctrl_regions, required_ids, insts}
use Rattle.lifting.specs.Parts as text
use Rattle.lifting.specs.Limits.{max_opcode, within_limits}
use Rattle.lifting.specs.References.{named, inst_fits, control_holds, references_hold}
use Rattle.lifting.specs.Tree.{stands_once, around_itself, roots_have_ways_out, is_tree}
use Rattle.lifting.specs.Counts.{is_exit, ends_in_exit, outs_fit, node_fits, edges_fit, body_outs, body_fits, counts_agree}
use Rattle.func.specs.Layout.{params, decls, values, node_refs, child_refs, regions, nodes, ctrls, entry_room}
use Rattle.func.specs.Store.{count, view}
use Rattle.func.specs.declared.NodeKind.TheVariants.{Loop}
use Rattle.func.specs.Keep.{one_word, node_number}
use Rattle.func.specs.Kinds.{node_kind, node_kind_from, node_kind_law}
use Rattle.func.specs.Decode.{decode_number}
use Rattle.func.specs.Whole.{collections, sizes}
use Rattle.func.specs.Tables.{Listed, word}
use Rattle.func.proofs.Tables.{list_count, item_is}
use Rattle.func.specs.Stored.{Stored}
use Rattle.func.proofs.Stored.{stored_nodes, ins_count, results_count, stored_kind, values_count, stored_children, outs_count, unsingle}
use Rattle.general_laws.specs.Tests.{every_all, both}
use Rattle.general_laws.specs.Fewer.{fewer_below, fits}
use Rattle.check_counts.specs.Numbered.{every_numbered}
use Rattle.check_counts.specs.Test.{ins_in, results_in, value_count_in, child_count_in, outs_in, child_in, node_in, kind_in, ends_at, ends_test, case_test, body_test, cases_test, node_kind_test, node_test, nodes_test, results_test, func_test, counts_test, CountsSafe}

-- What the earlier refusals say.
record Few (F : Func) : Type 0 where
  regions : length F.regions ≤ 128
  nodes : length F.nodes ≤ 128
  params : length F.params ≤ 64
  values : length (text.values F) ≤ 2048
  decls : length (text.decls F) ≤ 512

limits : (F : Func) → within_limits F ≡ true → Few F
unfolding within_limits
limits F e =
    let d = both _ _ (both _ _ (both _ _ e).0).0 in
    let v = both _ _ d.0 in
    let p = both _ _ v.0 in
    let n = both _ _ (both _ _ (both _ _ p.0).0).0 in
    record { regions = leb-true _ _ n.0; nodes = leb-true _ _ n.1; params = leb-true _ _ p.1; values = leb-true _ _ v.1; decls = leb-true _ _ d.1 }

references : (F : Func) → references_hold F ≡ true → (every (λ x. ltb x (length F.regions)) (child_list F) ≡ true) × (every (λ n. ltb n (length F.nodes)) (node_list F) ≡ true)
unfolding references_hold
references F e =
    let a = every (named F) (text.values F) in
    let b = every (λ n. ltb n (length F.nodes)) (node_list F) in
    let c = every (λ i. ltb i (length F.ops)) (op_list F) in
    let d = every (λ r. ltb r (length F.regions)) (child_list F ++ ctrl_regions F) in
    let x = every (λ x. ltb 0 x) (required_ids F) in
    let y = distinct (map (λ c. c.id) F.consts) in
    let z = every (λ c. leb c.opcode max_opcode) F.consts in
    let u = every control_holds F.nodes in
    let q = both (a && b && c) d (both (a && b && c && d) x (both (a && b && c && d && x) y (both (a && b && c && d && x && y) z (both (a && b && c && d && x && y && z) u (both (a && b && c && d && x && y && z && u) (every inst_fits (insts F)) e).0).0).0).0).0 in
    ((every_split (λ r. ltb r (length F.regions)) (child_list F) (ctrl_regions F) q.1).0, (both a b (both (a && b) c q.0).0).1)

tree : (F : Func) → is_tree F ≡ true → (distinct (child_list F) ≡ true) × (stands_once (length F.nodes) (node_list F) ≡ true)
unfolding is_tree
tree F e =
    let a = stands_once (length F.nodes) (node_list F) in
    let b = stands_once (length F.ops) (op_list F) in
    let c = distinct (child_list F) in
    let d = every (λ r. not (around_itself F r)) (below (length F.regions)) in
    let f = not (within 0 (child_list F)) in
    let p = both (a && b) c (both (a && b && c) d (both (a && b && c && d) f (both (a && b && c && d && f) (roots_have_ways_out F.ctrls (child_list F) (length F.regions)) e).0).0).0 in
    (p.1, (both a b p.0).0)

eqb_more : (a b : ℕ) → eqb (suc a) (b + 1) ≡ eqb a b
eqb_more a b = go (eqb a b) refl
  where
    go : (t : Bool) → eqb a b ≡ t → eqb (suc a) (b + 1) ≡ t
    go true e = eq-eqb (suc a) (b + 1) (omega (arith, eqb-true a b e))
    go false e = ne_eqb (suc a) (b + 1) (λ q. eqb-false a b e (omega arith))

-- a loop has a body
loop_body : (g : Node) → node_kind g ≡ Loop → 0 < length (children_of g)
loop_body (block is) e = cc
loop_body (select bool_cond v cs ds u) e = cc
loop_body (select (spv_inst i) v cs ds u) e = cc
loop_body (loop b c vs u) e = omega arith
loop_body (exit i vs) e = cc

-- an exit's number is 4
exit_number : (g : Node) → eqb (node_number g) 4 ≡ is_exit g
exit_number (block is) = refl
exit_number (select bool_cond v cs ds u) = refl
exit_number (select (spv_inst i) v cs ds u) = refl
exit_number (loop b c vs u) = refl
exit_number (exit i vs) = refl

-- the last of k + 1 nodes
ends_some : (F : Func) (k : ℕ) (l : List ℕ) → length l ≡ suc k → is_exit (node_of F (get_or l k 0)) ≡ ends_in_exit F l
ends_some F k [] e = absurd (omega arith)
ends_some F zero (n ∷ []) e = refl
ends_some F (suc k) (n ∷ []) e = absurd (omega arith)
ends_some F zero (n ∷ m ∷ l) e = absurd (omega arith)
ends_some F (suc k) (n ∷ m ∷ l) e = ends_some F k (m ∷ l) (omega arith)

module _ (F : Func) (w : List ℕ) (s : Stored F w) (l : within_limits F ≡ true) (h : references_hold F ≡ true) (t : is_tree F ≡ true) where
  region_count : count regions w ≡ length F.regions
  region_count = omega (arith, s.counts regions (lit< tt), (limits F l).regions)

  node_count : count nodes w ≡ length F.nodes
  node_count = omega (arith, s.counts nodes (lit< tt), (limits F l).nodes)

  param_count : count params w ≡ length F.params
  param_count = omega (arith, s.counts params (lit< tt), (limits F l).params)

  region_room : count regions w ≤ entry_room regions
  region_room = omega (arith, region_count, (limits F l).regions)

  node_room : count nodes w ≤ entry_room nodes
  node_room = omega (arith, node_count, (limits F l).nodes)

  value_room : count values w ≤ entry_room values
  value_room = omega (arith, s.counts values (lit< tt), (limits F l).values)

  decl_room : count decls w ≤ entry_room decls
  decl_room = omega (arith, s.counts decls (lit< tt), (limits F l).decls)

  -- a pool of references, of which there are few enough
  module _ (k : ℕ) (xs : List ℕ) (b : k < 9) (z : get_or (sizes F) k 0 ≡ length xs) (v : get_or (collections F) k [] ≡ map one_word xs) (few : length xs ≤ entry_room k) where
    ref_count : count k w ≡ length xs
    ref_count = omega (arith, s.counts k (omega arith), few)

    ref_room : count k w ≤ entry_room k
    ref_room = omega (arith, ref_count)

    ref_at : (j : ℕ) → word k w j 0 ≡ get_or xs j 0
    ref_at j =
        sym (get_or-map decode_number (view k w) j [])
        ∙ ap (λ (x : List (List ℕ)). get_or (map decode_number x) j 0) (s.views k b (omega arith) ∙ v)
        ∙ ap (λ (x : List ℕ). get_or x j 0) (unsingle xs)

    -- each names one of so many
    ref_low : (n : ℕ) → every (λ x. ltb x n) xs ≡ true → (i : ℕ) → i < count k w → word k w i 0 < n
    ref_low n low i m = subst (λ x. x < n) (sym (ref_at i)) (ltb-true (get_or xs i 0) n (every_at (λ x. ltb x n) xs low i 0 (omega (arith, ref_count))))

  kind_is : (n : ℕ) → n < length F.nodes → kind_in w n ≡ node_kind (node_of F n)
  kind_is n m = ap node_kind_from (stored_kind s node_room n m) ∙ node_kind_law (node_of F n)

  children_few : length (child_list F) ≤ entry_room child_refs
  children_few = omega (arith, fits (length F.regions) (child_list F) (references F h).0 (tree F t).0, (limits F l).regions)

  child_room : count child_refs w ≤ entry_room child_refs
  child_room = ref_room child_refs (child_list F) (lit< tt) refl refl children_few

  nodes_few : length (node_list F) ≤ entry_room node_refs
  nodes_few =
      let low = every_all (λ n. ltb n (length F.nodes)) (λ n. n < length F.nodes) (λ n e. ltb-true n (length F.nodes) e) (node_list F) (references F h).1 in
      omega (arith, fewer_below (length F.nodes) (node_list F) (stands_once_law (length F.nodes) (node_list F) (tree F t).1 low) low, (limits F l).nodes)

  listed_room : count node_refs w ≤ entry_room node_refs
  listed_room = ref_room node_refs (node_list F) (lit< tt) refl refl nodes_few

  nodes_of : (r : ℕ) → r < length F.regions → Listed node_refs one_word (region_of F r).nodes w (word regions w r 1)
  nodes_of r m = stored_nodes s region_room r m listed_room

  kids : (n : ℕ) → n < length F.nodes → Listed child_refs one_word (children_of (node_of F n)) w (word nodes w n 5)
  kids n m = stored_children s node_room n m child_room

  pub counts_safe : CountsSafe w
  counts_safe = record {
    size = s.size;
    region_room = region_room;
    node_room = node_room;
    child_room = child_room;
    child_runs = λ n m. (kids n (omega (arith, node_count))).piece.within;
    child_low = λ i m. omega (arith, region_count, ref_low child_refs (child_list F) (lit< tt) refl refl children_few (length F.regions) (references F h).0 i m);
    loop_child = λ n m e. body n (omega (arith, node_count)) e;
    ref_room = listed_room;
    region_runs = λ r m. (nodes_of r (omega (arith, region_count))).piece.within;
    node_low = λ i m. omega (arith, node_count, ref_low node_refs (node_list F) (lit< tt) refl refl nodes_few (length F.nodes) (references F h).1 i m);
  }
    where
      body : (n : ℕ) → n < length F.nodes → kind_in w n ≡ Loop → 0 < child_count_in w n
      body n m e = omega (arith, list_count (kids n m), loop_body (node_of F n) (sym (kind_is n m) ∙ e))

  -- a region's counts
  ins_are : (c : ℕ) → c < length F.regions → ins_in w c ≡ length (region_of F c).ins
  ins_are c m = ins_count s region_room c m decl_room

  results_are : (c : ℕ) → c < length F.regions → results_in w c ≡ length (region_of F c).outs
  results_are c m = results_count s region_room c m value_room

  -- its last node is an exit
  ends_are : (c : ℕ) → c < length F.regions → ends_test w c ≡ ends_in_exit F (region_of F c).nodes
  unfolding node_list
  ends_are c m = ap (ends_at w c) (list_count (nodes_of c m)) ∙ by_length_law (length ns) refl
    where
      ns : List ℕ
      ns = (region_of F c).nodes

      low : every (λ x. ltb x (length F.nodes)) ns ≡ true
      low = every_at (λ (r : Region). every (λ x. ltb x (length F.nodes)) r.nodes) F.regions
          (every_parts (λ x. ltb x (length F.nodes)) (λ r. r.nodes) F.regions (references F h).1) c _ m

      by_length_law : (k : ℕ) → length ns ≡ k → ends_at w c k ≡ ends_in_exit F ns
      by_length_law zero e = none ns e
        where
          none : (l : List ℕ) → length l ≡ 0 → false ≡ ends_in_exit F l
          none [] e = refl
          none (x ∷ l) e = absurd (omega arith)
      by_length_law (suc k) e =
          let here : node_in w c k ≡ get_or ns k 0 = ap (λ (z : List ℕ). get_or z 0 0) (item_is (nodes_of c m) k (omega arith) 0 {at = word regions w c 1 / 4096 + k} refl) in
          let below : get_or ns k 0 < length F.nodes = ltb-true _ _ (every_at (λ x. ltb x (length F.nodes)) ns low k 0 (omega arith)) in
          ap (λ (x : ℕ). eqb (word nodes w x 0) 4) here ∙ ap (λ (x : ℕ). eqb x 4) (stored_kind s node_room (get_or ns k 0) below) ∙ exit_number (node_of F (get_or ns k 0)) ∙ ends_some F k ns e

  -- what the row of node n says, where the node is g
  record Row (n : ℕ) (g : Node) : Type 0 where
    kind : kind_in w n ≡ node_kind g
    vals : value_count_in w n ≡ length (node_values g)
    kids : Listed child_refs one_word (children_of g) w (word nodes w n 5)
    outs : outs_in w n ≡ length (outs_of g)
    low : every (λ x. ltb x (length F.regions)) (children_of g) ≡ true

  row : (n : ℕ) → n < length F.nodes → Row n (node_of F n)
  unfolding child_list
  row n m = record {
    kind = kind_is n m;
    vals = values_count s node_room n m value_room;
    kids = kids n m;
    outs = outs_count s node_room n m decl_room;
    low = every_at (λ (g : Node). every (λ x. ltb x (length F.regions)) (children_of g)) F.nodes
        (every_parts (λ x. ltb x (length F.regions)) children_of F.nodes (references F h).0) n _ m;
  }

  module _ {n : ℕ} {g : Node} (r : Row n g) where
    child_is : (i j : ℕ) → i < length (children_of g) → j ≡ i → child_in w n j ≡ get_or (children_of g) i 0
    child_is i j m e = ap (λ (z : List ℕ). get_or z 0 0) (item_is r.kids i m 0 {at = word nodes w n 5 / 4096 + j} (omega arith))

    child_low : (i : ℕ) → i < length (children_of g) → get_or (children_of g) i 0 < length F.regions
    child_low i m = ltb-true _ _ (every_at (λ x. ltb x (length F.regions)) (children_of g) r.low i 0 m)

    cases_are : cases_test w n ≡ every (λ c. eqb (length (region_of F c).ins) 0 && outs_fit F c (length (outs_of g))) (children_of g)
    unfolding cases_test
    cases_are =
        ap (λ (m : ℕ). every (λ i. case_test w n (child_in w n i)) (below m)) (list_count r.kids)
        ∙ every_numbered (λ i. case_test w n (child_in w n i)) (λ c. eqb (length (region_of F c).ins) 0 && outs_fit F c (length (outs_of g))) 0 (children_of g) 0
        (λ i j m e. ap (case_test w n) (child_is i j m (omega arith)) ∙ case (get_or (children_of g) i 0) (child_low i m))
      where
        case : (c : ℕ) → c < length F.regions → case_test w n c ≡ (eqb (length (region_of F c).ins) 0 && outs_fit F c (length (outs_of g)))
        case c m = λ k. eqb (ins_are c m k) 0 && (eqb (results_are c m k) (r.outs k) || (eqb (results_are c m k) 0 && ends_are c m k))

  node_is : (n : ℕ) (g : Node) → Row n g → node_test w n ≡ node_fits F g
  node_is n (block is) r = ap (node_kind_test w n) r.kind
  node_is n (select bool_cond v cs ds u) r =
      ap (node_kind_test w n) r.kind ∙ (λ k. eqb (list_count r.kids k) 2 && cases_are r k) ∙ and_comm (eqb (length cs) 2) _
  node_is n (select (spv_inst i) v cs ds u) r =
      ap (node_kind_test w n) r.kind ∙ (λ k. ltb 0 (list_count r.kids k) && cases_are r k) ∙ and_comm (ltb 0 (length cs)) _
  node_is n (loop b c vs u) r =
      let m : b < length F.regions = child_low r 0 (omega arith) in
      ap (node_kind_test w n) r.kind
      ∙ ap (body_test w n) (child_is r 0 0 (omega arith) refl)
      ∙ (λ k. eqb (r.vals k) (ins_are b m k + 1) && eqb (results_are b m k) (ins_are b m k))
      ∙ ap (λ (x : Bool). x && eqb (length (region_of F b).outs) (length (region_of F b).ins)) (eqb_more (length vs) (length (region_of F b).ins))
  node_is n (exit i vs) r = ap (node_kind_test w n) r.kind

  nodes_are : nodes_test w ≡ every (node_fits F) F.nodes
  unfolding nodes_test
  nodes_are =
      ap (λ (m : ℕ). every (node_test w) (below m)) node_count
      ∙ every_numbered (node_test w) (node_fits F) (block []) F.nodes 0
      (λ i j m e. ap (node_test w) (omega arith) ∙ node_is i (node_of F i) (row i m))

  -- the body
  results_fit : (n : ℕ) (cs : List (ℕ × ControlInst)) → F.ctrls ≡ cs → results_test w n ≡ body_outs cs n
  results_fit n [] e = ap (λ (b : Bool). cond b (leb n 1) (eqb n 0)) (eq-eqb (count ctrls w) 0 (omega (arith, s.counts ctrls (lit< tt), ap length e)))
  results_fit n (c ∷ cs) e = ap (λ (b : Bool). cond b (leb n 1) (eqb n 0)) (ne_eqb (count ctrls w) 0 (λ z. omega (arith, s.counts ctrls (lit< tt), ap length e)))

  func_is : (rs : List Region) → F.regions ≡ rs → func_test w ≡ body_fits rs (length F.params) F.ctrls
  unfolding func_test
  func_is [] e =
      ap (λ (b : Bool). cond b true (eqb (ins_in w 0) (count params w) && results_test w (results_in w 0)))
      (eq-eqb (count regions w) 0 (omega (arith, region_count, ap length e)))
  func_is (r ∷ rs) e =
      let m : 0 < length F.regions = omega (arith, ap length e) in
      let i : ins_in w 0 ≡ length r.ins = ins_are 0 m ∙ ap (λ (x : List Region). length (get_or x 0 (record { ins = []; nodes = []; outs = [] })).ins) e in
      let o : results_in w 0 ≡ length r.outs = results_are 0 m ∙ ap (λ (x : List Region). length (get_or x 0 (record { ins = []; nodes = []; outs = [] })).outs) e in
      ap (λ (b : Bool). cond b true (eqb (ins_in w 0) (count params w) && results_test w (results_in w 0)))
      (ne_eqb (count regions w) 0 (λ z. omega (arith, region_count)))
      ∙ (λ k. eqb (i k) (param_count k) && results_test w (o k))
      ∙ ap (λ (b : Bool). eqb (length r.ins) (length F.params) && b) (results_fit (length r.outs) F.ctrls refl)

pub counts_test_law : (F : Func) (w : List ℕ) (b : Bool) → Stored F w → within_limits F ≡ true → references_hold F ≡ true → is_tree F ≡ true → b ≡ every (λ c. edges_fit F c.1) F.ctrls
    → (counts_test w && b) ≡ counts_agree F
unfolding counts_test counts_agree
counts_test_law F w b s l h t e = λ k. func_is F w s l h t F.regions refl k && nodes_are F w s l h t k && e k

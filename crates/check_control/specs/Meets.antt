-- What the tables and the walk ask of a function holds of every text that passes refusal 4. Assumes nothing.
--     refer_below    every region that a node or a ctrl line names is one
--     named_from     so the function that stands in the function slice is as asked
use Rattle.std.specs.Prelude.{◌≡◌, Bool, true, ◌&&◌, List, [], ◌∷◌, ◌++◌, map, leb, ltb, length, get_or}
use Prim.Native.Nat.{ℕ, ◌<◌}
use Rattle.std.proofs.Common.{arith, lit<, ltb-true}
use Rattle.general_laws.specs.Every.{every_at, every_parts, every_split}
use Rattle.general_laws.specs.Tests.{both}
use Rattle.general_laws.specs.Lists.{every, distinct, keys}
use Rattle.lifting.specs.Ast.{block, Node, ControlInst, Func}
use Rattle.lifting.specs.Parts.{node_of, children_of, values, insts, node_list, op_list, child_list, ctrl_regions, required_ids}
use Rattle.lifting.specs.Limits.{max_opcode}
use Rattle.lifting.specs.References.{named, inst_fits, control_holds, references_hold}
use Rattle.func.specs.Layout.{regions}
use Rattle.func.specs.Decode.{func_of}
use Rattle.func.specs.Tables.{Tables, ctrl_line_of}
use Rattle.func.proofs.Tables.{region_total}
use Rattle.walk_roots.specs.Tables.{RegionsNamed, no_line}

pub refer_below : (F : Func) → references_hold F ≡ true → every (λ r. ltb r (length F.regions)) (child_list F ++ ctrl_regions F) ≡ true
unfolding references_hold
refer_below F e =
    let a = every (named F) (values F) in
    let b = every (λ n. ltb n (length F.nodes)) (node_list F) in
    let c = every (λ i. ltb i (length F.ops)) (op_list F) in
    let d = every (λ r. ltb r (length F.regions)) (child_list F ++ ctrl_regions F) in
    let x = every (λ x. ltb 0 x) (required_ids F) in
    let y = distinct (map (λ c. c.id) F.consts) in
    let z = every (λ c. leb c.opcode max_opcode) F.consts in
    let u = every control_holds F.nodes in
    (both (a && b && c) d (both (a && b && c && d) x (both (a && b && c && d && x) y (both (a && b && c && d && x && y) z (both (a && b && c && d && x && y && z) u (both (a && b && c && d && x && y && z && u) (every inst_fits (insts F)) e).0).0).0).0).0).1

module _ {w : List ℕ} (t : Tables w) (e : every (λ r. ltb r (length (func_of w).regions)) (child_list (func_of w) ++ ctrl_regions (func_of w)) ≡ true) where
  abbrev F : Func
  F = func_of w

  abbrev below : ℕ → Bool
  below r = ltb r (length F.regions)

  -- all that node n names
  children : (n : ℕ) → n < length F.nodes → every below (children_of (node_of F n)) ≡ true
  unfolding child_list
  children n h =
      every_at (λ (x : Node). every below (children_of x)) F.nodes
      (every_parts below children_of F.nodes (every_split below (child_list F) (ctrl_regions F) e).0) n (block []) h

  -- all that line c names
  line : (c : ℕ) → c < length F.ctrls → every below ((ctrl_line_of F c).0 ∷ ((ctrl_line_of F c).1.to ++ keys (ctrl_line_of F c).1.vals)) ≡ true
  unfolding ctrl_regions
  line c h =
      every_at (λ (x : ℕ × ControlInst). every below (x.0 ∷ (x.1.to ++ keys x.1.vals))) F.ctrls
      (every_parts below (λ (x : ℕ × ControlInst). x.0 ∷ (x.1.to ++ keys x.1.vals)) F.ctrls (every_split below (child_list F) (ctrl_regions F) e).1) c no_line h

  parts : (c : ℕ) → c < length F.ctrls → (below (ctrl_line_of F c).0 ≡ true) × (every below (ctrl_line_of F c).1.to ≡ true)
  parts c h =
      let p = both (below (ctrl_line_of F c).0) (every below ((ctrl_line_of F c).1.to ++ keys (ctrl_line_of F c).1.vals)) (line c h) in
      (p.0, (every_split below (ctrl_line_of F c).1.to (keys (ctrl_line_of F c).1.vals) p.1).0)

  pub named_from : RegionsNamed F
  named_from = record {
    few = omega (arith, region_total t, t.counts regions (lit< tt));
    child = λ n i h l. ltb-true (get_or (children_of (node_of F n)) i 0) (length F.regions) (every_at below (children_of (node_of F n)) (children n h) i 0 l);
    line = λ c h. ltb-true (ctrl_line_of F c).0 (length F.regions) (parts c h).0;
    target = λ c i h l. ltb-true (get_or (ctrl_line_of F c).1.to i 0) (length F.regions) (every_at below (ctrl_line_of F c).1.to (parts c h).1 i 0 l);
  }

-- in one step
pub named_refers : {w : List ℕ} → Tables w → references_hold (func_of w) ≡ true → RegionsNamed (func_of w)
named_refers {w} t e = named_from t (refer_below (func_of w) e)

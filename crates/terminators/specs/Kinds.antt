-- The code's points and ways out as lifting's. Assumes nothing.
--     merge_of_law       the merge of a way out by itself
use Rattle.std.specs.Prelude.{◌≡◌, refl, Option as Answer, Some, None, Bool, true, false, List, [], ◌∷◌, map, ℕ, ◌<◌, length}
use Rattle.std.proofs.Math.Option.{Option, none, some}
use Rattle.lifting.specs.Ast.{Func, Node, Value, block, select, loop, exit, branch}
use Rattle.lifting.specs.Parts.{children_of, node_of, node_values, region_of}
use Rattle.lifting.specs.Points.{CfgPoint, Merge, Terminator, loop_merge, no_merge, node_entry, node_exit, region_entry, region_exit, selection_merge, straight}
use Rattle.lifting.specs.Walk.{child_term, in_block, loop_term, root_term, some_vals, line_term}
use Rattle.func.specs.declared.CtrlKind.{CtrlKind}
use Rattle.func.specs.declared.CtrlKind.TheVariants.{Unreachable, Return as ReturnCtrl, Branch, Bool as BoolCtrl, Inst as InstCtrl, Exit as ExitCtrl}
use Rattle.func.specs.Decode.{first_value, func_of}
use Rattle.func.specs.Tables.{Tables, ctrl_line_of}
use Rattle.walk_points.specs.Numbers.{point_number, point_of}
use Rattle.walk_points.specs.Walk.{Walkable}
use Rattle.terminators.specs.declared.Point.{Point}
use Rattle.terminators.specs.declared.Point.TheVariants.{RegionEntry, RegionExit, NodeEntry, NodeExit}
use Rattle.terminators.specs.declared.TermKind.{TermKind}
use Rattle.terminators.specs.declared.TermKind.TheVariants.{Straight, Return, Line, Leave, Select, Loop, Join, Repeat, Test}

abbrev pub as_point : Point → CfgPoint
as_point (RegionEntry r) = region_entry r
as_point (RegionExit r) = region_exit r
as_point (NodeEntry n) = node_entry n
as_point (NodeExit n) = node_exit n

-- the only target of a way out that can be absorbed, as the code answers it: by its number
abbrev pub Sole : Type 0
Sole = Answer ℕ

abbrev pub as_sole : Option CfgPoint → Sole
as_sole none = None
as_sole (some p) = Some (point_number p)

abbrev pub merge_of : TermKind → Merge
merge_of (Straight q) = no_merge
merge_of (Return r) = no_merge
merge_of (Line c) = no_merge
merge_of (Leave n) = no_merge
merge_of (Select n u) = selection_merge (node_exit n) u
merge_of (Loop n b u) = loop_merge (node_exit n) (region_exit b) u
merge_of (Join n r) = no_merge
merge_of (Repeat n r) = no_merge
merge_of (Test n r) = no_merge

-- the control number of a merge, and 0 where there is none
abbrev pub merge_control : Merge → ℕ
merge_control no_merge = 0
merge_control (selection_merge a u) = u
merge_control (loop_merge a b u) = u

abbrev pub is_loop : Node → Bool
is_loop (block is) = false
is_loop (select k v cs ds u) = false
is_loop (loop b c is u) = true
is_loop (exit i vs) = false

abbrev pub is_branch : CtrlKind → Bool
is_branch Unreachable = false
is_branch ReturnCtrl = false
is_branch Branch = true
is_branch BoolCtrl = false
is_branch InstCtrl = false
is_branch ExitCtrl = false

-- the only target q of a region with the outputs vs, which takes no values along
abbrev pub bare_sole : ℕ → List Value → Sole
bare_sole q [] = Some q
bare_sole q (v ∷ vs) = None

module _ (F : Func) where
  -- out of region r of node n
  abbrev pub out_of : ℕ → ℕ → Terminator
  out_of n r = child_term F (node_of F n) n (region_of F r).outs

  -- the whole of the way out
  abbrev pub term_of : TermKind → Terminator
  term_of (Straight q) = straight (point_of q)
  term_of (Return r) = root_term F none r
  term_of (Line c) = line_term (ctrl_line_of F c).1
  term_of (Leave n) =
      record { attrs = 0; kind = (in_block F (node_of F n) n).term.kind; ins = node_values (node_of F n); targets = []; vals = []; merge = no_merge }
  term_of (Select n u) = record {
    attrs = 0;
    kind = (in_block F (node_of F n) n).term.kind;
    ins = node_values (node_of F n);
    targets = map region_entry (children_of (node_of F n));
    vals = [];
    merge = selection_merge (node_exit n) u;
  }
  term_of (Loop n b u) = record {
    attrs = 0;
    kind = branch;
    ins = [];
    targets = region_entry b ∷ [];
    vals = [];
    merge = loop_merge (node_exit n) (region_exit b) u;
  }
  term_of (Join n r) = record {
    attrs = 0;
    kind = branch;
    ins = [];
    targets = node_exit n ∷ [];
    vals = some_vals (node_exit n) (region_of F r).outs;
    merge = no_merge;
  }
  term_of (Repeat n r) = loop_term F true n (first_value (node_values (node_of F n))) (region_of F r).outs
  term_of (Test n r) = loop_term F false n (first_value (node_values (node_of F n))) (region_of F r).outs

  -- the regions, nodes and lines that it names are of the text
  abbrev pub KindFits : TermKind → Type 0
  KindFits (Straight q) = q < 512
  KindFits (Return r) = r < length F.regions
  KindFits (Line c) = c < length F.ctrls
  KindFits (Leave n) = n < length F.nodes
  KindFits (Select n u) = n < length F.nodes
  KindFits (Loop n b u) = (n < length F.nodes) × (b < length F.regions)
  KindFits (Join n r) = (n < length F.nodes) × (r < length F.regions)
  KindFits (Repeat n r) = (n < length F.nodes) × (r < length F.regions)
  KindFits (Test n r) = (n < length F.nodes) × (r < length F.regions)

  -- x is the way out t
  pub record TermIs (t : Terminator) (x : TermKind) : Type 0 where
    pub is : t ≡ term_of x
    pub fits : KindFits x

  pub merge_of_law : (x : TermKind) → (term_of x).merge ≡ merge_of x
  merge_of_law (Straight q) = refl
  merge_of_law (Return r) = refl
  merge_of_law (Line c) = refl
  merge_of_law (Leave n) = refl
  merge_of_law (Select n u) = refl
  merge_of_law (Loop n b u) = refl
  merge_of_law (Join n r) = refl
  merge_of_law (Repeat n r) = refl
  merge_of_law (Test n r) = refl

-- a way out of the function in the words w
pub record Known (w : List ℕ) (x : TermKind) : Type 0 where
  pub tables : Tables w
  pub walkable : Walkable (func_of w)
  pub fits : KindFits (func_of w) x

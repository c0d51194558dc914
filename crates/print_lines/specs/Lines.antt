-- The lines of a text: one for each kept block, or a refusal's. Definitions. Assumes nothing.
--     point_bytes, points_bytes          a point, and points one after the other
--     chain_of                          the points of the block that starts at a point
--     block_bytes, block_lines, blocks_bytes   a block's line, the lines of a function, and what is printed of a text
use Rattle.std.specs.Prelude.{cond, List, [], ◌∷◌, ◌++◌, ℕ}
use Rattle.lifting.specs.Bytes.{bytes}
use Rattle.lifting.specs.Digits.{digits}
use Rattle.general_laws.specs.Lists.{choose, gather}
use Rattle.lifting.specs.Ast.{Func}
use Rattle.lifting.specs.Points.{CfgPoint, region_entry, region_exit, node_entry, node_exit, eq_point, Terminator, BlockLifting, Table}
use Rattle.lifting.specs.Walk.{walk_of}
use Rattle.lifting.specs.Absorb.{merge_labels, use_count, kept}
use Rattle.lifting.specs.Answer.{Parsed, parsed, denied}
use Rattle.lifting_blocks.specs.Flat.{absorbs_first}
use Rattle.print_bytes.specs.Shown.{refused_bytes}
use Rattle.print_bytes.specs.Lines.{field_bytes}

-- `r3+` is region 3's entry, `r3-` its exit, `n2+` node 2's entry, `n2-` its exit; a space stands before each
abbrev pub point_bytes : CfgPoint → List ℕ
point_bytes (region_entry r) = bytes " r" ++ (digits r ++ bytes "+")
point_bytes (region_exit r) = bytes " r" ++ (digits r ++ bytes "-")
point_bytes (node_entry n) = bytes " n" ++ (digits n ++ bytes "+")
point_bytes (node_exit n) = bytes " n" ++ (digits n ++ bytes "-")

abbrev pub points_bytes : List CfgPoint → List ℕ
points_bytes l = gather point_bytes l

-- c counts the uses of a point
module _ (c : CfgPoint → ℕ) where
  -- the first point, and as long as each absorbs the next one, those behind it
  unfoldable pub absorbed_run : Table → List CfgPoint
  absorbed_run [] = []
  absorbed_run (x ∷ T) = x.0 ∷ cond (absorbs_first c x T) (absorbed_run T) []

  unfoldable pub run_from : CfgPoint → Table → List CfgPoint
  run_from p [] = []
  run_from p (x ∷ T) = choose (eq_point p x.0) (absorbed_run (x ∷ T)) (run_from p T)

module _ (F : Func) where
  -- the points of the block that starts at p: p, and those that it absorbs
  unfoldable pub chain_of : CfgPoint → List CfgPoint
  chain_of p = run_from (use_count (walk_of F)) p (walk_of F)

  -- `(block P (chain P..` and `) (uses N) (to P..) (merge P..))`, with byte 10
  unfoldable pub start_bytes : CfgPoint → List ℕ
  start_bytes p = bytes "(block" ++ (point_bytes p ++ (bytes " (chain" ++ points_bytes (chain_of p)))

  unfoldable pub end_bytes : CfgPoint → Terminator → List ℕ
  end_bytes p t =
      bytes ") (uses"
      ++ (field_bytes (use_count (walk_of F) p)
      ++ (bytes ") (to" ++ (points_bytes t.targets ++ (bytes ") (merge" ++ (points_bytes (merge_labels t.merge) ++ bytes "))\n")))))

  -- the line of a kept block, with the uses of its point and its own way out
  unfoldable pub block_bytes : CfgPoint × BlockLifting → List ℕ
  block_bytes x = start_bytes x.0 ++ end_bytes x.0 x.1.term

  unfoldable pub block_lines : List ℕ
  block_lines = gather block_bytes (kept (walk_of F))

-- the lines of a function, or the line of a refusal
unfoldable pub blocks_bytes : Parsed → List ℕ
blocks_bytes (parsed F) = block_lines F
blocks_bytes (denied n) = refused_bytes n

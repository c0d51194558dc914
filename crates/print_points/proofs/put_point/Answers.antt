-- Numbers below the nodes' base are regions' (`side_region`), and the others are nodes' (`side_node`).
use mathlib.Core.Path.{sym}
use native.Mathlib.Omega.{arith}
use Rattle.print_bytes.specs.Prints.{prints_same}
use Rattle.print_lines.specs.Positions.{side_region, side_node}
use Rattle.print_points.proofs.put_point.Goals as goal

pub returns-then-p-lt-NODE_BASE : goal.returns-then-p-lt-NODE_BASE
returns-then-p-lt-NODE_BASE c = prints_same c.put_side.ensures (sym (side_region c.args.p (omega arith)))

pub returns-else-p-lt-NODE_BASE : goal.returns-else-p-lt-NODE_BASE
returns-else-p-lt-NODE_BASE c = prints_same c.put_side-else-p-lt-NODE_BASE.ensures (sym (side_node c.args.p (omega arith)))

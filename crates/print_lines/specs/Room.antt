-- How many bytes are printed of a text at most, whatever the text: `proofs/Room` proves that no text has more. Definitions. Assumes nothing.
--     max_lines      the number of bytes
use Rattle.std.specs.Prelude.{ℕ, ◌+◌, ◌*◌}
use Rattle.lifting.specs.Limits.{max_nodes, max_regions, max_targets}

-- a point's name: a space, a letter, at most ten digits, and the side
abbrev pub name : ℕ
name = 13

-- what else stands in a block's line: `(block`, ` (chain`; `) (uses`, a space and at most ten digits, `) (to`, `) (merge`, `))` and byte 10
abbrev pub opened : ℕ
opened = 6 + 7

abbrev pub closed : ℕ
closed = 7 + 11 + 5 + 8 + 3

-- The most bytes of a text: 55,680. Each region and each node has two points, and each point has at most a line, where it stands first, and its
-- place in a chain. Targets and merge labels: of a region one at its entry, two at its exit and one where it is a child; of a node two at its
-- entry and one at its exit; and the targets of ctrl lines.
abbrev pub max_lines : ℕ
max_lines =
    (opened + name + name + closed) * (2 * max_regions + 2 * max_nodes)
    + name * ((1 + 2 + 1) * max_regions + (2 + 1) * max_nodes + max_targets)

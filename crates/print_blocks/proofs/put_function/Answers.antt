-- A function without a body has no lines (`lines_none`), and of another the blocks are laid out first, which is what the lines are put from
-- (`shows_blocks`).
use mathlib.Core.Path.{◌≡◌, sym, ◌∙◌}
use Prim.Native.Nat.{◌<◌}
use native.Mathlib.Omega.{arith}
use lib.ListN.{length}
use Rattle.func.specs.Decode.{func_of}
use Rattle.print_bytes.specs.Put.{put_bytes_none, put_bytes_same}
use Rattle.print_lines.specs.Positions.{lines_none}
use Rattle.print_blocks.specs.Stand.{shows_blocks, laid_none, laid_some}
use Rattle.print_blocks.proofs.put_function.Goals as goal

pub returns-then-region_total-eq0 : goal.returns-then-region_total-eq0
returns-then-region_total-eq0 c =
    let F = func_of c.args.func.now in
    let none : length F.regions ≡ 0 = sym c.region_total.ensures ∙ c.if-region_total-eq0.true in
    record { put_bytes = put_bytes_same (put_bytes_none (omega arith) (omega arith)) (sym (lines_none F none)); laid_out = laid_none F c.args.work.now c.args.work.now F.regions none }

pub invariant_of-visits : goal.invariant_of-visits
invariant_of-visits c = record { visited = ∣ c.blocks-count.ensures.visited ∣₁ }

pub invariant_of-put_lines : goal.invariant_of-put_lines
invariant_of-put_lines c =
    let s = shows_blocks c.blocks-count.ensures.visited c.blocks-count.ensures.block_words in
    record { counted = s.counted; absorbing = s.absorbing }

pub returns : goal.returns
returns c =
    let F = func_of c.args.func.now in
    let some : 0 < length F.regions = omega (arith, c.region_total.ensures, c.if-region_total-eq0.false) in
    record { put_bytes = c.put_lines.ensures; laid_out = laid_some F c.args.work.now _ F.regions some c.blocks-count.ensures.block_words c.blocks-count.ensures.work_len_unchanged }

-- From zeros the first point's use is counted, and then those of all positions; that is every use (`counted_all`), and no word outside the table
-- of uses is written.
use mathlib.Core.Path.{◌∙◌}
use native.Mathlib.Omega.{arith}
use Rattle.func.specs.Decode.{func_of}
use Rattle.work.specs.Aside.{aside_more}
use Rattle.block_uses.specs.Uses.{counted_all, tally_cleared}
use Rattle.block_uses.proofs.Counting.{first_aside, first_tallied, visited_aside}
use Rattle.block_uses.proofs.count_uses.Goals as goal

pub count_all-requires : goal.count_all-requires
count_all-requires c =
    record {
      visited = visited_aside (visited_aside c.requires c.clear.ensures.cleared.aside c.clear.ensures.work_len_unchanged) (first_aside _ c.bump.ensures.work_after) c.bump.ensures.work_len_unchanged;
      tallied = first_tallied c.args.func.now c.requires.walkable
          (tally_cleared c.clear.ensures.cleared) (omega (arith, c.requires.size, c.clear.ensures.work_len_unchanged)) c.bump.ensures.work_after;
    }

pub returns : goal.returns
returns c =
    let a = aside_more (aside_more c.clear.ensures.cleared.aside (first_aside _ c.bump.ensures.work_after)) c.count_all.ensures.aside in
    let l = c.count_all.ensures.work_len_unchanged ∙ c.bump.ensures.work_len_unchanged ∙ c.clear.ensures.work_len_unchanged in
    record { counted = counted_all (func_of c.args.func.now) c.count_all.ensures.tally; visited = visited_aside c.requires a l; aside = a; work_len_unchanged = l }

-- Entry i of pool k stands in the slice where the layout says, and word j of it so far behind (`word_is`).
use native.Mathlib.Omega.{arith}
use Rattle.func.proofs.Pools.{entry_words_law, entry_room_law}
use Rattle.func.proofs.Tables.{word_is}
use Rattle.func_pools.specs.Pools.{pool_number}
use Rattle.func_pools.proofs.word.Goals as goal

pub spot-at-requires : goal.spot-at-requires
spot-at-requires c = omega (arith, c.requires.within.fits, c.requires.within.below, entry_room_law (pool_number c.args.k))

pub overflow_add-result : goal.overflow_add-result
overflow_add-result c = omega (arith, entry_words_law (pool_number c.args.k), c.requires.within.size)

pub offset_bounds-func-at : goal.offset_bounds-func-at
offset_bounds-func-at c = omega (arith, entry_words_law (pool_number c.args.k), c.requires.within.size)

pub bounds-func-at : goal.bounds-func-at
bounds-func-at c = omega (arith, entry_words_law (pool_number c.args.k), c.requires.within.size)

pub returns : goal.returns
returns c = word_is c.requires.within c.args.j c.spot-at.result (omega (arith, entry_words_law (pool_number c.args.k))) c.spot-at.ensures.0

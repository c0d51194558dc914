-- The entry is placed, and its first word counts for the largest: the two steps of the definition.
use mathlib.Core.Path.{ap, ◌∙◌}
use native.Mathlib.Omega.{arith}
use lib.ListN.{get_or}
use borrow.Author.Rules.{rules}
use Rattle.func.proofs.Pools.{inside, entry_words_law}
use Rattle.func.specs.Store.{push, raise}
use Rattle.func_pools.specs.Pools.{pool_number, pool_bounded}
use Rattle.func_pools.proofs.push.Goals as goal

-- the entry has its pool's width
pub place-requires : goal.place-requires
place-requires c = (search rules, c.requires.1 ∙ entry_words_law (pool_number c.args.k))

pub bounds-e-0 : goal.bounds-e-0
bounds-e-0 c = omega (arith, (inside (pool_number c.args.k) (pool_bounded c.args.k)).wide, c.requires.1, entry_words_law (pool_number c.args.k))

pub returns : goal.returns
unfolding push
returns c = record { func_after = c.raise.ensures.func_after ∙ ap (raise (pool_number c.args.k) (get_or c.args.e.now 0 0)) c.place.ensures.func_after; func_len_unchanged = search rules }

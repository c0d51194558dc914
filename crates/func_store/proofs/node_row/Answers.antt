-- The cells of the row are the numbers that were given and, for each list, the run of its pool since the mark.
use Rattle.func.specs.Rows.{node_row}
use borrow.Author.Rules.{rules}
use Rattle.func_store.proofs.node_row.Goals as goal

pub returns : goal.returns
unfolding node_row
returns c = record { func_after = cc; func_len_unchanged = search rules }

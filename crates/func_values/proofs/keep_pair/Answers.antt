-- The kind is below 4 and the first number is cut at 65535, so that both fit one word; the entry is then that of `pair_words`.
use borrow.Author.Rules.{rules}
use Rattle.func_values.proofs.keep_pair.Goals as goal

pub returns : goal.returns
returns c = record { func_after = cc; func_len_unchanged = search rules }

-- The fifth word counts the immediates, of three words each, and the word behind them counts the ids; the sums are taken in 64 bits, where they
-- do not wrap.
use mathlib.Core.Path.{◌≡◌, ap, ◌∙◌}
use Prim.Native.Nat.{ℕ, ◌+◌, ◌*◌}
use native.Mathlib.Omega.{arith}
use lib.ListN.{get_or}
use Rattle.print_list.proofs.inst_size.Goals as goal

pub returns : goal.returns
returns c =
    let imms : c.word-imms.result ≡ get_or c.args.words.now 4 0 = c.word-imms.ensures in
    let ids : c.word.result ≡ get_or c.args.words.now (5 + 3 * get_or c.args.words.now 4 0) 0 =
    c.word.ensures ∙ ap (λ (n : ℕ). get_or c.args.words.now (5 + 3 * n) 0) imms in
    omega arith

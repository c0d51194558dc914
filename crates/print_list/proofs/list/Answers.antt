-- The loop's invariant: the lines of the instructions before the place `from` are put, and those of the words from there on are left. The measure
-- is how many words are left, which falls since an instruction has words.
use mathlib.Core.Path.{sym, ap, ◌∙◌}
use mathlib.Core.List.{List, ◌∷◌}
use Prim.Native.Nat.{ℕ}
use Rattle.std.proofs.Common.{arith, rules}
use lib.ListN.{drop}
use Rattle.lifting.specs.Words.{inst_from, list_from}
use Rattle.print_bytes.specs.Prints.{printing_start, printing_more, printing_done, prints_end, prints_same}
use Rattle.print_bytes.specs.Shown.{inst_bytes, list_bytes}
use Rattle.print_bytes.specs.Taken.{list_next, list_end}
use Rattle.print_bytes.specs.Taken.{tail_part}
use Rattle.print_list.proofs.list.Goals as goal

pub loop-from-init : goal.loop-from-init
loop-from-init c = (omega arith, printing_start (list_bytes (list_from c.args.words.now)) (omega arith))

pub loop-from-smaller : goal.loop-from-smaller
loop-from-smaller c = omega (arith, c.next_inst-from.ensures.moved, c.next_inst-from.ensures.fits)

pub loop-from-preserved : goal.loop-from-preserved
unfolding list_bytes
loop-from-preserved c =
    let inst = ap (λ (l : List ℕ). inst_bytes (inst_from l).got) (tail_part c.loop-from.from c.args.words.now) in
    let next = list_next c.args.words.now c.loop-from.from (omega arith) ∙ ap (λ (l : List ℕ). (inst_from (drop c.loop-from.from c.args.words.now)).got ∷ list_from l) (sym c.next_inst-from.ensures.same) in
    (c.next_inst-from.ensures.fits, printing_more c.loop-from.invariant.1 (prints_same c.put_inst.ensures inst) (ap list_bytes next))

pub returns : goal.returns
unfolding list_bytes
returns c = prints_end (printing_done c.loop-from.invariant.1 (ap list_bytes (list_end c.args.words.now c.loop-from.from (omega arith)))) (omega arith) (search rules)

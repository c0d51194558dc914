-- The reader's answer crosses as a number; it leaves the tables of a text in the function slice after 0 alone, and there they are cleared.
use mathlib.Core.Path.{◌≡◌, sym, ap, ◌∙◌}
use Prim.Native.Nat.{ℕ}
use native.Mathlib.Omega.{arith}
use lib.ListN.{length, replicate}
use Rattle.std.specs.Prelude.{Result}
use Rattle.refusals.specs.declared.Refusal.{Refusal}
use Rattle.lifting.specs.Answer as answer
use Rattle.reader.specs.Parse.{answer_of, func_after, work_after}
use Rattle.sighvona.specs.Numbers.{read_number_law, read_leaves, read_of}
use Rattle.sighvona.proofs.sighvona_read.Goals as goal

pub returns-in_default : goal.returns-in_default
returns-in_default c =
    let e = ap (λ (x : Result Unit Refusal). answer_of x c.parse-r.new.func) (sym c.in_default.is) ∙ c.parse-r.ensures.func_after in
    let l : length c.parse-r.new.func ≡ length c.args.func.now = omega arith in
    record { refusal = c.read_number.ensures ∙ read_number_law c.parse-r.result c.parse-r.new.func ∙ ap read_of c.parse-r.ensures.func_after; func_slice = c.clear_all.ensures ∙ ap (λ (n : ℕ). replicate n 0) l ∙ ap (λ (x : answer.Parsed). read_leaves x c.args.func.now) e; work_slice = c.parse-r.ensures.work_after ∙ ap (λ (x : answer.Parsed). work_after x c.args.work.now) (sym e) ∙ ap (λ (x : answer.Parsed). read_leaves x c.args.work.now) e }

pub returns : goal.returns
returns c =
    let e = ap (λ (x : Result Unit Refusal). answer_of x c.parse-r.new.func) (sym c.in-Err.is) ∙ c.parse-r.ensures.func_after in
    record { refusal = c.read_number-2.ensures ∙ read_number_law c.parse-r.result c.parse-r.new.func ∙ ap read_of c.parse-r.ensures.func_after; func_slice = c.parse-r.ensures.func_after_2 ∙ ap (λ (x : answer.Parsed). func_after x c.args.func.now) (sym e) ∙ ap (λ (x : answer.Parsed). read_leaves x c.args.func.now) e; work_slice = c.parse-r.ensures.work_after ∙ ap (λ (x : answer.Parsed). work_after x c.args.work.now) (sym e) ∙ ap (λ (x : answer.Parsed). read_leaves x c.args.work.now) e }

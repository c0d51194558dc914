-- Documents 01 and 02, 'When there is no list': the number of each refusal. Assumes nothing.
use Rattle.std.specs.Prelude.{ℕ}
use Rattle.refusals.specs.declared.Refusal.{Refusal}
use Rattle.refusals.specs.declared.Refusal.TheVariants.{Long, Forms, Limits, References, Tree, Counts, Control, Scratch, Ids, Values, Output, Targets}

-- what a caller is told of a refusal
abbrev pub refusal_number : Refusal → ℕ
refusal_number Long = 1
refusal_number Forms = 2
refusal_number Limits = 3
refusal_number References = 4
refusal_number Tree = 5
refusal_number Counts = 6
refusal_number Control = 7
refusal_number Scratch = 8
refusal_number Ids = 9
refusal_number Values = 10
refusal_number Output = 11
refusal_number Targets = 13

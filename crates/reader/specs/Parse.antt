-- What the reader answers and leaves, by lifting's `parse`: the parsed function or the number of the first refusal. Assumes nothing.
--     answer_of                  the reader's answer as that of `parse`
--     func_after, work_after      the scratch slices at the end
use Rattle.std.specs.Prelude.{◌≡◌, Bool, false, ◌&&◌, List, ℕ, ◌<◌, leb, eqb, length, get_or, replicate, Result, Ok, Err}
use Rattle.refusals.specs.declared.Refusal.{Refusal}
use Rattle.refusals.specs.declared.Refusal.TheVariants.{Scratch}
use Rattle.refusals.specs.Numbers.{refusal_number}
use Rattle.lifting.specs.Limits.{func_words, work_words, max_regions}
use Rattle.lifting.specs.Ast.{Func}
use Rattle.lifting.specs.Answer as answer
use Rattle.lifting.specs.Answer.{parsed, denied, checked, parse, zeros_unless8}
use Rattle.func.specs.Decode.{func_of}
use Rattle.func.specs.Keep.{keep_func}
use Rattle.func.specs.Whole.{empty_pools}

-- the function is the one that stands in the function slice
abbrev pub answer_of : Result Unit Refusal → List ℕ → answer.Parsed
answer_of (Ok u) w = parsed (func_of w)
answer_of (Err x) w = denied (refusal_number x)

abbrev pub func_after : answer.Parsed → List ℕ → List ℕ
func_after (parsed F) w = keep_func F (empty_pools w)
func_after (denied n) w = zeros_unless8 (eqb n (refusal_number Scratch)) w

abbrev pub work_after : answer.Parsed → List ℕ → List ℕ
work_after (parsed F) w = replicate (length w) 0
work_after (denied n) w = zeros_unless8 (eqb n (refusal_number Scratch)) w

-- no region has an entry in a ctrl line yet
pub record Unentered (w : List ℕ) : Type 0 where
  pub word : (i : ℕ) → i < max_regions → get_or w i 0 ≡ 0

abbrev pub enough_test : ℕ → ℕ → Bool
enough_test func work = leb func_words func && leb work_words work

-- the function slice is cleared after a refusal
abbrev pub kept_after : Result Unit Refusal → List ℕ → List ℕ
kept_after (Ok u) w = w
kept_after (Err x) w = replicate (length w) 0

-- what the text was judged to be: its function stands in the slice, stored from the words w on
pub record Holds (text : List ℕ) (n m : ℕ) (w v : List ℕ) : Type 0 where
  pub F : Func
  pub is : parse text n m ≡ parsed F
  pub passed : checked F ≡ parsed F
  pub func : v ≡ keep_func F w

abbrev pub Judges : Result Unit Refusal → List ℕ → ℕ → ℕ → List ℕ → List ℕ → Type 0
Judges (Ok u) text n m w v = Holds text n m w v
Judges (Err x) text n m w v = (parse text n m ≡ denied (refusal_number x)) × (eqb (refusal_number x) (refusal_number Scratch) ≡ false)

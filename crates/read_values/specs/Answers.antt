-- What an answer says was found, case by case: the value, by the definitions of the text. Assumes nothing.
use Rattle.std.proofs.Math.Option as found
use Rattle.std.proofs.Common.{inl, inr}
use Rattle.std.specs.Prelude.{Option, None, Some}
use Rattle.lifting.specs.Grammar.{ValueForm}
use Rattle.func.specs.declared.Val.{Val}
use Rattle.func.specs.declared.Val.TheVariants as value

-- the form of a value: which of the four, with its numbers
abbrev pub form_of : Val → ValueForm
form_of (value.Const n) = inl (inl (inl n))
form_of (value.Input r i) = inl (inl (inr (r, i)))
form_of (value.Output n i) = inl (inr (n, i))
form_of (value.Result i) = inr i

abbrev pub part_answer : Option Val → found.Option ValueForm
part_answer None = found.none
part_answer (Some v) = found.some (form_of v)

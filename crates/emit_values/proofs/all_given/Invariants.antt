-- The loop's invariant: all values have ids if those from the i-th on do. The measure is how many are left.
use Rattle.general_laws.specs.Lists.{every}
use Rattle.general_laws.specs.Every.{Rest}
use Rattle.lifting.specs.Parts.{values}
use Rattle.func.specs.Decode.{func_of}
use Rattle.emit_values.specs.Given.{is_given}
use Rattle.emit_values.proofs.all_given.Given as goal

abbrev pub invariant-loop-i : goal.invariant-loop-i
invariant-loop-i l = Rest (every (is_given (func_of l.func) l.first)) (values (func_of l.func)) 0 l.i

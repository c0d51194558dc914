-- The func line is the slice's first four words (`func_of`).
use mathlib.Core.Path.{refl}
use native.Mathlib.Omega.{arith}
use Rattle.func.specs.Decode.{func_of}
use Rattle.func_look.proofs.Function.head.Goals as goal

pub bounds-self-inside-0 : goal.bounds-self-inside-0
bounds-self-inside-0 c = omega (arith, c.self.invariant.size)

pub bounds-self-inside-1 : goal.bounds-self-inside-1
bounds-self-inside-1 c = omega (arith, c.self.invariant.size)

pub bounds-self-inside-2 : goal.bounds-self-inside-2
bounds-self-inside-2 c = omega (arith, c.self.invariant.size)

pub bounds-self-inside-3 : goal.bounds-self-inside-3
bounds-self-inside-3 c = omega (arith, c.self.invariant.size)

pub returns : goal.returns
unfolding func_of
returns c = rw (← c.self.view_is) (record { attrs = refl; ret = refl; ty = refl; control = refl })

-- What the proofs of this crate cite. Assumes nothing.
use mathlib.Core.Path.{◌≡◌, sym, ap, subst}
use mathlib.Core.Bool.{Bool, false, ◌&&◌}
use mathlib.Core.List.{List}
use Prim.Native.Nat.{ℕ, ◌≤◌, ◌<◌}
use native.Mathlib.Omega.{arith}
use lib.Dec.{leb}
use borrow.Author.Tests.{le-leb, lt-leb}
use Rattle.lifting.specs.Limits.{func_words, work_words}
use Rattle.func.specs.Whole.{Clear}
use Rattle.work.specs.Layout.{entered_at, entered_end}
use Rattle.work.specs.Aside.{Cleared}
use Rattle.reader.specs.Parse.{Unentered, enough_test}

-- the two tests of lengths
pub enough_no : {n : ℕ} (m : ℕ) → n < func_words → false ≡ enough_test n m
enough_no {n} m h = sym (ap (λ (b : Bool). b && leb work_words m) (lt-leb func_words n h))

pub enough_half : (n m : ℕ) → func_words ≤ n → leb work_words m ≡ enough_test n m
enough_half n m h = sym (ap (λ (b : Bool). b && leb work_words m) (le-leb func_words n h))

pub clear_as : {w u : List ℕ} → u ≡ w → Clear w → Clear u
clear_as e c = subst Clear (sym e) c

-- a table that was cleared
pub none_entered : {w u : List ℕ} → Cleared entered_at entered_end w u → Unentered u
none_entered k = record { word = λ i h. k.blank i (omega arith) h }

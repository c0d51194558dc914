-- What the accessors go by: words in which a function stands whole. Every pool is within its room, and each row says what its line of the
-- decoded function says. Definitions. Assumes nothing.
--     Tables     the words hold a function whole
--     Within     a row that may be read
--     Listed     a list in a pool
use Rattle.std.specs.Prelude.{◌≡◌, true}
use mathlib.Core.List.{List, [], ◌∷◌, map}
use Prim.Native.Nat.{ℕ, ◌≤◌, ◌<◌}
use Rattle.std.proofs.Math.ListN.{length, get_or}
use Rattle.general_laws.specs.Lists.{every}
use Rattle.lifting.specs.Ast.{Value, Op, Decl, ControlInst, Func, unreachable}
use Rattle.lifting.specs.Parts.{ctrl_insts}
use Rattle.lifting.specs.Parts as text
use Rattle.func.specs.Layout.{func_need, pool_total, values, entry_room}
use Rattle.func.specs.Store.{count, view}
use Rattle.func.specs.Lines.{Piece}
use Rattle.func.specs.Keep.{value_words, inst_opcode, op_number, op_first, op_second, ctrl_number}
use Rattle.func.specs.Decode.{func_of}
use Rattle.func.specs.Back.{Fit, first_fits, Rows}

pub record Tables (w : List ℕ) : Type 0 where
  pub size : func_need ≤ length w
  pub counts : Fit w
  pub rows : Rows (func_of w) w
  pub firsts : every first_fits (text.values (func_of w)) ≡ true
  pub pool : view values w ≡ map value_words (text.values (func_of w))

-- entry i of pool k may be read
pub record Within (k : ℕ) (w : List ℕ) (i : ℕ) : Type 0 where
  pub size : func_need ≤ length w
  pub pool : k < pool_total
  pub fits : count k w ≤ entry_room k
  pub below : i < count k w

-- word j of entry i of pool k
abbrev pub word : ℕ → List ℕ → ℕ → ℕ → ℕ
word k w i j = get_or (get_or (view k w) i []) j 0

-- the parameters and the ctrl lines by number
abbrev pub param_of : Func → ℕ → Decl
param_of F i = get_or F.params i (record { attrs = 0; type = 0 })

abbrev pub ctrl_line_of : Func → ℕ → ℕ × ControlInst
ctrl_line_of F i = get_or F.ctrls i (0, record { attrs = 0; kind = unreachable; ins = []; to = []; vals = [] })

-- entry e of ctrl line i
abbrev pub entry_of : Func → ℕ → ℕ → ℕ × List Value
entry_of F i e = get_or (ctrl_line_of F i).1.vals e (0, [])

-- the numbers of an op's row and of a ctrl line's
abbrev pub op_numbers : Op → List ℕ
op_numbers o = o.attrs ∷ o.type ∷ op_number o.kind ∷ op_first o.kind ∷ op_second o.kind ∷ []

abbrev pub ctrl_numbers : ℕ × ControlInst → List ℕ
ctrl_numbers c = c.0 ∷ c.1.attrs ∷ ctrl_number c.1.kind ∷ inst_opcode (ctrl_insts c.1.kind) ∷ []

-- the list xs stands, by the words f of its elements, in pool p at the run x
pub record Listed (p : ℕ) {A : Type 0} (f : A → List ℕ) (xs : List A) (w : List ℕ) (x : ℕ) : Type 0 where
  pub size : func_need ≤ length w
  pub fits : count p w ≤ entry_room p
  pub pool : p < pool_total
  pub piece : Piece p (map f xs) w x

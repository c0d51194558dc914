-- What the answers of this crate say was found, case by case, and the states that the code's variables are. Assumes nothing.
use Rattle.std.specs.Prelude.{Bool, List, ℕ, Option, None, Some}
use Rattle.lifting.specs.Digits.{Reading}
use Rattle.lifting.specs.Ast.{Value, Imm, ControlInstKind}
use Rattle.lifting.specs.Parts.{ctrl_insts}
use Rattle.func.specs.Store.{folds}
use Rattle.func.specs.Keep.{keep_imm, keep_value, keep_target, inst_imms}
use Rattle.check_ctrls.specs.declared.Judged.{Judged}
use Rattle.read_cursor.specs.Answers.{Missed}
use Rattle.read_cursor.specs.declared.Cursor.{Cursor}
use Rattle.read_lines.specs.Stores.{Stored}
use Rattle.check_edges.specs.Edges.{Edges}
use Rattle.read_ctrls.specs.Judge.{State}

-- what a function that reads and judges answers: the state behind what was stored is told by the answer, and of a miss nothing more is said
abbrev pub StoresWith : {A B S : Type 0} → (List ℕ → Reading A) → (A → S → S) → Cursor → Option (B × Cursor) → S → (B → S) → Type 0
StoresWith read f c None w after = Missed read c
StoresWith read f c (Some x) w after = Stored read f c x.1 w (after x.0)

-- the state of the entries of a line, and that of the lines
abbrev pub edges_state : List ℕ → List ℕ → Bool → Edges
edges_state w m b = record { func = w; marks = m; fit = b }

abbrev pub state_at : List ℕ → List ℕ → Judged → State
state_at w m j = record { func = w; marks = m; line = j.line; opcodes = j.opcodes; edges = j.edges }

-- the lists of a line
abbrev pub keep_forms : List Value × List ℕ → List ℕ → List ℕ
keep_forms x w = folds keep_target x.1 (folds keep_value x.0 w)

abbrev pub keep_inst_forms : List Imm × (List Value × List ℕ) → List ℕ → List ℕ
keep_inst_forms x w = keep_forms x.1 (folds keep_imm x.0 w)

abbrev pub keep_lists : ControlInstKind × (List Value × List ℕ) → List ℕ → List ℕ
keep_lists x w = keep_forms x.1 (folds keep_imm (inst_imms (ctrl_insts x.0)) w)

-- The lists and the entries are read one behind the other from the marks before each; the row and the judgement are then of what was read
-- (`line_stored`).
use mathlib.Core.Path.{refl, ◌∙◌}
use Prim.Native.Nat.{◌+◌}
use native.Mathlib.Omega.{arith}
use Rattle.read_ctrls.proofs.Laws.{stores_no}
use Rattle.read_ctrls.proofs.Ranges.{line_missed, line_unended, line_stored}
use borrow.Author.Rules.{rules}
use Rattle.read_ctrls.proofs.line.ctrl_line.Goals as goal

pub returns-in_err-c : goal.returns-in_err-c
returns-in_err-c c = record { stores = stores_no _ _ _ c.from_residual.ensures (line_missed c.args.head c.in_err-c.ensures.stores); func_len_unchanged = search rules; work_len_unchanged = search rules }

pub returns-in_err-fit : goal.returns-in_err-fit
returns-in_err-fit c = record { stores = stores_no _ _ _ c.from_residual-in_err-fit.ensures (line_unended c.args.head c.in_ok-c.ensures.stores c.in_err-fit.ensures.stores); func_len_unchanged = c.edges.ensures.func_len_unchanged ∙ c.lists.ensures.func_len_unchanged; work_len_unchanged = c.edges.ensures.work_len_unchanged }

pub line_end-requires : goal.line_end-requires
line_end-requires c = (omega (arith, c.edges.ensures.func_len_unchanged, c.lists.ensures.func_len_unchanged, c.requires.0), omega (arith, c.edges.ensures.work_len_unchanged, c.requires.1), c.requires.2)

pub shape_of-func : goal.shape_of-func
shape_of-func c = c.line_end.ensures.func_len_unchanged ∙ c.edges.ensures.func_len_unchanged ∙ c.lists.ensures.func_len_unchanged

pub returns : goal.returns
returns c = record { stores = line_stored c.args.head c.in_ok-c.ensures.stores (c.args.seen.line + 1) c.in_ok-fit.ensures.stores refl c.begin-start.ensures c.begin-end.ensures c.line_end.ensures.value c.line_end.ensures.func_after; func_len_unchanged = c.line_end.ensures.func_len_unchanged ∙ c.edges.ensures.func_len_unchanged ∙ c.lists.ensures.func_len_unchanged; work_len_unchanged = c.edges.ensures.work_len_unchanged }

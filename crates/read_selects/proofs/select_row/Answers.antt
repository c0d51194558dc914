-- The kind tells the number and the opcode of the row (`row_by_kind`).
use Rattle.read_lines.specs.Rows.{row_by_kind}
use borrow.Author.Rules.{rules}
use Rattle.read_selects.proofs.select_row.Goals as goal

pub returns-in-Bool : goal.returns-in-Bool
returns-in-Bool c = record { func_after = row_by_kind _ _ _ c.in-Bool.is c.node_row.ensures.func_after; func_len_unchanged = search rules }

pub returns-in-Inst : goal.returns-in-Inst
returns-in-Inst c = record { func_after = row_by_kind _ _ _ c.in-Inst.is c.node_row-in-Inst.ensures.func_after; func_len_unchanged = search rules }

-- A constant's entry is its id and its opcode (`const_is`).
use mathlib.Core.Path.{sym, ap, ◌∙◌}
use lib.Dec.{lit<}
use Rattle.lifting.specs.Ast.{Const}
use Rattle.func.proofs.Tables.{const_in, const_is}
use Rattle.func_look.proofs.Function.constant.Goals as goal

pub word-requires : goal.word-requires
word-requires c = record { within = const_in c.self.invariant c.args.i (rw (← c.self.view_is) at c.requires); j_bound = lit< tt }

pub word-requires-2 : goal.word-requires-2
word-requires-2 c = record { within = const_in c.self.invariant c.args.i (rw (← c.self.view_is) at c.requires); j_bound = lit< tt }

pub returns : goal.returns
returns c = rw (← c.self.view_is) (record {
  id = c.word.ensures ∙ sym (ap (λ (x : Const). x.id) (const_is c.self.invariant c.args.i));
  opcode = c.word-2.ensures ∙ sym (ap (λ (x : Const). x.opcode) (const_is c.self.invariant c.args.i));
})

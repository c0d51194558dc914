-- The loops' invariant: the children are all fresh if those that are left are, over what is marked by now.
use mathlib.Core.Path.{sym, ap, ◌∙◌}
use mathlib.Core.List.{List}
use Prim.Native.Nat.{ℕ, ◌+◌, ◌-◌, ◌/◌}
use native.Mathlib.Omega.{arith}
use Rattle.general_laws.specs.Lists.{gather, tabulate}
use Rattle.func.specs.Layout.{nodes}
use Rattle.func.specs.Tables.{word}
use Rattle.check_marks.specs.Test.{child_refs_in}
use Rattle.check_marks.specs.Marks.{fresh_marks, fresh_done, tab_done}
use Rattle.check_once.proofs.Laws.{children_done, child_hit, child_next}
use Rattle.check_once.proofs.one_parent.Goals as goal

pub children-preserved : goal.children-preserved
children-preserved c =
    let q = word nodes c.args.func.now.words.now c.nodes.n 5 / 4096 in (
      c.children.invariant.0,
      c.children.invariant.1
          ∙ child_next c.args.func.now.words.now (q + c.children.i) (q + (c.children.i + 1)) c.children.i c.row_count-m.result c.row_element-c.result (gather (child_refs_in c.args.func.now.words.now) (tabulate (λ k. k) (c.nodes.n + 1) (c.count-total.result - (c.nodes.n + 1)))) c.children.work (omega arith) (omega arith) c.row_element-c.ensures
          c.if-work-c-eq1.false,
    )

pub nodes-preserved : goal.nodes-preserved
nodes-preserved c = (
  c.children.invariant.0 ∙ c.nodes.invariant.0,
  c.nodes.invariant.1 ∙ c.children.invariant.1 ∙ children_done c.args.func.now.words.now (word nodes c.args.func.now.words.now c.nodes.n 5 / 4096 + c.children.i) c.row_count-m.result c.children.i (gather (child_refs_in c.args.func.now.words.now) (tabulate (λ k. k) (c.nodes.n + 1) (c.count-total.result - (c.nodes.n + 1)))) c.children.work (omega arith),
)

pub returns-after-nodes-clause-value : goal.returns-after-nodes-clause-value
returns-after-nodes-clause-value c =
    let e = tab_done (λ (k : ℕ). k) c.nodes.n c.nodes.n c.count-total.result (omega arith) in
    sym (c.nodes.invariant.1 ∙ ap (λ (l : List ℕ). fresh_marks (gather (child_refs_in c.args.func.now.words.now) l) c.nodes.work) e ∙ fresh_done c.nodes.work ∙ sym c.nodes.invariant.0)

pub returns-then-work-c-eq1-clause-value : goal.returns-then-work-c-eq1-clause-value
returns-then-work-c-eq1-clause-value c =
    let q = word nodes c.args.func.now.words.now c.nodes.n 5 / 4096 in
    sym
    (c.nodes.invariant.1
    ∙ c.children.invariant.1
    ∙ child_hit c.args.func.now.words.now (q + c.children.i) (q + (c.children.i + 1)) c.children.i c.row_count-m.result c.row_element-c.result (gather (child_refs_in c.args.func.now.words.now) (tabulate (λ k. k) (c.nodes.n + 1) (c.count-total.result - (c.nodes.n + 1)))) c.children.work (omega arith) (omega arith) c.row_element-c.ensures
    c.if-work-c-eq1.true)

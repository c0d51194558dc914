-- The loop stands before an element or the bracket, and what is still to be stored from there is what was to be stored from the start.
use Rattle.read_lines.specs.Stores.{along_more, along_end, along_wrong}
use Rattle.read_lines.specs.Elements.{listing}
use borrow.Author.Rules.{rules}
use Rattle.read_lines.proofs.elements.list.Goals as goal

pub returns-in-Some-clause-stores : goal.returns-in-Some-clause-stores
returns-in-Some-clause-stores c = along_end (listing c.args.what) c.loop-d.invariant c.in-Some.ensures

pub returns-in_default-element-clause-stores : goal.returns-in_default-element-clause-stores
returns-in_default-element-clause-stores c = along_wrong (listing c.args.what) c.loop-d.invariant c.in_default.ensures c.in_default-element.ensures.stores

pub loop-d-preserved : goal.loop-d-preserved
loop-d-preserved c = along_more (listing c.args.what) c.loop-d.invariant c.in-Some-element.ensures.stores (search rules)

-- The words of a whole list lie within the output slice, so that its part up to there is the list; a refusal's line is that of its number.
use mathlib.Core.Path.{sym, ap, subst, ◌∙◌}
use lib.Seq.{length-take-le}
use Rattle.std.specs.Prelude.{Result}
use Rattle.results.specs.declared.Lifted.{Lifted}
use Rattle.results.specs.declared.Unlifted.{Unlifted}
use Rattle.print_bytes.specs.Put.{put_bytes_same}
use Rattle.print_bytes.specs.Shown.{refused_bytes}
use Rattle.print_lifted.specs.Input.{InputStands, lifted_bytes}
use Rattle.print_lifted.proofs.put_lifted.Goals as goal

pub slice_bounds-list-end : goal.slice_bounds-list-end
slice_bounds-list-end c = sym (length-take-le _ c.args.out.now (subst (λ (x : Result Lifted Unlifted). InputStands x c.args.out.now) c.in-Ok.is c.requires))

pub returns-in-Ok : goal.returns-in-Ok
returns-in-Ok c = put_bytes_same c.list.ensures (sym (ap (λ (x : Result Lifted Unlifted). lifted_bytes x c.args.out.now) c.in-Ok.is))

pub returns-in-Err : goal.returns-in-Err
returns-in-Err c = put_bytes_same c.refused.ensures (ap refused_bytes c.from.ensures ∙ sym (ap (λ (x : Result Lifted Unlifted). lifted_bytes x c.args.out.now) c.in-Err.is))

-- What was read decides, or it is all.
use Rattle.std.proofs.lemmas.Result.{on_ok_weaker}
use Rattle.std.specs.Io.KnownBytes.{Appends}
use Rattle.print_command.specs.Decides.{printed_for_all}
use Rattle.print_command.proofs.run.Goals as goal

pub returns : goal.returns
returns g c = record {
  printed = on_ok_weaker c.print.result
      (printed_for_all c.args.command _ _ _ (Appends _ _) c.in_ok-n.ensures.bytes c.in_ok-n.ensures.decided)
      c.print.ensures.printed;
}

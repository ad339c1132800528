use Rattle.std.proofs.lemmas.Result.{IfOk-weaker}
use Rattle.cli.proofs.AppLemmas.{sub_added}
use Rattle.cli.proofs.building.add_subcommand.Goals as goal

pub returns-in-Ok : goal.returns-in-Ok
returns-in-Ok c app sub plain before built =
    IfOk-weaker c.subcommand.result _ _
    (λ new adds. sub_added app sub _ new _ plain before (rw c.in-Ok.is at built) adds) c.subcommand.ensures

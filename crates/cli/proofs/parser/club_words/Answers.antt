use Rattle.std.proofs.lemmas.Result.{IfOk-weaker}
use Rattle.cli.specs.App.{program_app}
use Rattle.cli.proofs.parser.club_words.Goals as goal

pub returns : goal.returns
returns c =
    let entries = c.in_ok-program-2.ensures program_app c.in_ok-program.ensures in
    IfOk-weaker c.with_files.result _ _ (λ built is. record { games = entries.games; names = entries.names; is = is })
    (c.with_files.ensures _
    (c.in_ok-program-6.ensures _
    (c.in_ok-program-5.ensures _ (c.in_ok-program-4.ensures _ (c.in_ok-program-3.ensures _ entries.is)))))

use Rattle.club_core.specs.ClubRules.{both}
use Rattle.club_core.proofs.Proved.{are_rules}
use Rattle.club_laws.proofs.ImportRepeats.{import-again}
use Rattle.club_laws.proofs.Repeats.{answers-again}
use Rattle.club_laws.proofs.laws.commands_are_idempotent.Goals as goal

pub returns : goal.returns
returns g c =
    let kinds = both g.D.Rules.rules g.S.Rules.rules g.D.Records.records g.S.Records.records in
    let draughts = g.met.D.Rules in
    let first =
    are_rules g.D.Rules.rules draughts.first_starts draughts.turn_passes draughts.same_is draughts.ends_at_limit in
    let shogi = g.met.S.Rules in
    let second = are_rules g.S.Rules.rules shogi.first_starts shogi.turn_passes shogi.same_is shogi.ends_at_limit in
    answers-again kinds first second
    (import-again kinds first second g.met.D.Records.reads_games g.met.S.Records.reads_games)

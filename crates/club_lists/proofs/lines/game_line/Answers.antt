use Rattle.std.proofs.Common.{subst, sym}
use Rattle.club_core.specs.internal.Answer.{members_of, events_of}
use Rattle.club_lists.specs.Lines.{IsGameState}
use Rattle.club_lists.specs.internal.SummaryViews.{summary_of}
use Rattle.club_lists.proofs.GameLines.{line_is}
use Rattle.club_lists.proofs.lines.game_line.Goals as goal

pub returns : goal.returns
returns c =
    let told = summary_of c.args.game.now in
    line_is (members_of c.args.members.now) (events_of c.args.events.now) told
    c.as_str.result.now c.game_text.result
    (subst (IsGameState (members_of c.args.members.now) told told.over) (sym c.as_str.ensures.value)
    c.in_ok-stands.ensures)
    c.game_text.ensures

use Rattle.std.proofs.Common.{ap, ◌∙◌}
use Rattle.club_core.specs.internal.Answer.{events_of, members_of}
use Rattle.club_lists.specs.Ended.{ended_games_json}
use Rattle.club_lists.specs.internal.SummaryViews.{summaries_of}
use Rattle.club_answers.proofs.lists.ended_games.Goals as goal

pub returns : goal.returns
returns c s moment read =
    let members = ap members_of c.deref-2.ensures.value ∙ read.members_are in
    let events = ap events_of c.deref-3.ensures.value ∙ read.events_are in
    let games = ap summaries_of c.deref-4.ensures.value ∙ read.games_are in (
      c.in-Some.name.now,
      rw (c.deref.ensures.value, read.members_are) at c.in-Some.ensures.some,
      c.in_ok-text.ensures
          ∙ (λ i. ended_games_json (members i) (events i) c.in-Some.name.now (read.moment_is i) (games i)),
    )

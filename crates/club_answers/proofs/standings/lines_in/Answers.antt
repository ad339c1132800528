use Rattle.std.proofs.Common.{◌≡◌, ◌∙◌, ap, arith, length, subst}
use Rattle.std.proofs.lemmas.List.{length-map}
use Rattle.cross_tables.specs.Field.{IsField}
use Rattle.club_core.specs.internal.Answer.{member_of}
use Rattle.club_lists.specs.Standings.{games_in_event}
use Rattle.club_lists.specs.internal.SummaryViews.{summaries_of}
use Rattle.club_answers.specs.Games.{game_summaries}
use Rattle.club_answers.proofs.standings.lines_in.Goals as goal

pub returns : goal.returns
returns c s moment read scored =
    let rows = c.args.scores.now in
    let lines = c.in_ok-lines.lines.items in
    let count : c.in-Ok.last ≡ length s.members =
    omega (
      arith,
      c.in-Ok.ensures,
      c.len.ensures,
      length-map c.args.club.now.members.items member_of,
      ap length read.members_are,
    ) in
    let games = c.deref-2.ensures.value
    ∙ (c.in_ok-games.ensures
    ∙ ap (games_in_event c.args.event) (ap summaries_of c.deref.ensures.value ∙ read.games_are)) in
    record {
      scores = rows;
      scores_are = scored;
      field_is = subst (λ last. IsField last rows (games_in_event c.args.event (game_summaries s)) lines) count
          (subst (λ games. IsField c.in-Ok.last rows games lines) games c.in_ok-lines.ensures.field);
    }

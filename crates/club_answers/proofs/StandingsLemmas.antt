-- The standings of an event are one text.
use Rattle.std.proofs.Common.{◌≡◌, ℕ, List, length, ap, sym, subst, ◌∙◌}
use Rattle.std.proofs.lemmas.Option.{same_Some}
use Rattle.cross_tables.specs.declared.field.FieldLine.{FieldLine}
use Rattle.cross_tables.specs.Field.{IsField}
use Rattle.cross_tables.proofs.Proved.{one-field}
use Rattle.club_lists.specs.Standings.{games_in_event, standings_json}
use Rattle.club_rows.specs.Club.{ClubState}
use Rattle.club_answers.specs.EventStandings.{AreStandings, IsStandingsText}
use Rattle.club_answers.specs.Games.{game_summaries}
use Rattle.club_answers.proofs.CrossTableLemmas.{scores_one}

lines_one : (s : ClubState) (event : ℕ) (lines others : List FieldLine) → AreStandings s event lines
    → AreStandings s event others → lines ≡ others
lines_one s event lines others one two =
    let games = games_in_event event (game_summaries s) in
    let scores = scores_one s event one.scores two.scores one.scores_are two.scores_are in
    one-field (length s.members) two.scores games lines others
    (subst (λ scores. IsField (length s.members) scores games lines) scores one.field_is) two.field_is

pub standings_one : (s : ClubState) (name text others : List ℕ) → IsStandingsText s name text
    → IsStandingsText s name others → text ≡ others
standings_one s name text others (first, at, lines, are, is) (second, also, more, these, so) =
    let same = same_Some first second (sym at ∙ also) in
    let lines_same = lines_one s second lines more (subst (λ event. AreStandings s event lines) same are) these in
    is ∙ (ap (standings_json s.members s.events name) lines_same ∙ sym so)

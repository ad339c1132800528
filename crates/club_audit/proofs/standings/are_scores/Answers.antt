use Rattle.std.proofs.Common.{sym}
use Rattle.std.specs.List.{flat_map}
use Rattle.club_rows.specs.Club.{both_games}
use Rattle.club_rows.specs.Scores.{meetings_in}
use Rattle.club_audit.proofs.StandingLemmas.{cleared, clearing, clears_alike}
use Rattle.club_audit.proofs.AuditLemmas.{club-told, club-few}
use Rattle.club_audit.proofs.standings.are_scores.Goals as goal

pub returns-clause-sound : goal.returns-clause-sound
returns-clause-sound c = λ yes s are.
    let ms = flat_map (meetings_in both_games) s.games in
    let sums = c.in_ok-standings.ensures ms (club-told s c.args.games.now are) (club-few s c.args.games.now are) in
    cleared ms c.args.rows.now (clears_alike _ _ sums c.args.rows.now (c.are_those.ensures.sound yes))

pub returns-clause-complete : goal.returns-clause-complete
returns-clause-complete c = λ s are all.
    let ms = flat_map (meetings_in both_games) s.games in
    let sums = c.in_ok-standings.ensures ms (club-told s c.args.games.now are) (club-few s c.args.games.now are) in
    c.are_those.ensures.complete
    (clears_alike _ _ (λ p. sym (sums p)) c.args.rows.now (clearing ms c.args.rows.now all))

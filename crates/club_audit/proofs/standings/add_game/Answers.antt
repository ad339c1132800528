use Rattle.std.proofs.Common.{◌<◌, ◌^◌, ◌++◌, ◌∷◌, [], length, subst, sym, ap}
use Rattle.std.specs.Prelude.{is_some}
use Rattle.std.proofs.lemmas.List.{append-nil}
use Rattle.club_rows.specs.Scores.{Meeting, own_first, own_second}
use Rattle.club_audit.specs.internal.Standings.{AreStandings}
use Rattle.club_rows.specs.internal.Pairs.{firsts_pair, seconds_pair}
use Rattle.club_rows.specs.declared.scores.OwnScore.{OwnScore}
use Rattle.club_rows.specs.declared.scores.Pair.{Pair}
use Rattle.club_audit.proofs.StandingLemmas.{both_added, told_none, told_some}
use Rattle.club_audit.proofs.standings.add_game.Goals as goal

abbrev meeting : Pair → OwnScore → Meeting
meeting pair own = record { pair = pair; score = own }

pub returns-in-None : goal.returns-in-None
returns-in-None c = λ ms own are told low.
    let none = told_none c.args.game.now own told (ap is_some c.in-None.is) in
    subst (λ o. AreStandings c.args.standings.now (ms ++ o)) (sym none)
    (subst (AreStandings c.args.standings.now) (sym (append-nil ms)) are)

pub returns-in_ok-add-in-Some-2 : goal.returns-in_ok-add-in-Some-2
returns-in_ok-add-in-Some-2 c = λ ms own are told low.
    let score = c.told_score-score.result in
    let own_is = told_some c.args.game.now own score told (ap is_some c.in-Some.is) c.told_score-score.ensures in
    let room = subst (λ o. length (ms ++ o) < 2 ^ 61) own_is low in
    let one = meeting (firsts_pair c.args.game.now) (own_first score) in
    let other = meeting (seconds_pair c.args.game.now) (own_second score) in
    let first = rw (c.firsts_pair.ensures, c.of_first.ensures) at (c.in_ok-add-in-Some.ensures ms) in
    let second = rw (c.seconds_pair.ensures, c.of_second.ensures) at (c.in_ok-add-in-Some-2.ensures (ms ++ one ∷ [])) in
    subst (λ o. AreStandings c.add-in-Some.new.standings (ms ++ o)) (sym own_is)
    (both_added c.args.standings.now c.add.new.standings c.add-in-Some.new.standings ms one other first second are room)

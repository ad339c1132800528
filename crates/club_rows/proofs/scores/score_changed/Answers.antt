use Rattle.std.proofs.Common.{refl}
use Rattle.club_rows.specs.internal.NextScores.{pair_of}
use Rattle.club_rows.specs.Scores.{own_first, own_second}
use Rattle.club_rows.proofs.ScoreAfter.{changed_many, changed_rows, of_first, of_second}
use Rattle.club_rows.proofs.scores.score_changed.Goals as goal

pub returns-in_err-first_row-clause-none : goal.returns-in_err-first_row-clause-none
returns-in_err-first_row-clause-none c =
    let p = c.args.pairing in
    λ none apart before after found.
    changed_many p.event p.first p.second c.args.old c.args.new apart before after (pair_of p.event p.first p.second)
    (own_first c.args.old) (own_first c.args.new) _ found.of_first
    (of_first p.event p.first p.second c.args.old apart)
    (rw (c.of_first.ensures, c.of_first-2.ensures) at (c.in_err-first_row.ensures.none refl))

pub returns-in_err-second_row-clause-none : goal.returns-in_err-second_row-clause-none
returns-in_err-second_row-clause-none c =
    let p = c.args.pairing in
    λ none apart before after found.
    changed_many p.event p.first p.second c.args.old c.args.new apart before after (pair_of p.event p.second p.first)
    (own_second c.args.old) (own_second c.args.new) _ found.of_second
    (of_second p.event p.first p.second c.args.old apart)
    (rw (c.of_second.ensures, c.of_second-2.ensures) at (c.in_err-second_row.ensures.none refl))

pub returns-clause-some : goal.returns-clause-some
returns-clause-some c =
    let p = c.args.pairing in
    λ apart. changed_rows p.event p.first p.second c.args.old c.args.new apart _ _ _
    (rw (c.pair_of-firsts_pair.ensures, c.of_first.ensures, c.of_first-2.ensures) at c.in_ok-first_row.ensures.some)
    (rw (c.pair_of-seconds_pair.ensures, c.of_second.ensures, c.of_second-2.ensures) at c.in_ok-second_row.ensures.some)

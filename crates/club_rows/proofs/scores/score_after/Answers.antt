use Rattle.std.proofs.Common.{refl}
use Rattle.club_rows.specs.internal.NextScores.{pair_of}
use Rattle.club_rows.specs.Scores.{own_first, own_second}
use Rattle.club_rows.proofs.ScoreAfter.{unfit_many, next_rows}
use Rattle.club_rows.proofs.scores.score_after.Goals as goal

pub returns-in_err-first_row-clause-none : goal.returns-in_err-first_row-clause-none
returns-in_err-first_row-clause-none c =
    let p = c.args.pairing in
    λ none ms found. unfit_many ms (pair_of p.event p.first p.second) (own_first c.args.score) _ found.of_first
    (rw c.of_first.ensures at (c.in_err-first_row.ensures.none refl))

pub returns-in_err-second_row-clause-none : goal.returns-in_err-second_row-clause-none
returns-in_err-second_row-clause-none c =
    let p = c.args.pairing in
    λ none ms found. unfit_many ms (pair_of p.event p.second p.first) (own_second c.args.score) _ found.of_second
    (rw c.of_second.ensures at (c.in_err-second_row.ensures.none refl))

pub returns-clause-some : goal.returns-clause-some
returns-clause-some c =
    let p = c.args.pairing in
    λ apart. next_rows p.event p.first p.second c.args.score apart _ _ _
    (rw (c.pair_of-firsts_pair.ensures, c.of_first.ensures) at c.in_ok-first_row.ensures.some)
    (rw (c.pair_of-seconds_pair.ensures, c.of_second.ensures) at c.in_ok-second_row.ensures.some)

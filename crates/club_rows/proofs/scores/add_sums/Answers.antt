use Rattle.std.proofs.Common.{rules}
use Rattle.club_rows.proofs.SumLemmas.{summed, unfit}
use Rattle.club_rows.proofs.scores.add_sums.Goals as goal

pub returns-in_err-draws-clause-none : goal.returns-in_err-draws-clause-none
returns-in_err-draws-clause-none c = λ none fit.
    unfit c.args.sums.draws c.args.more.draws (search rules) (search rules) c.in_err-draws.ensures fit.draws

pub returns-in_err-losses-clause-none : goal.returns-in_err-losses-clause-none
returns-in_err-losses-clause-none c = λ none fit.
    unfit c.args.sums.losses c.args.more.losses (search rules) (search rules) c.in_err-losses.ensures fit.losses

pub returns-clause-some : goal.returns-clause-some
returns-clause-some c =
    let a = c.args.sums in
    let b = c.args.more in
    let points = summed a.points b.points (search rules) (search rules) _ c.in_ok-points.ensures in
    let wins = summed a.wins b.wins (search rules) (search rules) _ c.in_ok-wins.ensures in
    let draws = summed a.draws b.draws (search rules) (search rules) _ c.in_ok-draws.ensures in
    let losses = summed a.losses b.losses (search rules) (search rules) _ c.in_ok-losses.ensures in
    λ i. record { points = points i; wins = wins i; draws = draws i; losses = losses i }

use Rattle.std.proofs.Common.{◌≡◌, Option, Some, ap, subst₂, ◌∙◌, rules}
use Rattle.std.specs.Option.{option_map}
use Rattle.store_tables.specs.declared.rows.ScoreRow.{ScoreRow}
use Rattle.club_rows.specs.declared.scores.Pair.{Pair}
use Rattle.club_rows.specs.internal.NextScores.{AreNext, row_with}
use Rattle.club_rows.specs.internal.Pairs.{sums_at}
use Rattle.club_changes.proofs.StandingLemmas.{both_put}
use Rattle.club_changes.proofs.swept.standings.put_scores.Goals as goal

pub returns-in_ok-put-in-Some-2-clause-puts : goal.returns-in_ok-put-in-Some-2-clause-puts
returns-in_ok-put-in-Some-2-clause-puts c = λ before after apart stand.
    let game = c.args.stored.now in
    let stands : Pair → Option ScoreRow = λ p. option_map (row_with p) (sums_at c.args.standings.now p) in
    let firsts : option_map (λ r. r.now) c.as_ref.result ≡ c.row_of-firsts.result = search rules in
    let seconds : option_map (λ r. r.now) c.as_ref-2.result ≡ c.row_of-seconds.result = search rules in
    both_put before after game.event game.first game.second (Some c.args.score) c.in-Some.pair
    (λ p. sums_at c.args.standings.now p) (λ p. sums_at c.put.new.standings p)
    (λ p. sums_at c.put-in-Some.new.standings p)
    c.args.changed.now.items c.put.new.changed.items c.put-in-Some.new.changed.items
    stand
    (subst₂ (λ x y. AreNext game.event game.first game.second (Some c.args.score) x y c.in-Some.pair)
    (firsts ∙ (c.row_of-firsts.ensures ∙ ap stands c.pair_of-firsts_pair.ensures))
    (seconds ∙ (c.row_of-seconds.ensures ∙ ap stands c.pair_of-seconds_pair.ensures)) (c.in-Some.ensures.some apart))
    c.in_ok-put-in-Some.ensures.sums c.in_ok-put-in-Some-2.ensures.sums
    c.in_ok-put-in-Some.ensures.more c.in_ok-put-in-Some-2.ensures.more

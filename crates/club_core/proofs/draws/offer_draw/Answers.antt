use Rattle.std.proofs.Common.{rules, ◌≡◌, None, true}
use Rattle.club_core.specs.Step.{repeat_of_offer, offer_refusal}
use Rattle.club_core.proofs.Offered.{offer-accepted}
use Rattle.club_core.proofs.draws.offer_draw.Goals as goal

pub returns : goal.returns
returns g c = λ game shows.
    let laws = g.R.Rules.rules in
    let draws : laws.has_draw_offers ≡ true = search rules in
    let new : repeat_of_offer game.offer c.args.side c.args.ply ≡ None = search rules in
    let allowed : offer_refusal laws game c.args.side c.args.ply ≡ None = search rules in
    rw (offer-accepted laws game c.args.side c.args.ply draws new allowed)
    (c.in_ok-decision.ensures game c.args.ply shows (c.in-None-refusal_of_offer.ensures.next))

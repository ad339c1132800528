use Rattle.std.proofs.Common.{sym, subst, ◌∙◌}
use Rattle.club_rows.proofs.Proved.{same-pos}
use Rattle.club_audit.specs.internal.Audit.{NamesRule}
use Rattle.club_audit.proofs.GamePlaces.{no-event, no-rule, placed-first}
use Rattle.club_audit.proofs.audit.wrong_game.Goals as goal

pub returns-in-None : goal.returns-in-None
returns-in-None c = λ s people.
    let own = c.args.own.now in
    no-event s c.args.rows.now people c.args.place own.game.now own.moves.now own.rulings.now own.seen.now c.args.last
    (c.event_of.ensures.none c.in-None.is)

pub returns-in-None-declares_in : goal.returns-in-None-declares_in
returns-in-None-declares_in c = λ s people.
    let (id, named) = c.in-Some.ensures.some in
    absurd
    (no-rule s c.args.rows.now people c.args.own.now.game.now id c.in-Some.event.now named
    (c.declares_in.ensures.none c.in-None-declares_in.is))

pub returns : goal.returns
returns c = λ s people.
    let (id, named) = c.in-Some.ensures.some in
    let (other, told) = c.in-Some-declares_in.ensures.some in
    let ruled =
    subst (λ n. NamesRule c.args.rows.now c.args.own.now.game.now n c.in-Some-declares_in.declares)
    (same-pos _ _ (sym told.event_is ∙ named.event_is)) told in
    let own = c.args.own.now in
    placed-first s c.args.rows.now people c.args.place own.game.now own.moves.now own.rulings.now own.seen.now c.args.last id
    _ _ named ruled _ _ _ c.in_ok-wrong.ensures c.stands_at.ensures.sound c.stands_at.ensures.complete
    c.with_place.ensures.stands c.with_place.ensures.moves c.with_place.ensures.rulings
    c.with_place.ensures.games

use Rattle.std.proofs.Common.{arith}
use Rattle.club_audit.proofs.GamePlaces.{event-complete, event-sound}
use Rattle.club_audit.proofs.game_audit.audit_game.Goals as goal

pub returns-clause-sound : goal.returns-clause-sound
returns-clause-sound c =
    let own = c.args.own.now in
    event-sound c.args.event.now c.args.declares c.args.last
    (omega (arith, c.seconds-within.ensures.value, c.seconds-within.ensures.range)) own.game.now own.moves.now
    own.rulings.now own.seen.now c.in_ok-wrong.wrong c.in_ok-wrong.ensures

pub returns-clause-complete : goal.returns-clause-complete
returns-clause-complete c =
    let own = c.args.own.now in
    event-complete c.args.event.now c.args.declares c.args.last
    (omega (arith, c.seconds-within.ensures.value, c.seconds-within.ensures.range)) own.game.now own.moves.now
    own.rulings.now own.seen.now c.in_ok-wrong.wrong c.in_ok-wrong.ensures

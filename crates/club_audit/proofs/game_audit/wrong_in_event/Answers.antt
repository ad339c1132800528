use Rattle.std.proofs.Common.{rules}
use Rattle.club_rules.specs.declared.names.GameKind.TheVariants.{Draughts, Shogi}
use Rattle.club_rows.specs.internal.Replay.{terms_given}
use Rattle.club_audit.proofs.GamePlaces.{event-first, no-kind, no-terms}
use Rattle.club_audit.proofs.game_audit.wrong_in_event.Goals as goal

pub returns-in-None : goal.returns-in-None
returns-in-None c = no-terms _ _ _ _ _ _ _ (c.terms_of.ensures.none c.in-None.is)

pub returns-in-None-kind_of : goal.returns-in-None-kind_of
returns-in-None-kind_of c =
    no-kind _ _ _ _ _ _ _ (λ kind is. c.kind_of.ensures.none c.in-None-kind_of.is kind (search (rules, is)))

pub returns-in-Some-Draughts : goal.returns-in-Some-Draughts
returns-in-Some-Draughts c =
    let own = c.args.own.now in
    let terms = c.in-Some.terms in
    event-first c.args.event.now c.args.declares c.args.last own.game.now own.moves.now own.rulings.now own.seen.now Draughts
    terms.budget terms.increment (search rules) c.in-Some.ensures.some (terms_given terms) c.in-Some.ensures.told
    c.wrong_of_all.result c.wrong_of_all.ensures

pub returns-in-Some-Shogi : goal.returns-in-Some-Shogi
returns-in-Some-Shogi c =
    let own = c.args.own.now in
    let terms = c.in-Some.terms in
    event-first c.args.event.now c.args.declares c.args.last own.game.now own.moves.now own.rulings.now own.seen.now Shogi
    terms.budget terms.increment (search rules) c.in-Some.ensures.some (terms_given terms) c.in-Some.ensures.told
    c.wrong_of_all-in-Some-Shogi.result c.wrong_of_all-in-Some-Shogi.ensures

use Rattle.std.proofs.Common.{length, refl, arith}
use Rattle.std.proofs.lemmas.Option.{slice_get_read}
use Rattle.club_audit.proofs.StandingLemmas.{counted_next, counted_start, counted_all}
use Rattle.club_audit.proofs.standings.standings_of.Goals as goal

pub loop-game-init : goal.loop-game-init
loop-game-init c = λ ms told low. counted_start _ c.args.games.now ms c.new-standings.ensures.empty told

pub loop-game-preserved : goal.loop-game-preserved
loop-game-preserved c =
    let games = c.args.games.now in
    let k = c.loop-game.game-index in
    λ ms told low. counted_next _ _ games k c.game-item.result ms
    (slice_get_read games (length games) k _ refl c.loop-game-test.true c.game-item.is) low c.in_ok-add_game.ensures
    (c.loop-game.invariant ms told low)

pub returns : goal.returns
returns c = λ ms told low. counted_all _ c.args.games.now c.loop-game.game-index ms
    (omega (arith, c.loop-game-test.false)) (c.loop-game.invariant ms told low)

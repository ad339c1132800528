use Rattle.club_audit.proofs.ChallengeLemmas.{its-game-found}
use Rattle.club_audit.proofs.challenges.has_its_game.Goals as goal

pub returns-in-Accepted-clause-sound : goal.returns-in-Accepted-clause-sound
returns-in-Accepted-clause-sound c = λ yes.
    its-game-found c.args.games.now c.args.challenge.now c.in-Accepted.game c.in-Accepted.is
    (rw c.pairing.ensures at (c.is_game_among.ensures.sound yes))

pub returns-in-Accepted-clause-complete : goal.returns-in-Accepted-clause-complete
returns-in-Accepted-clause-complete c = λ its.
    c.is_game_among.ensures.complete (rw c.pairing.ensures (its c.in-Accepted.game c.in-Accepted.is))

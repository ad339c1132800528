use Rattle.club_audit.proofs.ChallengeLemmas.{IsOther}
use Rattle.club_audit.proofs.PlacedLemmas.{Below}
use Rattle.club_audit.proofs.challenges.is_game_among.Given as goal

abbrev pub invariant-loop-row : goal.invariant-loop-row
invariant-loop-row l = Below (λ k r. IsOther l.id l.pairing r) l.row-index l.games

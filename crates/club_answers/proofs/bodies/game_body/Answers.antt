use Rattle.club_answers.proofs.bodies.game_body.Goals as goal

pub returns-in_ok-text-in-Some-clause-found : goal.returns-in_ok-text-in-Some-clause-found
returns-in_ok-text-in-Some-clause-found g c clean s is_club k = (
  c.in-Some.viewed,
  rw c.in-Some.is at (c.in_ok-viewed.ensures.viewed clean s is_club k),
  c.in_ok-text-in-Some.ensures,
)

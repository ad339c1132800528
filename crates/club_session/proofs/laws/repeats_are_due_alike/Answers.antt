use Rattle.club_session.proofs.RepeatLemmas.{answers_alike}
use Rattle.club_session.proofs.laws.repeats_are_due_alike.Goals as goal

pub returns : goal.returns
returns c = answers_alike c.commands_are_idempotent.ensures

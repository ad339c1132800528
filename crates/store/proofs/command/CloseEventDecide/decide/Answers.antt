use Rattle.std.proofs.Common.{ap, ◌∙◌}
use Rattle.club_core.specs.internal.Answer.{events_of}
use Rattle.store.proofs.command.CloseEventDecide.decide.Goals as goal

pub returns-clause-step : goal.returns-clause-step
returns-clause-step g c clean s is_club version taken later k =
    c.in_ok-on_closing.ensures.step s taken
    (ap events_of c.deref.ensures.value ∙ c.in_ok-events.ensures.values clean s is_club version k)

use Rattle.std.proofs.Common.{ap, ◌∙◌}
use Rattle.club_core.specs.internal.Answer.{members_of}
use Rattle.store.proofs.command.AddMemberDecide.decide.Goals as goal

pub returns-clause-step : goal.returns-clause-step
returns-clause-step g c clean s is_club version taken later k =
    c.in_ok-on_member.ensures.step s
    (ap members_of c.deref.ensures.value ∙ c.in_ok-members.ensures.values clean s is_club version k)

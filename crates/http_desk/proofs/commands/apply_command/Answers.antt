use Rattle.std.proofs.Common.{◌≡◌}
use Rattle.club_core.specs.Answer.{command_of, outcome_of, who_of}
use Rattle.club_core.specs.State.{Request}
use Rattle.http_desk.proofs.MembersCommands.{served_of_call}
use Rattle.http_desk.proofs.commands.apply_command.Goals as goal

pub returns-clause-serves : goal.returns-clause-serves
returns-clause-serves g c clean s stands none =
    let given : Request = record {
      who = who_of c.args.who.now;
      command = command_of c.args.command.now;
      moment = c.args.moment;
    } in
    let step = g.C.ClubService.club.step s given in
    served_of_call (g.C.ClubService.Stands c.apply.new.self) (g.C.ClubService.Leaves c.apply.new.self) s step.0
    (λ outcome. outcome_of outcome ≡ step.1) given.command c.apply.result none
    (c.apply.ensures.serves clean s stands)

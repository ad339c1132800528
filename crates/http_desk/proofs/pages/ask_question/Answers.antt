use Rattle.std.proofs.Common.{◌≡◌}
use Rattle.http_bodies.specs.ShownViews.{shown_view}
use Rattle.http_desk.proofs.MembersQuestions.{served_of_question}
use Rattle.http_desk.proofs.pages.ask_question.Goals as goal

pub returns-clause-serves : goal.returns-clause-serves
returns-clause-serves g c clean s stands =
    served_of_question (g.C.ClubService.Stands c.ask.new.self) (g.C.ClubService.Leaves c.ask.new.self) s
    (λ shown. g.C.ClubService.club.IsShown s c.args.moment c.args.question.now (shown_view shown))
    c.args.question.now c.ask.result c.requires (c.ask.ensures.serves clean s stands)

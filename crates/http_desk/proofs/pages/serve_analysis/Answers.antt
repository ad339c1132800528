use Rattle.std.proofs.Common.{Err, Ok, refl}
use Rattle.http_desk.proofs.AnalysisServed.{analysis_answered}
use Rattle.http_desk.proofs.pages.serve_analysis.Goals as goal

pub returns-in-Ok-clause-serves : goal.returns-in-Ok-clause-serves
returns-in-Ok-clause-serves g c clean s stands =
    let told = rw c.in-Ok.is at (c.in_ok-bytes.ensures.serves clean s stands) in
    analysis_answered g.C.ClubService.club (g.C.ClubService.Stands c.ask_question.new.club) s c.args.moment c.args.kind
    c.args.body.now c.in_ok-analysis.field-0 c.in-Some.analysis (Ok c.in-Ok.bytes.items) _ c.in_ok-analysis.ensures
    c.in-Some.is refl told

pub returns-clause-serves : goal.returns-clause-serves
returns-clause-serves g c clean s stands =
    let told = rw c.in-Err.is at (c.in_ok-bytes.ensures.serves clean s stands) in
    analysis_answered g.C.ClubService.club (g.C.ClubService.Stands c.ask_question.new.club) s c.args.moment c.args.kind
    c.args.body.now c.in_ok-analysis.field-0 c.in-Some.analysis (Err c.in-Err.reason) _ c.in_ok-analysis.ensures
    c.in-Some.is refl told

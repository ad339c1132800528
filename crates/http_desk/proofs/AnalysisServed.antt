-- The club's answer to the analysis of a body.
use Rattle.std.proofs.Common.{◌≡◌, ℕ, List, Option, Some, Result, refl, sym}
use Rattle.std.specs.Prelude.{option_map}
use Rattle.club_rules.specs.declared.names.GameKind.{GameKind}
use Rattle.club_requests.specs.Analysis.{analysis_view}
use Rattle.club_requests.specs.declared.questions.Analysis.{Analysis}
use Rattle.club_requests.specs.declared.questions.Question.TheVariants as asks
use Rattle.club_requests.specs.declared.refusals.Refusal.{Refusal}
use Rattle.http_bodies.specs.Analyses.{analysis_of}
use Rattle.http_bodies.specs.declared.reply.ContentType.TheVariants.{Json}
use Rattle.http_desk.specs.Desk.{Answer, IsExpectedReply, question_answer, serve_analysis}
use Rattle.http_desk.specs.Served.{Club}

-- it is the expected reply, and the state is unchanged
pub analysis_answered : {S : Type 0} (club : Club S) (stands : S → Type 0) (s : S) (moment : ℕ) (kind : GameKind)
    (body : List ℕ) (read : Option Analysis) (asked : Analysis) (shown : Result (List ℕ) Refusal) (answer : Answer)
    → option_map analysis_view read ≡ analysis_of kind body → read ≡ Some asked
    → answer ≡ question_answer Json shown → club.IsShown s moment (asks.Analysis asked) shown × stands s
    → IsExpectedReply club s (serve_analysis club s moment (analysis_of kind body)).1 answer
    × stands (serve_analysis club s moment (analysis_of kind body)).0
analysis_answered club stands s moment kind body read asked shown answer given is same told =
    let found : Some (analysis_view asked) ≡ analysis_of kind body = rw is at given in
    rw (sym found) ((asked, refl, shown, told.0, same), told.1)

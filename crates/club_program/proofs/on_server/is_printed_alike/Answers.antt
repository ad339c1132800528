use Rattle.std.proofs.Common.{◌≡◌, [], append-nil, ap, refl, sym}
use Rattle.club_requests.specs.declared.answers.Outcome.{Outcome}
use Rattle.club_requests.specs.declared.answers.Outcome.TheVariants.{Accepted, Repeated, Refused}
use Rattle.club_orders.specs.declared.report.Report.TheVariants.{Answered}
use Rattle.control_socket.specs.Printed.{print_of, printed}
use Rattle.club_program.specs.Alike.{report_print}
use Rattle.std.specs.Prelude.{true}
use Rattle.club_program.proofs.on_server.is_printed_alike.Goals as goal

answered_alike : (given : Outcome) → printed given ≡ report_print [] (Answered given)
answered_alike (Accepted answer) = refl
answered_alike (Repeated answer) = refl
answered_alike (Refused refusal) = refl

pub returns : goal.returns
returns c = record {
  answered = answered_alike;
  shown = λ text. ap (print_of true) (sym (append-nil text));
  refused = λ refusal. refl;
}

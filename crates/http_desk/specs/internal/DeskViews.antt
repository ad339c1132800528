-- The mathematical values of the code's endpoints, answers and commands. No promise of the program rests on these
-- definitions.
use Rattle.std.specs.Prelude.{◌≡◌, Option, Result, Ok, Err, option_map}
use Rattle.club_requests.specs.declared.requests.GameCommand as given
use Rattle.club_core.specs.Answer.{game_command_of}
use Rattle.club_core.specs.Step.{GameCommand}
use Rattle.http_desk.specs.declared.desk.Response as code
use Rattle.http_desk.specs.declared.desk.Response.TheVariants as variants
use Rattle.http_desk.specs.declared.desk.AnswerFault.{AnswerFault}
use Rattle.http_desk.specs.declared.desk.AnswerFault.TheVariants as faults
use Rattle.http_desk.specs.declared.faults.ClubFault.{ClubFault}
use Rattle.http_desk.specs.Desk.{Answer, refusal, shows, shows_page}
use Rattle.http_desk.specs.declared.routes.Endpoint as given_endpoint
use Rattle.http_desk.specs.Routes.{Endpoint}

abbrev pub endpoint_view : given_endpoint.Endpoint → Endpoint
endpoint_view e = record {
  route = e.route;
  id = e.id;
  ply = e.ply;
  number = e.number;
  name = e.name.now;
  member = e.member.now;
}

abbrev pub answer_view : code.Response → Answer
answer_view (variants.Refused r) = refusal r
answer_view (variants.Shows kind bytes) = shows kind bytes.items
answer_view variants.Page = shows_page

abbrev pub command_view : Option given.GameCommand → Option GameCommand
command_view command = option_map game_command_of command

-- the result of a call on an unavailable club: the expected answer or fault, or out of memory
abbrev pub IsShutBy : Result Answer ClubFault → Result code.Response AnswerFault → Type 0
IsShutBy expected (Ok shown) = expected ≡ Ok (answer_view shown)
IsShutBy expected (Err (faults.Club fault)) = expected ≡ Err fault
IsShutBy expected (Err faults.Memory) = Unit {0}

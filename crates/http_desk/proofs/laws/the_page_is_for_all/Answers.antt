use Rattle.std.proofs.Common.{◌≡◌, ℕ, List, ap, codes, refl}
use Rattle.std.specs.Str.{is_utf8, chars}
use Rattle.matchit.specs.Route.{scan}
use Rattle.matchit.specs.Seek.{param_step, seek}
use lib.Utf8.{encode}
use Rattle.http_desk.specs.Routes.{routes, match_route}
use Rattle.http_desk.specs.Desk.{serve, shut_serve}
use Rattle.http_desk.proofs.laws.the_page_is_for_all.Goals as goal

pub returns-clause-stands : goal.returns-clause-stands
unfolding serve routes scan param_step seek is_utf8 chars encode
returns-clause-stands g c s moment request method target = rw (ap match_route target, method) refl

pub returns-clause-shut : goal.returns-clause-shut
unfolding shut_serve routes scan param_step seek is_utf8 chars encode
returns-clause-shut g c fault request method target = rw (ap match_route target, method) refl

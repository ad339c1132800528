-- An unavailable club: it knows no key and shows nothing. No promise of the program rests on these definitions.
use Rattle.std.specs.Prelude.{None}
use Rattle.club_requests.specs.declared.refusals.Refusal.TheVariants.{UnknownKey}
use Rattle.club_requests.specs.Outcome.{refused}
use Rattle.http_desk.specs.Served.{Club}

abbrev pub closed : Club (Unit {0})
closed = record {
  member_by_key = λ s key. None;
  IsShown = λ s moment question shown. ⊥;
  step = λ s request. (s, refused UnknownKey);
}

-- Numbers, names and HTTP statuses of refusals.
use Rattle.std.specs.Prelude.{ℕ, List, codes}
use Rattle.http_head.specs.Refusals.{head_number, head_name, head_status}
use Rattle.club_requests.specs.declared.refusals.Refusal as of_club
use Rattle.club_requests.specs.declared.refusals.Refusal.TheVariants as club
use Rattle.club_requests.specs.Refusal as core
use Rattle.http_bodies.specs.declared.refusals.HttpRefusal.{HttpRefusal}
use Rattle.http_bodies.specs.declared.refusals.HttpRefusal.TheVariants.{Head, NoRoute, WrongMethod, BadBody, Club}

-- the HTTP status of a refusal by the club
abbrev pub club_status : of_club.Refusal → ℕ
club_status club.UnknownKey = 401
club_status club.NotAllowed = 403
club_status club.NotAPlayer = 403
club_status club.UnknownEvent = 404
club_status club.UnknownGame = 404
club_status club.UnknownChallenge = 404
club_status club.GameOver = 409
club_status club.WrongPly = 409
club_status club.Conflict = 409
club_status club.NotYourTurn = 409
club_status club.OutOfTime = 409
club_status club.TimeLeft = 409
club_status club.NoOffer = 409
club_status club.NameTaken = 409
club_status club.Full = 409
club_status club.NotDeclarable = 409
club_status club.EventClosed = 409
club_status club.NotInThisGame = 422
club_status club.BadValue = 422
club_status (club.Play ply refusal) = 422
club_status (club.Record refusal) = 422

-- the error number in the reply
abbrev pub refusal_number : HttpRefusal → ℕ
refusal_number (Head refusal) = head_number refusal
refusal_number NoRoute = 82
refusal_number (WrongMethod method) = 83
refusal_number BadBody = 81
refusal_number (Club refusal) = core.refusal_number refusal

-- the name of the error in the reply
abbrev pub refusal_name : HttpRefusal → List ℕ
refusal_name (Head refusal) = head_name refusal
refusal_name NoRoute = codes "NoRoute"
refusal_name (WrongMethod method) = codes "WrongMethod"
refusal_name BadBody = codes "BadBody"
refusal_name (Club refusal) = core.refusal_name refusal

-- the HTTP status of the reply
abbrev pub refusal_status : HttpRefusal → ℕ
refusal_status (Head refusal) = head_status refusal
refusal_status NoRoute = 404
refusal_status (WrongMethod method) = 405
refusal_status BadBody = 400
refusal_status (Club refusal) = club_status refusal

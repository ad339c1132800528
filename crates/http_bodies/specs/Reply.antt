-- The bytes of a reply.
use Rattle.std.specs.Prelude.{ℕ, Bool, List, [], ◌++◌, codes, decimal, length}
use Rattle.std.specs.Prelude.{unwrap_or, if◌then◌else◌}
use Rattle.http.specs.StatusCode.{reason_phrase}
use Rattle.serde_json.specs.Data.{Data, number, unsigned, string, object, member, no_members}
use Rattle.serde_json.specs.Written.{compact_text}
use Rattle.club_page.specs.Joined.{page, policy}
use Rattle.http_bodies.specs.declared.reply.Caching.{Caching}
use Rattle.http_bodies.specs.declared.reply.Caching.TheVariants.{Unspecified, NoStore}
use Rattle.http_bodies.specs.declared.reply.ContentType.{ContentType}
use Rattle.http_bodies.specs.declared.reply.ContentType.TheVariants.{Json, Plain, Html}
use Rattle.http_bodies.specs.declared.refusals.Method.TheVariants.{Get, Post}
use Rattle.http_bodies.specs.declared.refusals.HttpRefusal.{HttpRefusal}
use Rattle.http_bodies.specs.declared.refusals.HttpRefusal.TheVariants.{Head, NoRoute, WrongMethod, BadBody, Club}
use Rattle.club_requests.specs.declared.refusals.Refusal as of_club
use Rattle.club_requests.specs.declared.refusals.Refusal.TheVariants as club
use Rattle.http_bodies.specs.Refusals.{refusal_number, refusal_name, refusal_status}

-- the status line of an HTTP/1.1 reply
abbrev pub status_line : ℕ → List ℕ → List ℕ
status_line status phrase = codes "HTTP/1.1 " ++ decimal status ++ codes " " ++ phrase ++ codes "\r\n"

-- the header line Content-Type
abbrev pub type_line : List ℕ → List ℕ
type_line kind = codes "Content-Type: " ++ kind ++ codes "\r\n"

-- the header line Content-Length
abbrev pub length_line : ℕ → List ℕ
length_line n = codes "Content-Length: " ++ decimal n ++ codes "\r\n"

-- the value of Content-Type
abbrev pub kind_text : ContentType → List ℕ
kind_text Json = codes "application/json"
kind_text Plain = codes "text/plain"
kind_text Html = codes "text/html; charset=utf-8"

-- the header lines of a reply that may not be stored, and whose content type may not be guessed
abbrev pub caching_lines : Caching → List ℕ
caching_lines Unspecified = []
caching_lines NoStore = codes "Cache-Control: no-store\r\nX-Content-Type-Options: nosniff\r\n"

-- the head of a reply; added header lines are last
unfoldable pub reply_head : ℕ → List ℕ → ContentType → ℕ → List ℕ → List ℕ
reply_head status phrase kind body_length further =
    status_line status phrase
    ++ type_line (kind_text kind) ++ length_line body_length ++ codes "Connection: close\r\n" ++ further
    ++ codes "\r\n"

-- a reply; Content-Length is that of the body, also if the body is left out
abbrev pub reply_bytes : ℕ → ContentType → List ℕ → List ℕ → Bool → List ℕ
reply_bytes status kind further body without_body =
    reply_head status (unwrap_or (reason_phrase status) []) kind (length body) further
    ++ (if without_body then [] else body)

-- the header line of a refusal that names the authentication scheme, if the key is not known
abbrev pub key_lines : of_club.Refusal → List ℕ
key_lines club.UnknownKey = codes "WWW-Authenticate: Member-Key\r\n"
key_lines club.NotAllowed = []
key_lines club.UnknownEvent = []
key_lines club.UnknownGame = []
key_lines club.UnknownChallenge = []
key_lines club.NotAPlayer = []
key_lines club.NotInThisGame = []
key_lines club.GameOver = []
key_lines club.WrongPly = []
key_lines club.Conflict = []
key_lines club.NotYourTurn = []
key_lines club.OutOfTime = []
key_lines club.TimeLeft = []
key_lines club.NoOffer = []
key_lines club.NameTaken = []
key_lines club.BadValue = []
key_lines club.Full = []
key_lines club.NotDeclarable = []
key_lines club.EventClosed = []
key_lines (club.Play ply refusal) = []
key_lines (club.Record refusal) = []

-- the header lines that a refusal adds, such as Allow for a wrong method
abbrev pub further_lines : HttpRefusal → List ℕ
further_lines (Head refusal) = []
further_lines NoRoute = []
further_lines (WrongMethod Get) = codes "Allow: GET\r\n"
further_lines (WrongMethod Post) = codes "Allow: POST\r\n"
further_lines BadBody = []
further_lines (Club refusal) = key_lines refusal

-- the JSON body of an error
abbrev pub error_data : ℕ → List ℕ → Data
error_data n name =
    object (member (codes "error") (number (unsigned n)) (member (codes "name") (string name) no_members))

-- the reply that reports a refusal, with a JSON body unless it is left out
abbrev pub refusal_reply : HttpRefusal → Caching → Bool → List ℕ
refusal_reply refusal caching without_body =
    reply_bytes (refusal_status refusal) Json (further_lines refusal ++ caching_lines caching)
    (compact_text (error_data (refusal_number refusal) (refusal_name refusal))) without_body

-- a 200 reply with a body of this content type
abbrev pub shown_reply : ContentType → List ℕ → Caching → Bool → List ℕ
shown_reply kind body caching without_body = reply_bytes 200 kind (caching_lines caching) body without_body

-- the content security policy
abbrev pub policy_line : List ℕ → List ℕ
policy_line policy = codes "Content-Security-Policy: " ++ policy ++ codes "\r\n"

-- the members' page, with its policy
abbrev pub page_reply : Caching → Bool → List ℕ
page_reply caching without_body =
    reply_bytes 200 Html (policy_line policy ++ caching_lines caching) page without_body

-- the header line that says after how many seconds to try again (RFC 9110, section 10.2.3), if the fault passes soon
abbrev pub retry_lines : Bool → List ℕ
retry_lines passes_soon = if passes_soon then codes "Retry-After: 2\r\n" else []

-- the 503 reply for a fault of the club
abbrev pub fault_reply : ℕ → List ℕ → Bool → Caching → Bool → List ℕ
fault_reply n name passes_soon caching without_body =
    reply_bytes 503 Json (retry_lines passes_soon ++ caching_lines caching) (compact_text (error_data n name))
    without_body

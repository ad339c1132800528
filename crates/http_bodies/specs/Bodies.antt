-- JSON bodies of requests and replies.
use Rattle.std.specs.Prelude.{ℕ, Bool, false, List, Option, Some, None, option_map, option_and_then}
use Rattle.std.specs.Prelude.{codes, if◌then◌else◌}
use Rattle.std.specs.Str.{is_utf8}
use Rattle.serde_json.specs.Data.{Data, boolean, string, object, no_members, member}
use Rattle.serde_json.specs.Read.{read}
use Rattle.serde_json.specs.Find.{get, as_str, as_bool}
use Rattle.squares.specs.Sides.{score_text}
use Rattle.club_rules.specs.EndName.{end_text}
use Rattle.club_requests.specs.OutsideEnd.{outside_text}
use Rattle.club_requests.specs.Outcome.{MoveReply, Reply, member_added, event_added, game_seated, moved, draw_offered}
use Rattle.club_requests.specs.Outcome.{game_ended, games_swept, challenge_opened, challenge_withdrawn}
use Rattle.club_requests.specs.Outcome.{challenge_accepted, challenge_refused, event_closed, key_given, ruling_given}
use Rattle.club_core.specs.State.{Command, open_challenge, answer_challenge}
use Rattle.club_lists.specs.Values.{text_or_null, number_data}

-- ---- replies: the keys of an object are in byte order

-- the move that was made, the position after it, the mover's remaining seconds, and the end if it ended the game
abbrev pub moved_data : ℕ → MoveReply → Data
moved_data id m = object
    (member (codes "end") (text_or_null (option_map end_text m.end))
    (member (codes "game") (number_data id)
    (member (codes "left") (number_data m.left)
    (member (codes "move") (string m.text)
    (member (codes "ply") (number_data m.ply)
    (member (codes "position") (string m.position) no_members))))))

-- the ply at which a draw was offered
abbrev pub offered_data : ℕ → ℕ → Data
offered_data id ply = object
    (member (codes "draw") (string (codes "offered"))
    (member (codes "game") (number_data id)
    (member (codes "ply") (number_data ply) no_members)))

-- the end of the game and its result
abbrev pub ended_data : ℕ → List ℕ → List ℕ → Data
ended_data id end result = object
    (member (codes "end") (string end)
    (member (codes "game") (number_data id)
    (member (codes "result") (string result) no_members)))

-- the id of a new member, event or game, or the number of a new key or of a ruling
abbrev pub added_data : List ℕ → ℕ → Data
added_data kind id = object (member kind (number_data id) no_members)

-- the number of games ended by time
abbrev pub swept_data : ℕ → Data
swept_data count = object (member (codes "swept") (number_data count) no_members)

-- the state of a challenge
abbrev pub challenge_data : ℕ → List ℕ → Data
challenge_data n state =
    object (member (codes "challenge") (number_data n) (member (codes "state") (string state) no_members))

-- an accepted challenge with the id of the game that it started
abbrev pub started_data : ℕ → ℕ → Data
started_data n id = object
    (member (codes "challenge") (number_data n)
    (member (codes "game") (number_data id)
    (member (codes "state") (string (codes "accepted")) no_members)))

-- an event that takes no challenges
abbrev pub closed_data : Data
closed_data = object (member (codes "open") (boolean false) no_members)

-- the answer to a command; `id` is the number of the game, if it was a command on a game
abbrev pub reply_data : ℕ → Reply → Data
reply_data id (moved m) = moved_data id m
reply_data id (draw_offered ply) = offered_data id ply
reply_data id (game_ended end result) = ended_data id (outside_text end) (score_text result)
reply_data id (member_added member_id) = added_data (codes "member") member_id
reply_data id (event_added event_id) = added_data (codes "event") event_id
reply_data id (game_seated game_id) = added_data (codes "game") game_id
reply_data id (games_swept count) = swept_data count
reply_data id (challenge_opened n) = challenge_data n (codes "open")
reply_data id (challenge_withdrawn n) = challenge_data n (codes "withdrawn")
reply_data id (challenge_refused n) = challenge_data n (codes "refused")
reply_data id (challenge_accepted n game) = started_data n game
reply_data id (key_given n) = added_data (codes "key") n
reply_data id event_closed = closed_data
reply_data id (ruling_given n) = added_data (codes "ruling") n

-- ---- requests

-- JSON as `serde_json` parses it
abbrev pub json_of : List ℕ → Option Data
json_of body = if is_utf8 body then read body else None

-- the string or the boolean under a key
abbrev pub text_in : List ℕ → Data → Option (List ℕ)
text_in key data_read = option_and_then as_str (get key data_read)

-- the boolean under a key
abbrev pub bool_in : List ℕ → Data → Option Bool
bool_in key data_read = option_and_then as_bool (get key data_read)

-- the text of a move
unfoldable pub move_text : List ℕ → Option (List ℕ)
move_text body = option_and_then (text_in (codes "move")) (json_of body)

-- the challenge with this number, if the event, the opponent and the side are given
abbrev pub challenge_with : ℕ → Option (List ℕ) → Option (List ℕ) → Option Bool → Option Command
challenge_with n None other first = None
challenge_with n (Some event) None first = None
challenge_with n (Some event) (Some other) None = None
challenge_with n (Some event) (Some other) (Some first) = Some (open_challenge n event other first)

-- the challenge with this number that a JSON object states, if it is complete
abbrev pub challenge_in : ℕ → Data → Option Command
challenge_in n d = challenge_with n (text_in (codes "event") d) (text_in (codes "other") d) (bool_in (codes "first") d)

-- the challenge with this number
unfoldable pub challenge_of : ℕ → List ℕ → Option Command
challenge_of n body = option_and_then (challenge_in n) (json_of body)

-- the answer to the challenge of this member with this number, if it is given
abbrev pub answer_with : List ℕ → ℕ → Option Bool → Option Command
answer_with challenger n None = None
answer_with challenger n (Some accept) = Some (answer_challenge challenger n accept)

-- the answer to the challenge of this member that a JSON object states, if it has one
abbrev pub answer_in : List ℕ → ℕ → Data → Option Command
answer_in challenger n d = answer_with challenger n (bool_in (codes "accept") d)

-- the answer to the challenge of this member with this number
unfoldable pub answer_of : List ℕ → ℕ → List ℕ → Option Command
answer_of challenger n body = option_and_then (answer_in challenger n) (json_of body)

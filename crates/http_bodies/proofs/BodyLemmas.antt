-- Bodies as JSON.
use Rattle.std.proofs.Common.{◌≡◌, ℕ, List, refl, Bool, true, false, None, Some, option_map}
use Rattle.std.specs.Str.{IsUtf8, is_utf8}
use Rattle.std.proofs.lemmas.Str.{is_utf8-from_IsUtf8, IsUtf8-from_is_utf8}
use Rattle.serde_json.specs.Read.{read}
use Rattle.serde_json.specs.Data.{Data}
use Rattle.serde_json.specs.Written.{has_float}
use Rattle.club_rules.specs.EndName.{end_text}
use Rattle.club_requests.specs.Outcome.{MoveReply, Reply, member_added, event_added, game_seated, moved, draw_offered}
use Rattle.club_requests.specs.Outcome.{game_ended, games_swept, challenge_opened, challenge_withdrawn}
use Rattle.club_requests.specs.Outcome.{challenge_accepted, challenge_refused, event_closed, key_given, ruling_given}
use Rattle.club_lists.proofs.Proved.{text_float}
use Rattle.http_bodies.specs.Bodies.{moved_data, reply_data, json_of}

-- a body that is no JSON
pub none_read : (body : List ℕ) → (IsUtf8 body → read body ≡ None) → json_of body ≡ None
none_read body h = by (is_utf8 body) refl
  where
    by : (b : Bool) → is_utf8 body ≡ b → json_of body ≡ None
    by true e = rw e (h (IsUtf8-from_is_utf8 body e))
    by false e = rw e refl

pub some_read : (body : List ℕ) (value : Data) → IsUtf8 body → read body ≡ Some value → json_of body ≡ Some value
some_read body value u h = let e : is_utf8 body ≡ true = is_utf8-from_IsUtf8 body u in rw e h

-- ---- none of the bodies holds a float

moved_float : (id : ℕ) (m : MoveReply) → has_float (moved_data id m) ≡ false
moved_float id m = rw (text_float (option_map end_text m.end)) refl

pub reply_float : (id : ℕ) (reply : Reply) → has_float (reply_data id reply) ≡ false
reply_float id (moved m) = moved_float id m
reply_float id (draw_offered ply) = refl
reply_float id (game_ended end result) = refl
reply_float id (member_added added) = refl
reply_float id (event_added added) = refl
reply_float id (game_seated added) = refl
reply_float id (games_swept count) = refl
reply_float id (challenge_opened n) = refl
reply_float id (challenge_withdrawn n) = refl
reply_float id (challenge_refused n) = refl
reply_float id (challenge_accepted n game) = refl
reply_float id (key_given n) = refl
reply_float id event_closed = refl
reply_float id (ruling_given n) = refl

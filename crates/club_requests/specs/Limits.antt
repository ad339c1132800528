-- Limits of the club's values, and its capacity.
use Rattle.std.specs.Prelude.{ℕ, List, length, Bool, ◌&&◌, ◌||◌, nat_le, ◌==◌}
use Rattle.std.specs.Char.{is_ascii_alphanumeric}
use Rattle.std.specs.List.{list_all}
use Rattle.club_rules.specs.GameRules.{ply_limit}

-- the most members of a club
abbrev pub most_members : ℕ
most_members = 200

-- maximum number of events of a club
abbrev pub most_events : ℕ
most_events = 50

-- maximum number of games of a club
abbrev pub most_games : ℕ
most_games = 5000

-- the most plies of a game
abbrev pub most_plies : ℕ
most_plies = ply_limit

-- maximum number of bytes of a move's text
abbrev pub most_text_bytes : ℕ
most_text_bytes = 200

-- maximum number of moves that an analysis tries
abbrev pub most_tried_moves : ℕ
most_tried_moves = 64

-- maximum number of bytes of a text of records
abbrev pub most_record_bytes : ℕ
most_record_bytes = 65536

-- greatest number of a challenge
abbrev pub greatest_challenge : ℕ
greatest_challenge = 9999

-- maximum number of later keys of a member
abbrev pub most_keys : ℕ
most_keys = 99

-- maximum number of rulings on a game
abbrev pub most_rulings : ℕ
most_rulings = 99

-- the longest time that a ruling grants, in seconds
abbrev pub longest_grant : ℕ
longest_grant = 31536000

-- latest timestamp, in Unix seconds: the end of the year 9999
abbrev pub last_moment : ℕ
last_moment = 253402300799

-- a letter, a digit, a dot, an underscore or a dash
abbrev pub is_name_byte : ℕ → Bool
is_name_byte c = is_ascii_alphanumeric c || c == 46 || c == 95 || c == 45

-- name of a member or event, or key of a game: 1 to 24 such bytes
abbrev pub is_name : List ℕ → Bool
is_name text = nat_le 1 (length text) && nat_le (length text) 24 && list_all is_name_byte text

-- key of a member: 8 to 64 letters and digits
abbrev pub is_member_key : List ℕ → Bool
is_member_key text = nat_le 8 (length text) && nat_le (length text) 64 && list_all is_ascii_alphanumeric text

-- number that a member may give to a challenge
abbrev pub is_challenge_number : ℕ → Bool
is_challenge_number number = nat_le 1 number && nat_le number greatest_challenge

-- initial time of each player, in seconds
abbrev pub is_budget : ℕ → Bool
is_budget seconds = nat_le 1 seconds && nat_le seconds 31536000

-- time added for each move, in seconds
abbrev pub is_increment : ℕ → Bool
is_increment seconds = nat_le seconds 2592000

-- time that a ruling grants, in seconds
abbrev pub is_grant_time : ℕ → Bool
is_grant_time seconds = nat_le 1 seconds && nat_le seconds longest_grant

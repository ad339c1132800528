-- The bytes of a reply. No promise of the program rests on these definitions.
use Rattle.std.specs.Prelude.{ℕ, List, [], ◌∷◌, Option, None, length, take, drop, nat_lt}
use Rattle.std.specs.Prelude.{if◌then◌else◌}
use Rattle.http_head.specs.Head.{number_of}

abbrev pub line_end : List ℕ
line_end = 13 ∷ 10 ∷ []

-- the status in the status line, if there are bytes enough
abbrev pub status_in : List ℕ → Option ℕ
status_in reply = if nat_lt (length reply) 12 then None else number_of (take 3 (drop 9 reply))

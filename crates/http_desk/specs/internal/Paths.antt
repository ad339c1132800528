-- The path of a request target, and its segments. No promise of the program rests on these definitions.
use Rattle.std.specs.Prelude.{ℕ, List, Option, Some, None}
use Rattle.std.specs.Prelude.{if◌then◌else◌}
use Rattle.std.specs.Str.{is_utf8}

-- the bytes as a text, if they are UTF-8
abbrev pub text_of : List ℕ → Option (List ℕ)
text_of bytes = if is_utf8 bytes then Some bytes else None

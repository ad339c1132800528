-- The statements of a text, line by line. No promise of the program rests on these definitions.
use Rattle.std.specs.Prelude.{ℕ, ◌+◌, nat_lt, List, [], length, if◌then◌else◌}
use Rattle.std.proofs.Common.{get_or}
use Rattle.std.specs.Str.Lines.{strip_carriage_return}

-- the line of a part between line feeds; the last part has no line feed, so its carriage return stays
abbrev pub line_at : List (List ℕ) → ℕ → List ℕ
line_at parts i = if nat_lt (i + 1) (length parts) then strip_carriage_return (get_or parts i []) else get_or parts i []

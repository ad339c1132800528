-- Texts as lists of bytes. No promise of the program rests on these definitions.
use Rattle.std.specs.Prelude.{ℕ, List, map, string_bytes}
use Rattle.std.specs.declared.alloc.Global.{Global}
use Rattle.std.specs.declared.string.String.{String}

abbrev pub bytes_of : List (String Global) → List (List ℕ)
bytes_of texts = map (λ t. string_bytes t) texts

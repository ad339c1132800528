-- Maps the values of the code to those of the specification.
use Rattle.std.specs.Prelude.{ℕ, List, map, String, string_bytes}
use Rattle.std.specs.declared.alloc.Global.{Global}

-- the bytes of each string
abbrev pub texts_view : List (String Global) → List (List ℕ)
texts_view texts = map string_bytes texts

-- A reply that a stream takes piece by piece. No promise of the program rests on these definitions.
use Rattle.std.specs.Prelude.{ℕ, List, Option, Some, take}
use Rattle.std.specs.Io.KnownBytes.{Appends}

-- If a stream has, after what it held at first, the first `before` bytes of the reply, then it has now the first `now`
-- bytes of it.
abbrev pub StaysInOrder : List ℕ → ℕ → ℕ → Option (List ℕ) → Option (List ℕ) → Type 0
StaysInOrder reply before now written_before written =
    (held : List ℕ) → Appends (Some held) written_before (take before reply)
    → Appends (Some held) written (take now reply)

-- The bytes that a buffer receives from a reader. No promise of the program rests on these definitions.
use Rattle.std.specs.Prelude.{◌≡◌, ◌++◌, ℕ, List, [], Option}
use Rattle.std.specs.Io.KnownBytes.{Consumes}

-- What is added to the buffer is what was read, in order. The bytes that were read last are lost only if not `IsAll`.
pub record HasReceived (IsAll : Type 0) (before now : List ℕ) (old new : Option (List ℕ)) : Type 0 where
  pub further : List ℕ
  pub lost : List ℕ
  pub added : now ≡ before ++ further
  pub is_read : Consumes old new (further ++ lost)
  pub none_lost : IsAll → lost ≡ []

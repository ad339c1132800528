-- The contents of a writer after a piece, or a part of it, was written.
use Rattle.std.specs.Prelude.{◌≡◌, ℕ, Option, List, ◌++◌}
use Rattle.std.specs.Io.KnownBytes.{Appends}

-- A prefix of the text was appended, possibly empty or the whole text.
pub record AppendsSome (before after : Option (List ℕ)) (text : List ℕ) : Type 0 where
  pub done : List ℕ
  pub left : List ℕ
  pub parts : done ++ left ≡ text
  pub appended : Appends before after done

-- The byte order mark with which some editors begin a text. No promise of the program rests on these definitions.
use Rattle.std.specs.Prelude.{ℕ, List, ◌∷◌, ◌==◌, ◌&&◌, if◌then◌else◌}

-- the text without the byte order mark of UTF-8 (EF BB BF) that it begins with
abbrev pub without_mark : List ℕ → List ℕ
without_mark (a ∷ b ∷ c ∷ rest) =
    if (a == 239) && (b == 187) && (c == 191) then rest else a ∷ b ∷ c ∷ rest
without_mark text = text

-- The rulings on a game as lines and as JSON.
use Rattle.std.specs.Prelude.{◌≡◌, ℕ, suc, List, [], ◌∷◌, ◌++◌, codes, decimal}
use Rattle.serde_json.specs.Data.{Data, string, object, member, no_members}
use Rattle.serde_json.specs.Written.{compact_text}
use Rattle.squares.specs.declared.sides.Score.{Score}
use Rattle.squares.specs.declared.sides.Side.{Side}
use Rattle.squares.specs.Sides.{score_text}
use Rattle.club_requests.specs.declared.rulings.Ruling.{Ruling}
use Rattle.club_requests.specs.declared.rulings.Ruling.TheVariants.{Grant, Award, Void}
use Rattle.club_requests.specs.Rulings.{ruling_text, side_text}
use Rattle.club_core.specs.Rulings.{GivenRuling}
use Rattle.club_lists.specs.Dates.{IsDate}
use Rattle.club_lists.specs.Values.{array_of, number_data}

-- ---- lines

-- `ruling NUMBER DATE ply PLIES`, followed by the ruling
abbrev pub ruling_line : ℕ → (date : List ℕ) → GivenRuling → List ℕ
ruling_line number date given =
    codes "ruling " ++ (decimal number ++ (codes " " ++ (date ++ (codes " ply " ++ (decimal given.plies ++ (codes " "
    ++ (ruling_text given.ruling ++ codes "\n")))))))

-- the line of the ruling with this number
abbrev pub IsRulingLine : ℕ → GivenRuling → List ℕ → Type 0
IsRulingLine number given line =
    (date : List ℕ) × IsDate given.moment date × (line ≡ ruling_line number date given)

-- lines of these rulings, whose numbers count up from this one
abbrev pub AreRulingLines : ℕ → List GivenRuling → List ℕ → Type 0
AreRulingLines number [] text = text ≡ []
AreRulingLines number (given ∷ rulings) text =
    (line : List ℕ) × (rest : List ℕ) × IsRulingLine number given line × AreRulingLines (suc number) rulings rest
    × (text ≡ line ++ rest)

-- ---- JSON

module _ (number : ℕ) (given : GivenRuling) where
  -- the object of more time for a side
  unfoldable pub grant_data : Side → ℕ → Data
  grant_data side seconds = object
      (member (codes "kind") (string (codes "grant"))
      (member (codes "moment") (number_data given.moment)
      (member (codes "number") (number_data number)
      (member (codes "ply") (number_data given.plies)
      (member (codes "seconds") (number_data seconds)
      (member (codes "side") (string (side_text side)) no_members))))))

  -- the object of an end with a score
  unfoldable pub award_data : Score → Data
  award_data score = object
      (member (codes "kind") (string (codes "award"))
      (member (codes "moment") (number_data given.moment)
      (member (codes "number") (number_data number)
      (member (codes "ply") (number_data given.plies)
      (member (codes "result") (string (score_text score)) no_members)))))

  -- the object of a game that does not count
  unfoldable pub void_data : Data
  void_data = object
      (member (codes "kind") (string (codes "void"))
      (member (codes "moment") (number_data given.moment)
      (member (codes "number") (number_data number)
      (member (codes "ply") (number_data given.plies) no_members))))

  -- the object of the ruling with this number
  abbrev pub ruling_data_of : Ruling → Data
  ruling_data_of (Grant side seconds) = grant_data side seconds
  ruling_data_of (Award score) = award_data score
  ruling_data_of Void = void_data

-- the objects of these rulings, whose numbers count up from this one
abbrev pub rulings_from : ℕ → List GivenRuling → List Data
rulings_from number [] = []
rulings_from number (given ∷ rulings) =
    ruling_data_of number given given.ruling ∷ rulings_from (suc number) rulings

-- the object with the rulings on a game
unfoldable pub rulings_data : List GivenRuling → Data
rulings_data rulings = object (member (codes "rulings") (array_of (rulings_from 1 rulings)) no_members)

-- its text
abbrev pub rulings_json : List GivenRuling → List ℕ
rulings_json rulings = compact_text (rulings_data rulings)

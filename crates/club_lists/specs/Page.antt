-- A game, its clock and its legal moves as one JSON object.
use Rattle.std.specs.Prelude.{ℕ, List, codes}
use Rattle.serde_json.specs.Data.{Data, string, object, member, no_members}
use Rattle.club_lists.specs.Values.{text_array}

-- of the clock's and the game's objects, the name of the game that is played, and the legal moves
unfoldable pub page_data : (clock game : Data) → (kind : List ℕ) → (legal : List (List ℕ)) → Data
page_data clock game kind legal = object
    (member (codes "clock") clock
    (member (codes "game") game
    (member (codes "kind") (string kind)
    (member (codes "legal") (text_array legal) no_members))))

-- The JSON body of a request for an analysis.
use Rattle.std.specs.Prelude.{ℕ, List, [], ◌∷◌, Option, Some, None, option_map, option_and_then, codes}
use Rattle.serde_json.specs.Data.{Data, Items, no_items, item}
use Rattle.serde_json.specs.Find.{get, as_array, as_number, as_str, as_u64}
use Rattle.club_rules.specs.declared.names.GameKind.{GameKind}
use Rattle.club_requests.specs.Analysis.{Analysis, Start, opening, position, in_game}
use Rattle.http_bodies.specs.Bodies.{json_of}

-- a string before others, if all are strings
abbrev pub with_string : Option (List ℕ) → Option (List (List ℕ)) → Option (List (List ℕ))
with_string None texts = None
with_string (Some text) None = None
with_string (Some text) (Some texts) = Some (text ∷ texts)

-- the strings of an array, if it has nothing else
abbrev pub strings_of : Items → Option (List (List ℕ))
strings_of no_items = Some []
strings_of (item d ds) = with_string (as_str d) (strings_of ds)

-- the strings under a key
abbrev pub texts_in : List ℕ → Data → Option (List (List ℕ))
texts_in key d = option_and_then strings_of (option_and_then as_array (get key d))

-- an integer of at least 0
abbrev pub count_of : Data → Option ℕ
count_of d = option_and_then as_u64 (as_number d)

-- the place in a game with this number, after so many plies
abbrev pub place_in : Option ℕ → Option ℕ → Option Start
place_in None ply = None
place_in (Some id) None = None
place_in (Some id) (Some ply) = Some (in_game id ply)

-- the start that these values give: a position, or a game and a ply, or nothing
abbrev pub start_with : (text game ply : Option Data) → Option Start
start_with None None None = Some opening
start_with (Some text) None None = option_map position (as_str text)
start_with None (Some game) (Some ply) = place_in (count_of game) (count_of ply)
start_with _ _ _ = None

-- the start that an object states
abbrev pub start_in : Data → Option Start
start_in d = start_with (get (codes "position") d) (get (codes "game") d) (get (codes "ply") d)

-- the analysis from a start with these texts, if both are given
abbrev pub analysis_with : GameKind → Option Start → Option (List (List ℕ)) → Option Analysis
analysis_with kind None texts = None
analysis_with kind (Some from) None = None
analysis_with kind (Some from) (Some texts) = Some (record { kind = kind; from = from; texts = texts })

-- the analysis that a JSON object states, if it is complete
abbrev pub analysis_in : GameKind → Data → Option Analysis
analysis_in kind d = analysis_with kind (start_in d) (texts_in (codes "moves") d)

-- the analysis by the rules of this game that a body states
unfoldable pub analysis_of : GameKind → List ℕ → Option Analysis
analysis_of kind body = option_and_then (analysis_in kind) (json_of body)

-- JSON values that several texts have.
use Rattle.std.specs.Prelude.{ℕ, List, map, Option, Some, None}
use Rattle.serde_json.specs.Data.{Data, null, number, unsigned, string, array, item, no_items}
use Rattle.serde_json.specs.View.{items_of}

-- a string, or null if there is no text
abbrev pub text_or_null : Option (List ℕ) → Data
text_or_null None = null
text_or_null (Some text) = string text

-- an integer
abbrev pub number_data : ℕ → Data
number_data n = number (unsigned n)

-- an integer, or null if there is none
abbrev pub number_or_null : Option ℕ → Data
number_or_null None = null
number_or_null (Some n) = number_data n

-- an array of these values
abbrev pub array_of : List Data → Data
array_of values = array (items_of values)

-- an array of strings
abbrev pub text_array : List (List ℕ) → Data
text_array texts = array_of (map string texts)

-- an array of the seconds of First and of Second
abbrev pub seconds_pair : (first second : ℕ) → Data
seconds_pair first second = array (item (number_data first) (item (number_data second) no_items))

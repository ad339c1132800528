-- The JSON of an analysis. The keys of an object are in byte order.
use Rattle.std.specs.Prelude.{ℕ, List, Option, option_map, codes}
use Rattle.serde_json.specs.Data.{Data, string, object, member, no_members}
use Rattle.club_rules.specs.EndName.{end_text}
use Rattle.club_rules.specs.declared.names.EndName.{EndName}
use Rattle.club_lists.specs.Values.{text_array, text_or_null}

-- the end of a line, the legal moves after it, the moves that were tried, and the last position
unfoldable pub analysis_data : Option EndName → (legal moves : List (List ℕ)) → (position : List ℕ) → Data
analysis_data end legal moves position = object
    (member (codes "end") (text_or_null (option_map end_text end))
    (member (codes "legal") (text_array legal)
    (member (codes "moves") (text_array moves)
    (member (codes "position") (string position) no_members))))

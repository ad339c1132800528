-- The query for an analysis, in mathematical values.
use Rattle.std.specs.Prelude.{ℕ, List, map, string_bytes}
use Rattle.club_rules.specs.declared.names.GameKind.{GameKind}
use Rattle.club_requests.specs.declared.questions.Analysis as given
use Rattle.club_requests.specs.declared.questions.AnalysisStart as given_start
use Rattle.club_requests.specs.declared.questions.AnalysisStart.TheVariants as start

-- where the line of an analysis begins: at the initial position, at the position of a text, or in a game of the club
-- after so many of its plies
pub data Start : Type 0 where
  opening : Start
  position : (text : List ℕ) → Start
  in_game : (id ply : ℕ) → Start

-- the moves of these texts are tried from the start, by the rules of a game
pub record Analysis : Type 0 where
  pub kind : GameKind
  pub from : Start
  pub texts : List (List ℕ)

abbrev pub start_of : given_start.AnalysisStart → Start
start_of start.Opening = opening
start_of (start.Position text) = position (string_bytes text)
start_of (start.Game game ply) = in_game game ply

-- the query of the code
abbrev pub analysis_view : given.Analysis → Analysis
analysis_view a = record { kind = a.kind; from = start_of a.start; texts = map (λ t. string_bytes t) a.moves.items }

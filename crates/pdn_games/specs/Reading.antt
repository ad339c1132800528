-- The game of a text, and the refusals of texts.
use Rattle.std.specs.Prelude.{◌≡◌, ◌&&◌, ℕ, Bool, true, false, Option, Some, None, List, Result, Ok, Err, codes}
use Rattle.std.specs.Prelude.{if◌then◌else◌}
use Rattle.squares.specs.declared.sides.Side.{Side}
use Rattle.squares.specs.declared.sides.Score.{Score}
use Rattle.squares.specs.Sides.{same_score}
use Rattle.squares.specs.declared.draughts.moves.DMove.{DMove}
use Rattle.squares.specs.DraughtsOpening.{opening}
use Rattle.draughts_draws.specs.declared.ends.DEnd.{DEnd}
use Rattle.draughts_draws.specs.Line.{last_position}
use Rattle.draughts_draws.specs.Ends.{end_of, outcome_of}
use Rattle.pdn_games.specs.declared.faults.PdnFault.{PdnFault}
use Rattle.pdn_games.specs.declared.faults.PdnFault.TheVariants as fault
use Rattle.pdn_games.specs.declared.results.ResultWord.{ResultWord}
use Rattle.pdn_games.specs.Results.{score_of, result_word}
use Rattle.pdn_games.specs.Tokens.{PlacedToken, TextTokens}
use Rattle.pdn_games.specs.Order.{bad_at}
use Rattle.pdn_games.specs.Contents.{first_tag, move_texts, result_in, is_other_type, HasOpening}
use Rattle.pdn_games.specs.Moves.{AreMoves, RefusesMove}

-- the score of a result, if any
abbrev pub score_of_result : Option ResultWord → Option Score
score_of_result None = None
score_of_result (Some w) = score_of w

-- the score of a `Result` tag: none, unless it is the result of a finished game
abbrev pub tag_score : Option (List ℕ) → Option Score
tag_score None = None
tag_score (Some value) = score_of_result (result_word value)

-- a score agrees with another one that is unknown or equal
abbrev pub agrees : Score → Option Score → Bool
agrees claim None = true
agrees claim (Some other) = same_score claim other

-- the score by the rules if they ended the game; `turn` is the side to move
abbrev pub score_by_rules : Option DEnd → Side → Option Score
score_by_rules None turn = None
score_by_rules (Some end) turn = Some (outcome_of end turn)

-- The score of a text's result, which must agree with the rules, if they ended the game, and with the text's own
-- `Result` tag, if that states a score.
abbrev pub settled : Option Score → Option Score → Option Score → Result Score PdnFault
settled None by_rule by_tag = Err fault.Unfinished
settled (Some claim) by_rule by_tag = if agrees claim by_rule && agrees claim by_tag then Ok claim else Err
    fault.ResultDiffers

-- the score of a game with these tokens and moves, or the fault that its result is missing or wrong
abbrev pub score_in : List PlacedToken → List DMove → Result Score PdnFault
score_in tokens ms =
    settled (score_of_result (result_in tokens)) (score_by_rules (end_of opening ms) (last_position opening ms).turn)
    (tag_score (first_tag (codes "Result") tokens))

-- the tokens of a well-formed text
pub record AreTokens (text : List ℕ) (tokens : List PlacedToken) : Type 0 where
  pub whole : TextTokens text tokens None
  pub form : bad_at tokens None ≡ None

-- international draughts from the initial position
pub record IsOfClub (tokens : List PlacedToken) : Type 0 where
  pub kind : is_other_type tokens ≡ false
  pub opening : HasOpening tokens

-- the tokens of a game of the club with these moves
pub record Plays (tokens : List PlacedToken) (ms : List DMove) : Type 0 where
  pub of_club : IsOfClub tokens
  pub moves : AreMoves (move_texts tokens) ms

-- the tokens of a game with these moves and this score
pub record IsGameWith (tokens : List PlacedToken) (ms : List DMove) (s : Score) : Type 0 where
  pub plays : Plays tokens ms
  pub score : score_in tokens ms ≡ Ok s

-- all moves are legal, and the result has the fault
pub record EndFails (tokens : List PlacedToken) (f : PdnFault) : Type 0 where
  pub moves : List DMove
  pub plays : Plays tokens moves
  pub score : score_in tokens moves ≡ Err f

-- a move of a game of the club has the fault
pub record MoveFails (tokens : List PlacedToken) (f : PdnFault) : Type 0 where
  pub of_club : IsOfClub tokens
  pub refused : RefusesMove (move_texts tokens) f

-- The faults of a well-formed text: another kind of draughts, another initial position, a move, or the result.
abbrev pub Fails : List PlacedToken → PdnFault → Type 0
Fails tokens fault.Memory = Unit {0}
Fails tokens (fault.BadText offset) = ⊥
Fails tokens (fault.Ambiguous ply) = MoveFails tokens (fault.Ambiguous ply)
Fails tokens (fault.Illegal ply cause) = MoveFails tokens (fault.Illegal ply cause)
Fails tokens fault.OtherType = is_other_type tokens ≡ true
Fails tokens fault.OtherOpening = (is_other_type tokens ≡ false) × (HasOpening tokens → ⊥)
Fails tokens fault.Unfinished = EndFails tokens fault.Unfinished
Fails tokens (fault.AfterEnd ply) = MoveFails tokens (fault.AfterEnd ply)
Fails tokens fault.ResultDiffers = EndFails tokens fault.ResultDiffers

-- the text is the text of a game with these moves and this score
abbrev pub IsTextWith : List ℕ → List DMove → Score → Type 0
IsTextWith text ms score = (tokens : List PlacedToken) × AreTokens text tokens × IsGameWith tokens ms score

-- a well-formed text whose tokens have the fault
abbrev pub TextFails : List ℕ → PdnFault → Type 0
TextFails text f = (tokens : List PlacedToken) × AreTokens text tokens × Fails tokens f

-- the faults of a text: a syntax error, or a fault of its tokens
abbrev pub IsRefused : List ℕ → PdnFault → Type 0
IsRefused text fault.Memory = Unit {0}
IsRefused text (fault.BadText offset) = (tokens : List PlacedToken) × (stop : Option ℕ) × TextTokens text tokens stop
    × (bad_at tokens stop ≡ Some offset)
IsRefused text (fault.Ambiguous ply) = TextFails text (fault.Ambiguous ply)
IsRefused text (fault.Illegal ply cause) = TextFails text (fault.Illegal ply cause)
IsRefused text fault.OtherType = TextFails text fault.OtherType
IsRefused text fault.OtherOpening = TextFails text fault.OtherOpening
IsRefused text fault.Unfinished = TextFails text fault.Unfinished
IsRefused text (fault.AfterEnd ply) = TextFails text (fault.AfterEnd ply)
IsRefused text fault.ResultDiffers = TextFails text fault.ResultDiffers

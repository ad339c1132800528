-- The parts of the unique text of a game.
use Rattle.std.specs.Prelude.{ℕ, ◌+◌, ◌/◌, ◌%◌, Option, Some, None, List, [], ◌∷◌, ◌++◌, codes, unsigned_abs}
use Rattle.std.specs.Option.{option_map_or}
use Rattle.std.specs.Fmt.{decimal}
use Rattle.std.specs.FinMap as map
use Rattle.clocks.specs.declared.dates.CivilTime.{CivilTime}
use Rattle.squares.specs.declared.sides.Side.{Side}
use Rattle.squares.specs.declared.sides.Side.TheVariants.{First, Second}
use Rattle.squares.specs.declared.sides.Score.{Score}
use Rattle.squares.specs.declared.sides.Score.TheVariants as score
use Rattle.squares.specs.declared.shogi.moves.SMove.{SMove}
use Rattle.squares.specs.declared.shogi.moves.SMove.TheVariants.{Step, Drop}
use Rattle.squares.specs.ShogiGeometry.{file_of, rank_of}
use Rattle.squares.specs.ShogiSets.{ShogiPosition}
use Rattle.shogi_moves.specs.Rules.{arrived, dropped_role, play}
use Rattle.shogi_repetition.specs.declared.ends.SEnd.{SEnd}
use Rattle.shogi_repetition.specs.declared.ends.SEnd.TheVariants as by_rule
use Rattle.csa.specs.declared.end_words.EndWord.{EndWord}
use Rattle.csa.specs.declared.end_words.EndWord.TheVariants as word
use Rattle.csa.specs.declared.head.CsaEnd.{CsaEnd}
use Rattle.csa.specs.declared.head.CsaEnd.TheVariants as csa_end
use Rattle.csa.specs.Codes.{code_of}
use Rattle.csa.specs.EndWords.{word_text}

-- a line of two parts
abbrev pub line_of : List ℕ → List ℕ → List ℕ
line_of name value = name ++ (value ++ 10 ∷ [])

-- the last two decimal digits of a number
abbrev pub two_digits : ℕ → List ℕ
two_digits n = (48 + n / 10 % 10) ∷ (48 + n % 10) ∷ []

-- a separator and two digits
abbrev pub then_two : ℕ → ℕ → List ℕ
then_two sign n = sign ∷ two_digits n

-- `YYYY/MM/DD hh:mm:ss`
abbrev pub date_text : CivilTime → List ℕ
date_text at =
    two_digits (unsigned_abs at.year / 100) ++
    (two_digits (unsigned_abs at.year) ++ (then_two 47 at.month ++ (then_two 47 at.day ++
    (then_two 32 at.hour ++ (then_two 58 at.minute ++ then_two 58 at.second)))))

-- the lines before the moves: version, players, event, start, even initial position, and Black as the side to move
-- first
abbrev pub head_text : List ℕ → List ℕ → List ℕ → CivilTime → List ℕ
head_text event black white at =
    line_of (codes "V2.2") []
    ++ (line_of (codes "N+") black ++ (line_of (codes "N-") white ++ (line_of (codes "$EVENT:") event ++
    (line_of (codes "$START_TIME:") (date_text at) ++ (line_of (codes "PI") [] ++ line_of (codes "+") [])))))

-- the sign of a side, `+` for First (Black) and `-` for Second (White)
abbrev pub side_sign : Side → ℕ
side_sign First = 43
side_sign Second = 45

-- a square: its file and its rank as digits
abbrev pub square_text : ℕ → List ℕ
square_text n = (48 + file_of n) ∷ (48 + rank_of n) ∷ []

-- the origin of a move, `00` for a drop
abbrev pub source_text : SMove → List ℕ
source_text (Step from to promote) = square_text from
source_text (Drop kind to) = codes "00"

-- the destination of a move, and the code of the piece after it
abbrev pub target_text : ShogiPosition → SMove → List ℕ
target_text p (Step from to promote) = square_text to ++ option_map_or (λ piece. code_of (arrived piece promote).role)
    (map.get p.board from) []
target_text p (Drop kind to) = square_text to ++ code_of (dropped_role kind)

-- a move: the sign of the side to move, the origin, the destination and the piece's code
abbrev pub move_text : ShogiPosition → SMove → List ℕ
move_text p m = side_sign p.turn ∷ [] ++ (source_text m ++ target_text p m)

-- a move and its time in seconds
abbrev pub entry_text : ShogiPosition → SMove → ℕ → List ℕ
entry_text p m seconds = line_of (move_text p m) [] ++ line_of (codes "T") (decimal seconds)

-- the moves from this position on, each with its time
abbrev pub entries_text : ShogiPosition → List (SMove × ℕ) → List ℕ
entries_text p [] = []
entries_text p (e ∷ more) = entry_text p e.0 e.1 ++ entries_text (play p e.0) more

-- the end that expresses a recorded score; `turn` is the side to move
abbrev pub recorded_word : Score → Side → EndWord
recorded_word score.Draw turn = word.Draw
recorded_word score.SecondWins First = word.Resigned
recorded_word score.SecondWins Second = word.BlackIllegal
recorded_word score.FirstWins Second = word.Resigned
recorded_word score.FirstWins First = word.WhiteIllegal

-- the `%` statement of an end by the rules
abbrev pub rule_word : SEnd → EndWord
rule_word by_rule.NoMove = word.Mate
rule_word (by_rule.PerpetualCheck First) = word.BlackIllegal
rule_word (by_rule.PerpetualCheck Second) = word.WhiteIllegal
rule_word by_rule.Fourfold = word.Repetition
rule_word by_rule.PlyLimit = word.Impasse

-- the `%` statement of an end; `turn` is the side to move, and a running game counts as interrupted
abbrev pub word_of : Option CsaEnd → Side → EndWord
word_of None turn = word.Interrupted
word_of (Some (csa_end.Rule end)) turn = rule_word end
word_of (Some csa_end.Resigned) turn = word.Resigned
word_of (Some csa_end.Time) turn = word.TimeUp
word_of (Some csa_end.Declared) turn = word.Declared
word_of (Some (csa_end.Recorded claim)) turn = recorded_word claim turn

-- the line with the `%` statement of an end; `turn` is the side to move
abbrev pub end_text : Option CsaEnd → Side → List ℕ
end_text end turn = line_of (word_text (word_of end turn)) []

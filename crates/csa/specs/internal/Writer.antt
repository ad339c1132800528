-- A game that is written move by move. No promise of the program rests on these definitions.
use Rattle.std.specs.Prelude.{◌≡◌, ℕ, Option, Some, List, [], ◌∷◌, ◌++◌, map}
use Rattle.std.specs.Io.KnownBytes.{Appends}
use Rattle.record_writer.specs.Pieces.{AppendsSome}
use Rattle.clocks.specs.declared.dates.CivilTime.{CivilTime}
use Rattle.clocks.specs.Civil.{IsCivil}
use Rattle.squares.specs.declared.shogi.moves.SMove.{SMove}
use Rattle.squares.specs.ShogiOpening.{opening}
use Rattle.shogi_moves.specs.Declaring.{CanDeclare}
use Rattle.shogi_moves.specs.Rules.{Legal}
use Rattle.shogi_repetition.specs.Line.{last_position}
use Rattle.csa.specs.declared.head.CsaEnd.TheVariants as csa_end
use Rattle.csa.specs.declared.head.CsaHead.{CsaHead}
use Rattle.csa.specs.declared.game_writer.GameWriter.{GameWriter}
use Rattle.csa.specs.Writing.{head_text, entries_text}
use Rattle.csa.specs.WrittenGame.{IsGameText}

-- the lines before the moves; `at` is the civil time of the start
unfoldable pub lines_text : CsaHead → CivilTime → List ℕ
lines_text head at = head_text head.event.now head.black.now head.white.now at

-- the text of a game up to the last of these moves, without an end
abbrev pub text_up_to : CsaHead → List (SMove × ℕ) → CivilTime → List ℕ
text_up_to head entries at = lines_text head at ++ entries_text opening entries

-- Since `before` the writer has received a prefix of the text; `at` is the civil time in UTC of the start.
pub record HasBegun (start : ℕ) (text : CivilTime → List ℕ) (before now : Option (List ℕ)) : Type 0 where
  pub at : CivilTime
  pub shown : IsCivil start at
  pub begun : AppendsSome before now (text at)

-- Since `before` the writer has received the head and these moves, and the state of the game is the one after them.
pub record HasWritten (head : CsaHead) (entries : List (SMove × ℕ)) (before now : Option (List ℕ))
    (game : GameWriter) : Type 0 where
  pub at : CivilTime
  pub shown : IsCivil head.start at
  pub written : Appends before now (text_up_to head entries at)
  pub position : game.position ≡ last_position opening (map (λ e. e.0) entries)
  pub end : game.end ≡ head.end

-- the move is legal after the written ones
abbrev pub MayFollow : GameWriter → SMove → Type 0
MayFollow game m = Legal game.position m

-- the end of the game agrees with the position after the written moves: a declared win must be allowed there
abbrev pub MayEnd : GameWriter → Type 0
MayEnd game = game.end ≡ Some csa_end.Declared → CanDeclare game.position

-- whatever was written before, one more move is written now
abbrev pub AddsEntry : SMove × ℕ → GameWriter → GameWriter → Option (List ℕ) → Option (List ℕ) → Type 0
AddsEntry entry old new held now =
    (head : CsaHead) (before : Option (List ℕ)) (entries : List (SMove × ℕ)) → HasWritten head entries before held old →
    HasWritten head (entries ++ entry ∷ []) before now new

-- whatever was written before, a prefix of the text with one more move is written now
abbrev pub BeginsEntry : SMove × ℕ → GameWriter → Option (List ℕ) → Option (List ℕ) → Type 0
BeginsEntry entry game held now =
    (head : CsaHead) (before : Option (List ℕ)) (entries : List (SMove × ℕ)) →
    HasWritten head entries before held game →
    HasBegun head.start (text_up_to head (entries ++ entry ∷ [])) before now

-- whatever was written before, the state of the game is unchanged
abbrev pub StandsStill : GameWriter → GameWriter → Type 0
StandsStill old new =
    (head : CsaHead) (before held : Option (List ℕ)) (entries : List (SMove × ℕ))
    → HasWritten head entries before held old →
    HasWritten head entries before held new

-- the writer has received the whole text of the game
abbrev pub AddsGame : CsaHead → List (SMove × ℕ) → Option (List ℕ) → Option (List ℕ) → Type 0
AddsGame head entries before now =
    (text : List ℕ) × IsGameText head.event.now head.black.now head.white.now head.start head.end entries text ×
    Appends before now text

-- the writer has received a prefix of the whole text of the game
abbrev pub BeginsGame : CsaHead → List (SMove × ℕ) → Option (List ℕ) → Option (List ℕ) → Type 0
BeginsGame head entries before now =
    (text : List ℕ) × IsGameText head.event.now head.black.now head.white.now head.start head.end entries text ×
    AppendsSome before now text

-- whatever was written before, the whole text of the game is written now
abbrev pub Finishes : GameWriter → Option (List ℕ) → Option (List ℕ) → Type 0
Finishes game held now =
    (head : CsaHead) (before : Option (List ℕ)) (entries : List (SMove × ℕ)) → HasWritten head entries before held game
    →
    AddsGame head entries before now

-- whatever was written before, a prefix of the whole text of the game is written now
abbrev pub BeginsEnd : GameWriter → Option (List ℕ) → Option (List ℕ) → Type 0
BeginsEnd game held now =
    (head : CsaHead) (before : Option (List ℕ)) (entries : List (SMove × ℕ)) → HasWritten head entries before held game
    →
    BeginsGame head entries before now

-- a prefix of the lines before the moves is a prefix of each game with these lines
abbrev pub LinesBeginGames : Type 0
LinesBeginGames =
    (head : CsaHead) (entries : List (SMove × ℕ)) (before now : Option (List ℕ))
    → HasBegun head.start (lines_text head) before now →
    BeginsGame head entries before now

-- a prefix of the text up to some moves is a prefix of each game that continues them
abbrev pub MovesBeginGames : Type 0
MovesBeginGames =
    (head : CsaHead) (entries more : List (SMove × ℕ)) (before now : Option (List ℕ))
    → HasBegun head.start (text_up_to head entries) before now →
    BeginsGame head (entries ++ more) before now

-- A game that is written move by move. No promise of the program rests on these definitions.
use Rattle.std.specs.Prelude.{◌≡◌, ◌+◌, ◌^◌, ◌<◌, ℕ, Option, List, [], ◌∷◌, ◌++◌, length}
use Rattle.std.specs.Io.KnownBytes.{Appends}
use Rattle.record_writer.specs.Pieces.{AppendsSome}
use Rattle.squares.specs.declared.draughts.moves.DMove.{DMove}
use Rattle.squares.specs.DraughtsOpening.{opening}
use Rattle.draughts_moves.specs.Legal.{Legal}
use Rattle.draughts_draws.specs.Line.{last_position}
use Rattle.pdn_games.specs.declared.head.PdnHead.{PdnHead}
use Rattle.pdn_games.specs.declared.game_writer.GameWriter.{GameWriter}
use Rattle.pdn_games.specs.Writing.{head_text, plies_text, game_text}

-- the tags of a head, and the empty line after them
unfoldable pub tags_text : PdnHead → List ℕ
tags_text head = head_text head.event.now head.date head.white.now head.black.now head.score

-- the text of a game up to the last of these moves, without an end
abbrev pub text_up_to : PdnHead → List DMove → List ℕ
text_up_to head ms = tags_text head ++ plies_text opening 0 ms

-- the whole text of a game
unfoldable pub whole_text : PdnHead → List DMove → List ℕ
whole_text head ms = game_text head.event.now head.date head.white.now head.black.now head.score ms

-- Since `before` the writer has received the head and these moves, and the state of the game is the one after them.
pub record HasWritten (head : PdnHead) (ms : List DMove) (before now : Option (List ℕ)) (game : GameWriter) : Type 0
  where
    pub written : Appends before now (text_up_to head ms)
    pub position : game.position ≡ last_position opening ms
    pub plies : game.plies ≡ length ms
    pub score : game.score ≡ head.score

-- the move is legal after the written ones, and the number of plies does not overflow
abbrev pub MayFollow : GameWriter → DMove → Type 0
MayFollow game m = Legal game.position m × (game.plies + 1 < 2 ^ 64)

-- whatever was written before, one more move is written now
abbrev pub AddsMove : DMove → GameWriter → GameWriter → Option (List ℕ) → Option (List ℕ) → Type 0
AddsMove m old new held now =
    (head : PdnHead) (before : Option (List ℕ)) (ms : List DMove) → HasWritten head ms before held old →
    HasWritten head (ms ++ m ∷ []) before now new

-- whatever was written before, a prefix of the text with one more move is written now
abbrev pub BeginsMove : DMove → GameWriter → Option (List ℕ) → Option (List ℕ) → Type 0
BeginsMove m game held now =
    (head : PdnHead) (before : Option (List ℕ)) (ms : List DMove) → HasWritten head ms before held game →
    AppendsSome before now (text_up_to head (ms ++ m ∷ []))

-- whatever was written before, the state of the game is unchanged
abbrev pub StandsStill : GameWriter → GameWriter → Type 0
StandsStill old new =
    (head : PdnHead) (before held : Option (List ℕ)) (ms : List DMove) → HasWritten head ms before held old →
    HasWritten head ms before held new

-- whatever was written before, the whole text of the game is written now
abbrev pub Finishes : GameWriter → Option (List ℕ) → Option (List ℕ) → Type 0
Finishes game held now =
    (head : PdnHead) (before : Option (List ℕ)) (ms : List DMove) → HasWritten head ms before held game →
    Appends before now (whole_text head ms)

-- whatever was written before, a prefix of the whole text of the game is written now
abbrev pub BeginsEnd : GameWriter → Option (List ℕ) → Option (List ℕ) → Type 0
BeginsEnd game held now =
    (head : PdnHead) (before : Option (List ℕ)) (ms : List DMove) → HasWritten head ms before held game →
    AppendsSome before now (whole_text head ms)

-- a prefix of the tags is a prefix of the whole text of each game with these tags
abbrev pub TagsBeginGames : Type 0
TagsBeginGames =
    (head : PdnHead) (ms : List DMove) (before now : Option (List ℕ)) → AppendsSome before now (tags_text head) →
    AppendsSome before now (whole_text head ms)

-- a prefix of the text up to some moves is a prefix of the whole text of each game that continues them
abbrev pub MovesBeginGames : Type 0
MovesBeginGames =
    (head : PdnHead) (ms more : List DMove) (before now : Option (List ℕ)) → AppendsSome before now (text_up_to head ms)
    →
    AppendsSome before now (whole_text head (ms ++ more))

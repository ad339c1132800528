-- The PDN record of a game of draughts. No promise of the program rests on these definitions.
use Rattle.std.specs.Prelude.{◌≡◌, ℕ, List, Option}
use Rattle.clocks.specs.Civil.{IsCivil}
use Rattle.squares.specs.declared.draughts.moves.DMove.{DMove}
use Rattle.draughts_draws.specs.declared.ends.DEnd.{DEnd}
use Rattle.pdn_games.specs.declared.head.PdnHead.{PdnHead}
use Rattle.pdn_games.specs.declared.game_writer.GameWriter.{GameWriter}
use Rattle.pdn_games.specs.internal.Writer.{HasWritten}
use Rattle.club_exports.specs.Title.{Title}
use Rattle.club_exports.specs.Written.{made_in}

-- the PDN tags of the game; First is White
pub record IsPdnHead (title : Title DEnd) (head : PdnHead) : Type 0 where
  pub event : head.event.now ≡ title.event
  pub white : head.white.now ≡ title.first
  pub black : head.black.now ≡ title.second
  pub score : head.score ≡ title.result
  pub shown : IsCivil title.start head.date

-- the tags and the moves were written
pub record HasWrittenPdn (title : Title DEnd) (plies : List (DMove × ℕ)) (before now : Option (List ℕ))
    (game : GameWriter) : Type 0 where
  pub head : PdnHead
  pub is_head : IsPdnHead title head
  pub written : HasWritten head (made_in plies) before now game

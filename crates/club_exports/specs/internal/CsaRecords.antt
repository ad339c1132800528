-- The CSA record of a game of shogi. No promise of the program rests on these definitions.
use Rattle.std.specs.Prelude.{◌≡◌, ℕ, List, Option}
use Rattle.squares.specs.declared.shogi.moves.SMove.{SMove}
use Rattle.shogi_repetition.specs.declared.ends.SEnd.{SEnd}
use Rattle.csa.specs.declared.head.CsaHead.{CsaHead}
use Rattle.csa.specs.declared.game_writer.GameWriter.{GameWriter}
use Rattle.csa.specs.internal.Writer.{HasWritten}
use Rattle.club_exports.specs.Title.{Title}
use Rattle.club_exports.specs.CsaRecords.{end_told}

-- the data of the CSA header
pub record IsCsaHead (title : Title SEnd) (head : CsaHead) : Type 0 where
  pub event : head.event.now ≡ title.event
  pub black : head.black.now ≡ title.first
  pub white : head.white.now ≡ title.second
  pub start : head.start ≡ title.start
  pub end : head.end ≡ end_told title.end

-- the header and the moves were written
pub record HasWrittenCsa (title : Title SEnd) (plies : List (SMove × ℕ)) (before now : Option (List ℕ))
    (game : GameWriter) : Type 0 where
  pub head : CsaHead
  pub is_head : IsCsaHead title head
  pub written : HasWritten head plies before now game

-- The whole text of a game, and the ends that it may have.
use Rattle.std.specs.Prelude.{◌≡◌, ℕ, Option, List, ◌++◌, map}
use Rattle.clocks.specs.declared.dates.CivilTime.{CivilTime}
use Rattle.clocks.specs.Civil.{IsCivil}
use Rattle.squares.specs.declared.shogi.moves.SMove.{SMove}
use Rattle.squares.specs.ShogiOpening.{opening}
use Rattle.shogi_repetition.specs.Line.{last_position}
use Rattle.csa.specs.declared.head.CsaEnd.{CsaEnd}
use Rattle.csa.specs.Writing.{head_text, entries_text, end_text}

-- the unique text of a game: the head with the civil time in UTC of the start, the moves with their seconds, and the
-- end
pub record IsGameText (event black white : List ℕ) (start : ℕ) (end : Option CsaEnd) (entries : List (SMove × ℕ))
    (text : List ℕ) : Type 0 where
  pub at : CivilTime
  pub shown : IsCivil start at
  pub written : text ≡ head_text event black white at ++ entries_text opening entries
      ++ end_text end (last_position opening (map (λ e. e.0) entries)).turn

-- The PDN record of a game of draughts.
use Rattle.std.specs.Prelude.{◌≡◌, ℕ, List}
use Rattle.clocks.specs.declared.dates.CivilTime.{CivilTime}
use Rattle.clocks.specs.Civil.{IsCivil}
use Rattle.squares.specs.declared.draughts.moves.DMove.{DMove}
use Rattle.draughts_draws.specs.declared.ends.DEnd.{DEnd}
use Rattle.pdn_games.specs.Writing.{game_text}
use Rattle.club_exports.specs.Title.{Title}
use Rattle.club_exports.specs.Written.{made_in}

-- the record's text, dated by the start of the game in UTC
pub record IsPdnText (title : Title DEnd) (plies : List (DMove × ℕ)) (text : List ℕ) : Type 0 where
  pub at : CivilTime
  pub shown : IsCivil title.start at
  pub written : text ≡ game_text title.event at title.first title.second title.result (made_in plies)

-- A game, its clock and its legal moves in one text. No promise of the program rests on these definitions.
use Rattle.std.specs.Prelude.{◌≡◌, ℕ}
use Rattle.club_rows.specs.Club.{ClubGame, ClubState}
use Rattle.club_changes.specs.Stored.{AreMovesOf}
use Rattle.club_answers.specs.Games.{game_summary_of}
use Rattle.club_answers.specs.GameBodies.{shown_of}
use Rattle.club_answers.specs.Viewed.{IsViewOf}
use Rattle.club_answers.specs.declared.viewed.ViewedGame.{ViewedGame}
use Rattle.club_lists.specs.Lines.{game_name}
use Rattle.club_lists.specs.ShownViews.{texts_view}
use Rattle.club_lists.specs.internal.ShownViews.{game_view}
use Rattle.club_lists.specs.internal.SummaryViews.{summary_of}
use Rattle.club_lists.specs.declared.page.GamePage.{GamePage}
use Rattle.club_answers.specs.Pages.{kind_of}

-- the data of a page are those of this game
pub record IsGamePage (s : ClubState) (id : ℕ) (game : ClubGame) (page : GamePage) : Type 0 where
  pub summary : summary_of page.summary ≡ game_summary_of s id game
  pub kind : game_name page.kind ≡ kind_of s game
  pub viewed : ViewedGame
  pub is_view : IsViewOf s game viewed
  pub shown : game_view page.shown ≡ shown_of viewed
  pub legal : AreMovesOf game (texts_view page.legal.items)

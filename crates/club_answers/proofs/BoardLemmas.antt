-- What is shown of a game's board.
use Rattle.std.proofs.Common.{◌≡◌, ℕ, List, map, Option, Some, None, refl}
use Rattle.std.specs.Prelude.{string_bytes}
use Rattle.std.specs.Option.{option_map}
use Rattle.club_core.specs.Events.{Event}
use Rattle.club_core.specs.Members.{Member}
use Rattle.club_core.specs.State.{draughts, shogi, place}
use Rattle.club_rows.specs.Club.{ClubGame, ClubState}
use Rattle.club_lists.specs.Listing.{event_name, member_name}
use Rattle.club_answers.specs.Viewed.{IsPlayedIn, IsViewed, IsViewOf}
use Rattle.club_answers.specs.declared.viewed.GameProgress.{GameProgress}
use Rattle.club_answers.specs.declared.viewed.ViewedGame.{ViewedGame}
use Rattle.club_answers.specs.Boards.{moves_in}
use Rattle.club_answers.specs.Games.{game_summary_of}

pub event_is : (event : Option Event) (name : List ℕ) → Some name ≡ option_map (λ e. e.name) event
    → name ≡ event_name event
event_is None name is = cc
event_is (Some event) name is = cc

pub member_is : (member : Option Member) (name : List ℕ) → Some name ≡ option_map (λ m. m.name) member
    → name ≡ member_name member
member_is None name is = cc
member_is (Some member) name is = cc

pub moves_are : (s : ClubState) (game : ClubGame) (played : GameProgress) → IsPlayedIn s game played
    → map (λ t. string_bytes t) played.moves.items ≡ moves_in game
moves_are s (draughts game) played is = is.moves
moves_are s (shogi game) played is = is.moves

-- the view is of the game that stands at that number
pub view_is : (s : ClubState) (id : ℕ) (game : ClubGame) (viewed : ViewedGame) → place s.games id ≡ Some game
    → IsViewed s id (Some viewed) → IsViewOf s game viewed
view_is s id game viewed at (other, there, is) =
    let one : game ≡ other = cc in rw one is

-- the entry of a game has its number
pub id_of_summary : (s : ClubState) (id : ℕ) (game : ClubGame) → (game_summary_of s id game).id ≡ id
id_of_summary s id (draughts game) = refl
id_of_summary s id (shogi game) = refl

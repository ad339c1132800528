-- The lists of a club as lines of text.
use Rattle.std.specs.Prelude.{◌≡◌, ◌==◌, ◌&&◌, ℕ, zero, suc, not, List, [], ◌∷◌, ◌++◌, length, codes, decimal}
use Rattle.std.specs.Prelude.{Option, Some, None, count_by}
use Rattle.squares.specs.declared.sides.Side.{Side}
use Rattle.squares.specs.declared.sides.Side.TheVariants.{First, Second}
use Rattle.club_rules.specs.declared.names.GameKind.{GameKind}
use Rattle.club_rules.specs.declared.names.GameKind.TheVariants.{Draughts, Shogi}
use Rattle.club_core.specs.Events.{Event}
use Rattle.club_core.specs.Members.{Member}
use Rattle.club_core.specs.State.{kind_at, place}
use Rattle.club_lists.specs.Dates.{IsUntil}
use Rattle.club_lists.specs.Listing.{event_of, first_name, second_name}
use Rattle.club_lists.specs.GameSummary.{Over, GameSummary, deadline, is_over, over_text}

-- the texts of the elements, concatenated; ids count up from this one
abbrev pub numbered : {A : Type 0} → (ℕ → A → List ℕ) → ℕ → List A → List ℕ
numbered text id [] = []
numbered text id (x ∷ xs) = text id x ++ numbered text (suc id) xs

-- ---- members

-- the number of a member's present key, which is that of the keys given later; nothing for the first key
abbrev pub key_tail : ℕ → List ℕ
key_tail zero = []
key_tail (suc n) = codes " key " ++ decimal (suc n)

-- `member ID NAME`, or `member ID NAME key NUMBER` if the present key is not the first one; keys are never written
abbrev pub member_line : ℕ → Member → List ℕ
member_line id member =
    codes "member " ++ (decimal id ++ (codes " " ++ (member.name ++ (key_tail (length member.later) ++ codes "\n"))))

-- the lines of all members, by id
abbrev pub member_lines : List Member → List ℕ
member_lines members = numbered member_line 1 members

-- ---- events

-- name of a game, in lists and in JSON
abbrev pub game_name : GameKind → List ℕ
game_name Draughts = codes "draughts"
game_name Shogi = codes "shogi"

-- name of the game that is played in an event
abbrev pub kind_name : List Event → GameSummary → List ℕ
kind_name events told = game_name (kind_at (place events told.event))

-- numbers of all and of running games of an event
abbrev pub games_of : ℕ → List GameSummary → ℕ
games_of event games = count_by (λ told. told.event == event) games

-- number of running games of an event
abbrev pub running_of : ℕ → List GameSummary → ℕ
running_of event games = count_by (λ told. told.event == event && not (is_over told)) games

-- the word after an event that was closed to challenges
abbrev pub closed_tail : Option ℕ → List ℕ
closed_tail None = []
closed_tail (Some moment) = codes " closed"

-- `GAME BUDGET INCREMENT GAMES RUNNING`, and `closed` if the event takes no challenges
abbrev pub event_tail : Event → (games running : ℕ) → List ℕ
event_tail event games running =
    game_name event.game ++ (codes " " ++ (decimal event.terms.budget ++ (codes " "
    ++ (decimal event.terms.increment ++ (codes " " ++ (decimal games ++ (codes " " ++ (decimal running
    ++ (closed_tail event.closed ++ codes "\n")))))))))

-- `event ID NAME`, followed by the tail
abbrev pub event_text : ℕ → Event → (games running : ℕ) → List ℕ
event_text id event games running =
    codes "event " ++ (decimal id ++ (codes " " ++ (event.name ++ (codes " " ++ event_tail event games running))))

-- the line of the event with this id, with the numbers of its games
abbrev pub event_line : List GameSummary → ℕ → Event → List ℕ
event_line games id event = event_text id event (games_of id games) (running_of id games)

-- the lines of all events, by id
abbrev pub event_lines : List GameSummary → List Event → List ℕ
event_lines games events = numbered (event_line games) 1 events

-- ---- games

-- the key, or `=` if there is none
abbrev pub key_text : Option (List ℕ) → List ℕ
key_text None = codes "="
key_text (Some key) = key

-- name of the player of a side
abbrev pub player_name : List Member → Side → GameSummary → List ℕ
player_name members First told = first_name members told
player_name members Second told = second_name members told

-- `end NAME RESULT`, without a result for a void game, or `turn NAME until DEADLINE`
abbrev pub IsGameState : List Member → GameSummary → Option Over → List ℕ → Type 0
IsGameState members told (Some over) text = text ≡ codes "end " ++ over_text over
IsGameState members told None text = (second : List ℕ) × IsUntil (deadline told) second
    × (text ≡ codes "turn " ++ (player_name members told.turn told ++ (codes " until " ++ second)))

-- `SECOND KEY ply PLIES`, followed by the state
abbrev pub game_tail : List Member → GameSummary → List ℕ → List ℕ
game_tail members told stands =
    second_name members told ++ (codes " " ++ (key_text told.key ++ (codes " ply " ++ (decimal told.plies
    ++ (codes " " ++ (stands ++ codes "\n"))))))

-- `game ID EVENT FIRST`, followed by the tail
abbrev pub game_line : List Member → List Event → GameSummary → List ℕ → List ℕ
game_line members events told stands =
    codes "game " ++ (decimal told.id ++ (codes " " ++ (event_of events told ++ (codes " " ++ (first_name members told
    ++ (codes " " ++ game_tail members told stands))))))

module _ (members : List Member) (events : List Event) where
  -- line of a game
  abbrev pub IsGameLine : GameSummary → List ℕ → Type 0
  IsGameLine told line = (stands : List ℕ) × IsGameState members told told.over stands
      × (line ≡ game_line members events told stands)

  -- lines of these games, in order
  abbrev pub AreGameLines : List GameSummary → List ℕ → Type 0
  AreGameLines [] text = text ≡ []
  AreGameLines (told ∷ games) text =
      (line : List ℕ) × (rest : List ℕ) × IsGameLine told line × AreGameLines games rest × (text ≡ line ++ rest)

-- A game: its players and moves, and the clocks, position, end and result that follow from them.
use Rattle.std.specs.Prelude.{ℕ, zero, suc, ◌+◌, ◌-◌, ◌==◌, List, [], ◌∷◌, length, map, take, Option, Some, None}
use Rattle.std.specs.Prelude.{if◌then◌else◌}
use Rattle.squares.specs.declared.sides.Side.{Side}
use Rattle.squares.specs.declared.sides.Side.TheVariants.{First, Second}
use Rattle.squares.specs.declared.sides.Score.{Score}
use Rattle.squares.specs.Sides.{other}
use Rattle.clocks.specs.Clock.{after_move}
use Rattle.club_rules.specs.GameRules.{GameRules}
use Rattle.club_rules.specs.Line.{position_after}
use Rattle.club_requests.specs.declared.outside_end.OutsideEnd.{OutsideEnd}
use Rattle.club_requests.specs.OutsideEnd.{outside_score}
use Rattle.club_requests.specs.declared.rulings.Ruling.{Ruling}
use Rattle.club_requests.specs.declared.rulings.Ruling.TheVariants.{Grant, Award, Void}
use Rattle.club_requests.specs.declared.rulings.Verdict.{Verdict}
use Rattle.club_requests.specs.Rulings.{verdict_score}
use Rattle.club_core.specs.declared.rows.GameEnd.{GameEnd}
use Rattle.club_core.specs.declared.rows.GameEnd.TheVariants as game_end
use Rattle.club_core.specs.declared.rows.Offer.{Offer}
use Rattle.club_core.specs.Events.{Terms}
use Rattle.club_core.specs.Rulings.{GivenRuling, verdict_of}

-- a move with its timestamp
pub record Entry (M : Type 0) : Type 0 where
  pub made : M
  pub moment : ℕ

-- event and players are ids; the last entry and the last ruling are the newest
pub record Game (M : Type 0) : Type 0 where
  pub key : Option (List ℕ)
  pub event : ℕ
  pub first : ℕ
  pub second : ℕ
  pub start : ℕ
  pub entries : List (Entry M)
  pub offer : Option Offer
  pub outside : Option OutsideEnd
  pub rulings : List GivenRuling

-- seconds left for each side, and the timestamp since which the clock of the side to move runs
pub record Clocks : Type 0 where
  pub left_first : ℕ
  pub left_second : ℕ
  pub since : ℕ

-- seconds left for a side
abbrev pub left_of : Side → Clocks → ℕ
left_of First c = c.left_first
left_of Second c = c.left_second

-- seconds left after a move in time
abbrev pub left_after : ℕ → ℕ → ℕ → ℕ
left_after left increment elapsed = (after_move (record { left = left; increment = increment }) elapsed).left

-- clocks after a move of this side at this timestamp
abbrev pub spend : ℕ → Side → ℕ → Clocks → Clocks
spend increment First m c =
    record { left_first = left_after c.left_first increment (m - c.since); left_second = c.left_second; since = m }
spend increment Second m c =
    record { left_first = c.left_first; left_second = left_after c.left_second increment (m - c.since); since = m }

-- clocks after a ruling: a grant adds its seconds to its side
abbrev pub after_ruling : Ruling → Clocks → Clocks
after_ruling (Grant First seconds) c = record c { left_first = c.left_first + seconds }
after_ruling (Grant Second seconds) c = record c { left_second = c.left_second + seconds }
after_ruling (Award score) c = c
after_ruling Void c = c

-- clocks after the rulings that were given when exactly this many plies were played
abbrev pub after_rulings : List GivenRuling → ℕ → Clocks → Clocks
after_rulings [] plies c = c
after_rulings (r ∷ rs) plies c = after_rulings rs plies (if r.plies == plies then after_ruling r.ruling c else c)

-- clocks after moves at these timestamps, this side moving first, and after the rulings before each of them; so many
-- plies were played before
abbrev pub spend_all : ℕ → List GivenRuling → ℕ → Side → List ℕ → Clocks → Clocks
spend_all increment rulings plies side [] c = c
spend_all increment rulings plies side (m ∷ ms) c =
    spend_all increment rulings (suc plies) (other side) ms
    (spend increment side m (after_rulings rulings plies c))

-- the side to move after this many plies, starting with this side
abbrev pub turns : ℕ → Side → Side
turns zero side = side
turns (suc n) side = turns n (other side)

-- the side to move after this many plies of a game
abbrev pub side_after : ℕ → Side
side_after n = turns n First

module _ {M : Type 0} (game : Game M) where
  -- the moves of a game
  abbrev pub moves_of : List M
  moves_of = map (λ e. e.made) game.entries

  -- the timestamps of a game's moves
  abbrev pub moments_of : List ℕ
  moments_of = map (λ e. e.moment) game.entries

  -- clocks at the start of a game: each side has the event's budget
  abbrev pub opening_clocks : Terms → Clocks
  opening_clocks terms = record { left_first = terms.budget; left_second = terms.budget; since = game.start }

  -- clocks right after the last move of a game
  abbrev pub clocks_then : Terms → Clocks
  clocks_then terms = spend_all terms.increment game.rulings 0 First moments_of (opening_clocks terms)

  -- clocks of a game: those right after the last move, and what was granted since
  abbrev pub clocks_of : Terms → Clocks
  clocks_of terms = after_rulings game.rulings (length game.entries) (clocks_then terms)

-- the end of a game: the one that the rules gave, otherwise the arbiter's, otherwise the one for an outside reason
abbrev pub end_with : {E : Type 0} → Option E → Option Verdict → Option OutsideEnd → Option (GameEnd E)
end_with (Some e) verdict outside = Some (game_end.Rule e)
end_with None (Some v) outside = Some (game_end.Verdict v)
end_with None None (Some o) = Some (game_end.Outside o)
end_with None None None = None

module _ {P M E T : Type 0} (rules : GameRules P M E T) where
  -- score of an end, given the side to move; a void game has none
  abbrev pub end_score : Side → GameEnd E → Option Score
  end_score turn (game_end.Rule e) = Some (rules.outcome e turn)
  end_score turn (game_end.Verdict v) = verdict_score v
  end_score turn (game_end.Outside o) = Some (outside_score o turn)

  -- score of an end, if there is one
  abbrev pub score_with : Option (GameEnd E) → Side → Option Score
  score_with None turn = None
  score_with (Some e) turn = end_score turn e

module _ {P M E T : Type 0} (rules : GameRules P M E T) (game : Game M) where
  -- the position after all moves of a game
  abbrev pub last_position : P
  last_position = position_after rules rules.start (moves_of game)

  -- the end that the rules give to a game, if any
  abbrev pub rule_end : Option E
  rule_end = rules.judge rules.start (moves_of game)

  -- the end of a game, if it has ended
  abbrev pub end_of : Option (GameEnd E)
  end_of = end_with rule_end (verdict_of game.rulings) game.outside

  -- the end of a game without the arbiter's verdict, if it has ended without it
  abbrev pub end_beneath : Option (GameEnd E)
  end_beneath = end_with rule_end None game.outside

  -- the side to move
  abbrev pub turn_of : Side
  turn_of = rules.turn last_position

  -- the score of a game, if it has ended and is not void
  abbrev pub result_of : Option Score
  result_of = score_with rules end_of turn_of

  -- the score of a game without the arbiter's verdict, if it has ended without it
  abbrev pub result_beneath : Option Score
  result_beneath = score_with rules end_beneath turn_of

-- the game after this many plies, with all its rulings
abbrev pub game_at : {M : Type 0} → Game M → ℕ → Game M
game_at game plies = record game { entries = take plies game.entries }

-- The laws that the rules of each game satisfy.
use Rattle.std.specs.Prelude.{◌≡◌, ◌≤◌, ◌+◌, ◌↔◌, ℕ, List, [], length, None, IsSome, Ok, true}
use Rattle.squares.specs.declared.sides.Side.TheVariants.{First}
use Rattle.squares.specs.Sides.{other}
use Rattle.club_rules.specs.GameRules.{GameRules, ply_limit}
use Rattle.club_rules.specs.Line.{position_after, IsLegalLine, IsPlayedLine, line_track, line_numbers, times_stood}
use Rattle.club_rules.specs.Line.{FirstStands}

-- StandsFor: the text denotes the position
module _ {P : Type 0} (StandsFor : List ℕ → P → Type 0) where
  -- a text denotes at most one position
  abbrev pub StandsForOne : Type 0
  StandsForOne = (text : List ℕ) (p q : P) → StandsFor text p → StandsFor text q → p ≡ q

module _ {P M E T : Type 0} (rules : GameRules P M E T) where
  -- First makes the first move
  abbrev pub FirstStarts : Type 0
  FirstStarts = rules.turn rules.start ≡ First

  -- no game has ended before its first move
  abbrev pub StartsRunning : Type 0
  StartsRunning = rules.judge rules.start [] ≡ None

  -- a legal move passes the turn to the other side
  abbrev pub TurnPasses : Type 0
  TurnPasses = (p : P) (m : M) → rules.check p m ≡ Ok tt → rules.turn (rules.play p m) ≡ other (rules.turn p)

  -- the text written for a legal move is read as that move
  abbrev pub ReadsBack : Type 0
  ReadsBack = (p : P) (m : M) → rules.check p m ≡ Ok tt → rules.read_move p (rules.write_move p m) ≡ Ok m

  -- `is_same_move` is equality of moves
  abbrev pub SameIs : Type 0
  SameIs = (a b : M) → (rules.same a b ≡ true) ↔ (a ≡ b)

  -- `same_position` is equality of positions
  abbrev pub SamePositionIs : Type 0
  SamePositionIs = (p q : P) → (rules.same_position p q ≡ true) ↔ (p ≡ q)

  -- every legal line has ended at the ply limit
  abbrev pub EndsAtLimit : Type 0
  EndsAtLimit =
      (ms : List M) → IsLegalLine rules rules.start ms → length ms ≡ ply_limit → IsSome (rules.judge rules.start ms)

  -- the text written for a position that is reachable from the start denotes it
  abbrev pub WritesPositions : (List ℕ → P → Type 0) → Type 0
  WritesPositions StandsFor =
      (ms : List M) → IsLegalLine rules rules.start ms →
      StandsFor (rules.write_position (position_after rules rules.start ms)) (position_after rules rules.start ms)

  -- positions that are reachable from the start are equal if their texts are
  abbrev pub TextsTellPositions : Type 0
  TextsTellPositions =
      (ms ns : List M) → IsLegalLine rules rules.start ms → IsLegalLine rules rules.start ns →
      rules.write_position (position_after rules rules.start ms)
      ≡ rules.write_position (position_after rules rules.start ns) →
      position_after rules rules.start ms ≡ position_after rules rules.start ns

  -- The track of a line played from the start, with its last position, number of plies, repetition count and first
  -- occurrence, determines the same end as the whole line.
  abbrev pub TracksTellEnds : Type 0
  TracksTellEnds =
      (ms : List M) (first : ℕ) → IsPlayedLine rules rules.start ms → FirstStands rules rules.start ms first →
      rules.track_end (line_track rules rules.start ms) (position_after rules rules.start ms) (length ms)
      (times_stood rules rules.start ms) first
      ≡ rules.judge rules.start ms

  -- `track_of` inverts `track_numbers`
  abbrev pub NumbersGiveTracks : Type 0
  NumbersGiveTracks = (track : T) → rules.track_of (rules.track_numbers track).0 (rules.track_numbers track).1 ≡ track

  -- any two numbers are the numbers of a track
  abbrev pub TracksGiveNumbers : Type 0
  TracksGiveNumbers = (a b : ℕ) → rules.track_numbers (rules.track_of a b) ≡ (a, b)

  -- neither number of a track exceeds the number of plies by more than one
  abbrev pub NumbersAreFew : Type 0
  NumbersAreFew =
      (ms : List M) → ((line_numbers rules ms).0 ≤ length ms + 1) × ((line_numbers rules ms).1 ≤ length ms + 1)

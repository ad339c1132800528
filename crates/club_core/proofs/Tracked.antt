-- The end of a line by its track.
use Rattle.std.proofs.Common.{◌≡◌, ℕ, ◌+◌, ◌≤◌, List, [], ◌∷◌, ◌++◌, length, Option, Some, None, Ok, refl, sym, ◌∙◌}
use Rattle.std.proofs.Common.{arith, length-append}
use Rattle.std.specs.Option.{option_map}
use Rattle.std.proofs.lemmas.List.{length-map}
use Rattle.club_rules.specs.GameRules.{GameRules}
use Rattle.club_rules.specs.Line.{position_after, IsPlayedLine, track_after, line_track, times_stood, FirstStands}
use Rattle.club_rules.specs.Laws.{TracksTellEnds, NumbersGiveTracks, NumbersAreFew}
use Rattle.club_requests.specs.Limits.{most_plies}
use Rattle.club_core.specs.declared.rows.GameEnd.TheVariants.{Rule}
use Rattle.club_core.specs.Game.{Game, moves_of, last_position, rule_end}
use Rattle.club_core.specs.Step.{played}
use Rattle.club_core.specs.View.{CanGrow, track_of_game}
use Rattle.club_core.specs.internal.View.{rule_in}
use Rattle.club_core.proofs.PlayedLines.{IsPlayedLine-append}
use Rattle.club_core.proofs.Played.{moves_of-played, last-played}

module _ {P M E T : Type 0} (laws : GameRules P M E T) where
  track_after-append : (track : T) (p : P) (ms : List M) (m : M)
      → track_after laws track p (ms ++ m ∷ []) ≡ laws.track_next (track_after laws track p ms)
      (position_after laws p ms) m (laws.play (position_after laws p ms) m)
  track_after-append track p [] m = refl
  track_after-append track p (n ∷ ms) m = track_after-append (laws.track_next track p n (laws.play p n)) (laws.play p n)
      ms m

  -- the track of a line with one move more
  pub line_track-append : (p : P) (ms : List M) (m : M)
      → line_track laws p (ms ++ m ∷ []) ≡ laws.track_next (line_track laws p ms) (position_after laws p ms) m
      (laws.play (position_after laws p ms) m)
  line_track-append p ms m = track_after-append (laws.track_start p) p ms m

  -- what the numbers of a line's track tell of its end
  pub tracked-end : TracksTellEnds laws → NumbersGiveTracks laws
      → (ms : List M) (numbers : ℕ × ℕ) (position : P) (plies times first : ℕ) → IsPlayedLine laws laws.start ms
      → FirstStands laws laws.start ms first → numbers ≡ laws.track_numbers (line_track laws laws.start ms)
      → position ≡ position_after laws laws.start ms → plies ≡ length ms → times ≡ times_stood laws laws.start ms
      → laws.track_end (laws.track_of numbers.0 numbers.1) position plies times first ≡ laws.judge laws.start ms
  tracked-end tell give ms numbers position plies times first line stands numbers_is position_is plies_is times_is =
      rw (numbers_is, position_is, plies_is, times_is, give (line_track laws laws.start ms)) (tell ms first line stands)

  -- the numbers of a track that a line of a game leaves can grow
  pub line-grows : NumbersAreFew laws → (ms : List M) → length ms ≤ most_plies
      → CanGrow (laws.track_numbers (line_track laws laws.start ms))
  line-grows few ms most =
      let bound = few ms in
      record { first = omega (arith, bound.0, most); second = omega (arith, bound.1, most) }

pub rule_in-Rule : {E : Type 0} (end : Option E) → rule_in (option_map Rule end) ≡ end
rule_in-Rule None = refl
rule_in-Rule (Some end) = refl

pub moves-count : {M : Type 0} (game : Game M) (m : M) (moment : ℕ)
    → length (moves_of (played game m moment)) ≡ length game.entries + 1
moves-count game m moment = simp (length-map, length-append)

module _ {P M E T : Type 0} (laws : GameRules P M E T) (game : Game M) (m : M) (moment : ℕ) where
  -- the line of a running game that a legal move was played in
  pub line-played : IsPlayedLine laws laws.start (moves_of game) → rule_end laws game ≡ None
      → laws.check (last_position laws game) m ≡ Ok tt → IsPlayedLine laws laws.start (moves_of (played game m moment))
  line-played line running ok = rw (moves_of-played game m moment)
      (IsPlayedLine-append laws laws.start (moves_of game) m line running ok)

  -- the track of a game that one more move was played in
  pub next-track : (track : T) (before after : P) → track ≡ track_of_game laws game → before ≡ last_position laws game
      → after ≡ last_position laws (played game m moment)
      → laws.track_next track before m after ≡ track_of_game laws (played game m moment)
  next-track track before after track_is before_is after_is =
      rw (track_is, before_is, after_is ∙ last-played laws game m moment, moves_of-played game m moment)
      (sym (line_track-append laws laws.start (moves_of game) m))

-- What a replay keeps with each row.
use Rattle.std.proofs.Common.{◌≡◌, ℕ, ◌+◌, ◌<◌, List, [], ◌∷◌, ◌++◌, length, cond, None, Some, Ok, subst}
use Rattle.std.proofs.Common.{arith, length-append}
use Rattle.std.specs.Prelude.{string_bytes}
use Rattle.club_rules.specs.GameRules.{GameRules}
use Rattle.club_rules.specs.Laws.{SamePositionIs, TextsTellPositions}
use Rattle.club_rules.specs.Line.{position_after}
use Rattle.club_rules.proofs.Proved.{position_after-append, IsLegalLine-append}
use Rattle.club_core.proofs.Proved.{line_track-append, IsPlayedLine-append, IsPlayedLine-none}
use Rattle.club_rows.specs.declared.replay.Replayed.{Replayed}
use Rattle.club_rows.specs.internal.Tally.{IsTallyOf, HasStood, PositionText, same_text, seen_at, stood_then}
use Rattle.club_rows.specs.internal.Tally.{stood_seldom}
use Rattle.club_rows.specs.internal.Replay.{IsReplayed}
use Rattle.club_rows.proofs.TallyLemmas.{few-seldom, stood-then, tally-more}

module _ {R P M E T : Type 0} (rules : GameRules P M E T) where
  -- the move leads to a text, a track, a tally and a count of the new position
  pub record Counts (old new : Replayed R P M E T) (made : M) (position : P) (text : PositionText) : Type 0 where
    pub text_is : string_bytes text ≡ rules.write_position (rules.play old.position made)
    pub track : new.track ≡ rules.track_next old.track old.position made position
    pub stood : stood_seldom (seen_at old.tally text)
        → new.stood ≡ stood_then (seen_at old.tally text) (length old.line.items + 1)
    pub adds : (other : PositionText) → seen_at new.tally other ≡
        cond (same_text text other) (Some new.stood) (seen_at old.tally other)

  -- a replay goes on by a legal move
  pub replayed-more : SamePositionIs rules → TextsTellPositions rules
      → (plies : ℕ) (old new : Replayed R P M E T) (made : M) (position : P) (text : PositionText)
      → IsReplayed rules plies old → plies < 600
      → rules.judge rules.start old.line.items ≡ None → rules.check old.position made ≡ Ok tt
      → position ≡ rules.play old.position made → new.line.items ≡ old.line.items ++ made ∷ [] → new.position ≡ position
      → Counts old new made position text → IsReplayed rules (plies + 1) new
  replayed-more same_is tell plies old new made position text is low running legal played line stands counts =
      let ms = old.line.items in
      let more_line : List M = ms ++ made ∷ [] in
      let here = subst (λ p. rules.check p made ≡ Ok tt) is.position legal in
      let all_legal = IsLegalLine-append rules rules.start ms made is.line.legal here in
      let after = position_after-append rules rules.start ms made in
      let text_is : string_bytes text ≡ rules.write_position (position_after rules rules.start more_line) =
      grind (arith, counts.text_is, is.position, after) in
      let seldom = few-seldom (seen_at old.tally text) (length ms) (is.counted.tally.few text)
      (omega (arith, is.plies_are, low)) in
      let stood = counts.stood seldom in
      let tally = tally-more rules same_is tell ms made all_legal old.tally is.counted.tally text text_is new.tally
      new.stood stood counts.adds in
      let last = stood-then rules same_is tell ms made all_legal old.tally is.counted.tally text text_is in
      let track = line_track-append rules rules.start ms made in
      let played_line = IsPlayedLine-append rules rules.start ms made is.line running here in
      grind (arith, after, track, tally, last, played_line, length-append ms (made ∷ []))

  -- what stands at the start is a replay of no plies
  pub start-replayed : (game : Replayed R P M E T) → game.line.items ≡ [] → game.position ≡ rules.start
      → game.track ≡ rules.track_start rules.start → IsTallyOf rules [] game.tally
      → HasStood rules [] rules.start game.stood → IsReplayed rules 0 game
  start-replayed game line position track tally stood = grind (arith, IsPlayedLine-none rules rules.start)

  -- a replay is the same with other clocks
  pub replayed-clocks : (plies : ℕ) (old new : Replayed R P M E T) → IsReplayed rules plies old
      → new ≡ record old { left_first = new.left_first; left_second = new.left_second } → IsReplayed rules plies new
  replayed-clocks plies old new is same = rw same (record {
    line = is.line;
    position = is.position;
    counted = record { track = is.counted.track; tally = is.counted.tally; stood = is.counted.stood };
    plies_are = is.plies_are;
  })

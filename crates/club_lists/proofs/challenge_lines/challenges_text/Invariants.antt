use Rattle.std.proofs.Common.{◌≡◌, ◌++◌, drop}
use Rattle.std.specs.Prelude.{string_bytes}
use Rattle.club_core.specs.internal.Answer.{events_of, members_of}
use Rattle.club_lists.specs.ChallengeLines.{challenge_lines}
use Rattle.club_lists.proofs.challenge_lines.challenges_text.Given as goal

abbrev pub invariant-loop-challenge : goal.invariant-loop-challenge
invariant-loop-challenge l =
    string_bytes l.text
    ++ challenge_lines (members_of l.members) (events_of l.events) (drop l.challenge-index l.challenges)
    ≡ challenge_lines (members_of l.members) (events_of l.events) l.challenges

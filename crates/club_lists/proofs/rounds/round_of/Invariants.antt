use Rattle.std.proofs.Common.{◌≡◌, drop}
use Rattle.club_lists.specs.Rounds.{end_after, no_end}
use Rattle.club_lists.proofs.rounds.round_of.Given as goal

abbrev pub invariant-loop-byte : goal.invariant-loop-byte
invariant-loop-byte l = end_after l.end (drop l.byte-index l.key) ≡ end_after no_end l.key

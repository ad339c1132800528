use Rattle.std.proofs.Common.{List, ℕ, length, map, drop, ◌++◌}
use Rattle.std.specs.Prelude.{string_bytes}
use Rattle.club_reads.specs.internal.Later.{AreLater}
use Rattle.club_reads.proofs.people.later_keys.Given as goal

abbrev pub invariant-loop-key : goal.invariant-loop-key
invariant-loop-key l = record {
  rest : (rest : List (List ℕ))
      → AreLater l.member.id (drop l.key-index l.keys) (length l.later.items) rest
      → AreLater l.member.id l.keys 0 (map (λ k. string_bytes k) l.later.items ++ rest);
}

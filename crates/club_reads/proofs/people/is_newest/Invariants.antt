use Rattle.std.proofs.Common.{drop}
use Rattle.club_reads.specs.internal.Later.{NoneAfter, SomeAfter}
use Rattle.club_reads.proofs.people.is_newest.Given as goal

abbrev pub invariant-loop-other : goal.invariant-loop-other
invariant-loop-other l = record {
  none : NoneAfter l.key.number (drop l.other-index l.keys) → NoneAfter l.key.number l.keys;
  some : SomeAfter l.key.number (drop l.other-index l.keys) → SomeAfter l.key.number l.keys;
}

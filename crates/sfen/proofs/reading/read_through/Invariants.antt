use Rattle.std.proofs.Common.{◌≡◌, Some, take}
use Rattle.sfen.specs.internal.Places.{IsSane}
use Rattle.sfen.specs.internal.Reading.{run, take_byte, beginning}
use Rattle.sfen.proofs.reading.read_through.Given as goal

abbrev pub invariant-loop-i : goal.invariant-loop-i
invariant-loop-i l = record {
  sane : IsSane l.reading.place;
  read : run take_byte beginning (take l.i l.bytes) ≡ Some l.reading;
}

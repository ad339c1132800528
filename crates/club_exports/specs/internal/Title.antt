-- The header data of a record, and its moves with the seconds that each took. No promise of the program rests on these
-- definitions.
use Rattle.std.specs.Prelude.{ℕ, List, [], ◌∷◌}
use Rattle.club_core.specs.Game.{Entry}
use Rattle.club_exports.specs.declared.heading.RecordHeader.{RecordHeader}
use Rattle.club_exports.specs.Title.{Title}

abbrev pub title_of : {E : Type 0} → RecordHeader E → Title E
title_of h =
    record {
      event = h.event.now;
      first = h.first.now;
      second = h.second.now;
      start = h.start;
      end = h.end;
      result = h.result;
    }

-- the timestamp of the last entry, or of the start
abbrev pub since_after : {M : Type 0} → ℕ → List (Entry M) → ℕ
since_after since [] = since
since_after since (e ∷ es) = since_after e.moment es

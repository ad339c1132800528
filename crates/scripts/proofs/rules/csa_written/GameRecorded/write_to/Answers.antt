use Rattle.std.proofs.Common.{◌∙◌}
use Rattle.scripts.proofs.EntriesLemmas.{entries-played}
use Rattle.scripts.proofs.rules.csa_written.GameRecorded.write_to.Goals as goal

pub write_entries-requires-clause-played : goal.write_entries-requires-clause-played
write_entries-requires-clause-played g c =
    entries-played _ c.as_slice-entries.result.now c.as_slice.result.now c.opening.ensures
    (c.as_slice.ensures.value ∙ c.in_ok-moves.ensures) c.in-Ok-None.ensures.played

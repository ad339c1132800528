use Rattle.std.proofs.Common.{◌∙◌}
use Rattle.scripts.proofs.EntriesLemmas.{entries-played, entries-fit}
use Rattle.scripts.proofs.rules.csa_written.GameRecorded.text.Goals as goal

pub write_game-requires-clause-played : goal.write_game-requires-clause-played
write_game-requires-clause-played c =
    entries-played _ c.as_slice-entries.result.now c.as_slice.result.now c.opening.ensures
    (c.as_slice.ensures.value ∙ c.in_ok-moves.ensures) c.in-Ok-None.ensures.played

pub write_game-requires-clause-end : goal.write_game-requires-clause-end
write_game-requires-clause-end c =
    entries-fit _ c.as_slice-entries.result.now c.as_slice.result.now _ _ c.opening.ensures
    (c.as_slice.ensures.value ∙ c.in_ok-moves.ensures) c.head.ensures c.in-Ok-None.field-0-is c.in-Ok-None.ensures.end

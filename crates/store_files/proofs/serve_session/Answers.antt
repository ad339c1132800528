use Rattle.std.proofs.Math.Logic.{∥∥₁_elim, ∥∥₁_map}
use Rattle.store_files.proofs.FoundLemmas.{was_clean}
use Rattle.store_files.proofs.serve_session.Goals as goal

pub returns-in-Ok-clause-outcomes : goal.returns-in-Ok-clause-outcomes
returns-in-Ok-clause-outcomes g c clean = c.in-Ok.ensures.outcomes (was_clean _ _ c.close_club.ensures.clean clean)

pub returns-in-Ok-clause-history : goal.returns-in-Ok-clause-history
returns-in-Ok-clause-history g c clean opens live from version them sessions serves led left may found finds =
    let served = c.in-Ok.ensures.history (was_clean _ _ c.close_club.ensures.clean clean) opens live from version them
    sessions serves in
    ∥∥₁_elim led squash₁ (λ before.
    c.close_club.ensures.history clean from version them _ (served before) left may found finds)

pub returns-in-Err-clause-kept : goal.returns-in-Err-clause-kept
returns-in-Err-clause-kept g c clean opens live from version them sessions led db left =
    ∥∥₁_map led (λ before. c.in-Err.ensures.kept clean opens live from version them sessions before db left)

pub returns-in-Ok-clause-possible_faults : goal.returns-in-Ok-clause-possible_faults
returns-in-Ok-clause-possible_faults g c = c.in-Ok.ensures.possible_faults

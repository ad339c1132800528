use Rattle.std.proofs.Common.{◌≤◌, subst}
use Rattle.std.proofs.Math.Logic.{∥∥₁_map}
use Rattle.sqlite.specs.Files.{file_state}
use Rattle.sqlite_trees.specs.View.{doubt}
use Rattle.sqlite_store.specs.FileStore.{view as store_view}
use Rattle.store_files.proofs.close_club.Goals as goal

pub returns-clause-clean : goal.returns-clause-clean
returns-clause-clean g c = subst (λ held. doubt (file_state held).is_clean ≤ doubt (store_view c.close.result).is_clean)
    c.into_connection-conn.ensures.same c.close.ensures.clean

pub returns-clause-member : goal.returns-clause-member
returns-clause-member g c clean left may found finds =
    subst (λ held. ∥ (file_state held).may_leave found ∥₁) c.into_connection-conn.ensures.same
    (c.close.ensures.member clean left may found finds)

pub returns-clause-history : goal.returns-clause-history
returns-clause-history g c clean from version them sessions each left may found finds =
    ∥∥₁_map (returns-clause-member g c clean left may found finds) (each found)

use Rattle.std.proofs.Math.Logic.{∥∥₁_elim, ∥∥₁_map}
use Rattle.sqlite_wal.specs.Files.{image_at}
use Rattle.sqlite_store.specs.FileStore.{state as store_state}
use Rattle.sqlite.specs.Files.{file_state}
use Rattle.store.specs.Histories.{HasState}
use Rattle.store_files.proofs.Proved.{was_clean}
use Rattle.club_session.proofs.FoundLemmas.{carried_files, club_tables, kept_files, names_used, not_upgraded}
use Rattle.club_session.proofs.FoundLemmas.{refused_files, shaped_as, sound_files, stays_files}
use Rattle.club_session.proofs.TaskLemmas.{if_accepted, if_init, if_takes_over, if_unopened, if_upgrade, if_verify}
use Rattle.club_session.proofs.TaskLemmas.{verify_under}
use Rattle.club_session.proofs.order.execute_order.Goals as goal

pub returns-clause-begun : goal.returns-clause-begun
returns-clause-begun g c clean =
    let after = was_clean _ _ c.close.ensures.clean clean in
    let before = was_clean _ _ c.act-report.ensures.clean after in
    let opened = (rw c.in-Ok.is at c.requires.opened) before in
    let here = (rw c.in-Ok.is at c.requires.found) before in
    if_init c.args.task.now (λ version begun void left may found finds.
    ∥∥₁_map (c.close.ensures.member clean left may found finds.holds)
    (λ now. begun (void _ (record { holds = here.holds; reads = here.reads })) found now))
    (c.act-report.ensures.begun after opened.0 opened.1)

pub returns-clause-behind : goal.returns-clause-behind
returns-clause-behind g c clean =
    let after = was_clean _ _ c.close.ensures.clean clean in
    let before = was_clean _ _ c.act-report.ensures.clean after in
    let opened = (rw c.in-Ok.is at c.requires.opened) before in
    let here = (rw c.in-Ok.is at c.requires.found) before in
    if_init c.args.task.now (λ version behind them is without.
    let (told, led) = behind them is (without _ (record { holds = here.holds; reads = here.reads })) in (
      told,
      λ left may found finds.
          ∥∥₁_map (c.close.ensures.member clean left may found finds.holds) (λ now. led found now),
    ))
    (c.act-report.ensures.behind after opened.0 opened.1)

pub returns-clause-empty : goal.returns-clause-empty
returns-clause-empty g c clean =
    let after = was_clean _ _ c.close.ensures.clean clean in
    let before = was_clean _ _ c.act-report.ensures.clean after in
    let opened = (rw c.in-Ok.is at c.requires.opened) before in
    let here = (rw c.in-Ok.is at c.requires.found) before in
    if_init c.args.task.now (λ version empty void. empty (void _ (record { holds = here.holds; reads = here.reads })))
    (c.act-report.ensures.empty after opened.0 opened.1)

pub returns-clause-existing : goal.returns-clause-existing
returns-clause-existing g c clean =
    let after = was_clean _ _ c.close.ensures.clean clean in
    let before = was_clean _ _ c.act-report.ensures.clean after in
    let opened = (rw c.in-Ok.is at c.requires.opened) before in
    let here = (rw c.in-Ok.is at c.requires.found) before in
    if_init c.args.task.now (λ version existing have.
    let (told, kept) = existing
    (club_tables (image_at g.S.Start) (file_state c.in-Ok.conn) here opened.0 opened.1 have) in (
      told,
      kept_files (image_at g.S.Start) (file_state c.in-Ok.conn) here (file_state c.act-report.result.1)
          (store_state c.close.result).may_leave (c.close.ensures.member clean) kept,
    ))
    (c.act-report.ensures.existing after opened.0)

pub returns-clause-answer : goal.returns-clause-answer
returns-clause-answer g c clean s are =
    let after = was_clean _ _ c.close.ensures.clean clean in
    let before = was_clean _ _ c.act-report.ensures.clean after in
    let opened = (rw c.in-Ok.is at c.requires.opened) before in
    let here = (rw c.in-Ok.is at c.requires.found) before in
    c.act-report.ensures.answer after opened.0 opened.1 s are.legal
    (are.finds _ (record { holds = here.holds; reads = here.reads }))

pub returns-clause-bounded : goal.returns-clause-bounded
returns-clause-bounded g c clean s are =
    let after = was_clean _ _ c.close.ensures.clean clean in
    let before = was_clean _ _ c.act-report.ensures.clean after in
    let opened = (rw c.in-Ok.is at c.requires.opened) before in
    let here = (rw c.in-Ok.is at c.requires.found) before in
    c.act-report.ensures.bounded after opened.0 opened.1 s are.legal
    (are.finds _ (record { holds = here.holds; reads = here.reads }))

pub returns-clause-given : goal.returns-clause-given
returns-clause-given g c clean s are =
    let after = was_clean _ _ c.close.ensures.clean clean in
    let before = was_clean _ _ c.act-report.ensures.clean after in
    let opened = (rw c.in-Ok.is at c.requires.opened) before in
    let here = (rw c.in-Ok.is at c.requires.found) before in
    c.act-report.ensures.given after opened.0 opened.1 s are.legal
    (are.finds _ (record { holds = here.holds; reads = here.reads }))

pub returns-clause-history : goal.returns-clause-history
returns-clause-history g c clean from versions them sessions leads led left may found finds =
    let after = was_clean _ _ c.close.ensures.clean clean in
    let before = was_clean _ _ c.act-report.ensures.clean after in
    let opened = (rw c.in-Ok.is at c.requires.opened) before in
    let here = (rw c.in-Ok.is at c.requires.found) before in
    ∥∥₁_elim (led _ (record { holds = here.holds; reads = here.reads })) squash₁ (λ was.
    ∥∥₁_map (c.close.ensures.member clean left may found finds.holds)
    (λ now. c.act-report.ensures.history after opened.0 opened.1 from versions them sessions leads was found now))

pub returns-clause-next_state : goal.returns-clause-next_state
returns-clause-next_state g c clean them s are left may found finds =
    let after = was_clean _ _ c.close.ensures.clean clean in
    let before = was_clean _ _ c.act-report.ensures.clean after in
    let opened = (rw c.in-Ok.is at c.requires.opened) before in
    let here = (rw c.in-Ok.is at c.requires.found) before in
    let has : HasState s (file_state c.in-Ok.conn).committed.trees = record {
      them = them;
      version = are.version;
      leaves = are.finds _ (record { holds = here.holds; reads = here.reads });
      shape = are.shape;
    } in
    ∥∥₁_map (c.close.ensures.member clean left may found finds.holds)
    (λ now. c.act-report.ensures.next_state after opened.0 opened.1 s are.legal has found now)

pub returns-clause-passes : goal.returns-clause-passes
returns-clause-passes g c clean s are =
    let after = was_clean _ _ c.close.ensures.clean clean in
    let before = was_clean _ _ c.act-report.ensures.clean after in
    let opened = (rw c.in-Ok.is at c.requires.opened) before in
    let here = (rw c.in-Ok.is at c.requires.found) before in
    c.act-report.ensures.passes after opened.0 opened.1 s are.legal
    (are.finds _ (record { holds = here.holds; reads = here.reads }))

pub returns-clause-asked : goal.returns-clause-asked
returns-clause-asked g c clean s are =
    let after = was_clean _ _ c.close.ensures.clean clean in
    let before = was_clean _ _ c.act-report.ensures.clean after in
    let opened = (rw c.in-Ok.is at c.requires.opened) before in
    let here = (rw c.in-Ok.is at c.requires.found) before in
    c.act-report.ensures.asked after opened.0 opened.1 s are.legal
    (are.finds _ (record { holds = here.holds; reads = here.reads }))

pub returns-clause-sound : goal.returns-clause-sound
returns-clause-sound g c clean =
    let after = was_clean _ _ c.close.ensures.clean clean in
    let before = was_clean _ _ c.act-report.ensures.clean after in
    let opened = (rw c.in-Ok.is at c.requires.opened) before in
    let here = (rw c.in-Ok.is at c.requires.found) before in
    if_verify c.args.task.now (λ legal version is.
    sound_files (image_at g.S.Start) (file_state c.in-Ok.conn) here opened.0 opened.1 (λ told. legal told version is))
    (verify_under _ _ c.args.task.now (λ told. c.act-report.ensures.legal after opened.0 opened.1 told))

pub returns-clause-shape : goal.returns-clause-shape
returns-clause-shape g c clean =
    let after = was_clean _ _ c.close.ensures.clean clean in
    let before = was_clean _ _ c.act-report.ensures.clean after in
    let opened = (rw c.in-Ok.is at c.requires.opened) before in
    let here = (rw c.in-Ok.is at c.requires.found) before in
    if_accepted c.args.task.now c.act-report.result.0 (λ version.
    shaped_as (image_at g.S.Start) (file_state c.in-Ok.conn) here version opened.0 opened.1)
    c.act-report.ensures.shape

pub returns-clause-refuses : goal.returns-clause-refuses
returns-clause-refuses g c clean =
    let after = was_clean _ _ c.close.ensures.clean clean in
    let before = was_clean _ _ c.act-report.ensures.clean after in
    let opened = (rw c.in-Ok.is at c.requires.opened) before in
    if_takes_over c.args.task.now (λ refused.
    if_unopened _ _ c.act-report.result.0 (λ fault refusal.
    refused_files (image_at g.S.Start) (file_state c.in-Ok.conn) ((rw c.in-Ok.is at c.requires.found) before)
    (file_state c.act-report.result.1) (store_state c.close.result).may_leave (c.close.ensures.member clean) opened.0
    opened.1 fault refusal)
    refused)
    (c.act-report.ensures.refuses after)

pub returns-clause-spares : goal.returns-clause-spares
returns-clause-spares g c clean =
    let after = was_clean _ _ c.close.ensures.clean clean in
    let before = was_clean _ _ c.act-report.ensures.clean after in
    let opened = (rw c.in-Ok.is at c.requires.opened) before in
    let here = (rw c.in-Ok.is at c.requires.found) before in
    if_init c.args.task.now (λ version spares foreign.
    kept_files (image_at g.S.Start) (file_state c.in-Ok.conn) here (file_state c.act-report.result.1)
    (store_state c.close.result).may_leave (c.close.ensures.member clean) (spares foreign))
    (c.act-report.ensures.spares after opened.0)

pub returns-clause-older : goal.returns-clause-older
returns-clause-older g c clean them s are =
    let after = was_clean _ _ c.close.ensures.clean clean in
    let before = was_clean _ _ c.act-report.ensures.clean after in
    let opened = (rw c.in-Ok.is at c.requires.opened) before in
    let here = (rw c.in-Ok.is at c.requires.found) before in
    c.act-report.ensures.older after opened.0 opened.1 them s
    (are.finds _ (record { holds = here.holds; reads = here.reads }))

pub returns-clause-carries : goal.returns-clause-carries
returns-clause-carries g c clean from them s are =
    let after = was_clean _ _ c.close.ensures.clean clean in
    let before = was_clean _ _ c.act-report.ensures.clean after in
    let opened = (rw c.in-Ok.is at c.requires.opened) before in
    let here = (rw c.in-Ok.is at c.requires.found) before in
    if_upgrade c.args.task.now (λ to carried is.
    carried_files (image_at g.S.Start) (file_state c.in-Ok.conn) here (file_state c.act-report.result.1)
    (store_state c.close.result).may_leave (c.close.ensures.member clean) from them s c.act-report.result.0 (carried is))
    (c.act-report.ensures.carries after opened.0 opened.1 from them s
    (are.finds _ (record { holds = here.holds; reads = here.reads })))

pub returns-clause-repeats : goal.returns-clause-repeats
returns-clause-repeats g c clean s are =
    let after = was_clean _ _ c.close.ensures.clean clean in
    let before = was_clean _ _ c.act-report.ensures.clean after in
    let opened = (rw c.in-Ok.is at c.requires.opened) before in
    let here = (rw c.in-Ok.is at c.requires.found) before in
    if_upgrade c.args.task.now (λ to repeated later.
    let (told, kept) = repeated later in (
      told,
      kept_files (image_at g.S.Start) (file_state c.in-Ok.conn) here (file_state c.act-report.result.1)
          (store_state c.close.result).may_leave (c.close.ensures.member clean) kept,
    ))
    (c.act-report.ensures.repeats after opened.0 opened.1 s are.legal
    (are.finds _ (record { holds = here.holds; reads = here.reads })))

pub returns-clause-withheld : goal.returns-clause-withheld
returns-clause-withheld g c clean =
    let after = was_clean _ _ c.close.ensures.clean clean in
    let before = was_clean _ _ c.act-report.ensures.clean after in
    let opened = (rw c.in-Ok.is at c.requires.opened) before in
    let here = (rw c.in-Ok.is at c.requires.found) before in
    if_upgrade c.args.task.now (λ to refused.
    if_unopened _ _ c.act-report.result.0 (λ fault refusal.
    not_upgraded (image_at g.S.Start) (file_state c.in-Ok.conn) here (file_state c.act-report.result.1)
    (store_state c.close.result).may_leave (c.close.ensures.member clean) to opened.0 opened.1 fault refusal) refused)
    (c.act-report.ensures.withheld after)

pub returns-clause-beside : goal.returns-clause-beside
returns-clause-beside g c clean =
    let after = was_clean _ _ c.close.ensures.clean clean in
    let before = was_clean _ _ c.act-report.ensures.clean after in
    let opened = (rw c.in-Ok.is at c.requires.opened) before in
    let here = (rw c.in-Ok.is at c.requires.found) before in
    if_upgrade c.args.task.now (λ to beside used.
    beside (names_used (image_at g.S.Start) (file_state c.in-Ok.conn) here to opened.0 opened.1 used))
    c.act-report.ensures.beside

pub returns-clause-stays : goal.returns-clause-stays
returns-clause-stays g c clean =
    let after = was_clean _ _ c.close.ensures.clean clean in
    let before = was_clean _ _ c.act-report.ensures.clean after in
    let opened = (rw c.in-Ok.is at c.requires.opened) before in
    let here = (rw c.in-Ok.is at c.requires.found) before in
    stays_files (image_at g.S.Start) (file_state c.in-Ok.conn) here (file_state c.act-report.result.1)
    (store_state c.close.result).may_leave (c.close.ensures.member clean) c.args.task.now
    (c.act-report.ensures.stays after opened.0 opened.1)

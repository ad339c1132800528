use Rattle.std.proofs.Common.{◌≡◌, None, refl}
use Rattle.std.proofs.Math.Logic.{∥∥₁_elim, ∥∥₁_map}
use Rattle.sqlite_wal.specs.Files.{image_at}
use Rattle.sqlite_store.specs.FileStore.{state as store_state}
use Rattle.sqlite.specs.Files.{file_state}
use Rattle.store_tables.proofs.Proved.{leaves_in_version}
use Rattle.club_rows.specs.FirstSchema.{tables_at}
use Rattle.store_files.proofs.Proved.{was_clean}
use Rattle.club_session.proofs.FoundLemmas.{shaped_files, taken_files, told_files}
use Rattle.club_session.proofs.TaskLemmas.{if_taken}
use Rattle.club_session.proofs.serving_session.serve_files.Goals as goal

pub returns-clause-history : goal.returns-clause-history
returns-clause-history g c clean from versions them sessions serves led left may found finds =
    let after = was_clean _ _ c.close.ensures.clean clean in
    let before = c.serve_club-fault.ensures.clean after in
    let opened = c.in-Ok.ensures.opened before in
    let here = c.in-Ok.ensures.found before in
    ∥∥₁_elim (led _ (record { holds = here.holds; reads = here.reads })) squash₁ (λ was.
    let on = c.serve_club-fault.ensures.history after opened.0 opened.1 from was.version them sessions serves
    was.reached in
    ∥∥₁_map (c.close.ensures.member clean left may found finds.holds)
    (λ now. record {
      turns = on.turns;
      are_turns = on.are_turns;
      led = record { version = was.version; among = was.among; reached = on.led found now };
    }))

pub returns-clause-whole : goal.returns-clause-whole
returns-clause-whole g c clean none from versions them sessions serves led left may found finds =
    let after = was_clean _ _ c.close.ensures.clean clean in
    let before = c.serve_club-fault.ensures.clean after in
    let opened = c.in-Ok.ensures.opened before in
    let here = c.in-Ok.ensures.found before in
    let nothing : c.serve_club-fault.result.0 ≡ None = cc in
    ∥∥₁_elim (led _ (record { holds = here.holds; reads = here.reads })) squash₁ (λ was.
    let (is, on) =
    c.serve_club-fault.ensures.stands after opened.0 opened.1 nothing from was.version them sessions serves
    was.reached in
    ∥∥₁_map (c.close.ensures.member clean left may found finds.holds) (λ now. (
      record {
        turns = on.turns;
        are_turns = on.are_turns;
        led = record {
          version = was.version;
          among = was.among;
          reached = record {
            after = on.stands.after;
            legal = on.stands.legal;
            leads = on.stands.leads;
            leaves = leaves_in_version was.version them (tables_at was.version on.stands.after) _ on.stands.exactly found
                now;
          };
        };
      },
      on.whole,
      is,
    )))

pub returns-clause-told : goal.returns-clause-told
returns-clause-told g c clean =
    let after = was_clean _ _ c.close.ensures.clean clean in
    let before = c.serve_club-fault.ensures.clean after in
    let opened = c.in-Ok.ensures.opened before in (
      c.serve_club-fault.result.0,
      refl,
      told_files (image_at g.S.Start) (file_state c.in-Ok.conn) (c.in-Ok.ensures.found before)
          (file_state c.serve_club-fault.result.1) (store_state c.close.result).may_leave
          (c.close.ensures.member clean) opened.0 opened.1
          c.serve_club-fault.result.0 (c.serve_club-fault.ensures.told after),
    )

pub returns-clause-taken : goal.returns-clause-taken
returns-clause-taken g c clean =
    let after = was_clean _ _ c.close.ensures.clean clean in
    let before = c.serve_club-fault.ensures.clean after in
    let opened = c.in-Ok.ensures.opened before in
    taken_files (image_at g.S.Start) (file_state c.in-Ok.conn) (c.in-Ok.ensures.found before)
    opened.0 opened.1 c.serve_club-fault.result.0
    (λ schema. c.serve_club-fault.ensures.taken after opened.0 opened.1 schema)

pub returns-clause-shape : goal.returns-clause-shape
returns-clause-shape g c clean =
    let after = was_clean _ _ c.close.ensures.clean clean in
    let before = c.serve_club-fault.ensures.clean after in
    let opened = c.in-Ok.ensures.opened before in
    if_taken c.serve_club-fault.result.0
    (shaped_files (image_at g.S.Start) (file_state c.in-Ok.conn) (c.in-Ok.ensures.found before) opened.0 opened.1)
    c.serve_club-fault.ensures.shape

pub returns-clause-accepts_sound : goal.returns-clause-accepts_sound
returns-clause-accepts_sound g c clean s are =
    let after = was_clean _ _ c.close.ensures.clean clean in
    let before = c.serve_club-fault.ensures.clean after in
    let opened = c.in-Ok.ensures.opened before in
    let here = c.in-Ok.ensures.found before in
    c.serve_club-fault.ensures.accepts_sound after opened.0 opened.1 s are.legal
    (are.finds _ (record { holds = here.holds; reads = here.reads }))

pub returns-clause-acknowledged : goal.returns-clause-acknowledged
returns-clause-acknowledged g c before had =
    let (items, served, leads) = c.serve_club-fault.ensures.acknowledged before had in (
      items,
      served,
      λ clean s are left may found finds.
          let after = was_clean _ _ c.close.ensures.clean clean in
          let before_it = c.serve_club-fault.ensures.clean after in
          let opened = c.in-Ok.ensures.opened before_it in
          let here = c.in-Ok.ensures.found before_it in
          let has = are.finds _ (record { holds = here.holds; reads = here.reads }) in
          ∥∥₁_map (c.close.ensures.member clean left may found finds.holds)
          (λ now. leads after opened.0 opened.1 s are.legal has found now),
    )

pub returns-clause-answered : goal.returns-clause-answered
returns-clause-answered g c none before had =
    let nothing : c.serve_club-fault.result.0 ≡ None = cc in
    let (items, served, settled) = c.serve_club-fault.ensures.answered nothing before had in (
      items,
      served,
      λ clean s are.
          let after = was_clean _ _ c.close.ensures.clean clean in
          let before_it = c.serve_club-fault.ensures.clean after in
          let opened = c.in-Ok.ensures.opened before_it in
          let here = c.in-Ok.ensures.found before_it in
          let has = are.finds _ (record { holds = here.holds; reads = here.reads }) in
          let is = settled after opened.0 opened.1 s are.legal has in
          record {
            them = is.them;
            version = is.version;
            after = is.after;
            leads = is.leads;
            leaves = λ left may found finds.
                ∥∥₁_map (c.close.ensures.member clean left may found finds.holds) (λ now. is.leaves found now);
          },
    )

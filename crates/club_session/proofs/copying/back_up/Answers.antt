use Rattle.std.proofs.Common.{refl, sym, subst}
use Rattle.std.specs.Prelude.{⊤}
use Rattle.std.proofs.lemmas.Option.{none-some}
use Rattle.sqlite_wal.specs.Files.{image_at}
use Rattle.sqlite_store.specs.FileStore.{state as store_state}
use Rattle.sqlite.specs.Files.{file_state}
use Rattle.store_tables.specs.Over.{HasRowsIn}
use Rattle.club_rows.specs.Club.{tables}
use Rattle.club_rows.specs.Tables.{version_of}
use Rattle.store_files.proofs.Proved.{was_clean}
use Rattle.club_orders.specs.Report.{OnlyUnopened}
use Rattle.club_orders.specs.Refused.{IsOlder}
use Rattle.club_orders.proofs.Proved.{still_there}
use Rattle.club_session.specs.Copied.{HasCopyOf, HasCopyOrNone}
use Rattle.club_session.proofs.FoundLemmas.{kept_files, refused_files, sound_files}
use Rattle.club_session.proofs.TaskLemmas.{if_unopened, of_copy, of_copy_opened, passed, sound_version}
use Rattle.club_session.proofs.copying.back_up.Goals as goal

pub returns-in-Sound-clause-kept : goal.returns-in-Sound-clause-kept
returns-in-Sound-clause-kept g c clean =
    let after = was_clean _ _ c.close.ensures.clean clean in
    let mid = was_clean _ _ c.copy_into-done.ensures.reads.clean after in
    let before = was_clean _ _ c.verify-report.ensures.clean mid in
    let opened = c.in-Ok.ensures.opened before in
    kept_files (image_at g.S.Start) (file_state c.in-Ok.conn) (c.in-Ok.ensures.found before)
    (file_state c.copy_into-done.new.club) (store_state c.close.result).may_leave
    (c.close.ensures.member clean)
    (λ db left. c.verify-report.ensures.keeps mid opened.0 db (c.copy_into-done.ensures.reads.may after db left))

pub returns-in-Sound-clause-refuses : goal.returns-in-Sound-clause-refuses
returns-in-Sound-clause-refuses g c clean = of_copy_opened _ _ c.copy_into-done.ensures.possible_faults

pub returns-in-Sound-clause-older : goal.returns-in-Sound-clause-older
returns-in-Sound-clause-older g c clean them s are =
    let after = was_clean _ _ c.close.ensures.clean clean in
    let mid = was_clean _ _ c.copy_into-done.ensures.reads.clean after in
    let before = was_clean _ _ c.verify-report.ensures.clean mid in
    let opened = c.in-Ok.ensures.opened before in
    let here = c.in-Ok.ensures.found before in
    absurd (subst (λ r. OnlyUnopened r IsOlder) c.in-Sound.is
    (c.verify-report.ensures.older mid opened.0 opened.1 them s
    (are.finds _ (record { holds = here.holds; reads = here.reads }))))

pub returns-in-Sound-clause-possible_faults : goal.returns-in-Sound-clause-possible_faults
returns-in-Sound-clause-possible_faults g c clean s are = of_copy _ c.copy_into-done.ensures.possible_faults

pub returns-in-Sound-clause-sound : goal.returns-in-Sound-clause-sound
returns-in-Sound-clause-sound g c clean is =
    let after = was_clean _ _ c.close.ensures.clean clean in
    let mid = was_clean _ _ c.copy_into-done.ensures.reads.clean after in
    let before = was_clean _ _ c.verify-report.ensures.clean mid in
    let opened = c.in-Ok.ensures.opened before in
    sound_files (image_at g.S.Start) (file_state c.in-Ok.conn) (c.in-Ok.ensures.found before)
    opened.0 opened.1
    (λ told. c.verify-report.ensures.legal mid opened.0 opened.1 told c.in-Sound.version c.in-Sound.is)

pub returns-in-Sound-clause-copied : goal.returns-in-Sound-clause-copied
returns-in-Sound-clause-copied g c clean void s are is =
    let after = was_clean _ _ c.close.ensures.clean clean in
    let mid = was_clean _ _ c.copy_into-done.ensures.reads.clean after in
    let before = was_clean _ _ c.verify-report.ensures.clean mid in
    let opened = c.in-Ok.ensures.opened before in
    let here = c.in-Ok.ensures.found before in
    let found = are.finds _ (record { holds = here.holds; reads = here.reads }) in
    let version = c.in-Sound.version in
    let rows = still_there s (file_state c.in-Ok.conn) (c.holds_exactly.ensures opened.0 opened.1) found
    (file_state c.verify-report.result.1) (c.verify-report.ensures.same mid version c.in-Sound.is) in
    let same = sound_version c.verify-report.result.0 version (version_of s) c.in-Sound.is
    (c.verify-report.ensures.passes mid opened.0 opened.1 s are.legal found) in
    let (serves, shape) = c.verify-report.ensures.schema version c.in-Sound.is in
    subst (λ v. HasCopyOf v (tables s) c.copy_into-done.result.copy) same
    (c.copy_into-done.ensures.copied after void serves (tables s)
    (subst (λ v. HasRowsIn v (tables s) (file_state c.verify-report.result.1)) (sym same) rows) is)

pub returns-in-Sound-clause-after_crash : goal.returns-in-Sound-clause-after_crash
returns-in-Sound-clause-after_crash g c clean void s are =
    let after = was_clean _ _ c.close.ensures.clean clean in
    let mid = was_clean _ _ c.copy_into-done.ensures.reads.clean after in
    let before = was_clean _ _ c.verify-report.ensures.clean mid in
    let opened = c.in-Ok.ensures.opened before in
    let here = c.in-Ok.ensures.found before in
    let found = are.finds _ (record { holds = here.holds; reads = here.reads }) in
    let version = c.in-Sound.version in
    let rows = still_there s (file_state c.in-Ok.conn) (c.holds_exactly.ensures opened.0 opened.1) found
    (file_state c.verify-report.result.1) (c.verify-report.ensures.same mid version c.in-Sound.is) in
    let same = sound_version c.verify-report.result.0 version (version_of s) c.in-Sound.is
    (c.verify-report.ensures.passes mid opened.0 opened.1 s are.legal found) in
    let (serves, shape) = c.verify-report.ensures.schema version c.in-Sound.is in
    subst (λ v. HasCopyOrNone v (tables s) c.copy_into-done.result.copy) same
    (c.copy_into-done.ensures.after_crash after void serves (tables s)
    (subst (λ v. HasRowsIn v (tables s) (file_state c.verify-report.result.1)) (sym same) rows))

pub returns-in_default : goal.returns-in_default
returns-in_default g c = record {
  unopened = λ none. absurd (none-some _ (sym none));
  kept = λ clean.
      let mid = was_clean _ _ c.close-in_default.ensures.clean clean in
      let before = was_clean _ _ c.verify-report.ensures.clean mid in
      let opened = c.in-Ok.ensures.opened before in
      kept_files (image_at g.S.Start) (file_state c.in-Ok.conn) (c.in-Ok.ensures.found before)
      (file_state c.verify-report.result.1) (store_state c.close-in_default.result).may_leave
      (c.close-in_default.ensures.member clean)
      (c.verify-report.ensures.keeps mid opened.0);
  refuses = λ clean.
      let mid = was_clean _ _ c.close-in_default.ensures.clean clean in
      let before = was_clean _ _ c.verify-report.ensures.clean mid in
      let opened = c.in-Ok.ensures.opened before in
      if_unopened _ _ c.verify-report.result.0 (λ fault refusal.
      refused_files (image_at g.S.Start) (file_state c.in-Ok.conn) (c.in-Ok.ensures.found before)
      (file_state c.verify-report.result.1) (store_state c.close-in_default.result).may_leave
      (c.close-in_default.ensures.member clean)
      opened.0 opened.1 fault refusal)
      (c.verify-report.ensures.refuses mid);
  untaken = λ fault is. refl;
  older = λ clean them s are.
      let mid = was_clean _ _ c.close-in_default.ensures.clean clean in
      let before = was_clean _ _ c.verify-report.ensures.clean mid in
      let opened = c.in-Ok.ensures.opened before in
      let here = c.in-Ok.ensures.found before in
      c.verify-report.ensures.older mid opened.0 opened.1 them s
      (are.finds _ (record { holds = here.holds; reads = here.reads }));
  possible_faults = λ clean s are.
      let mid = was_clean _ _ c.close-in_default.ensures.clean clean in
      let before = was_clean _ _ c.verify-report.ensures.clean mid in
      let opened = c.in-Ok.ensures.opened before in
      let here = c.in-Ok.ensures.found before in
      passed c.verify-report.result.0 (version_of s) c.in_default.not-Sound
      (c.verify-report.ensures.passes mid opened.0 opened.1 s are.legal
      (are.finds _ (record { holds = here.holds; reads = here.reads })));
  sound = λ clean is. absurd (subst (λ r. OnlyUnopened r (λ fault. ⊤)) is
      (c.verify-report.ensures.possible_reports c.in_default.not-Sound));
  copied = λ clean void s are is. subst (λ r. OnlyUnopened r (λ fault. ⊤)) is
      (c.verify-report.ensures.possible_reports c.in_default.not-Sound);
  after_crash = λ clean void s are. tt;
}

use Rattle.std.proofs.Common.{sym}
use Rattle.std.proofs.lemmas.Result.{IfOk-weaker}
use Rattle.club_core.specs.Answer.{import_of}
use Rattle.club_rows.proofs.Proved.{in_draughts, in_shogi, stores-rows}
use Rattle.club_rows.specs.Club.{tables}
use Rattle.club_changes.proofs.Proved.{imports_draughts, imports_shogi, under_of_kind, import_decided}
use Rattle.store_tables.proofs.Proved.{clean_before, reads_on, rows_after}
use Rattle.store.proofs.UnderLemmas.{tells_under}
use Rattle.store.proofs.imports.ImportDecide.decide.Goals as goal

pub returns-clause-step : goal.returns-clause-step
returns-clause-step g c clean =
    let looked = clean_before c.by_kind-import_as.ensures.reads clean in
    IfOk-weaker c.by_kind-import_as.result _ _ (λ d step s is_club version taken later stores.
    let given = import_of c.args.self.now in
    let known = c.in_ok-known.known in
    let is = rw c.as_str.ensures.value at c.in_ok-known.ensures.known looked s is_club version stores in
    let still = rows_after c.in_ok-known.ensures.reads looked (tables s) stores in
    let asked = sym (rw (c.as_slice.ensures.value, c.as_str-2.ensures.value, is.events_are, c.in-Draughts-by_kind.is) at
    c.event_kind-kind.ensures) in
    let stored = under_of_kind in_draughts imports_draughts s is_club given.key known.under is.under_is in
    import_decided in_draughts imports_draughts s is_club c.args.moment given c.args.caller known d is asked
    (step (tables s) _ (stores-rows s _ still) (rw c.in-Draughts-by_kind.is stored)
    (tells_under in_draughts imports_draughts s is_club _ still given.key known.under is.under_is)))
    (c.by_kind-import_as.ensures.step clean)

pub returns-2-clause-step : goal.returns-2-clause-step
returns-2-clause-step g c clean =
    let looked = clean_before c.by_kind-import_as-2.ensures.reads clean in
    IfOk-weaker c.by_kind-import_as-2.result _ _ (λ d step s is_club version taken later stores.
    let given = import_of c.args.self.now in
    let known = c.in_ok-known.known in
    let is = rw c.as_str.ensures.value at c.in_ok-known.ensures.known looked s is_club version stores in
    let still = rows_after c.in_ok-known.ensures.reads looked (tables s) stores in
    let asked = sym (rw (c.as_slice.ensures.value, c.as_str-2.ensures.value, is.events_are, c.in-Shogi-by_kind.is) at
    c.event_kind-kind.ensures) in
    let stored = under_of_kind in_shogi imports_shogi s is_club given.key known.under is.under_is in
    import_decided in_shogi imports_shogi s is_club c.args.moment given c.args.caller known d is asked
    (step (tables s) _ (stores-rows s _ still) (rw c.in-Shogi-by_kind.is stored)
    (tells_under in_shogi imports_shogi s is_club _ still given.key known.under is.under_is)))
    (c.by_kind-import_as-2.ensures.step clean)

pub returns-clause-reads : goal.returns-clause-reads
returns-clause-reads g c = reads_on c.in_ok-known.ensures.reads c.by_kind-import_as.ensures.reads

pub returns-2-clause-reads : goal.returns-2-clause-reads
returns-2-clause-reads g c = reads_on c.in_ok-known.ensures.reads c.by_kind-import_as-2.ensures.reads

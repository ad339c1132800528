use Rattle.std.proofs.Common.{Ok, Err, Result, inl, rules, refl}
use Rattle.std.proofs.lemmas.Result.{IfOk-weaker}
use Rattle.std.proofs.lemmas.Option.{IfSome_then}
use Rattle.store_tables.specs.internal.Cells.{meta_cells}
use Rattle.sqlite.specs.Held.{state}
use Rattle.club_check.proofs.StoredLemmas.{stands}
use Rattle.std.specs.Prelude.{OnOk, is_ok}
use Rattle.store_tables.specs.declared.names.Table.TheVariants.{Meta}
use Rattle.club_check.proofs.ClubLemmas.{shown_one, read_one, turned_one}
use Rattle.store_tables.proofs.Proved.{read_nothing, read_then}
use Rattle.club_check.proofs.read.read_meta.Goals as goal

pub returns-clause-none : goal.returns-clause-none
returns-clause-none g c clean =
    let old = state g.S.Store c.args.conn.now in
    let new = state g.S.Store c.show_all.new.conn in
    IfOk-weaker c.one_meta.result _ _ (λ o wrong none version content k one.
    wrong none
    (shown_one old.now version content _ c.in-Ok.shown.items old new (search rules) refl
    (c.in-Ok.ensures.rows clean (stands Meta tt (version, k.schema))) k one))
    c.one_meta.ensures.none

pub returns-clause-unshown : goal.returns-clause-unshown
returns-clause-unshown g c clean =
    IfOk-weaker c.one_meta.result _ _ (λ o wrong none has one.
    wrong none
    (turned_one _ c.in-Ok.shown.items _ (search rules) (c.in-Ok.ensures.rows clean (stands Meta tt has)).once one))
    c.one_meta.ensures.none

pub returns-clause-some : goal.returns-clause-some
returns-clause-some g c clean =
    let old = state g.S.Store c.args.conn.now in
    let new = state g.S.Store c.show_all.new.conn in
    IfOk-weaker c.one_meta.result _ _ (λ o some. IfSome_then o some (λ found it has. (
      read_one _ c.in-Ok.shown.items (meta_cells found) found.id old new (search rules) it.0 refl
          (c.in-Ok.ensures.rows clean (stands Meta tt has)),
      it.1,
    ))) c.one_meta.ensures.some

-- what holds of whatever result
on_ok : {A E : Type 0} (r : Result A E) (P : Type 0) → P → OnOk r P
on_ok (Ok x) P p = p
on_ok (Err e) P p = tt

pub returns-clause-same : goal.returns-clause-same
returns-clause-same g c clean =
    on_ok c.one_meta.result _ (λ has. (c.in-Ok.ensures.rows clean (stands Meta tt has)).same)

pub returns-in-Err-clause-reason_is_right : goal.returns-in-Err-clause-reason_is_right
returns-in-Err-clause-reason_is_right g c clean has =
    inl (c.fault_of.ensures.store (c.in-Err.ensures.known clean (stands Meta tt has)))

pub returns-clause-reads : goal.returns-clause-reads
returns-clause-reads g c =
    read_then (is_ok c.one_meta.result) _ _ _ c.in-Ok.ensures.reads (read_nothing (is_ok c.one_meta.result) _)

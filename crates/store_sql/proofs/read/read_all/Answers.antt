use Rattle.std.proofs.Common.{◌≡◌, rules, arith, subst}
use Rattle.std.proofs.lemmas.Result.{IfErr-weaker}
use Rattle.store_tables.specs.Sql.{Database, HasCleanDisk}
use Rattle.sqlite.specs.Held.{state}
use Rattle.store_tables.specs.Content.{Keeps}
use Rattle.store_tables.specs.Placed.{HasTableAt, club_trees}
use Rattle.store_tables.proofs.Proved.{all_alike, read_nothing, read_then}
use Rattle.store_sql.proofs.GroupLemmas.{blame}
use Rattle.store_sql.proofs.SelectLemmas.{failed_read}
use Rattle.store_sql.proofs.read.read_all.Goals as goal

pub returns-in-Err-show_all-clause-reads : goal.returns-in-Err-show_all-clause-reads
returns-in-Err-show_all-clause-reads g c =
    read_then _ _ _ _ c.in-Ok.ensures.reads
    (failed_read c.failed.result _ _ c.failed.ensures.parse_rows c.in-Err-show_all.ensures.reads)

pub returns-clause-reads : goal.returns-clause-reads
returns-clause-reads g c =
    read_then _ _ _ _ (read_then _ _ _ _ c.in-Ok.ensures.reads c.in-Ok-show_all.ensures.reads) (read_nothing _ _)

pub returns-clause-reason_is_right : goal.returns-clause-reason_is_right
returns-clause-reason_is_right g c clean =
    let old = state g.S.Store c.args.conn.now in
    let mid = state g.S.Store c.check_rowids.new.conn in
    let early : HasCleanDisk mid = omega (arith, c.show_all.ensures.reads.clean) in
    IfErr-weaker c.parse_rows.result _ _ (λ e faults has.
    let same : mid.now ≡ old.now = (c.in-Ok.ensures.counted early has).same.0.now_is in
    let shown = c.in-Ok-show_all.shown.items in
    let keeps = subst (λ (d : Database). HasTableAt d.schema g.T.Select.which → Keeps g.T.Select.table (club_trees d) shown)
    same (λ still. (c.in-Ok-show_all.ensures.rows clean still).keeps) has in
    blame g.T.Select.table g.T.TableRow.IsTyped old _ shown e (search rules)
    (λ rows kept all. all_alike g.T.Select.table _ g.T.TableRow.IsTyped shown rows keeps kept all) faults)
    c.parse_rows.ensures.reason_is_right

use Rattle.std.proofs.Common.{true, refl, arith}
use Rattle.sqlite.specs.Held.{state}
use Rattle.sqlite.specs.State.{HasCleanDisk}
use Rattle.store_tables.proofs.Proved.{read_then, still_rows}
use Rattle.club_changes.proofs.Proved.{past_none}
use Rattle.club_reads.proofs.shown.rows_at.Goals as goal

pub returns-then-ply-from-clause-found : goal.returns-then-ply-from-clause-found
returns-then-ply-from-clause-found g c clean content terms old k tells legal =
    let none = c.no_rows-then-ply-from in
    past_none g.R.Rules.rules terms c.args.game old none.result none.ensures.at none.ensures.before c.args.ply
    (omega (arith, c.if-ply-from.true, c.from.ensures, legal.plies))

pub returns-clause-found : goal.returns-clause-found
returns-clause-found g c clean content terms old k tells legal =
    let looked : HasCleanDisk (state g.S.Store c.row_of.new.conn) = omega (arith, c.row_of-2.ensures.reads.clean) in
    let kept = still_rows _ _ (c.in_ok-at.ensures.reads.kept refl looked) content k in
    record {
      at = c.in_ok-at.ensures.found looked content terms old k tells;
      before = c.in_ok-before.ensures.found clean content terms old kept tells;
    }

pub returns-clause-reads : goal.returns-clause-reads
returns-clause-reads g c =
    read_then true _ _ _ c.in_ok-at.ensures.reads c.in_ok-before.ensures.reads

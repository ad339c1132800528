use Rattle.std.proofs.Common.{◌≡◌, map, rules}
use Rattle.sqlite.specs.Held.{state}
use Rattle.store_tables.specs.Cells.{IsRuling, ruling_cells}
use Rattle.store_tables.specs.Tables.{rulings}
use Rattle.store_tables.specs.declared.names.Table.TheVariants.{Rulings}
use Rattle.club_check.specs.internal.Faults.{told}
use Rattle.club_check.proofs.FoundGames.{told_typed}
use Rattle.club_check.proofs.RulingLemmas.{none_read, read_at, table_at, untyped_at}
use Rattle.club_check.proofs.games.read_rulings.Goals as goal

pub returns-then-all-eq0-clause-rows : goal.returns-then-all-eq0-clause-rows
returns-then-all-eq0-clause-rows g c clean version has is_open =
    none_read version c.args.game.now.id c.args.all _ (state g.S.Store c.args.conn.now) c.if-all-eq0.true
    c.new.ensures.items has is_open

pub returns-in-Ok-clause-rows : goal.returns-in-Ok-clause-rows
returns-in-Ok-clause-rows g c clean version has is_open =
    read_at c.args.game.now.id c.args.all (state g.S.Store c.args.conn.now) _ c.if-all-eq0.false version
    (map ruling_cells c.in-Ok.found.items) has (c.in-Ok.ensures.rows clean)

pub returns-in-WrongType-clause-untyped : goal.returns-in-WrongType-clause-untyped
returns-in-WrongType-clause-untyped g c clean none version has =
    untyped_at c.args.game.now.id c.args.all (state g.S.Store c.args.conn.now) _ c.if-all-eq0.false version has
    (c.in-Err.ensures.same clean c.in-WrongType.is) (c.in-Err.ensures.untyped clean c.in-WrongType.is)

pub returns-in_default-clause-reason_is_right : goal.returns-in_default-clause-reason_is_right
returns-in_default-clause-reason_is_right g c clean version has =
    let is : c.fault_in.result ≡ told Rulings c.in-Err.fault = search rules in
    let s0 = state g.S.Store c.args.conn.now in
    told_typed Rulings (rulings 20) IsRuling s0 c.in-Err.fault c.fault_in.result is c.in_default.not-WrongType
    (c.in-Err.ensures.reason_is_right clean
    (table_at c.args.game.now.id c.args.all s0 s0 c.if-all-eq0.false version has))

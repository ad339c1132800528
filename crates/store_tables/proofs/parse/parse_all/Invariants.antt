use Rattle.std.proofs.Common.{◌≡◌, map, take}
use Rattle.store_tables.proofs.parse.parse_all.Given as goal

abbrev pub invariant-rows : goal.invariant-rows
invariant-rows g l = map g.T.TableRow.cells l.found.items ≡ take l.row-index l.rows

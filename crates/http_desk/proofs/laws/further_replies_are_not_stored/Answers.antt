use Rattle.std.proofs.Common.{◌≡◌}
use Rattle.http_desk.specs.declared.table.TheConstants.{TABLE}
use Rattle.http_desk.specs.There.{caching_on}
use Rattle.http_desk.proofs.EachRow.{Each, all_from}
use Rattle.http_desk.proofs.laws.further_replies_are_not_stored.Goals as goal

each : Each (λ row. row.4 ≡ caching_on row.0.now) TABLE
each = search

pub returns : goal.returns
returns c = all_from (λ row. row.4 ≡ caching_on row.0.now) TABLE each

use Rattle.std.proofs.Common.{◌≡◌}
use Rattle.http_desk.specs.declared.table.TheConstants.{TABLE}
use Rattle.http_desk.specs.Patterns.{pattern_of}
use Rattle.http_desk.proofs.EachRow.{Each, all_from}
use Rattle.http_desk.proofs.laws.patterns_are_paths.Goals as goal

each : Each (λ row. pattern_of row.3 ≡ row.0.now) TABLE
each = search

pub returns : goal.returns
returns c = all_from (λ row. pattern_of row.3 ≡ row.0.now) TABLE each

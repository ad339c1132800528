use Rattle.std.proofs.Common.{arith, rules}
use Rattle.std.proofs.lemmas.Int.{ints}
use Rattle.store_tables.specs.declared.rows.GameTableRow.{GameTableRow}
use Rattle.club_rows.proofs.ColumnLemmas.{record-cells}
use Rattle.club_rows.proofs.records.record_of.Goals as goal

pub returns : goal.returns
returns g c = λ first second terms game is.
    let laws = g.R.Rules.rules in
    let start = c.to_i64.ensures (omega (arith, c.seconds.ensures.range)) in
    let since = c.to_i64-2.ensures (omega (arith, c.seconds-2.ensures.range)) in
    let left_first = c.to_i64-3.ensures first in
    let left_second = c.to_i64-4.ensures second in
    let stored : GameTableRow = record {
      id = _;
      key = c.in_ok-key.key;
      event = _;
      first = _;
      second = _;
      start = _;
      since = _;
      plies = _;
      left1 = _;
      left2 = _;
      offer_side = c.offer_side.result;
      offer_ply = c.offer_ply.result;
      end = c.in_ok-end.end;
      result = c.in_ok-result.result;
      position = c.in_ok-position.position;
      track_a = _;
      track_b = _;
    } in
    record-cells laws terms c.args.id game c.args.row.now is stored (search (rules, arith, ints))

use Rattle.std.proofs.Common.{◌≡◌, ◌+◌, ◌<◌, ℕ, zero, suc, pos, List, [], ◌∷◌, get_or, length, ap, refl, ◌∙◌, arith}
use Rattle.std.proofs.Common.{length-append}
use Rattle.store_tables.specs.declared.rows.EventRuleRow.{EventRuleRow}
use Rattle.store_tables.specs.Cells.{event_cells}
use Rattle.store_tables.specs.internal.Cells.{event_rule_cells}
use Rattle.club_core.specs.internal.Answer.{event_of}
use Rattle.club_rows.specs.Tables.{event_row, rule_row}
use Rattle.club_changes.proofs.Proved.{one_more_of, all_read, row_at_place}
use Rattle.club_reads.specs.internal.Closings.{closed_as}
use Rattle.club_reads.proofs.ClosingLemmas.{closing_of_row}
use Rattle.club_reads.proofs.events.events_of.Goals as goal

got_same : {A : Type 0} (rows : List A) (k : ℕ) (any other : A) → k < length rows
    → get_or rows k any ≡ get_or rows k other
got_same [] k any other low = absurd (omega (arith, low))
got_same (x ∷ xs) zero any other low = refl
got_same (x ∷ xs) (suc k) any other low = got_same xs k any other (omega (arith, low))

none : EventRuleRow
none = record { event = pos 0; declares = pos 0 }

pub loop-i-preserved : goal.loop-i-preserved
unfolding none
loop-i-preserved c =
    let grown : length c.push.new.self.items ≡ length c.loop-i.events.items + 1 = ap length c.in_ok-push.ensures.items
    ∙ simp length-append in
    let within : c.loop-i.i < length c.args.rules.now = omega (arith, c.loop-i-test.true, c.if-rules-rows.false) in
    record {
      count = omega (arith, grown);
      values = λ all same ruled closings.
          one_more_of event_of event_cells event_row c.args.rows.now all same c.loop-i.i c.index-rows-i.result
          c.loop-i.events.items c.push.new.self.items c.in_ok-event_of.field-0
          (c.loop-i.invariant.values all same ruled closings) c.loop-i-test.true c.index-rows-i.is
          c.in_ok-push.ensures.items
          (λ x at stands. c.in_ok-event_of.ensures (1 + c.loop-i.i) x
          (row_at_place event_cells event_row c.args.rows.now all same c.loop-i.i c.index-rows-i-in-loop-i.result
          c.loop-i-test.true c.index-rows-i-in-loop-i.is x at)
          (row_at_place event_rule_cells rule_row c.args.rules.now all ruled c.loop-i.i
          (get_or c.args.rules.now c.loop-i.i none) within
          (got_same c.args.rules.now c.loop-i.i none (get_or c.args.rules.now c.loop-i.i none) within) x at)
          ∙ ap (λ closed. closed_as closed x)
          (closing_of_row all c.args.closings.now closings c.loop-i.i x at c.index-rows-i.result stands _
          c.in_ok-closed.ensures));
    }

pub returns-clause-values : goal.returns-clause-values
returns-clause-values c all same ruled closings =
    all_read event_of event_cells event_row c.args.rows.now all same c.loop-i.i c.loop-i.events.items
    (c.loop-i.invariant.values all same ruled closings) c.loop-i-test.false c.loop-i.auto.i-end

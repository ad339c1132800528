-- The day number of a date that many days after 1 January 1970.
use Rattle.std.proofs.Common.{◌≡◌, ◌<◌, ◌^◌, arith, w64, pos, ◌+ℤ◌, ◌∙◌}
use Rattle.std.proofs.lemmas.Int.{ints, to_z_pos}
use Rattle.jiff.specs.Words.{epoch_day, IsEpochDay}
use Rattle.jiff.proofs.SpanFacts.{date_add-days, can_add-days}
use Rattle.clocks.proofs.Days.{epoch_day-1970}
use Rattle.clocks.proofs.dates.date_of.Goals as goal

pub unreachable-requires-in-Err-checked_add : goal.unreachable-requires-in-Err-checked_add
unreachable-requires-in-Err-checked_add c =
    let zero : epoch_day c.in-Ok.epoch ≡ pos 0 = epoch_day-1970 c.in-Ok.epoch c.in-Ok.ensures.value in
    let small : c.args.days < 2 ^ 63 = omega (arith, c.requires) in
    let only = rw (to_z_pos w64 c.args.days small) at c.days.ensures in
    let can = can_add-days c.in-Ok.epoch (pos c.args.days) c.days.result only in
    let day : IsEpochDay (epoch_day c.in-Ok.epoch +ℤ pos c.args.days) =
    rw zero (omega (arith, ints, c.requires), omega (arith, ints, c.requires)) in
    let impossible = c.in-Err-checked_add.ensures.succeeds.1 (can.1 day) in
    cc

pub returns : goal.returns
returns c =
    let zero : epoch_day c.in-Ok.epoch ≡ pos 0 = epoch_day-1970 c.in-Ok.epoch c.in-Ok.ensures.value in
    let small : c.args.days < 2 ^ 63 = omega (arith, c.requires) in
    let only = rw (to_z_pos w64 c.args.days small) at c.days.ensures in
    let added : epoch_day c.in-Ok-checked_add.date ≡ epoch_day c.in-Ok.epoch +ℤ pos c.args.days =
    c.in-Ok-checked_add.ensures.value ∙ date_add-days c.in-Ok.epoch (pos c.args.days) c.days.result only in
    omega (arith, ints, zero, added)

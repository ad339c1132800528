use Rattle.std.proofs.Common.{◌<◌, ◌≤◌, arith, ap, sym, subst, ◌∙◌, refl}
use Rattle.std.proofs.lemmas.List.{length-map}
use Rattle.std.proofs.lemmas.Option.{slice_get_read}
use Rattle.store_tables.specs.Cells.{ruling_cells}
use Rattle.club_rows.specs.internal.Rulings.{AreRead, given_of}
use Rattle.club_rows.proofs.ReadLemmas.{count, next-read, read-more, read-none, rows-long, take-over}
use Rattle.club_rows.proofs.rulings.read_rulings.Goals as goal

pub returns-then-rows-clause-none : goal.returns-then-rows-clause-none
returns-then-rows-clause-none c = λ none rulings are.
    omega (arith, rows-long c.args.game c.args.rows.now rulings are, c.if-rows.true)

pub loop-row-init : goal.loop-row-init
loop-row-init c = read-none c.args.game c.args.rows.now _ c.new.ensures.items refl refl refl

pub with_ruling-requires : goal.with_ruling-requires
with_ruling-requires c =
    let rows = c.args.rows.now in
    let k = c.loop-row.row-index in
    let at = slice_get_read rows _ k _ refl c.loop-row-test.true c.row-item.is in
    let long = count c.args.game k rows _ at c.loop-row.read c.loop-row.invariant in
    omega (arith, long, length-map c.loop-row.read.given.items given_of, c.loop-row-test.true, c.if-rows.false)

pub loop-row-preserved : goal.loop-row-preserved
loop-row-preserved c =
    let rows = c.args.rows.now in
    let k = c.loop-row.row-index in
    let at = slice_get_read rows _ k _ refl c.loop-row-test.true c.row-item.is in
    let (r, over, next, adds) = rw c.in-Some.is at c.in_ok-read.ensures.some in
    read-more c.args.game k rows _ at c.loop-row.read c.loop-row.invariant r over c.in-Some.read
    (omega (arith, c.loop-row-test.true, c.if-rows.false)) next adds

pub returns-in-None-clause-none : goal.returns-in-None-clause-none
returns-in-None-clause-none c = λ none rulings are.
    let rows = c.args.rows.now in
    let k = c.loop-row.row-index in
    let at = slice_get_read rows _ k _ refl c.loop-row-test.true c.row-item.is in
    let (r, over, next) = next-read c.args.game k rows _ at c.loop-row.read c.loop-row.invariant rulings are in
    c.in_ok-read.ensures.none c.in-None.is r over next

pub returns-clause-some : goal.returns-clause-some
returns-clause-some c =
    subst (λ rows. AreRead c.args.game rows c.loop-row.read)
    (take-over c.args.rows.now c.loop-row.row-index (omega (arith, c.loop-row-test.false))) c.loop-row.invariant

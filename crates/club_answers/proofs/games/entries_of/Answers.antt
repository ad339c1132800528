use Rattle.std.proofs.Common.{length, refl}
use Rattle.std.proofs.lemmas.Option.{slice_get_read}
use Rattle.club_answers.proofs.ToldRows.{told_more, told_all}
use Rattle.club_answers.proofs.games.entries_of.Goals as goal

pub loop-row-preserved : goal.loop-row-preserved
loop-row-preserved c s is_club same =
    let rows = c.args.rows.now in
    let k = c.loop-row.row-index in
    let row = c.row-item.result in
    told_more s rows same is_club k row
    (slice_get_read rows (length rows) k row refl c.loop-row-test.true c.row-item.is)
    c.loop-row.games.items
    c.push.new.self.items _ (c.loop-row.invariant s is_club same) c.in_ok-push.ensures.items c.in_ok-entry_of.ensures

pub returns : goal.returns
returns c s is_club same =
    told_all s c.args.rows.now same c.loop-row.row-index c.loop-row.games.items c.loop-row-test.false
    (c.loop-row.invariant s is_club same)

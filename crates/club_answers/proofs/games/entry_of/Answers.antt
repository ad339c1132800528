use Rattle.std.proofs.Common.{◌∙◌}
use Rattle.club_rows.specs.internal.Columns.{columns_in}
use Rattle.club_answers.proofs.ToldRows.{told_by_columns, told_row}
use Rattle.club_answers.proofs.games.entry_of.Goals as goal

pub returns : goal.returns
returns c s id game legal cells =
    let columns = columns_in c.in-Some.game in
    (λ i. record (told_by_columns columns) {
      key = c.in_ok-key.ensures i;
      turn = c.side_after.ensures i;
      offer = c.offering.ensures i;
      over = c.in_ok-over.ensures i;
    })
    ∙ told_row s id game _ columns legal cells c.in-Some.ensures.0

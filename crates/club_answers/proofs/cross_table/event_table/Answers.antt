use Rattle.store_tables.proofs.Proved.{clean_before, rows_after, reads_on, ended}
use Rattle.std.proofs.Common.{◌∷◌, ap, ◌∙◌}
use Rattle.std.proofs.lemmas.Result.{IfOk-weaker}
use Rattle.club_core.specs.internal.Answer.{members_of}
use Rattle.club_rows.proofs.Proved.{stores-rows}
use Rattle.club_rows.specs.Club.{tables}
use Rattle.cross_tables.specs.Lines.{header_text}
use Rattle.club_answers.specs.CrossTable.{lines_from}
use Rattle.club_answers.proofs.cross_table.event_table.Goals as goal

pub returns-clause-reads : goal.returns-clause-reads
returns-clause-reads g c =
    ended _ (reads_on c.in_ok-scores.ensures.reads c.in_ok-members.ensures.reads)

pub returns-clause-table : goal.returns-clause-table
returns-clause-table g c clean =
    let looked = clean_before c.all_members.ensures.reads clean in
    let standings = c.in_ok-standings.standings in
    IfOk-weaker c.lines_of.result _ _ (λ lines are s is_club version k.
    let members = ap members_of c.deref-2.ensures.value
    ∙ c.in_ok-members.ensures.values clean s is_club version
    (rows_after c.in_ok-scores.ensures.reads looked (tables s) k) in
    let scores = c.deref-3.ensures.value in
    record {
      scores = c.in_ok-scores.scores.items;
      scores_are = c.in_ok-scores.ensures.scores looked s (stores-rows s _ k);
      standings = standings;
      totals = rw c.deref.ensures.value at c.in_ok-standings.ensures.totals;
      ranked = c.in_ok-standings.ensures.ranked;
      lines_are = are ∙ (λ i. header_text c.args.name.now ∷ lines_from (members i) (scores i) standings 1 standings);
    }) c.lines_of.ensures

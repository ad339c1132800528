use Rattle.std.proofs.Common.{suc, drop, take-append-drop}
use Rattle.club_answers.proofs.ViewedLemmas.{entry-row}
use Rattle.club_answers.proofs.exported.write_row.Goals as goal

pub returns-in-None-clause-begun : goal.returns-in-None-clause-begun
returns-in-None-clause-begun g c terms id n game title before legal low row_is written =
    rw (take-append-drop n game.entries) at (c.written_entries_begin_games.ensures title _ (drop n game.entries) _ _ _
    written)

pub returns-in-None-moment_in-clause-begun : goal.returns-in-None-moment_in-clause-begun
returns-in-None-moment_in-clause-begun g c terms id n game title before legal low row_is written =
    rw (take-append-drop n game.entries) at (c.written_entries_begin_games.ensures title _ (drop n game.entries) _ _ _
    written)

pub returns-in_err-push-clause-begun : goal.returns-in_err-push-clause-begun
returns-in_err-push-clause-begun g c terms id n game title before legal low row_is written =
    let told = entry-row g.R.Rules.rules terms id game legal n c.in-Some.row _ _ _ low c.in-Some.is row_is
    c.as_str.ensures.value c.in-Some-moment_in.ensures in
    rw told.whole at (c.push.ensures.begun title _ (drop (suc n) game.entries) before told.made written told.next)

pub returns-then-branch-clause-written : goal.returns-then-branch-clause-written
returns-then-branch-clause-written g c terms id n game title before legal low row_is written =
    let told = entry-row g.R.Rules.rules terms id game legal n c.in-Some.row _ _ _ low c.in-Some.is row_is
    c.as_str.ensures.value c.in-Some-moment_in.ensures in
    rw told.more at (c.in_ok-push.ensures.written title _ before told.made written told.next told.few).1

pub returns-then-branch-clause-begun : goal.returns-then-branch-clause-begun
returns-then-branch-clause-begun g c terms id n game title before legal low row_is written =
    let told = entry-row g.R.Rules.rules terms id game legal n c.in-Some.row _ _ _ low c.in-Some.is row_is
    c.as_str.ensures.value c.in-Some-moment_in.ensures in
    rw told.whole at (c.push.ensures.begun title _ (drop (suc n) game.entries) before told.made written told.next)

pub returns-clause-begun : goal.returns-clause-begun
returns-clause-begun g c terms id n game title before legal low row_is written =
    let told = entry-row g.R.Rules.rules terms id game legal n c.in-Some.row _ _ _ low c.in-Some.is row_is
    c.as_str.ensures.value c.in-Some-moment_in.ensures in
    rw told.whole at (c.push.ensures.begun title _ (drop (suc n) game.entries) before told.made written told.next)

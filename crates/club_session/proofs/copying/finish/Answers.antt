use Rattle.std.proofs.Common.{inr, arith}
use Rattle.sqlite_trees.proofs.Doubt.{no_doubt}
use Rattle.club_session.proofs.CopyLemmas.{closed_copy}
use Rattle.club_session.proofs.copying.finish.Goals as goal

pub returns-in-Err-clause-after_crash : goal.returns-in-Err-clause-after_crash
returns-in-Err-clause-after_crash g c version content exact clean db may =
    let quiet = c.in-Err.ensures.err.0.quiet in
    let at = exact (omega (arith, quiet.clean, no_doubt _ clean)) in
    inr (at.may_leave db (quiet.outcomes db may))

pub returns-then-not-remove_wal-clause-after_crash : goal.returns-then-not-remove_wal-clause-after_crash
returns-then-not-remove_wal-clause-after_crash g c version content exact sure =
    closed_copy c.args.copy c.in-Ok.files version content exact (c.in-Ok.ensures.copied sure)

pub returns-clause-whole : goal.returns-clause-whole
returns-clause-whole g c version content exact is sure =
    closed_copy c.args.copy c.in-Ok.files version content exact (c.in-Ok.ensures.copied sure)

pub returns-clause-after_crash : goal.returns-clause-after_crash
returns-clause-after_crash g c version content exact sure =
    closed_copy c.args.copy c.in-Ok.files version content exact (c.in-Ok.ensures.copied sure)

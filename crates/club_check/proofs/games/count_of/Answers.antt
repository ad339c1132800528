use Rattle.std.proofs.Common.{sym, ◌∙◌}
use Rattle.club_check.proofs.ClubLemmas.{told_mistyped}
use Rattle.club_check.proofs.games.count_of.Goals as goal

pub returns-in-Err-clause-apart : goal.returns-in-Err-clause-apart
returns-in-Err-clause-apart g c clean t is has =
    c.in-Err.ensures.apart clean (told_mistyped c.args.table t c.in-Err.fault (sym c.fault_in.ensures ∙ is)) has

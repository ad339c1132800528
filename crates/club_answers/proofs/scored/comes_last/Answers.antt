use Rattle.std.proofs.Common.{◌-◌, length, arith, sym}
use Rattle.club_answers.proofs.CrossTableLemmas.{after_last}
use Rattle.club_answers.proofs.scored.comes_last.Goals as goal

pub returns-in-Some : goal.returns-in-Some
returns-in-Some c is up = after_last c.args.scores.now (length c.args.scores.now - 1) c.in-Some.last.now c.args.next.now
    (omega arith) (sym c.in-Some.ensures.value) (c.comes_before.ensures is) up

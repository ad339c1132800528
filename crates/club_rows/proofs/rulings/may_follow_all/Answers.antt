use Rattle.std.proofs.Common.{sym}
use Rattle.club_rows.specs.internal.Rulings.{given_of}
use Rattle.club_rows.proofs.ReadLemmas.{last-given}
use Rattle.club_rows.proofs.rulings.may_follow_all.Goals as goal

pub returns-in-Some-clause-complete : goal.returns-in-Some-clause-complete
returns-in-Some-clause-complete c = λ follows.
    c.may_follow.ensures.complete
    (follows (given_of c.in-Some.earlier.now)
    (last-given c.args.given.now c.in-Some.earlier.now (sym c.in-Some.ensures.value)))

use Rattle.pairings.proofs.Tables.{more_firsts, more_seconds, sides_equal}
use Rattle.pairings.proofs.laws.sides_are_even.Goals as goal

pub returns-clause-firsts : goal.returns-clause-firsts
returns-clause-firsts c =
    let r = c.requires in more_firsts c.args.players r.few r.two c.args.player r.from r.to

pub returns-clause-seconds : goal.returns-clause-seconds
returns-clause-seconds c =
    let r = c.requires in more_seconds c.args.players r.few r.two c.args.player r.from r.to

pub returns-clause-equal : goal.returns-clause-equal
returns-clause-equal c =
    let r = c.requires in sides_equal c.args.players r.few r.two c.args.player r.from r.to

use Rattle.pairings.proofs.Tables.{meet_once, meet_twice}
use Rattle.pairings.proofs.laws.pairs_meet.Goals as goal

pub returns-clause-once : goal.returns-clause-once
returns-clause-once c =
    let r = c.requires in
    meet_once c.args.players r.few r.two c.args.one c.args.other r.one_from r.one_to r.other_from r.other_to r.apart

pub returns-clause-with_each_side : goal.returns-clause-with_each_side
returns-clause-with_each_side c =
    let r = c.requires in
    meet_twice c.args.players r.few r.two c.args.one c.args.other r.one_from r.one_to r.other_from r.other_to r.apart

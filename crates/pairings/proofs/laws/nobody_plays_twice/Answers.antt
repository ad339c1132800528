use Rattle.pairings.proofs.Tables.{once_a_round}
use Rattle.pairings.proofs.laws.nobody_plays_twice.Goals as goal

pub returns : goal.returns
returns c =
    let r = c.requires in
    once_a_round c.args.players r.few r.two c.args.round c.args.player r.first r.last r.from r.to

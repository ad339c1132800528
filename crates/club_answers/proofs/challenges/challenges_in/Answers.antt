use Rattle.std.proofs.Common.{rules}
use Rattle.club_answers.proofs.ChallengeOrder.{more_read, one_more}
use Rattle.club_answers.proofs.challenges.challenges_in.Goals as goal

pub loop-row-preserved : goal.loop-row-preserved
loop-row-preserved c =
    let all = c.loop-row.challenges.items in
    let after = (rw c.deref.ensures.value at (c.comes_last.ensures (search rules))) c.loop-row.invariant.order in
    record {
      rows = more_read c.args.rows.now c.loop-row.row-index _ all c.push.new.self.items
          c.in_ok-challenge.challenge c.loop-row.invariant.rows (search rules) c.in_ok-challenge.ensures
          c.in_ok-push.ensures.items;
      order = one_more all c.push.new.self.items c.in_ok-challenge.challenge c.in_ok-push.ensures.items
          c.loop-row.invariant.order after;
    }

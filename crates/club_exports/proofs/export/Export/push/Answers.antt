use Rattle.std.proofs.Common.{◌<◌, ◌^◌, refl, arith}
use Rattle.club_exports.proofs.ExportLemmas.{entries-begin, made-is, push-writes, push-begins, follows}
use Rattle.club_exports.proofs.export.Export.push.Goals as goal

pub returns-then-self-ge-MOST_PLIES-clause-begun : goal.returns-then-self-ge-MOST_PLIES-clause-begun
returns-then-self-ge-MOST_PLIES-clause-begun g c title entries more before made is next =
    entries-begin is g.R.WriteRecord.IsText c.begins_games.ensures _

pub returns-in_err-made-clause-begun : goal.returns-in_err-made-clause-begun
returns-in_err-made-clause-begun g c title entries more before made is next =
    entries-begin is g.R.WriteRecord.IsText c.begins_games.ensures _

pub push_move-requires : goal.push_move-requires
push_move-requires g c =
    let few : c.args.self.now.plies < 2 ^ 32 = omega (arith, c.if-self-ge-MOST_PLIES.false) in
    let legal = rw c.in-Some.is at c.in_ok-made.ensures.legal in
    follows c.requires.is g.R.WriteRecord.MayFollow g.met.R.WriteRecord.may_follow few legal

pub returns-in_err-push_move-clause-begun : goal.returns-in_err-push_move-clause-begun
returns-in_err-push_move-clause-begun g c title entries more before made is next =
    let same = made-is is next c.in_ok-made.ensures.read c.in-Some.is in
    let lasted = rw (c.seconds.ensures.value, c.seconds-2.ensures.value) at c.saturating_sub-seconds.ensures in
    push-begins is g.R.WriteRecord.IsText c.args.moment more same lasted c.push_move.ensures.begun

pub returns-clause-in_progress : goal.returns-clause-in_progress
returns-clause-in_progress g c =
    let lasted = rw (c.seconds.ensures.value, c.seconds-2.ensures.value) at c.saturating_sub-seconds.ensures in
    record {
      title = c.requires.title;
      entries = _;
      before = c.requires.before;
      is = push-writes c.requires.is refl lasted c.in_ok-push_move.ensures.written c.play.ensures refl refl;
    }

pub returns-clause-written : goal.returns-clause-written
returns-clause-written g c title entries before made is next few =
    let same = made-is is next c.in_ok-made.ensures.read c.in-Some.is in
    let lasted = rw (c.seconds.ensures.value, c.seconds-2.ensures.value) at c.saturating_sub-seconds.ensures in
    (refl, push-writes is same lasted c.in_ok-push_move.ensures.written c.play.ensures refl refl)

pub returns-clause-begun : goal.returns-clause-begun
returns-clause-begun g c title entries more before made is next =
    let same = made-is is next c.in_ok-made.ensures.read c.in-Some.is in
    let lasted = rw (c.seconds.ensures.value, c.seconds-2.ensures.value) at c.saturating_sub-seconds.ensures in
    push-begins is g.R.WriteRecord.IsText c.args.moment more same lasted c.push_move.ensures.begun

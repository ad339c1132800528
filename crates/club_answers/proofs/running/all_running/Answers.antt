use Rattle.std.proofs.Common.{[], true, append-nil, refl}
use Rattle.std.proofs.lemmas.List.{drop_all}
use Rattle.sqlite.specs.Held.{state}
use Rattle.store_tables.proofs.Proved.{read_nothing, reads_on}
use Rattle.club_answers.proofs.CallLemmas.{between}
use Rattle.club_answers.proofs.RunningLemmas.{one_ahead}
use Rattle.club_answers.proofs.running.all_running.Goals as goal

pub loop-id-init : goal.loop-id-init
loop-id-init g c = record {
  reads = read_nothing true (state g.S.Store c.args.conn.now);
  running = λ clean s is_club k rest at. rw c.new-games.ensures.items at;
}

pub loop-id-preserved : goal.loop-id-preserved
loop-id-preserved g c = record {
  reads = reads_on c.loop-id.invariant.reads c.in_ok-running.ensures.reads;
  running = λ clean s is_club k.
      let (early, kept) = between s c.loop-id.invariant.reads c.running_at.ensures.reads clean k in
      let (game, there, same) = c.in_ok-running.ensures.running clean s is_club kept in
      one_ahead s c.args.ids.now c.loop-id.id-index _ c.loop-id.games.items _ c.in_ok-running.running game
      c.loop-id-test.true there same (c.loop-id.invariant.running early s is_club k) c.in_ok-push.ensures.items;
}

pub returns-clause-running : goal.returns-clause-running
returns-clause-running g c clean s is_club k =
    rw (append-nil _) at (c.loop-id.invariant.running clean s is_club k []
    (rw (drop_all c.loop-id.id-index c.args.ids.now c.loop-id-test.false) refl))

use Rattle.std.proofs.Common.{sym, arith}
use Rattle.sqlite_trees.proofs.Doubt.{clean_of as sure}
use Rattle.sqlite_wal.proofs.StateLemmas.{open_from}
use Rattle.sqlite_store.specs.FileStore.{state, view}
use Rattle.club_session.proofs.releasing.copy_log.Goals as goal

pub returns-in-Err-clause-kept : goal.returns-in-Err-clause-kept
returns-in-Err-clause-kept g c db may = c.rollback.ensures.quiet.outcomes db (c.checkpoint.ensures.quiet.outcomes db may)

pub returns-in-Ok-clause-empty : goal.returns-in-Ok-clause-empty
returns-in-Ok-clause-empty g c =
    let before = c.rollback.new.self in
    let q = c.checkpoint.ensures.quiet in
    record {
      last = c.checkpoint.new.self;
      same = sym c.close.ensures;
      outcomes = λ db may. c.rollback.ensures.quiet.outcomes db (q.outcomes db may);
      empty = λ none.
          let h = open_from (state before) c.in-Ok.ensures.ready (sure (view before).is_clean (omega (arith, q.clean))) in
          c.in-Ok.ensures.moved (c.rollback.ensures.logged ((c.rollback.ensures.undone.kept (omega (arith, q.clean))).was_open h));
    }

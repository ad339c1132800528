use Rattle.std.proofs.Common.{refl}
use Rattle.shogi_repetition.proofs.MarkLemmas.{start-follows}
use Rattle.shogi_repetition.proofs.marks.Marks.start.Goals as goal

pub returns-clause-follows : goal.returns-clause-follows
returns-clause-follows c =
    start-follows c.args.position.now _ c.copy-2.ensures refl refl c.start.ensures (λ q.
    rw (c.copy.ensures, c.new-seen.ensures.empty) at (c.in_ok-insert.ensures.updates.0 q))

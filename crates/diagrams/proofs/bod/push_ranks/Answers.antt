use Rattle.std.proofs.Common.{refl}
use Rattle.diagrams.specs.BodDiagram.{ranks_text}
use Rattle.diagrams.proofs.Joined.{parts-more}
use Rattle.diagrams.proofs.bod.push_ranks.Goals as goal

pub loop-rank-preserved : goal.loop-rank-preserved
loop-rank-preserved c =
    parts-more (ranks_text c.args.board.now) 10 c.loop-rank.rank _ _ _ _ (λ left e. refl) c.loop-rank-test.true
    c.loop-rank.invariant c.in_ok-push_rank.ensures

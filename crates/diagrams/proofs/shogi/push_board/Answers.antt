use Rattle.std.proofs.Common.{refl, ap, ◌∙◌, ◌++◌, append_assoc, arith}
use Rattle.diagrams.specs.ShogiDiagram.{ranks_text, board_text}
use Rattle.diagrams.proofs.Joined.{parts-more}
use Rattle.diagrams.proofs.ShogiWriting.{ranks-end}
use Rattle.diagrams.proofs.shogi.push_board.Goals as goal

pub loop-rank-preserved : goal.loop-rank-preserved
loop-rank-preserved c =
    parts-more (ranks_text c.args.board.now) 10 c.loop-rank.rank _ _ _ _ (λ left e. refl) c.loop-rank-test.true
    c.loop-rank.invariant c.in_ok-push_rank.ensures

pub returns : goal.returns
unfolding board_text
returns c =
    ranks-end (ranks_text c.args.board.now) c.loop-rank.rank _ _ c.loop-rank.invariant
    (omega (arith, c.loop-rank-test.false)) refl
    ∙ ap (λ t. t ++ ranks_text c.args.board.now 1 9) c.in_ok-push_heading.ensures
    ∙ append_assoc _ _ (ranks_text c.args.board.now 1 9)

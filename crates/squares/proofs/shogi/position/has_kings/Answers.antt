use Rattle.std.proofs.Common.{rules, sym, ◌∙◌}
use Rattle.squares.proofs.ShogiCounts.{has_kings_lem}
use Rattle.squares.proofs.shogi.position.has_kings.Goals as goal

pub returns : goal.returns
returns c = (
  λ _. has_kings_lem c.args.board.now (sym c.count_kings.ensures.value ∙ c.if-count_kings-ne1.false)
      (sym c.count_kings-2.ensures.value ∙ c.if-count_kings-ne1-2.false),
  λ _. search rules,
)

use Rattle.std.proofs.Common.{◌<◌, ◌∙◌, sym, rules}
use Rattle.shogi_moves.specs.Reach.{next_file, next_rank, square_at}
use Rattle.shogi_moves.proofs.LineLemmas.{square_at-is, step-square_at}
use Rattle.shogi_moves.proofs.heading.step.Goals as goal

pub returns : goal.returns
returns c =
    let on : c.args.from < 81 = search rules in
    square_at-is c.new.result c.next_file.result c.next_rank.result c.new.ensures.some c.new.ensures.value
    ∙ (λ i. square_at (c.next_file.ensures i) (c.next_rank.ensures i))
    ∙
    (λ i. square_at (next_file c.args.heading (c.file.ensures.value i))
    (next_rank c.args.side c.args.heading (c.rank.ensures.value i)))
    ∙ sym (step-square_at c.args.side c.args.heading c.args.from on)

use Rattle.shogi_moves.proofs.LineLemmas.{line-moved, moved-line}
use Rattle.shogi_moves.proofs.laws.lines_follow_coordinates.Goals as goal

pub returns : goal.returns
returns c = λ distance side heading n k m on.
    (line-moved side heading distance n k m on, λ w. moved-line side heading distance n k m on w.0 w.1 w.2)

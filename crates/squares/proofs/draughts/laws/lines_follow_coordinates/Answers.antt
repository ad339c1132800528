use Rattle.squares.proofs.DraughtsRays.{ray-moved, moved-ray}
use Rattle.squares.proofs.draughts.laws.lines_follow_coordinates.Goals as goal

pub returns : goal.returns
returns c = λ toward n k m on. (ray-moved toward n k m on, moved-ray toward n k m on)

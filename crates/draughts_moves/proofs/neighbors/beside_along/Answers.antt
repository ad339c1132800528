use Rattle.std.proofs.Common.{inl, inr, ◌∙◌}
use Rattle.squares.specs.DraughtsGeometry.{step}
use Rattle.draughts_moves.proofs.Basics.{option_cases}
use Rattle.draughts_moves.proofs.neighbors.beside_along.Goals as goal

pub returns : goal.returns
returns c = λ n. c.predecessors.ensures n ∙ elim (option_cases (step c.args.toward n))
    [ inl e ↦ rw e | inr w ↦ rw w.1 (c.exposed_squares-near.ensures w.0) ]

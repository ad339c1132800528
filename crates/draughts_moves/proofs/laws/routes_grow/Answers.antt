use Rattle.draughts_moves.proofs.RouteLemmas.{Route-grown, grown-Route}
use Rattle.draughts_moves.proofs.laws.routes_grow.Goals as goal

pub returns : goal.returns
returns c = λ b p start from landings last all to.
    (Route-grown b p last all to landings start from, grown-Route b p last all to landings start from)

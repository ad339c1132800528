use Rattle.std.proofs.Common.{ℕ, List, subst}
use Rattle.squares.specs.declared.draughts.moves.DMove.{DMove}
use Rattle.squares.specs.DraughtsBoard.{Position}
use Rattle.pdn.specs.ReadMove.{IsRead}
use Rattle.pdn_games.proofs.MoveLemmas.{on-ok}
use Rattle.pdn_games.proofs.replay.push.Goals as goal

pub returns-in-Ok-clause-grown : goal.returns-in-Ok-clause-grown
returns-in-Ok-clause-grown c =
    let text : List ℕ = c.args.text.now in
    let m : DMove = c.in-Ok.played in
    on-ok c.push_move.result
    (λ h. record {
      made = m;
      grown = h;
      means = subst (λ (p : Position). IsRead p text m) c.requires.stands.position c.in-Ok.ensures.read;
    }) c.push_move.ensures.grown

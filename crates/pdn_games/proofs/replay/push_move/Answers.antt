use Rattle.std.proofs.Common.{◌≡◌, List, [], ◌∷◌, ◌++◌, sym, ap, subst, ◌∙◌}
use Rattle.squares.specs.declared.draughts.moves.DMove.{DMove}
use Rattle.squares.specs.DraughtsOpening.{opening}
use Rattle.squares.specs.DraughtsBoard.{Position}
use Rattle.draughts_moves.specs.Legal.{Legal, play}
use Rattle.draughts_draws.specs.Line.{last_position}
use Rattle.draughts_draws.specs.internal.Counting.{Follows}
use Rattle.game_history.proofs.Proved.{last_position-append}
use Rattle.pdn_games.specs.internal.Replaying.{fault_of}
use Rattle.pdn_games.proofs.MoveLemmas.{only-memory}
use Rattle.pdn_games.proofs.replay.push_move.Goals as goal

pub returns-in-Err-clause-fault : goal.returns-in-Err-clause-fault
returns-in-Err-clause-fault c =
    let ms : List DMove = c.args.replay.now.moves.items in
    let legal : Legal (last_position opening ms) c.args.played =
    subst (λ p. Legal p c.args.played) c.requires.stands.position c.requires.legal in
    c.fault_of.ensures
    ∙ ap fault_of
    (only-memory c.check_is.ensures ms c.args.played c.in-Err.fault c.requires.stands.follows.played
    c.requires.unended legal (c.in-Err.ensures.fault opening ms c.requires.stands.follows))

pub returns-clause-stands : goal.returns-clause-stands
returns-clause-stands c =
    let ms : List DMove = c.args.replay.now.moves.items in
    let m : DMove = c.args.played in
    let grown : Follows opening (ms ++ m ∷ []) c.push.new.self =
    c.in-Ok.ensures.follows opening ms c.requires.stands.follows in
    let items : c.push-2.new.self.items ≡ ms ++ m ∷ [] = c.in_ok-push.ensures.items in
    record {
      follows = subst (λ l. Follows opening l c.push.new.self) (sym items) grown;
      position = c.play-next.ensures ∙ ap (λ (p : Position). play p m) c.requires.stands.position
          ∙ sym (last_position-append play opening ms m) ∙ ap (λ l. last_position opening l) (sym items);
    }

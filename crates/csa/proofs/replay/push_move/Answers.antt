use Rattle.std.proofs.Common.{◌≡◌, List, [], ◌∷◌, ◌++◌, sym, ap, subst, ◌∙◌}
use Rattle.game_history.proofs.Proved.{last-legal, last_position-append}
use Rattle.squares.specs.declared.shogi.moves.SMove.{SMove}
use Rattle.squares.specs.ShogiOpening.{opening}
use Rattle.squares.specs.ShogiSets.{ShogiPosition}
use Rattle.shogi_moves.specs.Rules.{Legal, play}
use Rattle.shogi_repetition.specs.Line.{last_position}
use Rattle.shogi_repetition.specs.internal.Counting.{Follows}
use Rattle.shogi_repetition.specs.Faults.{shogi_lines}
use Rattle.csa.proofs.ReplayLemmas.{made-fault}
use Rattle.csa.proofs.replay.push_move.Goals as goal

pub returns-in-Err-clause-fault : goal.returns-in-Err-clause-fault
returns-in-Err-clause-fault c =
    rw c.fault_of.ensures (made-fault c.check_is.ensures c.each_line_has_one_end.ensures.one _ c.args.played
    c.in-Err.fault c.requires.follows.played (c.in-Err.ensures.fault opening _ c.requires.follows))

pub play-next-requires : goal.play-next-requires
play-next-requires c =
    let ms : List SMove = c.args.replay.now.moves.items in
    let m : SMove = c.args.played in
    let grown : Follows opening (ms ++ m ∷ []) c.push.new.self =
    c.in-Ok.ensures.follows opening ms c.requires.follows in
    subst (λ p. Legal p m) (sym c.requires.position) (last-legal shogi_lines opening ms m grown.played)

pub returns-clause-stands : goal.returns-clause-stands
returns-clause-stands c =
    let ms : List SMove = c.args.replay.now.moves.items in
    let m : SMove = c.args.played in
    let grown : Follows opening (ms ++ m ∷ []) c.push.new.self =
    c.in-Ok.ensures.follows opening ms c.requires.follows in
    let items : c.push-2.new.self.items ≡ ms ++ m ∷ [] = c.in_ok-push.ensures.items in
    record {
      follows = subst (λ l. Follows opening l c.push.new.self) (sym items) grown;
      position = c.play-next.ensures ∙ ap (λ (p : ShogiPosition). play p m) c.requires.position
          ∙ sym (last_position-append play opening ms m) ∙ ap (λ l. last_position opening l) (sym items);
    }

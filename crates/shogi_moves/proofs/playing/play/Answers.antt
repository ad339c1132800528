use Rattle.std.proofs.Common.{◌∙◌, sym, ap, subst}
use Rattle.squares.specs.internal.ShogiSets.{IsShogiPosition}
use Rattle.shogi_moves.specs.Rules.{board_after, hands_after}
use Rattle.shogi_moves.proofs.PlayLemmas.{play-sound}
use Rattle.shogi_moves.proofs.playing.play.Goals as goal

pub of_parts-requires : goal.of_parts-requires
of_parts-requires c =
    let p = c.args.position.now in
    let m = c.args.played.now in
    let board = c.board_after-board.ensures ∙ ap (λ q. board_after q m) c.from_position-layout.ensures.value in
    let hands = c.hands_after-hands.ensures ∙ ap (λ q. hands_after q m) c.from_position-layout.ensures.value in
    subst (λ b. IsShogiPosition b c.hands_after-hands.result) (sym board)
    (subst (λ h. IsShogiPosition (board_after p m) h) (sym hands)
    (play-sound p m c.requires.pseudo c.from_position-layout.ensures.sound))

use Rattle.std.proofs.Common.{◌≡◌, ℕ, List, [], ◌∷◌, ◌++◌, ap, ◌∙◌, string_bytes, arith, subst, sym}
use Rattle.squares.specs.ShogiBoard.{ShogiBoard}
use Rattle.squares.specs.ShogiSets.{ShogiPosition}
use Rattle.sfen.specs.Letters.{turn_letter}
use Rattle.sfen.specs.internal.SfenGrammar.{IsSfenText}
use Rattle.sfen.specs.SfenText.{board_text, hands_text, position_text}
use Rattle.sfen.proofs.WrittenLemmas.{parts-alone, position-alone}
use Rattle.sfen.proofs.writing.write_position.Goals as goal

pub returns-clause-text : goal.returns-clause-text
unfolding position_text
returns-clause-text c =
    let p : ShogiPosition = c.args.position.now in
    let t1 : List ℕ = string_bytes c.push_board.new.text in
    let t2 : List ℕ = string_bytes c.push_str.new.self in
    let t3 : List ℕ = string_bytes c.push.new.self in
    let t4 : List ℕ = string_bytes c.push_str-2.new.self in
    let t5 : List ℕ = string_bytes c.push_hands.new.text in
    let e1 : t1 ≡ board_text p.board = c.in_ok-push_board.ensures
    ∙ ap (λ t. t ++ board_text c.board.result.now) c.in_ok-text.ensures.bytes
    ∙ ap (λ (b : ShogiBoard). board_text b) c.board.ensures.value in
    let e2 : t2 ≡ t1 ++ 32 ∷ [] = c.in_ok-push_str.ensures.bytes in
    let e3 : t3 ≡ t2 ++ turn_letter p.turn ∷ [] = c.in_ok-push.ensures.bytes
    ∙ ap (λ t. t2 ++ t) (c.in_ok-push.ensures.ascii (omega (arith, c.turn_letter.ensures.range)))
    ∙ ap (λ (n : ℕ). t2 ++ n ∷ []) (c.turn_letter.ensures.value ∙ ap turn_letter c.turn.ensures) in
    let e4 : t4 ≡ t3 ++ 32 ∷ [] = c.in_ok-push_str-2.ensures.bytes in
    let e5 : t5 ≡ t4 ++ hands_text p.hands = c.in_ok-push_hands.ensures
    ∙ ap (λ h. t4 ++ hands_text h) c.hands.ensures in
    parts-alone (board_text p.board) (hands_text p.hands) (turn_letter p.turn) t1 t2 t3 t4 t5 e1 e2 e3 e4 e5

pub returns-clause-stands_for : goal.returns-clause-stands_for
returns-clause-stands_for c =
    let p : ShogiPosition = c.args.position.now in
    subst (λ (t : List ℕ). IsSfenText t p 1) (sym (returns-clause-text c))
    (position-alone p c.board.ensures.sound c.board.ensures.squares)

use Rattle.std.proofs.Common.{◌≡◌, Bool, true, false, ◌&&◌, not, refl, sym, ◌∙◌}
use denote.Enum.Bare.{sameb}
use Rattle.squares.specs.contracts.sides.Side.{the_type}
use Rattle.squares.specs.declared.sides.Side.{Side}
use Rattle.squares.specs.declared.sides.Side.TheVariants.{First, Second}
use Rattle.squares.specs.Sides.{same_side}
use Rattle.squares.specs.ShogiSets.{ShogiPosition}
use Rattle.squares.specs.ShogiSamePosition.{same_hand, same_hands, same_shogi_board, same_shogi_position}
use Rattle.squares.proofs.shogi.position.SPosPartialEq.eq.Goals as goal

turns : (a b : Side) → sameb the_type a b ≡ same_side a b
turns First First = refl
turns First Second = refl
turns Second First = refl
turns Second Second = refl

not_true : (a : Bool) → not a ≡ true → a ≡ false
not_true true e = sym e
not_true false e = refl

not_false : (a : Bool) → not a ≡ false → a ≡ true
not_false true e = refl
not_false false e = sym e

other_turn : (p q : ShogiPosition) → same_side p.turn q.turn ≡ false → same_shogi_position p q ≡ false
unfolding same_shogi_position
other_turn p q e = λ i. e i && (same_hands p.hands q.hands && same_shogi_board p.board q.board)

other_hands : (p q : ShogiPosition) → same_side p.turn q.turn ≡ true → same_hands p.hands q.hands ≡ false
    → same_shogi_position p q ≡ false
unfolding same_shogi_position
other_hands p q e f = λ i. e i && (f i && same_shogi_board p.board q.board)

by_board : (p q : ShogiPosition) → same_side p.turn q.turn ≡ true → same_hands p.hands q.hands ≡ true
    → same_shogi_position p q ≡ same_shogi_board p.board q.board
unfolding same_shogi_position
by_board p q e f = λ i. e i && (f i && same_shogi_board p.board q.board)

pub returns-then-ne : goal.returns-then-ne
returns-then-ne c =
    let mine = c.self.inside in
    let theirs = c.other.inside in
    let p : ShogiPosition = record { board = mine.board; hands = mine.hands; turn = mine.turn } in
    let q : ShogiPosition = record { board = theirs.board; hands = theirs.hands; turn = theirs.turn } in
    let turn : same_side mine.turn theirs.turn ≡ false = sym (turns mine.turn theirs.turn)
    ∙ not_true (sameb the_type mine.turn theirs.turn) (sym c.ne.ensures ∙ c.if-ne.true) in
    sym (other_turn p q turn) ∙ (λ i. same_shogi_position (c.self.view_is i) (c.other.view_is i))

pub returns-then-ne-2 : goal.returns-then-ne-2
unfolding same_hand
returns-then-ne-2 c =
    let mine = c.self.inside in
    let theirs = c.other.inside in
    let p : ShogiPosition = record { board = mine.board; hands = mine.hands; turn = mine.turn } in
    let q : ShogiPosition = record { board = theirs.board; hands = theirs.hands; turn = theirs.turn } in
    let turn : same_side mine.turn theirs.turn ≡ true = sym (turns mine.turn theirs.turn)
    ∙ not_false (sameb the_type mine.turn theirs.turn) (sym c.ne.ensures ∙ c.if-ne.false) in
    let hands : same_hands mine.hands theirs.hands ≡ false =
    not_true (same_hands mine.hands theirs.hands) (sym c.ne-2.ensures ∙ c.if-ne-2.true) in
    sym (other_hands p q turn hands) ∙ (λ i. same_shogi_position (c.self.view_is i) (c.other.view_is i))

pub returns : goal.returns
unfolding same_hand
returns c =
    let mine = c.self.inside in
    let theirs = c.other.inside in
    let p : ShogiPosition = record { board = mine.board; hands = mine.hands; turn = mine.turn } in
    let q : ShogiPosition = record { board = theirs.board; hands = theirs.hands; turn = theirs.turn } in
    let turn : same_side mine.turn theirs.turn ≡ true = sym (turns mine.turn theirs.turn)
    ∙ not_false (sameb the_type mine.turn theirs.turn) (sym c.ne.ensures ∙ c.if-ne.false) in
    let hands : same_hands mine.hands theirs.hands ≡ true =
    not_false (same_hands mine.hands theirs.hands) (sym c.ne-2.ensures ∙ c.if-ne-2.false) in
    c.eq.ensures ∙ sym (by_board p q turn hands) ∙ (λ i. same_shogi_position (c.self.view_is i) (c.other.view_is i))

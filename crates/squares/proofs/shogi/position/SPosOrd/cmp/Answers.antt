use Rattle.std.proofs.Common.{◌≡◌, sym, ap, ◌∙◌}
use Rattle.std.specs.Ordering.{ordering_then}
use Rattle.std.specs.declared.cmp.Ordering.{Ordering}
use Rattle.squares.specs.ShogiSets.{ShogiPosition}
use Rattle.squares.specs.internal.ShogiOrder.{side_cmp, hands_cmp, board_cmp, position_cmp}
use Rattle.squares.proofs.shogi.position.SPosOrd.cmp.Goals as goal

-- the order by turn and hands, and then by the board
by_parts : (p q : ShogiPosition) (first : Ordering)
    → first ≡ ordering_then (side_cmp p.turn q.turn) (hands_cmp p.hands q.hands)
    → ordering_then first (board_cmp p.board q.board) ≡ position_cmp p q
unfolding position_cmp
by_parts p q first e = ap (λ o. ordering_then o (board_cmp p.board q.board)) e

pub returns-in-Less : goal.returns-in-Less
returns-in-Less c =
    let mine = c.self.inside in
    let theirs = c.other.inside in
    let p : ShogiPosition = record { board = mine.board; hands = mine.hands; turn = mine.turn } in
    let q : ShogiPosition = record { board = theirs.board; hands = theirs.hands; turn = theirs.turn } in
    ap (λ o. ordering_then o (board_cmp p.board q.board)) (sym c.in-Less.is)
    ∙ by_parts p q c.then.result (c.then.ensures ∙ (λ i. ordering_then (c.cmp.ensures i) (c.cmp-2.ensures i)))
    ∙ (λ i. position_cmp (c.self.view_is i) (c.other.view_is i))

pub returns-in-Equal : goal.returns-in-Equal
returns-in-Equal c =
    let mine = c.self.inside in
    let theirs = c.other.inside in
    let p : ShogiPosition = record { board = mine.board; hands = mine.hands; turn = mine.turn } in
    let q : ShogiPosition = record { board = theirs.board; hands = theirs.hands; turn = theirs.turn } in
    c.compare.ensures ∙ ap (λ o. ordering_then o (board_cmp p.board q.board)) (sym c.in-Equal.is)
    ∙ by_parts p q c.then.result (c.then.ensures ∙ (λ i. ordering_then (c.cmp.ensures i) (c.cmp-2.ensures i)))
    ∙ (λ i. position_cmp (c.self.view_is i) (c.other.view_is i))

pub returns-in-Greater : goal.returns-in-Greater
returns-in-Greater c =
    let mine = c.self.inside in
    let theirs = c.other.inside in
    let p : ShogiPosition = record { board = mine.board; hands = mine.hands; turn = mine.turn } in
    let q : ShogiPosition = record { board = theirs.board; hands = theirs.hands; turn = theirs.turn } in
    ap (λ o. ordering_then o (board_cmp p.board q.board)) (sym c.in-Greater.is)
    ∙ by_parts p q c.then.result (c.then.ensures ∙ (λ i. ordering_then (c.cmp.ensures i) (c.cmp-2.ensures i)))
    ∙ (λ i. position_cmp (c.self.view_is i) (c.other.view_is i))

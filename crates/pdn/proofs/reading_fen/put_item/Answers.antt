use Rattle.std.proofs.Common.{◌≡◌, ℕ, List, [], ◌≤◌, length, drop, sym, ap, ◌∙◌, arith}
use Rattle.std.specs.Prelude.{fold}
use Rattle.std.proofs.lemmas.Grind.{common_steps}
use Rattle.squares.specs.DraughtsBoard.{Board}
use Rattle.pdn.specs.declared.items.Item.{Item}
use Rattle.pdn.specs.ReadFen.{put_on, put_item}
use Rattle.std.specs.List.{range_with_len}
use Rattle.pdn.proofs.reading_fen.put_item.Goals as goal

past_all : {A : Type 0} (xs : List A) (i : ℕ) → length xs ≤ i → drop i xs ≡ []
past_all xs i h = grind (arith, common_steps)

all_put : (item : Item) (board old : Board) (squares : List ℕ) (i : ℕ) → 50 ≤ i → squares ≡ range_with_len 1 50
    → fold (put_on item) board (drop i squares) ≡ fold (put_on item) old squares → board ≡ put_item old item
unfolding put_item
all_put item board old squares i past all rest =
    sym (ap (fold (put_on item) board) (past_all squares i (omega (arith, ap length all)))) ∙ rest
    ∙ ap (fold (put_on item) old) all

pub returns : goal.returns
returns c =
    let board = all_put c.args.item.now c.loop-square.position.board c.args.position.now.board c.all.result
    c.loop-square.square-index c.loop-square-test.false c.all.ensures c.loop-square.invariant.board in
    let turn = c.loop-square.invariant.turn in
    λ i. record { board = board i; turn = turn i }

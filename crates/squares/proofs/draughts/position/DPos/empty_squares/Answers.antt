use Rattle.std.proofs.Common.{not, ◌&&◌, ◌||◌, ap, ◌∙◌}
use Rattle.std.specs.Cmp.{nat_cmp_total}
use Rattle.std.specs.FinMap.{get}
use Rattle.std.specs.FinSet as set
use Rattle.std.specs.Prelude.{is_none}
use Rattle.masks.specs.Words.{Numbers}
use Rattle.squares.specs.DraughtsBoard.{Position, board_of}
use Rattle.squares.specs.internal.DraughtsKept.{cells_in}
use Rattle.squares.proofs.DraughtsKept.{neither_side}
use Rattle.squares.proofs.draughts.position.DPos.empty_squares.Goals as goal

pub returns-clause-empty : goal.returns-clause-empty
returns-clause-empty c = λ n on.
    let inside = c.self.inside in
    let cell = get (board_of (cells_in inside.first inside.second inside.kings)) n in
    let occupied = ap (λ (s : Numbers). set.contains s n) c.union-occupied.ensures
    ∙ set.contains-union nat_cmp_total inside.first inside.second n
    ∙ (λ i. c.self.invariant.of_first n i || c.self.invariant.of_second n i) in
    let free = ap (λ (s : Numbers). set.contains s n) c.difference-empty.ensures
    ∙ set.contains-difference nat_cmp_total c.full.result c.union-occupied.result n
    ∙ (λ i. c.full.ensures n on.0 on.1 i && not (occupied i)) in
    ap (λ (s : Numbers). set.contains s n) c.of_word.ensures ∙ free ∙ neither_side cell
    ∙ ap (λ (p : Position). is_none (get p.board n)) c.self.view_is

pub returns-clause-off_board : goal.returns-clause-off_board
returns-clause-off_board c = λ n off. ap (λ (s : Numbers). set.contains s n) c.of_word.ensures
    ∙ c.keeps_to_its_squares.ensures n off

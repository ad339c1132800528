use Rattle.std.proofs.Common.{◌≡◌, ◌&&◌, ap, ◌∙◌}
use Rattle.std.specs.Cmp.{nat_cmp_total}
use Rattle.std.specs.FinMap.{get}
use Rattle.std.specs.FinSet as set
use Rattle.squares.specs.ShogiBoard.{ShogiBoard}
use Rattle.squares.specs.internal.ShogiWords.{squares_at, is_side, is_role}
use Rattle.squares.proofs.ShogiKept.{holds-both}
use Rattle.squares.proofs.shogi.board.SBoard.squares_of.Goals as goal

pub returns : goal.returns
returns c = λ q.
    let sides = c.self.inside.sides in
    let roles = c.self.inside.roles in
    let own : set.contains c.squares_at-own.result q ≡ is_side c.args.piece.side (get c.args.self.now q) =
    ap (λ s. set.contains s q) (c.squares_at-own.ensures ∙ ap (squares_at sides) c.side_place.ensures.value)
    ∙ c.self.invariant.by_side c.args.piece.side q
    ∙ ap (λ (b : ShogiBoard). is_side c.args.piece.side (get b q)) c.self.view_is in
    let alike : set.contains c.squares_at-alike.result q ≡ is_role c.args.piece.role (get c.args.self.now q) =
    ap (λ s. set.contains s q) (c.squares_at-alike.ensures ∙ ap (squares_at roles) c.role_place.ensures.value)
    ∙ c.self.invariant.by_role c.args.piece.role q
    ∙ ap (λ (b : ShogiBoard). is_role c.args.piece.role (get b q)) c.self.view_is in
    ap (λ s. set.contains s q) c.intersection.ensures
    ∙ set.contains-intersection nat_cmp_total c.squares_at-own.result c.squares_at-alike.result q
    ∙ (λ i. own i && alike i) ∙ holds-both c.args.piece (get c.args.self.now q)

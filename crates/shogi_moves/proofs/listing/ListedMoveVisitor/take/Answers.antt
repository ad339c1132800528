use Rattle.std.proofs.Common.{◌++◌, List, [], ◌∷◌, ap, sym, ◌∙◌}
use Rattle.squares.specs.declared.shogi.moves.SMove.{SMove}
use Rattle.shogi_moves.proofs.SeekLemmas.{listed-passing, listed-failing}
use Rattle.shogi_moves.proofs.listing.ListedMoveVisitor.take.Goals as goal

pub returns-in_ok-push : goal.returns-in_ok-push
returns-in_ok-push c =
    c.in_ok-push.ensures.items ∙ ap (λ (ms : List SMove). ms ++ c.args.played ∷ []) c.self.view_is
    ∙ listed-passing _ _ _ (sym c.is_legal.ensures ∙ c.if-is_legal.true)

pub returns-else-is_legal : goal.returns-else-is_legal
returns-else-is_legal c = listed-failing _ _ _ (sym c.is_legal.ensures ∙ c.if-is_legal.false)

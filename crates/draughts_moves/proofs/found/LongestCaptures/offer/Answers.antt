use Rattle.std.proofs.Common.{rules, ◌≡◌, [], sym, ap, ◌∙◌, subst}
use Rattle.std.specs.List.Sorted.{IsStrictlySortedBy}
use Rattle.draughts_moves.specs.declared.found.LongestCaptures.{LongestCaptures}
use Rattle.draughts_moves.specs.Listing.{move_cmp}
use Rattle.draughts_moves.proofs.FoundLemmas.{sorted-none}
use Rattle.draughts_moves.proofs.found.LongestCaptures.offer.Goals as goal
use Rattle.draughts_moves.proofs.found.LongestCaptures.offer.Goals.{then-size-self-2, else-size-self-2}

pub put_move-requires : goal.put_move-requires
put_move-requires c =
    elim c.if-size-self-2.branch [
      | then-size-self-2 w ↦
          let none : w.clear.new.self.items ≡ [] = search rules in
          subst (IsStrictlySortedBy move_cmp) (sym (ap (λ (f : LongestCaptures). f.moves.items) w.self-is ∙ none)) sorted-none
      | else-size-self-2 w ↦ subst (λ (f : LongestCaptures). IsStrictlySortedBy move_cmp f.moves.items) (sym w.self-is) c.requires
    ]

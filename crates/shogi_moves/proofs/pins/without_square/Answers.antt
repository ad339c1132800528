use Rattle.std.proofs.Common.{◌≡◌, sym, ap, ◌∙◌}
use Rattle.std.specs.FinSet as set
use Rattle.masks.specs.internal.Walks.{popped_kept}
use Rattle.shogi_moves.proofs.PinLemmas.{gone_from}
use Rattle.shogi_moves.proofs.pins.without_square.Goals as goal

pub returns-in-Some-clause-kept : goal.returns-in-Some-clause-kept
returns-in-Some-clause-kept c n has =
    popped_kept c.args.squares c.number.result n (ap (λ s. set.contains s n) (sym c.without.ensures) ∙ has)

pub returns-in-Some-clause-removed : goal.returns-in-Some-clause-removed
returns-in-Some-clause-removed c n has is =
    let same : c.in-Some.there ≡ n = cc (c.in-Some.is, is) in
    gone_from c.args.squares c.number.result n (ap (λ s. set.contains s n) (sym c.without.ensures) ∙ has)
    (c.number.ensures.value ∙ same)

use Rattle.std.proofs.Common.{◌≡◌, sym, ap, ◌∙◌}
use Rattle.std.specs.FinSet as set
use Rattle.std.specs.Ordering.{nat_cmp}
use Rattle.draughts_draws.proofs.KingLemmas.{two_to_one_none, unless}
use Rattle.draughts_draws.proofs.classes.is_two_to_one.Goals as goal

pub returns-else-not-is_empty : goal.returns-else-not-is_empty
returns-else-not-is_empty c =
    let empty : c.kings.result ≡ set.empty = c.is_empty.ensures.0 c.if-not-is_empty.false in
    unless c.is_empty.result c.if-not-is_empty.false ∙ sym (two_to_one_none c.args.position.now (λ n.
    sym (c.kings.ensures n) ∙ ap (λ s. set.contains s n) empty ∙ set.contains-empty nat_cmp n))

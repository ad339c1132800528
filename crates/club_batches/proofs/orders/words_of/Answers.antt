use Rattle.std.proofs.Common.{◌∷◌, ap, ◌∙◌}
use Rattle.std.specs.Prelude.{codes}
use Rattle.std.proofs.lemmas.Iterator.Consumers.{YieldsList-at, YieldsList-end}
use Rattle.club_batches.proofs.WordLemmas.{YieldsList-from_words}
use Rattle.club_batches.proofs.orders.words_of.Goals as goal

pub returns : goal.returns
returns c =
    let words = YieldsList-at c.into_iter-word-iterator.ensures.into_iter_gives
    (YieldsList-from_words c.args.line.now c.split_ascii_whitespace-word-items.ensures.text) in
    c.loop-word.invariant
    ∙ ap (λ l. codes "club" ∷ l)
    (YieldsList-end words c.loop-word.yielded _ c.loop-word.yielded_by _ c.next.new.self c.in-None.is c.next.ensures.steps).0

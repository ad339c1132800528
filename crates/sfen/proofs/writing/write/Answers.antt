use Rattle.std.proofs.Common.{ℕ, List, ◌∷◌, ◌++◌, ap, ◌∙◌, subst, sym}
use Rattle.std.specs.Fmt.{decimal}
use Rattle.squares.specs.ShogiSets.{ShogiPosition}
use Rattle.sfen.specs.internal.SfenGrammar.{IsSfenText}
use Rattle.sfen.specs.internal.SfenText.{sfen_text}
use Rattle.sfen.proofs.WrittenLemmas.{position-written, text-sound}
use Rattle.sfen.proofs.writing.write.Goals as goal

pub returns-clause-text : goal.returns-clause-text
unfolding sfen_text
returns-clause-text c = c.in_ok-write.ensures.bytes
    ∙ ap (λ t. t ++ 32 ∷ decimal c.args.number) c.in_ok-text.ensures.text

pub returns-clause-stands_for : goal.returns-clause-stands_for
returns-clause-stands_for c =
    let p : ShogiPosition = c.args.position.now in
    let sound = text-sound _ p 1 c.in_ok-text.ensures.stands_for in
    subst (λ (t : List ℕ). IsSfenText t p c.args.number) (sym (returns-clause-text c))
    (position-written p c.args.number sound.0 sound.1 c.requires.low c.requires.high)

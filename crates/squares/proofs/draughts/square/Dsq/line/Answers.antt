use Rattle.std.proofs.Common.{◌≡◌, ◌+◌, ◌∙◌, ◌<◌, ◌^◌, sym, ap, subst}
use Rattle.std.specs.FinSet as set
use Rattle.std.specs.List.{slice_index}
use Rattle.masks.specs.Words.{Numbers, has_bit}
use Rattle.squares.specs.declared.draughts.ray.TheConstants.{LINES}
use Rattle.squares.proofs.DraughtsLines.{entry, entry-fits, line-is}
use Rattle.squares.proofs.draughts.square.Dsq.line.Goals as goal

pub of_word-squares-requires : goal.of_word-squares-requires
of_word-squares-requires c =
    let is : c.line_word-word.result ≡ entry c.args.toward c.args.self =
    c.line_word-word.ensures
    ∙ (λ i. slice_index LINES (c.place_of.ensures i + (c.from.ensures ∙ c.number.ensures.value) i)) in
    subst (λ w. w < 2 ^ 50) (sym is) (entry-fits c.args.toward c.args.self c.number.ensures.range)

pub returns : goal.returns
returns c = λ n.
    let is : c.line_word-word.result ≡ entry c.args.toward c.args.self =
    c.line_word-word.ensures
    ∙ (λ i. slice_index LINES (c.place_of.ensures i + (c.from.ensures ∙ c.number.ensures.value) i)) in
    ap (λ (s : Numbers). set.contains s n) c.of_word.ensures
    ∙ line-is c.args.toward c.args.self c.number.ensures.range c.of_word-squares.result c.keeps_to_its_squares.ensures
    (λ k. c.of_word-squares.ensures k ∙ ap (λ w. has_bit w k) is) n

use Rattle.std.proofs.Common.{ℕ, List, ◌++◌, get_or, sym, ap, ◌∙◌, string_bytes, append-nil}
use Rattle.std.proofs.lemmas.List.{drop_all}
use Rattle.squares.specs.declared.shogi.piece.HandKind.{HandKind}
use Rattle.squares.specs.declared.shogi.piece.HandKind.TheVariants.{Rook}
use Rattle.sfen.specs.SfenText.{held_text, kinds_text, hand_kinds}
use Rattle.sfen.proofs.WrittenLemmas.{kinds-more}
use Rattle.sfen.proofs.writing.push_hand.Goals as goal

pub loop-kind-preserved : goal.loop-kind-preserved
unfolding hand_kinds
loop-kind-preserved c =
    let text : List ℕ = string_bytes c.loop-kind.text in
    let kind : HandKind = get_or hand_kinds c.loop-kind.kind-index Rook in
    kinds-more c.args.side c.args.hand hand_kinds c.loop-kind.kind-index Rook
    (string_bytes c.args.text.now ++ kinds_text c.args.side c.args.hand hand_kinds) text
    (string_bytes c.push_held.new.text)
    c.loop-kind-test.true c.loop-kind.invariant
    (c.in_ok-push_held.ensures ∙ ap (λ n. text ++ held_text c.args.side kind n) c.count.ensures)

pub returns : goal.returns
unfolding hand_kinds
returns c =
    let text : List ℕ = string_bytes c.loop-kind.text in
    sym (append-nil text)
    ∙ sym
    (ap (λ ks. text ++ kinds_text c.args.side c.args.hand ks)
    (drop_all c.loop-kind.kind-index hand_kinds c.loop-kind-test.false))
    ∙ c.loop-kind.invariant

use Rattle.std.proofs.Common.{[], ◌∷◌, arith}
use Rattle.diagrams.specs.ShogiDiagram.{hand_text}
use Rattle.diagrams.proofs.ShogiWriting.{some-hand, no-hand}
use Rattle.diagrams.proofs.shogi.push_hand.Goals as goal

pub returns-in_ok-push_str : goal.returns-in_ok-push_str
unfolding hand_text
returns-in_ok-push_str c =
    let before = c.args.text.now.bytes.ok.0 in
    let after = c.push_kinds.new.text.bytes.ok.0 in
    no-hand (32 ∷ 45 ∷ []) _ _ _ _ c.in_ok-push_kinds.ensures
    (omega (arith, c.len.ensures, c.if-len-before.true, c.len-before.ensures, before, after))
    c.in_ok-push_str.ensures.bytes

pub returns-else-len-before : goal.returns-else-len-before
unfolding hand_text
returns-else-len-before c =
    let before = c.args.text.now.bytes.ok.0 in
    let after = c.push_kinds.new.text.bytes.ok.0 in
    some-hand (32 ∷ 45 ∷ []) _ _ _ c.in_ok-push_kinds.ensures
    (λ same. c.if-len-before.false (omega (arith, c.len.ensures, same, c.len-before.ensures, before, after)))

use Rattle.std.proofs.Common.{string_bytes, arith}
use Rattle.squares.specs.declared.sides.Side.TheVariants.{First, Second}
use Rattle.sfen.specs.SfenText.{kinds_text, hand_kinds, hands_text}
use Rattle.sfen.proofs.WrittenLemmas.{some-hands, no-hands}
use Rattle.sfen.proofs.writing.push_hands.Goals as goal

pub returns-in_ok-push_str : goal.returns-in_ok-push_str
unfolding hands_text
returns-in_ok-push_str c =
    let before = c.args.text.now.bytes.ok.0 in
    let after = c.push_hand-2.new.text.bytes.ok.0 in
    no-hands (string_bytes c.args.text.now) (kinds_text First c.args.hands.first hand_kinds)
    (kinds_text Second c.args.hands.second hand_kinds) _ _ c.in_ok-push_hand.ensures c.in_ok-push_hand-2.ensures _
    (omega (arith, c.len.ensures, c.if-len-before.true, c.len-before.ensures, before, after))
    c.in_ok-push_str.ensures.bytes

pub returns-else-len-before : goal.returns-else-len-before
unfolding hands_text
returns-else-len-before c =
    let before = c.args.text.now.bytes.ok.0 in
    let after = c.push_hand-2.new.text.bytes.ok.0 in
    some-hands (string_bytes c.args.text.now) (kinds_text First c.args.hands.first hand_kinds)
    (kinds_text Second c.args.hands.second hand_kinds) _ _ c.in_ok-push_hand.ensures c.in_ok-push_hand-2.ensures
    (λ same. c.if-len-before.false (omega (arith, c.len.ensures, same, c.len-before.ensures, before, after)))

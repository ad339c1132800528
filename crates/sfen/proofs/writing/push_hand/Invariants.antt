use Rattle.std.proofs.Common.{◌≡◌, ◌++◌, drop, string_bytes}
use Rattle.sfen.specs.SfenText.{kinds_text, hand_kinds}
use Rattle.sfen.proofs.writing.push_hand.Given as goal

abbrev pub invariant-loop-kind : goal.invariant-loop-kind
invariant-loop-kind l =
    string_bytes l.text ++ kinds_text l.side l.hand (drop l.kind-index hand_kinds) ≡ string_bytes l.initial.text
    ++ kinds_text l.side l.hand hand_kinds

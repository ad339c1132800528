use Rattle.std.proofs.Common.{◌≡◌, ◌++◌, drop, string_bytes}
use Rattle.pdn.specs.MoveText.{landings_text}
use Rattle.pdn.proofs.moves.push_landings.Given as goal

abbrev pub invariant-loop-to : goal.invariant-loop-to
invariant-loop-to l = string_bytes l.text ++ landings_text (drop l.to-index l.landings) ≡ string_bytes l.initial.text
    ++ landings_text l.landings

use Rattle.std.proofs.Common.{◌≡◌, ◌++◌, take, drop, map}
use Rattle.std.specs.Prelude.{string_bytes}
use Rattle.squares.specs.ShogiOpening.{opening}
use Rattle.shogi_repetition.specs.Line.{last_position}
use Rattle.csa.specs.Writing.{entries_text}
use Rattle.csa.proofs.game_text.push_entries.Given as goal

pub record Written (StandsThere HasText : Type 0) : Type 0 where
  pub at : StandsThere
  pub text : HasText

abbrev pub invariant-loop-i : goal.invariant-loop-i
invariant-loop-i l =
    Written
    (l.position ≡ last_position opening (take l.i (map (λ e. e.0) l.entries)))
    (string_bytes l.text ++ entries_text l.position (drop l.i l.entries) ≡ string_bytes l.initial.text
    ++ entries_text opening l.entries)

use Rattle.std.proofs.Common.{◌≡◌, ◌++◌, take, drop}
use Rattle.std.specs.Prelude.{string_bytes}
use Rattle.squares.specs.DraughtsOpening.{opening}
use Rattle.draughts_draws.specs.Line.{last_position}
use Rattle.pdn_games.specs.Writing.{plies_text}
use Rattle.pdn_games.proofs.game_text.push_plies.Given as goal

pub record Written (StandsThere HasText : Type 0) : Type 0 where
  pub at : StandsThere
  pub text : HasText

abbrev pub invariant-loop-i : goal.invariant-loop-i
invariant-loop-i l =
    Written
    (l.position ≡ last_position opening (take l.i l.moves))
    (string_bytes l.text ++ plies_text l.position l.i (drop l.i l.moves) ≡ string_bytes l.initial.text
    ++ plies_text opening 0 l.moves)

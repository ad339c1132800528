-- Legal draughts histories, and the faults of the others.
use Rattle.std.specs.Prelude.{◌≡◌, ℕ, List, Err}
use Rattle.game_history.specs.Faults as lines
use Rattle.squares.specs.declared.draughts.moves.DMove.{DMove}
use Rattle.squares.specs.DraughtsBoard.{Position}
use Rattle.draughts_moves.specs.declared.checking.Illegal.{Illegal}
use Rattle.draughts_moves.specs.Legal.{Legal, play}
use Rattle.draughts_moves.proofs.Proved.{check-answer}
use Rattle.draughts_draws.specs.declared.ends.DEnd.{DEnd}
use Rattle.draughts_draws.specs.Ends.{end_of}

abbrev pub draughts_lines : lines.LineRules Position DMove DEnd Illegal
draughts_lines = record {
  play = play;
  Legal = Legal;
  IsRefused = λ p m cause. (check-answer p m).value ≡ Err cause;
  EndsSo = λ start ms end. end_of start ms ≡ end;
}

abbrev pub IsPlayed : Position → List DMove → ℕ → Type 0
IsPlayed = lines.IsPlayed draughts_lines

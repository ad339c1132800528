-- Lines that are played by the rules have no fault, and readings are those of the functions.
use Rattle.std.proofs.Common.{◌≡◌, ◌≢◌, ℕ, List, Err, sym, ap, ◌∙◌}
use Rattle.squares.specs.declared.draughts.moves.DMove.{DMove}
use Rattle.squares.specs.DraughtsBoard.{Position}
use Rattle.draughts_moves.specs.declared.checking.Illegal.{Illegal}
use Rattle.game_history.specs.declared.faults.LineFault.TheVariants as line_fault
use Rattle.draughts_draws.specs.internal.Faults.{HasFault}
use Rattle.pdn.specs.declared.faults.FenFault.TheVariants as fen_fault
use Rattle.pdn.specs.declared.faults.MoveFault.{MoveFault}
use Rattle.pdn.specs.declared.faults.MoveFault.TheVariants as fault
use Rattle.pdn.specs.internal.MoveValue.{move_reading}
use Rattle.pdn.specs.ReadFen.{IsFen}
use Rattle.pdn.specs.internal.ReadFen.{HasFenFault}
use Rattle.pdn.specs.ReadMove.{HasReadFault}
use Rattle.pdn.proofs.Proved.{reading-err, fen-well}
use Rattle.club_rules.specs.Line.{IsPlayedLine}
use Rattle.club_rules.proofs.Proved.{check-at, refused-passes}
use Rattle.club_rules.specs.MoveRefusal.{refused_by}
use Rattle.club_games.specs.Draughts.{draughts, refusal_of, text_refusal, move_read}

-- no move of a legal line is refused
pub no-illegal : (start : Position) (ms : List DMove) (ply : ℕ) (cause : Illegal) → IsPlayedLine draughts start ms
    → HasFault start ms (line_fault.Illegal ply cause) → ⊥
no-illegal start ms ply cause played h =
    let k = h.0 in
    let m = h.1 in
    let legal = check-at draughts start ms k m played.legal h.3 in
    refused-passes refusal_of cause (sym (ap (refused_by refusal_of) h.6) ∙ legal)

-- a text that is refused is refused so by the function that reads
pub refused-reading : (p : Position) (text : List ℕ) (f : MoveFault) → HasReadFault p text f → f ≢ fault.Memory
    → Err (text_refusal f) ≡ move_read (move_reading p text)
refused-reading p text f h differs = sym (ap move_read ((reading-err p text f).1 (h, differs)))

-- a text that is refused stands for no position
pub no-position : (text : List ℕ) (offset : ℕ) (p : Position) → HasFenFault text (fen_fault.BadText offset)
    → IsFen text p → ⊥
no-position text offset p h is = let never = fen-well text p (fen_fault.BadText offset) is h in cc

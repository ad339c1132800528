-- Lines that are played by the rules have no fault, and readings are those of the functions.
use Rattle.std.proofs.Common.{◌≡◌, ℕ, List, take, Some, None, Err, sym, ap, ◌∙◌}
use Rattle.squares.specs.declared.shogi.moves.SMove.{SMove}
use Rattle.squares.specs.ShogiSets.{ShogiPosition}
use Rattle.shogi_moves.specs.declared.checking.Illegal.{Illegal}
use Rattle.shogi_moves.proofs.Proved.{check_of-refused}
use Rattle.game_history.specs.declared.faults.LineFault.TheVariants as line_fault
use Rattle.shogi_repetition.specs.internal.Computed.{end_of}
use Rattle.shogi_repetition.specs.internal.Faults.{HasFault}
use Rattle.shogi_repetition.proofs.Proved.{one-end, end_of-is}
use Rattle.sfen.specs.UsiReading.{usi_reading, usi_reach}
use Rattle.sfen.specs.internal.UsiText.{IsNoUsi}
use Rattle.sfen.proofs.Proved.{refused-here}
use Rattle.club_rules.specs.declared.names.GameKind.TheVariants as game
use Rattle.club_rules.specs.declared.refusals.MoveRefusal.TheVariants.{BadText}
use Rattle.club_rules.specs.Line.{position_after, IsPlayedLine}
use Rattle.club_rules.proofs.Proved.{check-at, refused-passes}
use Rattle.club_rules.specs.MoveRefusal.{refused_by}
use Rattle.club_games.specs.Shogi.{shogi, refusal_of, move_read}

-- no move of a legal line is refused
pub no-illegal : (start : ShogiPosition) (ms : List SMove) (ply : ℕ) (cause : Illegal) → IsPlayedLine shogi start ms
    → HasFault start ms (line_fault.Illegal ply cause) → ⊥
no-illegal start ms ply cause played h =
    let k = h.0 in
    let m = h.1 in
    let legal = check-at shogi start ms k m played.legal h.3 in
    refused-passes refusal_of cause
    (sym (ap (refused_by refusal_of) ((check_of-refused (position_after shogi start (take k ms)) m cause).1 h.6))
    ∙ legal)

-- and none comes after the end
pub none-after : (start : ShogiPosition) (ms : List SMove) (ply : ℕ) → IsPlayedLine shogi start ms
    → HasFault start ms (line_fault.AfterEnd ply) → ⊥
none-after start ms ply played h =
    let before = take h.0 ms in
    let ends : Some h.1 ≡ None = one-end start before (Some h.1) (end_of start before) h.5 (end_of-is start before)
    ∙ played.unended h.0 h.3 in
    absurd (cc)

-- a text that is no move's is refused so by the function that reads
pub refused-reading : (text : List ℕ) (bytes : ℕ) → IsNoUsi text bytes
    → Err (BadText game.Shogi bytes) ≡ move_read (usi_reading text) (usi_reach text)
refused-reading text bytes h = let w = refused-here text bytes h in λ i. move_read (sym w.0 i) (sym w.1 i)

-- A line of moves that grows by one, and written moves that grow by one.
use Rattle.std.proofs.Common.{◌≡◌, List, [], ◌∷◌, ◌++◌, length, Some, None, true, false, Err}
use Rattle.std.proofs.Common.{sym, ap, ◌∙◌}
use Rattle.std.specs.Prelude.{is_ok}
use Rattle.game_history.specs.declared.faults.LineFault.{LineFault}
use Rattle.game_history.specs.declared.faults.LineFault.TheVariants.{Memory as memory, AfterEnd, Illegal as illegal}
use Rattle.game_history.proofs.Proved.{IsFaultOfLast, fault-of-last}
use Rattle.squares.specs.declared.shogi.moves.SMove.{SMove}
use Rattle.squares.specs.ShogiSets.{ShogiPosition}
use Rattle.squares.specs.ShogiOpening.{opening}
use Rattle.shogi_moves.specs.declared.checking.Illegal.{Illegal}
use Rattle.shogi_moves.specs.Rules.{Legal, FirstBroken, play}
use Rattle.shogi_moves.specs.internal.Computed.{check_of}
use Rattle.shogi_moves.specs.internal.Laws.{CheckIs}
use Rattle.shogi_repetition.specs.declared.ends.SEnd.{SEnd}
use Rattle.shogi_repetition.specs.Line.{last_position}
use Rattle.shogi_repetition.specs.Ends.{EndsSo}
use Rattle.shogi_repetition.specs.Faults.{shogi_lines, IsPlayed}
use Rattle.shogi_repetition.specs.internal.Faults.{HasFault}
use Rattle.shogi_repetition.specs.internal.Laws.{NoLineHasTwoEnds}
use Rattle.csa.specs.declared.statements.WrittenMove.{WrittenMove}
use Rattle.csa.specs.Moves.{Means, MeanAll}
use Rattle.csa.specs.internal.Replaying.{RefusesMade, fault_of}

-- a legal move breaks no rule
pub legal-unbroken : CheckIs → (p : ShogiPosition) (m : SMove) (rule : Illegal) → Legal p m → FirstBroken p m rule → ⊥
legal-unbroken laws p m rule legal broken =
    let passes : is_ok (check_of p m) ≡ true = (laws p m).legal.1 legal in
    let fails : check_of p m ≡ Err rule = ((laws p m).refused rule).1 broken in
    let never : false ≡ true = sym (ap is_ok fails) ∙ passes in
    cc

-- A line that was played up to its last move has its fault at that move.
pub made-fault : CheckIs → NoLineHasTwoEnds → (ms : List SMove) (m : SMove) (f : LineFault Illegal)
    → IsPlayed opening ms (length ms) → HasFault opening (ms ++ m ∷ []) f → RefusesMade ms m (fault_of f)
made-fault laws one ms m f played h =
    elim f as (λ g. IsFaultOfLast shogi_lines opening ms m g → RefusesMade ms m (fault_of g)) [
      | memory ↦ λ is. is
      | AfterEnd ply ↦ λ is. is
      | illegal ply cause ↦ λ is. is
    ] (fault-of-last shogi_lines opening ms m one-end (legal-unbroken laws) played f h)
  where
    one-end : (l : List SMove) (end : SEnd) → EndsSo opening l None → EndsSo opening l (Some end) → ⊥
    one-end l end on ended = let never : None ≡ Some end = one opening l None (Some end) on ended in cc

-- written moves and the moves that they mean, with one more each
pub mean-more : (p : ShogiPosition) (ws : List WrittenMove) (ms : List SMove) (w : WrittenMove) (m : SMove)
    → MeanAll p ws ms → Means (last_position p ms) w m → MeanAll p (ws ++ w ∷ []) (ms ++ m ∷ [])
mean-more p [] [] w m all one = (one, tt)
mean-more p (v ∷ ws) (n ∷ ms) w m all one = (all.0, mean-more (play p n) ws ms w m all.1 one)
mean-more p _ _ w m all one = absurd all

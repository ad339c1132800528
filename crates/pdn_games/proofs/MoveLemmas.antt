-- A line of moves that grows by one, and texts that grow by one.
use Rattle.std.proofs.Common.{◌≡◌, ℕ, List, [], ◌∷◌, ◌++◌, length, Some, None, true, false, Result, Ok, Err}
use Rattle.std.proofs.Common.{refl, sym, ap, ◌∙◌}
use Rattle.std.specs.Prelude.{is_ok, OnOk}
use Rattle.game_history.specs.declared.faults.LineFault.{LineFault}
use Rattle.game_history.specs.declared.faults.LineFault.TheVariants.{Memory as memory, AfterEnd, Illegal as illegal}
use Rattle.game_history.proofs.Proved.{IsFaultOfLast, fault-of-last}
use Rattle.squares.specs.declared.draughts.moves.DMove.{DMove}
use Rattle.squares.specs.DraughtsBoard.{Position}
use Rattle.squares.specs.DraughtsOpening.{opening}
use Rattle.draughts_moves.specs.declared.checking.Illegal.{Illegal}
use Rattle.draughts_moves.specs.internal.Check.{check_of}
use Rattle.draughts_moves.specs.internal.Laws.{CheckIs}
use Rattle.draughts_moves.specs.Legal.{Legal, play}
use Rattle.draughts_draws.specs.declared.ends.DEnd.{DEnd}
use Rattle.draughts_draws.specs.Line.{last_position}
use Rattle.draughts_draws.specs.Ends.{end_of}
use Rattle.draughts_draws.specs.Faults.{draughts_lines, IsPlayed}
use Rattle.draughts_draws.specs.internal.Faults.{HasFault}
use Rattle.pdn.specs.ReadMove.{IsRead}
use Rattle.pdn_games.specs.Moves.{MeanAll}

-- a legal move breaks no rule
legal-unbroken : CheckIs → (p : Position) (m : DMove) (cause : Illegal) → Legal p m → check_of p m ≡ Err cause → ⊥
legal-unbroken laws p m cause legal broken =
    let passes : is_ok (check_of p m) ≡ true = (laws p m).legal.1 legal in
    let never : false ≡ true = sym (ap is_ok broken) ∙ passes in
    cc

one-end : (start : Position) (ms : List DMove) (end : DEnd) → end_of start ms ≡ None → end_of start ms ≡ Some end → ⊥
one-end start ms end none some = let never : None ≡ Some end = sym none ∙ some in cc

-- A legal move after a line that was played and has not ended is refused for want of memory alone.
pub only-memory : CheckIs → (ms : List DMove) (m : DMove) (f : LineFault Illegal) → IsPlayed opening ms (length ms)
    → end_of opening ms ≡ None → Legal (last_position opening ms) m → HasFault opening (ms ++ m ∷ []) f → f ≡ memory
only-memory laws ms m f played unended legal h =
    elim f as (λ g. IsFaultOfLast draughts_lines opening ms m g → g ≡ memory) [
      | memory ↦ λ is. refl
      | AfterEnd ply ↦ λ is. absurd (one-end opening ms is.1 unended is.2)
      | illegal ply cause ↦ λ is. absurd (legal-unbroken laws (last_position opening ms) m cause legal is.2)
    ] (fault-of-last draughts_lines opening ms m (one-end opening) (legal-unbroken laws) played f h)

-- what follows of a value, if there is one
pub on-ok : {A E X Y : Type 0} (r : Result A E) → (X → Y) → OnOk r X → OnOk r Y
on-ok (Ok v) f h = f h
on-ok (Err e) f h = tt

-- texts and the moves that they mean, with one more each
pub mean-more : (p : Position) (texts : List (List ℕ)) (ms : List DMove) (text : List ℕ) (m : DMove)
    → MeanAll p texts ms → IsRead (last_position p ms) text m → MeanAll p (texts ++ text ∷ []) (ms ++ m ∷ [])
mean-more p [] [] text m all one = (one, tt)
mean-more p [] (n ∷ ms) text m all one = absurd all
mean-more p (t ∷ texts) [] text m all one = absurd all
mean-more p (t ∷ texts) (n ∷ ms) text m all one = (all.0, mean-more (play p n) texts ms text m all.1 one)

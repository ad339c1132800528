-- The end of a record.
use Rattle.std.proofs.Common.{◌≡◌, ◌⊎◌, inl, inr, Bool, true, false, cond, Option, Some, None, List, Result, Ok, Err}
use Rattle.std.proofs.Common.{sym, subst}
use Rattle.squares.specs.declared.sides.Score.{Score}
use Rattle.squares.specs.declared.shogi.moves.SMove.{SMove}
use Rattle.squares.specs.ShogiSets.{ShogiPosition}
use Rattle.squares.specs.ShogiOpening.{opening}
use Rattle.shogi_repetition.specs.declared.ends.SEnd.{SEnd}
use Rattle.shogi_repetition.specs.Line.{last_position}
use Rattle.csa.specs.declared.end_words.EndWord.{EndWord}
use Rattle.csa.specs.declared.faults.CsaFault.{CsaFault}
use Rattle.csa.specs.declared.faults.CsaFault.TheVariants as fault
use Rattle.csa.specs.declared.lines.NumberedStatement.{NumberedStatement}
use Rattle.csa.specs.Endings.{claimed, claim_settled, ending}
use Rattle.csa.specs.Records.{Plays, score_in, end_in, EndFails, RecordFails}

-- the faults of the end of a record
abbrev pub IsOfEnds : CsaFault → Type 0
IsOfEnds f = (f ≡ fault.Unfinished) ⊎ (f ≡ fault.ResultDiffers)

differs : (b : Bool) (claim : Score) (f : CsaFault)
    → ◌≡◌ {A = Result Score CsaFault} (cond b (Ok claim) (Err fault.ResultDiffers)) (Err f) → IsOfEnds f
differs true claim f e = absurd (cc)
differs false claim f e = let is : f ≡ fault.ResultDiffers = cc in inr is

of-claim : (w : EndWord) (claim : Option Score) (p : ShogiPosition) (end : Option SEnd) (f : CsaFault)
    → claim_settled w claim p end ≡ Err f → IsOfEnds f
of-claim w None p end f e = let is : f ≡ fault.Unfinished = cc in inl is
of-claim w (Some claim) p end f e = differs _ claim f e

pub of-ends : (word : Option EndWord) (p : ShogiPosition) (end : Option SEnd) (f : CsaFault) → ending word p end ≡ Err f
    → IsOfEnds f
of-ends None p end f e = let is : f ≡ fault.Unfinished = cc in inl is
of-ends (Some w) p end f e = of-claim w (claimed w p.turn) p end f e

-- a record whose end has a fault
pub end-fails : (placed : List NumberedStatement) (ms : List SMove) (end : Option SEnd) (f : CsaFault) → Plays placed ms end
    → score_in placed ms end ≡ Err f → RecordFails placed f
end-fails placed ms end f plays e =
    let fails : EndFails placed f = record { moves = ms; end = end; plays = plays; score = e } in
    let so = λ (g : CsaFault) (is : f ≡ g) (h : EndFails placed g → RecordFails placed g).
    subst (λ g. EndFails placed g → RecordFails placed g) (sym is) h fails in
    elim (of-ends (end_in placed) (last_position opening ms) end f e) [
      | inl unfinished ↦ so fault.Unfinished unfinished (λ h. h)
      | inr differing ↦ so fault.ResultDiffers differing (λ h. h)
    ]

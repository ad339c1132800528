use Rattle.std.proofs.Common.{List, inl, inr, refl}
use Rattle.std.proofs.lemmas.Result.{IfErr-weaker}
use Rattle.squares.specs.declared.shogi.moves.SMove.{SMove}
use Rattle.squares.specs.ShogiOpening.{opening}
use Rattle.shogi_repetition.specs.Line.{last_position}
use Rattle.csa.specs.declared.faults.CsaFault.{CsaFault}
use Rattle.csa.specs.declared.faults.CsaFault.TheVariants as fault
use Rattle.csa.specs.declared.statements.WrittenMove.{WrittenMove}
use Rattle.csa.specs.Moves.{Means}
use Rattle.csa.specs.internal.Replaying.{RefusesMade, RefusesWritten}
use Rattle.csa.proofs.replay.push.Goals as goal

-- what refuses a move refuses the written move that means it
refuses-written : (ms : List SMove) (w : WrittenMove) (m : SMove) (f : CsaFault) → Means (last_position opening ms) w m
    → RefusesMade ms m f → RefusesWritten ms w f
refuses-written ms w m fault.Memory means h = inl refl
refuses-written ms w m (fault.AfterEnd ply) means h = inr h
refuses-written ms w m (fault.Illegal ply cause) means h = inr (h.0, h.1, inl (m, means, h.2))
refuses-written ms w m _ means h = absurd h

pub returns-in-Some-clause-fault : goal.returns-in-Some-clause-fault
returns-in-Some-clause-fault c =
    let ms : List SMove = c.args.replay.now.moves.items in
    let w : WrittenMove = c.args.written.now in
    let m : SMove = c.in-Some.played in
    let means : Means (last_position opening ms) w m = rw c.requires.position at c.in-Some.ensures.some in
    IfErr-weaker c.push_move.result (RefusesMade ms m) (RefusesWritten ms w) (λ f h. refuses-written ms w m f means h)
    c.push_move.ensures.fault

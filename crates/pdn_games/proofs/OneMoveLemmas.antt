-- Texts mean one line of moves, and moves that are played are not refused.
use Rattle.std.proofs.Common.{◌≡◌, ℕ, List, [], ◌∷◌, ◌++◌, length, take, None, true, false, refl, sym, ap, subst, ◌∙◌}
use Rattle.std.proofs.Common.{arith}
use Rattle.std.specs.Prelude.{is_some}
use Rattle.std.proofs.lemmas.List.{length-append}
use Rattle.std.proofs.Math.Seq.{take-append_seam}
use Rattle.squares.specs.declared.draughts.moves.DMove.{DMove}
use Rattle.squares.specs.DraughtsBoard.{Position}
use Rattle.squares.specs.DraughtsOpening.{opening}
use Rattle.draughts_moves.specs.Legal.{play}
use Rattle.draughts_draws.specs.Line.{last_position}
use Rattle.draughts_draws.specs.Ends.{end_of}
use Rattle.draughts_draws.specs.Faults.{IsPlayed}
use Rattle.draughts_draws.specs.internal.Faults.{GoesOn}
use Rattle.pdn.specs.internal.Laws.{ReadsOneMove}
use Rattle.pdn.specs.declared.faults.MoveFault.{MoveFault}
use Rattle.pdn.specs.declared.faults.MoveFault.TheVariants as move_fault
use Rattle.pdn.specs.ReadMove.{IsRead, HasReadFault}
use Rattle.pdn_games.specs.declared.faults.PdnFault.{PdnFault}
use Rattle.pdn_games.specs.declared.faults.PdnFault.TheVariants as fault
use Rattle.pdn_games.specs.Moves.{MeanAll, AreMoves, RefusesNext, RefusesMove}

pub mean-one : ReadsOneMove → (p : Position) (texts : List (List ℕ)) (ms ns : List DMove) → MeanAll p texts ms
    → MeanAll p texts ns → ms ≡ ns
mean-one one p [] [] [] a b = refl
mean-one one p [] [] (n ∷ ns) a b = absurd b
mean-one one p [] (m ∷ ms) ns a b = absurd a
mean-one one p (text ∷ texts) [] ns a b = absurd a
mean-one one p (text ∷ texts) (m ∷ ms) [] a b = absurd b
mean-one one p (text ∷ texts) (m ∷ ms) (n ∷ ns) a b =
    let head : n ≡ m = (one p text m a.0).0 n b.0 in
    let tail : ms ≡ ns = mean-one one (play p m) texts ms ns a.1 (subst (λ x. MeanAll (play p x) texts ns) head b.1) in
    cc

-- the moves up to a text, and the one that it means
record Parted (p : Position) (before : List (List ℕ)) (text : List ℕ) (ms : List DMove) : Type 0 where
  pub front : List DMove
  pub made : DMove
  pub back : List DMove
  pub parts : ms ≡ front ++ made ∷ back
  pub mean : MeanAll p before front
  pub means : IsRead (last_position p front) text made

parted : (p : Position) (before after : List (List ℕ)) (text : List ℕ) (ms : List DMove)
    → MeanAll p (before ++ text ∷ after) ms → Parted p before text ms
parted p [] after text [] a = absurd a
parted p [] after text (m ∷ ms) a = record { front = []; made = m; back = ms; parts = refl; mean = tt; means = a.0 }
parted p (t ∷ before) after text [] a = absurd a
parted p (t ∷ before) after text (m ∷ ms) a =
    let rest = parted (play p m) before after text ms a.1 in
    record {
      front = m ∷ rest.front;
      made = rest.made;
      back = rest.back;
      parts = ap (λ l. m ∷ l) rest.parts;
      mean =
          (a.0, rest.mean);
      means = rest.means;
    }

no-fault : ReadsOneMove → (p : Position) (text : List ℕ) (m : DMove) (f : MoveFault) → IsRead p text m
    → HasReadFault p text f → f ≡ move_fault.Memory
no-fault one p text m f is h = (one p text m is).1 f h

-- a text that means a move of a game that goes on is not refused
goes-on-unrefused : ReadsOneMove → (front : List DMove) (m : DMove) (text : List ℕ) (f : PdnFault)
    → IsRead (last_position opening front) text m → end_of opening front ≡ None → RefusesNext front text f → ⊥
goes-on-unrefused one front m text (fault.AfterEnd ply) means on h = let never : false ≡ true = sym (ap is_some on)
    ∙ h.1 in cc
goes-on-unrefused one front m text (fault.Ambiguous ply) means on h =
    let never : move_fault.Ambiguous ≡ move_fault.Memory = no-fault one _ text m _ means h.2 in cc
goes-on-unrefused one front m text (fault.Illegal ply cause) means on h =
    let never : move_fault.Illegal cause ≡ move_fault.Memory = no-fault one _ text m _ means h.2 in cc
goes-on-unrefused one front m text _ means on h = h

pub moves-unrefused : ReadsOneMove → (texts : List (List ℕ)) (ms : List DMove) (f : PdnFault) → AreMoves texts ms
    → RefusesMove texts f → ⊥
moves-unrefused one texts ms f are r =
    let all : MeanAll opening (r.before ++ r.refused ∷ r.after) ms =
    subst (λ l. MeanAll opening l ms) r.parts are.mean in
    let at = parted opening r.before r.after r.refused ms all in
    let front : at.front ≡ r.moves = mean-one one opening r.before at.front r.moves at.mean r.played.mean in
    let whole : List DMove = at.front ++ at.made ∷ at.back in
    let long = length-append at.front (at.made ∷ at.back) in
    let played : IsPlayed opening whole (length whole) =
    subst (λ l. IsPlayed opening l (length l)) at.parts are.played in
    let here : GoesOn opening whole (length at.front) = played (length at.front) (omega (arith, long)) in
    let seam : take (length at.front) whole ≡ at.front = take-append_seam at.front (at.made ∷ at.back) in
    goes-on-unrefused one at.front at.made r.refused f at.means (subst (λ l. end_of opening l ≡ None) seam here.unended)
    (subst (λ l. RefusesNext l r.refused f) (sym front) r.refuses)

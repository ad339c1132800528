-- The end of a text.
use Rattle.std.proofs.Common.{◌≡◌, ◌⊎◌, inl, inr, List, Option, Some, None, Bool, true, false, ◌&&◌, cond, Ok, Err}
use Rattle.std.proofs.Common.{Result, sym, subst}
use Rattle.squares.specs.declared.sides.Score.{Score}
use Rattle.squares.specs.declared.draughts.moves.DMove.{DMove}
use Rattle.pdn_games.specs.declared.faults.PdnFault.{PdnFault}
use Rattle.pdn_games.specs.declared.faults.PdnFault.TheVariants as fault
use Rattle.pdn_games.specs.Tokens.{PlacedToken}
use Rattle.pdn_games.specs.Reading.{agrees, settled, score_in, Plays, EndFails, Fails}

checked-fault : (b : Bool) (claim : Score) (f : PdnFault)
    → ◌≡◌ {A = Result Score PdnFault} (cond b (Ok claim) (Err fault.ResultDiffers)) (Err f) → f ≡ fault.ResultDiffers
checked-fault true claim f e = absurd (cc)
checked-fault false claim f e = let same : fault.ResultDiffers ≡ f = cc in sym same

settled-fault : (claim rule tag : Option Score) (f : PdnFault) → settled claim rule tag ≡ Err f → (f ≡ fault.Unfinished)
    ⊎ (f ≡ fault.ResultDiffers)
settled-fault None rule tag f e = inl (let same : fault.Unfinished ≡ f = cc in sym same)
settled-fault (Some claim) rule tag f e = inr (checked-fault (agrees claim rule && agrees claim tag) claim f e)

-- moves of a game of the club, and an end with a fault
pub end-fails : (tokens : List PlacedToken) (ms : List DMove) (f : PdnFault) → Plays tokens ms → score_in tokens ms ≡ Err f
    → Fails tokens f
end-fails tokens ms f plays e =
    let fails : EndFails tokens f = record { moves = ms; plays = plays; score = e } in
    elim (settled-fault _ _ _ f e) [
      | inl is ↦ subst (Fails tokens) (sym is) (subst (EndFails tokens) is fails)
      | inr is ↦ subst (Fails tokens) (sym is) (subst (EndFails tokens) is fails)
    ]

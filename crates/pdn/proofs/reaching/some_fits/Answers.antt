use Rattle.std.proofs.Common.{ℕ, List, sym, ◌∙◌, subst}
use Rattle.squares.specs.DraughtsBoard.{Position}
use Rattle.draughts_moves.specs.Capture.{without}
use Rattle.draughts_moves.specs.declared.mover.Mover.{Mover}
use Rattle.pdn.specs.internal.Reaching.{GoesTo}
use Rattle.pdn.proofs.PassingLemmas.{SomeFits-goes, goes-SomeFits}
use Rattle.pdn.proofs.reaching.some_fits.Goals as goal

Goes : Position → Mover → List ℕ → ℕ → Type 0
Goes p mover middle to = GoesTo (without p.board mover.origin) mover.piece mover.taken mover.at middle to

pub returns-in-Some : goal.returns-in-Some
unfolding Goes
returns-in-Some c =
    let p = c.args.position.now in
    let middle : List ℕ = c.args.middle.now in
    let own = sym c.own_at.ensures ∙ c.in-Some.is in (
      λ e. SomeFits-goes p c.args.from middle c.args.to c.in-Some.piece own
          (subst (λ (mover : Mover). Goes p mover middle c.args.to) c.new.ensures (c.goes_to.ensures.0 e)),
      λ f.
          c.goes_to.ensures.1
          (subst (λ (mover : Mover). Goes p mover middle c.args.to) (sym c.new.ensures)
          (goes-SomeFits p c.args.from middle c.args.to c.in-Some.piece own f)),
    )

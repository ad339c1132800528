use Rattle.std.proofs.Common.{◌≡◌, ℕ, Bool, Some, None, sym, ◌∙◌, subst}
use Rattle.squares.specs.declared.shogi.moves.SMove.{SMove}
use Rattle.squares.specs.declared.shogi.moves.SMove.TheVariants.{Step, Drop}
use Rattle.squares.specs.ShogiSets.{ShogiPosition}
use Rattle.csa.specs.declared.statements.WrittenMove.{WrittenMove}
use Rattle.csa.specs.Moves.{StepsAs, Means}
use Rattle.csa.proofs.moves.move_in.Goals as goal

-- nothing is meant by a step that no piece on its square can have made
no-step : (p : ShogiPosition) (w : WrittenMove) (from : ℕ) → w.from ≡ Some from
    → ((promote : Bool) → StepsAs p from promote w.role → ⊥) → (m : SMove) → Means p w m → ⊥
no-step p w from here none (Step other to promote) (side, there, comes, steps) =
    let same : other ≡ from = let both : Some other ≡ Some from = sym comes ∙ here in cc in
    none promote (subst (λ n. StepsAs p n promote w.role) same steps)
no-step p w from here none (Drop kind to) (side, there, comes, role) = let never : None ≡ Some from = sym comes
    ∙ here in absurd (cc)

pub returns-in-None-step_promotes-clause-none : goal.returns-in-None-step_promotes-clause-none
returns-in-None-step_promotes-clause-none c =
    no-step c.args.position.now c.args.written.now c.in-Some.from c.in-Some.is c.in-None-step_promotes.ensures.none

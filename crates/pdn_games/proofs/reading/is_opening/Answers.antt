use Rattle.std.proofs.Common.{sym, ap, ◌∙◌}
use Rattle.squares.specs.DraughtsOpening.{opening}
use Rattle.squares.specs.DraughtsSamePosition.{same_position}
use Rattle.squares.specs.internal.DraughtsSamePosition.{same_position-same, same_position-itself}
use Rattle.pdn_games.proofs.reading.is_opening.Goals as goal

pub returns : goal.returns
returns c =
    let told = c.is_same.ensures ∙ ap (same_position c.args.position.now) c.opening.ensures.value in (
      λ t. same_position-same c.args.position.now opening (sym told ∙ t),
      λ e. told ∙ ap (λ p. same_position p opening) e ∙ same_position-itself opening,
    )

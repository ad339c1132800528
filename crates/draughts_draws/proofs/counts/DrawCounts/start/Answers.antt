use Rattle.std.proofs.Common.{refl, ◌∙◌, ap}
use Rattle.std.specs.Prelude.{Some, cond}
use Rattle.std.specs.Map.{lookup}
use Rattle.squares.specs.DraughtsSamePosition.{same_position}
use Rattle.draughts_draws.proofs.CountLemmas.{start-follows}
use Rattle.draughts_draws.proofs.counts.DrawCounts.start.Goals as goal

pub returns-clause-follows : goal.returns-clause-follows
returns-clause-follows c = start-follows c.args.position.now _ refl refl refl c.start.ensures (λ q.
    c.in_ok-insert.ensures.updates.0 q
    ∙ ap (λ es. cond (same_position c.args.position.now q) (Some 1) (lookup (same_position q) es))
    c.new-seen.ensures.empty)

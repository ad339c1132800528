use Rattle.std.proofs.Common.{refl, ◌∙◌}
use Rattle.std.specs.Option.{option_map}
use Rattle.club_requests.specs.OutsideEnd.{outside_score}
use Rattle.club_rows.proofs.ReadLemmas.{fused}
use Rattle.club_rows.proofs.rulings.beneath_of.Goals as goal

pub returns-in-None-clause-none : goal.returns-in-None-clause-none
returns-in-None-clause-none c = λ none end is.
    c.in-None.ensures.none refl (option_map (λ e. outside_score e c.args.turn) end) (is.score_is ∙ fused c.args.turn end)

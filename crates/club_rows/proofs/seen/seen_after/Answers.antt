use Rattle.std.proofs.Common.{◌+◌, Some, None, ap, subst, ◌∙◌}
use Rattle.std.specs.Option.{option_map}
use Rattle.store_tables.specs.Cells.{seen_cells}
use Rattle.club_rows.specs.Seen.{seen_row}
use Rattle.club_rows.specs.internal.Seen.{IsFound}
use Rattle.club_rows.proofs.SeenAfter.{seen-next}
use Rattle.club_rows.proofs.seen.seen_after.Goals as goal

pub returns-in-Some : goal.returns-in-Some
returns-in-Some g c = λ old e text_is few ply_is found.
    seen-next g.R.Rules.rules c.args.game old e c.args.position.now c.args.ply (Some c.in-Some.found.now)
    (seen_cells c.seen_again.result) text_is few ply_is
    (subst (λ o. IsFound g.R.Rules.rules c.args.game old c.args.position.now (option_map (λ r. r.now) o)) c.in-Some.is
    found)
    (λ count first count_is room first_is. c.seen_again.ensures count first count_is room first_is
    ∙ ap (λ t. seen_row c.args.game t (count + 1) first) c.in_ok-text.ensures.ok)

pub returns-in-None : goal.returns-in-None
returns-in-None g c = λ old e text_is few ply_is found.
    seen-next g.R.Rules.rules c.args.game old e c.args.position.now c.args.ply None (seen_cells c.seen_once.result)
    text_is few ply_is
    (subst (λ o. IsFound g.R.Rules.rules c.args.game old c.args.position.now (option_map (λ r. r.now) o)) c.in-None.is
    found)
    (c.seen_once.ensures ∙ ap (λ t. seen_row c.args.game t 1 c.args.ply) c.in_ok-text.ensures.ok)

use Rattle.std.proofs.Common.{◌∙◌}
use Rattle.std.specs.Cmp.{booleans_Decides}
use Rattle.sqlite.specs.Held.{state}
use Rattle.club_check.proofs.StoredLemmas.{rules_found, rules_missing}
use Rattle.club_check.proofs.read.check_rules.Goals as goal

pub returns-then-there-wanted-clause-none : goal.returns-then-there-wanted-clause-none
returns-then-there-wanted-clause-none g c clean =
    λ off has. rules_missing (state g.S.Store c.args.conn.now).now.schema c.in-Ok.there has
    (c.in-Ok.ensures.stands clean)
    ((booleans_Decides c.in-Ok.there c.args.wanted).0 c.if-there-wanted.true ∙ off)

pub returns-then-there-wanted-clause-there : goal.returns-then-there-wanted-clause-there
returns-then-there-wanted-clause-there g c clean =
    λ on has. rules_found (state g.S.Store c.args.conn.now).now.schema c.in-Ok.there has
    (c.in-Ok.ensures.missing clean)
    ((booleans_Decides c.in-Ok.there c.args.wanted).0 c.if-there-wanted.true ∙ on)

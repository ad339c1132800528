use Rattle.club_requests.specs.declared.rulings.Ruling.TheVariants.{Grant}
use Rattle.club_core.specs.View.{terms_of}
use Rattle.club_core.proofs.RulingLemmas.{is-decided, row-granted}
use Rattle.club_core.proofs.rulings.accept_grant.Goals as goal

pub returns : goal.returns
returns g c = λ game moment shows.
    let laws = g.R.Rules.rules in
    let terms = terms_of c.args.view.now in
    let side = c.args.side in
    let seconds = c.args.seconds in
    let row = c.in_ok-row.row in
    is-decided _ laws terms game (Grant side seconds) moment c.args.number row
    (row-granted laws terms game moment c.args.view.now.row shows.row side seconds row c.in_ok-row.ensures.key
    c.in_ok-row.ensures.position c.in_ok-row.ensures.others c.in_ok-row.ensures.clocks)

use Rattle.std.proofs.Common.{◌≡◌, None}
use Rattle.club_core.specs.View.{terms_of}
use Rattle.club_core.specs.internal.View.{rule_in}
use Rattle.club_core.proofs.RulingLemmas.{is-decided, row-judged}
use Rattle.club_core.proofs.rulings.accept_verdict.Goals as goal

pub returns : goal.returns
returns g c = λ game ruling moment shows gives.
    let laws = g.R.Rules.rules in
    let terms = terms_of c.args.view.now in
    let alone : rule_in c.args.view.now.row.end ≡ None = assumption c in
    is-decided _ laws terms game ruling moment c.args.number _
    (row-judged laws terms game moment c.args.view.now.row shows.row ruling c.args.verdict c.in_ok-row.row
    c.score-row.result gives c.score-row.ensures alone c.in_ok-row.ensures.key c.in_ok-row.ensures.position
    c.in_ok-row.ensures.others)

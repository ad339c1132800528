use Rattle.store.proofs.HistoryLemmas.{serves_at, session_goes_on, session_leads, session_stands, with_served}
use Rattle.store.proofs.club.Club.session.Goals as goal

pub returns-clause-history : goal.returns-clause-history
returns-clause-history g c clean usable from them sessions at db left =
    let serves = serves_at c.args.self.now.has_arbiter at in
    session_leads c.run.result (with_served c.args.self.now.has_arbiter) at
    (c.run.ensures.outcomes clean at.exactly.before at.after serves)
    (c.run.ensures.left clean usable at.exactly.before at.after serves db left)

pub returns-clause-stands : goal.returns-clause-stands
returns-clause-stands g c clean none from them sessions at =
    let serves = serves_at c.args.self.now.has_arbiter at in
    session_stands c.args.requests.now c.run.result (with_served c.args.self.now.has_arbiter) at
    (c.run.ensures.outcomes clean at.exactly.before at.after serves) (c.run.ensures.whole none)
    (c.run.ensures.legal clean none at.exactly.before at.after serves)
    (c.run.ensures.stored clean none at.exactly.before at.after serves)

pub returns-clause-goes_on : goal.returns-clause-goes_on
returns-clause-goes_on g c clean usable schema from them sessions at =
    let serves = serves_at c.args.self.now.has_arbiter at in
    session_goes_on c.args.requests.now c.run.result (with_served c.args.self.now.has_arbiter) at
    (c.run.ensures.outcomes clean at.exactly.before at.after serves)
    (c.run.ensures.legal_so_far clean usable schema at.exactly.before at.after serves)
    (c.run.ensures.goes_on clean usable schema at.exactly.before at.after serves)

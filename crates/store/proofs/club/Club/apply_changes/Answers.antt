use Rattle.std.proofs.Common.{rules, ap, ◌∙◌}
use Rattle.store.specs.Clubs.{Kept, version_with}
use Rattle.store.proofs.club.Club.apply_changes.Goals as goal

pub returns-in-Ok-clause-stored : goal.returns-in-Ok-clause-stored
returns-in-Ok-clause-stored g c clean fits them content is k =
    (rw (c.version_of-version.ensures ∙ ap (λ (v : Kept _). version_with v.has_arbiter) c.self.view_is)
    at c.in-Ok.ensures.stored) clean fits them content is (search rules)

pub returns-in-Err-clause-fault : goal.returns-in-Err-clause-fault
returns-in-Err-clause-fault g c clean usable fits them content is k db left =
    (rw (c.version_of-version.ensures ∙ ap (λ (v : Kept _). version_with v.has_arbiter) c.self.view_is)
    at c.in-Err.ensures.fault) clean fits them content is (search rules) db left

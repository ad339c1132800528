use Rattle.std.proofs.Common.{ap, subst, sym, ◌∙◌}
use Rattle.sqlite.specs.Held.{state}
use Rattle.club_core.specs.Answer.{outcome_of}
use Rattle.store.specs.Clubs.{Asks, Kept, version_with}
use Rattle.store.proofs.LegalLemmas.{taken_as}
use Rattle.store.proofs.club.Club.preview.Goals as goal

pub returns-in-Ok-clause-answer : goal.returns-in-Ok-clause-answer
returns-in-Ok-clause-answer g c clean s k =
    let inside = subst (λ (v : Kept _). Asks v.has_arbiter (state g.S.Store v.connection) s) (sym c.self.view_is) k in
    ap outcome_of c.outcome_in.ensures
    ∙ (c.in-Ok.ensures.step clean s k.legal (c.version_of-version.ensures ∙ ap version_with inside.arbiter)
    (taken_as s _ inside.arbiter (sym c.lacks_arbiter.ensures ∙ c.if-lacks_arbiter.false)) inside.stores).answer

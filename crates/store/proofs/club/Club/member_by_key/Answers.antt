use Rattle.std.proofs.Common.{subst, sym, ap, ◌∙◌}
use Rattle.sqlite.specs.Held.{state}
use Rattle.store.specs.Clubs.{Asks, Kept, version_with}
use Rattle.store.proofs.club.Club.member_by_key.Goals as goal

pub returns-in-Ok-clause-held : goal.returns-in-Ok-clause-held
returns-in-Ok-clause-held g c clean s k =
    let inside = subst (λ (v : Kept _). Asks v.has_arbiter (state g.S.Store v.connection) s) (sym c.self.view_is) k in
    c.in-Ok.ensures.held clean s k.legal (c.version_of-version.ensures ∙ ap version_with inside.arbiter) inside.stores

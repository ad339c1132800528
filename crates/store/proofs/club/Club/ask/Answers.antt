use Rattle.std.proofs.Common.{true, rules, subst, sym, ap, ◌∙◌}
use Rattle.sqlite.specs.Held.{state}
use Rattle.store_tables.specs.Reading.{Reads}
use Rattle.store.specs.Clubs.{Asks, Kept, version_with}
use Rattle.store.proofs.club.Club.ask.Goals as goal

pub returns-in-Err-Output-clause-reads : goal.returns-in-Err-Output-clause-reads
returns-in-Err-Output-clause-reads g c =
    let inside : Reads true (state g.S.Store c.self.inside.connection) (state g.S.Store c.answer.new.conn) =
    rw c.in-Err-Output.field-0-is at c.in-Err-Output.ensures.reads in
    search rules

pub returns-in-Ok-clause-shown : goal.returns-in-Ok-clause-shown
returns-in-Ok-clause-shown g c clean s k =
    let inside = subst (λ (v : Kept _). Asks v.has_arbiter (state g.S.Store v.connection) s) (sym c.self.view_is) k in
    c.in-Ok.ensures.shown clean s k.legal (c.version_of.ensures ∙ ap version_with inside.arbiter) inside.stores

pub returns-in-Ok-clause-begun : goal.returns-in-Ok-clause-begun
returns-in-Ok-clause-begun g c clean s k =
    let inside = subst (λ (v : Kept _). Asks v.has_arbiter (state g.S.Store v.connection) s) (sym c.self.view_is) k in
    c.in-Ok.ensures.begun clean s k.legal (c.version_of.ensures ∙ ap version_with inside.arbiter) inside.stores

pub returns-in-Err-Output-clause-begun : goal.returns-in-Err-Output-clause-begun
returns-in-Err-Output-clause-begun g c clean s k =
    let inside = subst (λ (v : Kept _). Asks v.has_arbiter (state g.S.Store v.connection) s) (sym c.self.view_is) k in
    c.in-Err-Output.ensures.begun clean s k.legal (c.version_of.ensures ∙ ap version_with inside.arbiter) inside.stores

pub returns-in-Err-Call-clause-begun : goal.returns-in-Err-Call-clause-begun
returns-in-Err-Call-clause-begun g c clean s k =
    let inside = subst (λ (v : Kept _). Asks v.has_arbiter (state g.S.Store v.connection) s) (sym c.self.view_is) k in
    c.in-Err-Call.ensures.begun clean s k.legal (c.version_of.ensures ∙ ap version_with inside.arbiter) inside.stores

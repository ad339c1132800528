use Rattle.std.proofs.Common.{◌≡◌, true, inl, inr, sym, subst}
use Rattle.sqlite.specs.Held.{state}
use Rattle.store_tables.specs.Club.{IsExactly}
use Rattle.store_tables.specs.Placed.{HasTablesOf}
use Rattle.store_tables.specs.declared.names.Version.TheVariants.{V1, V2}
use Rattle.schema_match.specs.Shapes.{is_of_club}
use Rattle.club_rows.specs.Club.{ClubState, tables}
use Rattle.club_rows.specs.FirstSchema.{IsClubOf}
use Rattle.club_check.specs.Versions.{HasClub, IsOpenedAt}
use Rattle.club_check.proofs.Proved.{good_at, tables_told}
use Rattle.store.proofs.HistoryLemmas.{arbiter_of, exactly_served, holds_in_version}
use Rattle.store.proofs.OpeningLemmas.{first_answers}
use Rattle.store.proofs.club.adopt.Goals as goal

pub returns-in-Ok-clause-shape : goal.returns-in-Ok-clause-shape
returns-in-Ok-clause-shape g c =
    subst (λ v. is_of_club v (state g.S.Store c.args.conn).now.schema ≡ true)
    (sym (c.is_third.ensures c.in-Ok.ensures.served)) c.in-Ok.ensures.shape

pub returns-in-Ok-clause-found : goal.returns-in-Ok-clause-found
returns-in-Ok-clause-found g c = λ clean.
    subst (λ v. IsOpenedAt v (state g.S.Store c.args.conn) → (s : ClubState) × IsClubOf v s × IsExactly v (tables s)
    (state g.S.Store c.check_database.new.conn)) (sym (c.is_third.ensures c.in-Ok.ensures.served))
    (λ opened.
    let (s, own, exactly) = c.in-Ok.ensures.found clean opened in
    (s, own, exactly_served c.in-Ok.version c.in-Ok.ensures.served s exactly))

pub returns-in-Ok-clause-older : goal.returns-in-Ok-clause-older
returns-in-Ok-clause-older g c = λ clean them s club serves exactly.
    let old = state g.S.Store c.args.conn in
    first_answers c.in-Ok.version c.in-Ok.ensures.served old.now.schema
    (holds_in_version V1 them s old serves club exactly).schema c.in-Ok.ensures.shape

pub returns-in-Ok-clause-unchanged : goal.returns-in-Ok-clause-unchanged
returns-in-Ok-clause-unchanged g c = λ clean known.
    let (has, same) = c.in-Ok.ensures.stays clean known in (
      subst (λ v. HasTablesOf v (state g.S.Store c.args.conn).now.schema)
          (sym (c.is_third.ensures c.in-Ok.ensures.served)) has,
      same,
      c.in-Ok.ensures.reads.may clean,
    )

pub returns-in-Ok-clause-held : goal.returns-in-Ok-clause-held
returns-in-Ok-clause-held g c = λ clean known sound.
    subst (λ v. (s : ClubState) × IsClubOf v s × HasClub v (state g.S.Store c.check_database.new.conn).now s)
    (sym (c.is_third.ensures c.in-Ok.ensures.served)) (c.in-Ok.ensures.held clean known sound)

pub returns-in-Ok-clause-standing : goal.returns-in-Ok-clause-standing
returns-in-Ok-clause-standing g c = λ clean s club holds.
    arbiter_of c.is_third.result s (c.is_third.ensures c.in-Ok.ensures.served) (c.in-Ok.ensures.standing clean s club holds)

pub returns-in-Err-clause-first : goal.returns-in-Err-clause-first
returns-in-Err-clause-first g c = λ clean them s club serves exactly shape.
    let old = state g.S.Store c.args.conn in
    let holds = holds_in_version V1 them s old serves club exactly in
    elim (good_at V2 V1 s club old.now holds shape c.in-Err.fault
    (c.in-Err.ensures.reason_is_right clean (tables_told V1 s club old.now holds))) [
      | inl store ↦ inr (inl store)
      | inr (inl memory) ↦ inr (inr memory)
      | inr (inr (named, other)) ↦ inl named
    ]

use Rattle.std.proofs.Common.{◌≡◌, arith, inl, refl, sym, subst, inr, true≢false, ◌∙◌}
use Rattle.std.proofs.lemmas.Int.{ints}
use Rattle.club_core.specs.LegalState.{Each}
use Rattle.club_audit.specs.internal.ClosingAudit.{IsClosedBy}
use Rattle.club_check.proofs.ArbiterLemmas.{closings_of_club}
use Rattle.club_audit.specs.internal.Audit.{AreApartGames}
use Rattle.club_audit.proofs.Proved.{events-count, members-count, rows-closed-by}
use Rattle.club_check.proofs.ExaminedLemmas.{people_of}
use Rattle.store_tables.specs.declared.names.Table.TheVariants.{Challenges, Games}
use Rattle.club_check.proofs.StoredClub.{register_apart, register_challenges}
use Rattle.club_check.proofs.FirstWrong.{damaged_same, some_later}
use Rattle.club_check.proofs.audit.audit.Goals as goal

pub returns-in-Ok-false-clause-fault : goal.returns-in-Ok-false-clause-fault
returns-in-Ok-false-clause-fault c =
    inr (
      _,
      refl,
      λ s club register.
          let rows = c.args.rows.now in
          let people = people_of s rows club register in
          let yes = c.in-Ok-false.ensures.complete (members-count s.members rows.members.items people.members)
          (events-count s.events rows.events.items people.events) s.challenges
          (register_challenges s rows club register) in
          let no = c.in-Ok-false.field-0-test in
          absurd cc,
    )

pub returns-in-Ok-false-are_apart-clause-remembered : goal.returns-in-Ok-false-are_apart-clause-remembered
returns-in-Ok-false-are_apart-clause-remembered c = λ t is s club register.
    let yes = c.in-Ok-false-are_apart.ensures.complete
    (subst AreApartGames (sym c.deref.ensures.value) (register_apart s c.args.rows.now club register)) in
    let no = c.in-Ok-false-are_apart.field-0-test in
    absurd cc

pub returns-in-Ok-false-are_apart-clause-games : goal.returns-in-Ok-false-are_apart-clause-games
returns-in-Ok-false-are_apart-clause-games c = λ is are.
    let yes = c.in-Ok-false-are_apart.ensures.complete (subst AreApartGames (sym c.deref.ensures.value) are) in
    let no = c.in-Ok-false-are_apart.field-0-test in
    absurd cc

pub returns-in-Ok-false-clause-challenged : goal.returns-in-Ok-false-clause-challenged
returns-in-Ok-false-clause-challenged c s people t is = (
  sym (damaged_same Challenges t is),
  λ cs are.
      let rows = c.args.rows.now in
      let yes = c.in-Ok-false.ensures.complete (members-count s.members rows.members.items people.members)
      (events-count s.events rows.events.items people.events) cs are in
      let no = c.in-Ok-false.field-0-test in
      absurd cc,
)

pub returns-in-Ok-false-are_apart-clause-later : goal.returns-in-Ok-false-are_apart-clause-later
returns-in-Ok-false-are_apart-clause-later c = some_later Games (inl (omega arith, omega arith))

pub returns-in-Ok-false-are_apart-clause-apart : goal.returns-in-Ok-false-are_apart-clause-apart
returns-in-Ok-false-are_apart-clause-apart c after = let low = after Games refl in absurd (omega (arith, low))

pub returns-else-are_closed_by-clause-remembered : goal.returns-else-are_closed_by-clause-remembered
returns-else-are_closed_by-clause-remembered c = λ t is s club register.
    let rows = c.args.rows.now in
    let own = closings_of_club s club rows.closings.items register.closings in
    let by = rows-closed-by s.last s.events rows.closings.items own club.closings in
    let last : s.last ≡ c.in-Some.last = omega (arith, ints, c.in-Some.ensures.some, register.last) in
    let yes = c.are_closed_by.ensures.complete
    (subst (Each (IsClosedBy c.in-Some.last)) (sym c.deref-in-Some.ensures.value)
    (subst (λ n. Each (IsClosedBy n) rows.closings.items) last by)) in
    absurd (true≢false (sym yes ∙ c.if-are_closed_by.false))

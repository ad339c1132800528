use Rattle.std.proofs.Common.{◌≡◌, ◌+◌, pos, true, arith, rules}
use Rattle.std.specs.Prelude.{string_bytes}
use Rattle.std.proofs.lemmas.Bool.{not-true}
use Rattle.std.proofs.lemmas.Int.{ints}
use Rattle.club_requests.specs.Limits.{is_name}
use Rattle.club_audit.specs.Audit.{GivesTerms}
use Rattle.club_rows.specs.Tables.{kind_number}
use Rattle.club_audit.proofs.PeopleLemmas.{event-cells, event_told}
use Rattle.club_audit.proofs.people.is_event.Goals as goal

pub returns-in-Some-terms_of-clause-sound : goal.returns-in-Some-terms_of-clause-sound
returns-in-Some-terms_of-clause-sound c = λ free.
    let row = c.args.event.now in
    let at = c.is_place.ensures.sound c.if-not-is_place.false in
    let id : row.id ≡ pos (c.args.place + 1) = omega (arith, ints) in
    let name : is_name (string_bytes row.name) ≡ true = cc in
    let kind = c.in-Some.field-0 in
    let game : row.game ≡ pos (kind_number kind) = search rules in
    let given = c.in-Some-terms_of.field-0 in
    let terms : GivesTerms row given.budget given.increment = rw c.in-Some-terms_of.is at c.terms_of.ensures.some in
    record {
      event = event_told row kind given.budget given.increment;
      cells = event-cells (c.args.place + 1) given.budget given.increment kind row id game terms.budget_is
          terms.increment_is;
      legal = record { name = name; budget = terms.has_budget; increment = terms.has_increment };
      others = c.is_used.ensures.free (not-true c.is_used.result free);
    }

use Rattle.std.proofs.Common.{◌⊎◌, ap, inl, inr, sym, subst, ◌∙◌}
use Rattle.sqlite.specs.Held.{state}
use Rattle.store_tables.specs.declared.rows.Rows.{Rows}
use Rattle.club_audit.specs.internal.Audit.{HasPeople}
use Rattle.club_check.specs.internal.Examined.{IsPlayExamined, NamesPlay}
use Rattle.club_check.specs.ReasonIsRight.{NamesTable}
use Rattle.club_check.specs.internal.RightTables.{NamesPlayed}
use Rattle.club_check.specs.declared.fault.OpenFault.TheVariants.{Damaged}
use Rattle.club_check.proofs.KnownLemmas.{IsNamedFor, fault_failed, named_damage, named_failed, named_right}
use Rattle.club_check.proofs.opening.name_untyped.Goals as goal

pub returns-in-Err-clause-first_damaged : goal.returns-in-Err-clause-first_damaged
returns-in-Err-clause-first_damaged g c clean version has s people ids = elim c.in-Err.ensures.fault [
  | inl memory ↦ inr (inl memory)
  | inr (t, is, none) ↦
      let (named, wrong) = c.in-Err.ensures.challenged s people t is in
      inr (inr (inl (is ∙ ap Damaged named, wrong)))
]

pub returns-in-Ok-examine_play-clause-first_damaged : goal.returns-in-Ok-examine_play-clause-first_damaged
returns-in-Ok-examine_play-clause-first_damaged g c clean version has s people ids =
    let s0 = state g.S.Store c.args.conn.now in
    let s1 = state g.S.Store c.examine_play.new.conn in
    let judged : Rows = record c.args.rows { games = c.args.judged } in
    let own : HasPeople s judged =
    record { members = people.members; events = people.events; rules = people.rules } in
    let there = subst (HasPeople s) (sym c.with_games-rows.ensures) own in
    let wrong = c.in-Ok-examine_play.wrong in
    named_right c.args.rows judged c.to_moment.result wrong version s0 s1 c.named_by.result c.in-Ok.ensures.challenges
    (subst (λ rows. IsPlayExamined rows c.to_moment.result wrong version s0 s1) c.with_games-rows.ensures
    (c.in-Ok-examine_play.ensures.found clean version has))
    (c.in-Ok-examine_play.ensures.later s there (λ t is. cc)) s own ids
    (c.named_by.ensures.moves, c.named_by.ensures.rulings, c.named_by.ensures.games)

pub returns-in-Ok-examine_play-clause-faults : goal.returns-in-Ok-examine_play-clause-faults
returns-in-Ok-examine_play-clause-faults g c clean version has = inr (inr
    (named_damage c.in-Ok-examine_play.wrong c.named_by.result
    (c.named_by.ensures.moves, c.named_by.ensures.rulings, c.named_by.ensures.games)))

pub returns-clause-first_damaged : goal.returns-clause-first_damaged
returns-clause-first_damaged g c clean version has s people ids =
    let judged : Rows = record c.args.rows { games = c.args.judged } in
    let db = (state g.S.Store c.args.conn.now).now in
    let fault = c.in-Err-examine_play.fault in
    let for : IsNamedFor fault c.named_for.result = record {
      moves = c.named_for.ensures.moves;
      rulings = c.named_for.ensures.rulings;
      games = c.named_for.ensures.games;
      other = c.named_for.ensures.other;
    } in
    named_failed fault c.named_for.result for version db c.args.rows judged c.in-Ok.ensures.challenges
    (subst (λ rows. NamesPlayed rows version db fault) c.with_games-rows.ensures
    (c.in-Err-examine_play.ensures.later_fault clean version has))
    (subst (λ rows. NamesTable db fault ⊎ NamesPlay rows version db fault) c.with_games-rows.ensures
    (c.in-Err-examine_play.ensures.reason_is_right clean version has))

pub returns-clause-faults : goal.returns-clause-faults
returns-clause-faults g c clean version has =
    let fault = c.in-Err-examine_play.fault in
    let for : IsNamedFor fault c.named_for.result = record {
      moves = c.named_for.ensures.moves;
      rulings = c.named_for.ensures.rulings;
      games = c.named_for.ensures.games;
      other = c.named_for.ensures.other;
    } in
    fault_failed fault c.named_for.result for version (state g.S.Store c.args.conn.now).now c.with_games-rows.result
    (c.in-Err-examine_play.ensures.reason_is_right clean version has)

use Rattle.std.proofs.Common.{inl, inr, subst, sym, arith, refl}
use Rattle.std.proofs.lemmas.Result.{IfErr-weaker, IfOk-weaker}
use Rattle.std.specs.Prelude.{length}
use Rattle.sqlite.specs.Held.{state}
use Rattle.club_audit.specs.internal.Audit.{AreRules}
use Rattle.club_check.proofs.ClubLemmas.{undeclared_are, names}
use Rattle.club_check.proofs.FirstWrong.{rule_types_wrong, club_has, club_rows, named_wrong}
use Rattle.club_check.proofs.FirstWrong.{rules_at, rules_none, rules_read_as}
use Rattle.store_tables.specs.declared.names.Table.TheVariants.{EventRules, Events}
use Rattle.store_tables.specs.Cells.{IsEventRule}
use Rattle.store_tables.specs.Tables.{IsServed, event_rules}
use Rattle.club_check.proofs.StoredLemmas.{has_rules, rules_stand}
use Rattle.club_rows.specs.FirstSchema.{tables_at}
use Rattle.club_check.proofs.read.read_rules.Goals.{in-V2, in-V3}
use Rattle.club_check.proofs.read.read_rules.Goals as goal

pub returns-in-V1-clause-are : goal.returns-in-V1-clause-are
returns-in-V1-clause-are g c =
    IfOk-weaker c.undeclared.result _ _ (λ rules same es are.
    undeclared_are es c.args.events.now rules.items are same) c.undeclared.ensures.rules

pub returns-in-V1-clause-wrong : goal.returns-in-V1-clause-wrong
returns-in-V1-clause-wrong g c clean =
    IfErr-weaker c.undeclared.result _ _ (λ e memory schema told t is. absurd (cc)) c.undeclared.ensures.memory

pub returns-in-Err-clause-wrong : goal.returns-in-Err-clause-wrong
returns-in-Err-clause-wrong g c clean has told =
    let version = c.args.version in
    let served : IsServed version = elim c.match-version.branch [
      | in-V2 w ↦ rw w.in-V2.is refl
      | in-V3 w ↦ rw w.in-V3.is refl
    ] in
    rule_types_wrong (state g.S.Store c.args.conn.now) c.in-Err.fault version served has
    (c.in-Err.ensures.reason_is_right clean (rules_stand version _ (has_rules version served) has))

pub returns-then-not-are_rules-clause-wrong : goal.returns-then-not-are_rules-clause-wrong
returns-then-not-are_rules-clause-wrong g c clean has told =
    let version = c.args.version in
    let served : IsServed version = elim c.match-version.branch [
      | in-V2 w ↦ rw w.in-V2.is refl
      | in-V3 w ↦ rw w.in-V3.is refl
    ] in
    named_wrong EventRules (state g.S.Store c.args.conn.now).now (λ v content holds club.
    rules_none c.args.events.now c.in-Ok.rules.items _ _ version served has
    (c.in-Ok.ensures.rows clean (rules_stand version _ (has_rules version served) has))
    (λ ruled.
    let yes = c.are_rules.ensures.complete
    (subst (λ l. AreRules l (length c.args.events.now)) (sym c.deref.ensures.value) ruled) in
    let no = c.if-not-are_rules.true in
    absurd cc) v content holds club
    (told v content holds club.state (club_rows club Events (omega arith) (omega arith) tt)))

pub returns-then-not-are_rules-clause-reason_is_right : goal.returns-then-not-are_rules-clause-reason_is_right
returns-then-not-are_rules-clause-reason_is_right g c clean has es are of =
    let version = c.args.version in
    let served : IsServed version = elim c.match-version.branch [
      | in-V2 w ↦ rw w.in-V2.is refl
      | in-V3 w ↦ rw w.in-V3.is refl
    ] in
    inr (
      EventRules,
      refl,
      λ v s own holds.
          rules_none c.args.events.now c.in-Ok.rules.items _ _ version served has
          (c.in-Ok.ensures.rows clean (rules_stand version _ (has_rules version served) has))
          (λ ruled.
          let yes = c.are_rules.ensures.complete
          (subst (λ l. AreRules l (length c.args.events.now)) (sym c.deref.ensures.value) ruled) in
          let no = c.if-not-are_rules.true in
          absurd cc) v (tables_at v s) holds (club_has v s EventRules own) (of v s own holds),
    )

pub returns-clause-rules : goal.returns-clause-rules
returns-clause-rules g c clean has is_open =
    let version = c.args.version in
    let served : IsServed version = elim c.match-version.branch [
      | in-V2 w ↦ rw w.in-V2.is refl
      | in-V3 w ↦ rw w.in-V3.is refl
    ] in
    rules_read_as version version served (has_rules version served) c.args.events.now c.in-Ok.rules.items _ _
    (c.in-Ok.ensures.rows clean (rules_stand version _ (has_rules version served) has))

pub returns-in-Err-clause-reason_is_right : goal.returns-in-Err-clause-reason_is_right
returns-in-Err-clause-reason_is_right g c clean has es are of =
    let version = c.args.version in
    let served : IsServed version = elim c.match-version.branch [
      | in-V2 w ↦ rw w.in-V2.is refl
      | in-V3 w ↦ rw w.in-V3.is refl
    ] in
    inl (names EventRules (event_rules 16) IsEventRule (state g.S.Store c.args.conn.now) c.in-Err.fault
    (λ v content holds typed. ((rules_at v holds version served has).1, typed))
    (c.in-Err.ensures.reason_is_right clean (rules_stand version _ (has_rules version served) has)))

use Rattle.std.proofs.Common.{arith, rules, sym, ◌∙◌}
use Rattle.std.proofs.lemmas.Option.{slice_get-get_or}
use Rattle.club_audit.specs.internal.Audit.{IsRuleAt}
use Rattle.club_audit.proofs.PlacedLemmas.{below-more, below-all}
use Rattle.club_audit.proofs.people.are_rules.Goals as goal

pub returns-then-not-is_rule-clause-complete : goal.returns-then-not-is_rule-clause-complete
returns-then-not-is_rule-clause-complete c = λ are.
    let at = slice_get-get_or c.args.rules.now c.loop-place.place _ c.loop-place-test.true in
    sym c.if-not-is_rule.true ∙ c.is_rule.ensures.complete (are.rows_are c.loop-place.place _ at)

pub loop-place-preserved : goal.loop-place-preserved
loop-place-preserved c =
    below-more _ _ c.args.rules.now _ (slice_get-get_or _ _ _ c.loop-place-test.true) c.loop-place.invariant
    (c.is_rule.ensures.sound c.if-not-is_rule.false)

pub returns-clause-sound : goal.returns-clause-sound
returns-clause-sound c = λ _. record {
  number = search rules;
  rows_are = below-all IsRuleAt c.loop-place.place c.args.rules.now (omega (arith, c.loop-place-test.false))
      c.loop-place.invariant;
}

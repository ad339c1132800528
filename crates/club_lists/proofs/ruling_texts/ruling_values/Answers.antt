use Rattle.std.proofs.Common.{◌≡◌, ◌+◌, [], ◌∷◌, length, length-append, ap, ◌∙◌, rules, arith}
use Rattle.serde_json.specs.View.{view}
use Rattle.club_lists.specs.RulingTexts.{ruling_data_of}
use Rattle.club_lists.specs.internal.RulingViews.{given_by}
use Rattle.club_lists.proofs.RulingLemmas.{value_more}
use Rattle.club_lists.proofs.ruling_texts.ruling_values.Goals as goal

pub loop-given-preserved : goal.loop-given-preserved
loop-given-preserved c =
    let k = c.loop-given.given-index in
    let given = c.given-item.result in
    let value = c.in_ok-ruling_value.field-0 in
    let len : c.len-number.result ≡ length c.loop-given.values.items = search rules in
    let number : c.len-number.result ≡ k = len ∙ c.loop-given.invariant.count in
    record {
      count = omega (
        arith,
        ap length c.in_ok-push.ensures.items,
        length-append c.loop-given.values.items (value ∷ []),
        c.loop-given.invariant.count,
      );
      values = value_more view c.args.rulings.now k given c.loop-given-test.true c.given-item.is
          c.loop-given.values.items c.push.new.self.items value _ c.loop-given.invariant.values
          (c.in_ok-ruling_value.ensures ∙ ap (λ n. ruling_data_of (n + 1) (given_by given) given.ruling) number)
          c.in_ok-push.ensures.items;
    }

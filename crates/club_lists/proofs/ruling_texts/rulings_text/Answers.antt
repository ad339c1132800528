use Rattle.std.proofs.Common.{◌≡◌, ◌+◌, suc, ◌∷◌, drop, ap, subst, sym, ◌∙◌, rules, arith}
use Rattle.std.proofs.Math.Seq.{drop-cons}
use Rattle.std.proofs.lemmas.List.{drop_all}
use Rattle.std.specs.Prelude.{string_bytes}
use Rattle.club_lists.specs.RulingTexts.{IsRulingLine}
use Rattle.club_lists.specs.internal.RulingViews.{given_by, rulings_by}
use Rattle.club_lists.proofs.RulingLemmas.{ahead_all, ahead_more}
use Rattle.club_lists.proofs.ruling_texts.rulings_text.Goals as goal

pub loop-given-preserved : goal.loop-given-preserved
loop-given-preserved c =
    let rulings = c.args.rulings.now in
    let k = c.loop-given.given-index in
    let given = c.given-item.result in
    let next : suc k ≡ k + 1 = omega arith in
    let at_is = c.loop-given.invariant.count in
    record {
      count = ap (λ n. n + 1) at_is;
      lines = ahead_more (rulings_by rulings) (k + 1) (k + 1 + 1) (rulings_by (drop k rulings))
          (rulings_by (drop (k + 1) rulings)) (given_by given) (string_bytes c.loop-given.text)
          (string_bytes c.in_ok-line.line) _
          (ap rulings_by (drop-cons rulings k given c.loop-given-test.true
          ∙ (λ i. sym c.given-item.is i ∷ drop (next i) rulings)))
          (omega arith)
          (subst (λ n. IsRulingLine (n + 1) (given_by given) (string_bytes c.in_ok-line.line)) at_is
          c.in_ok-line.ensures)
          (search rules) c.loop-given.invariant.lines;
    }

pub returns : goal.returns
returns c =
    let rulings = c.args.rulings.now in
    ahead_all (rulings_by rulings) _ _ _ (ap rulings_by (drop_all c.loop-given.given-index rulings c.loop-given-test.false))
    c.loop-given.invariant.lines

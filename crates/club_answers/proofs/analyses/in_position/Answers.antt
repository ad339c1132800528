use Rattle.std.proofs.Common.{inl, map, refl, string_bytes, sym, ◌∙◌}
use Rattle.std.specs.Prelude.{option_map}
use Rattle.std.proofs.lemmas.Result.{IfOk-weaker}
use Rattle.club_answers.specs.Analyses.{IsRefusedFromPosition, IsShownFromPosition}
use Rattle.club_answers.proofs.AnalysisLemmas.{tried_few}
use Rattle.club_answers.proofs.analyses.in_position.Goals as goal

pub returns-then-not-are_few : goal.returns-then-not-are_few
returns-then-not-are_few c =
    let few = rw c.deref.ensures.value at c.are_few.ensures in
    record { answered = inl (sym few ∙ c.if-not-are_few.true, refl) }

pub returns : goal.returns
returns c =
    let few = rw c.deref.ensures.value at c.are_few.ensures in
    let told = rw c.deref-2.ensures.value at c.from_position.ensures.answered in
    let text = option_map (λ t. t.now) c.args.text in
    let texts = map (λ t. string_bytes t) c.args.asked.now.moves.items in
    let kind = c.args.asked.now.kind in
    record {
      answered = IfOk-weaker c.from_position.result _ _ (λ tried is.
          tried_few (IsShownFromPosition kind text texts) (IsRefusedFromPosition kind text texts) texts tried
          (sym few ∙ c.if-not-are_few.false) is) told;
    }

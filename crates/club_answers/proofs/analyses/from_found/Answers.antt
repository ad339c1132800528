use Rattle.std.proofs.Common.{inl, inr, map, refl, string_bytes, sym, ◌∙◌}
use Rattle.std.proofs.lemmas.Result.{IfOk-weaker}
use Rattle.club_answers.proofs.AnalysisLemmas.{kind_is, same_kinds, tried_for}
use Rattle.club_answers.proofs.analyses.from_found.Goals as goal

pub returns-then-not-same_kind-clause-answered : goal.returns-then-not-same_kind-clause-answered
returns-then-not-same_kind-clause-answered g c clean s id game is_club at is k =
    let kind = kind_is s is_club id game c.args.stored.now at is c.args.asked.now.kind in
    inl (kind ∙ sym c.same_kind.ensures ∙ c.if-not-same_kind.true, refl)

pub returns-then-not-are_few-clause-answered : goal.returns-then-not-are_few-clause-answered
returns-then-not-are_few-clause-answered g c clean s id game is_club at is k =
    let kind = kind_is s is_club id game c.args.stored.now at is c.args.asked.now.kind in
    let few = rw c.deref.ensures.value at c.are_few.ensures in
    inr (kind ∙ sym c.same_kind.ensures ∙ c.if-not-same_kind.false, inl (sym few ∙ c.if-not-are_few.true, refl))

pub returns-clause-answered : goal.returns-clause-answered
returns-clause-answered g c clean =
    let few = rw c.deref.ensures.value at c.are_few.ensures in
    let stored = c.args.stored.now in
    let kind = c.args.asked.now.kind in
    let same = sym c.same_kind.ensures ∙ c.if-not-same_kind.false in
    let told = rw c.deref-2.ensures.value at (c.from_stored.ensures.answered clean) in
    IfOk-weaker c.from_stored.result _ _ (λ tried is_told s id game is_club at is k.
    tried_for stored.kind kind game c.args.ply (map (λ t. string_bytes t) c.args.asked.now.moves.items) tried
    (same_kinds stored.kind kind same) (kind_is s is_club id game stored at is kind ∙ same)
    (sym few ∙ c.if-not-are_few.false) (is_told s id game is_club at is k)) told

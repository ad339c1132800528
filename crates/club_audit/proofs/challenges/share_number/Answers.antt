use Rattle.std.proofs.Common.{Some, ap, arith, sym, ◌∙◌}
use Rattle.std.specs.List.{list_any}
use Rattle.std.proofs.lemmas.Bool.{not-true, not-false}
use Rattle.std.proofs.lemmas.Option.{slice_get-get_or}
use Rattle.club_audit.specs.internal.ChallengeKeys.{key_in, same_number}
use Rattle.club_audit.proofs.KeyLemmas.{always-apart, apart-always, kept-all, kept-clash, kept-more, as_it_is}
use Rattle.club_audit.proofs.KeyLemmas.{numbers-told, some_key}
use Rattle.club_audit.proofs.challenges.share_number.Goals as goal

pub returns-then-not-branch-clause-shared : goal.returns-then-not-branch-clause-shared
returns-then-not-branch-clause-shared c = λ _ apart.
    let rows = c.args.challenges.now in
    let k = c.loop-row.row-index in
    kept-clash some_key as_it_is rows k _ _ c.key_in.result c.loop-row.invariant
    (slice_get-get_or rows k _ c.loop-row-test.true) (ap Some (sym c.key_in.ensures))
    (not-false _ (sym c.in_ok-insert.ensures.added ∙ c.if-not-branch.true)) (always-apart key_in rows apart)

pub loop-row-preserved : goal.loop-row-preserved
loop-row-preserved c =
    let rows = c.args.challenges.now in
    let k = c.loop-row.row-index in
    let fresh = not-true _ (sym c.in_ok-insert.ensures.added ∙ c.if-not-branch.false) in
    kept-more some_key as_it_is rows same_number numbers-told k _ _ _ c.key_in.result c.loop-row.invariant
    (slice_get-get_or rows k _ c.loop-row-test.true) (ap Some (sym c.key_in.ensures))
    (λ q same. ap (λ key. list_any (same_number key) c.loop-row.keys.keys) same ∙ fresh)
    (λ q. c.in_ok-insert.ensures.updates.0 q)

pub returns-clause-apart : goal.returns-clause-apart
returns-clause-apart c = λ _. apart-always key_in c.args.challenges.now
    (kept-all some_key as_it_is c.args.challenges.now c.loop-row.row-index _ c.loop-row.invariant
    (omega (arith, c.loop-row-test.false)))

use Rattle.std.proofs.Common.{◌≡◌, ◌+◌, length, refl, sym, subst, ◌∙◌, ap, Some, arith}
use Rattle.std.specs.List.{list_any}
use Rattle.std.specs.Str.{bytes_eq}
use Rattle.std.specs.HashSet.{contains}
use Rattle.std.proofs.lemmas.Bool.{not-true, not-false}
use Rattle.std.proofs.lemmas.Option.{slice_get_read}
use Rattle.club_audit.specs.internal.KeyAudit.{all_keys}
use Rattle.club_audit.proofs.KeyLemmas.{AreKept, always-apart, apart-always, bytes-told, kept-all, kept-clash}
use Rattle.club_audit.proofs.KeyLemmas.{kept-more, lent}
use Rattle.club_audit.proofs.LaterKeys.{first-text, kept-later, later-text, some_text, texts-long}
use Rattle.club_audit.proofs.keys.share_key.Goals as goal

pub returns-then-not-branch-clause-shared : goal.returns-then-not-branch-clause-shared
returns-then-not-branch-clause-shared c = λ _ apart.
    let all = all_keys c.args.members.now c.args.keys.now in
    let rows = c.args.members.now in
    let k = c.loop-member.member-index in
    let found = slice_get_read rows (length rows) k c.member-item.result refl c.loop-member-test.true c.member-item.is
    in
    kept-clash some_text lent all k _ _ c.as_str.result c.loop-member.invariant
    (first-text rows c.args.keys.now k c.member-item.result found) (ap Some (sym c.as_str.ensures.value))
    (not-false _ (sym c.in_ok-insert.ensures.added ∙ c.if-not-branch.true)) (always-apart (λ t. t) all apart)

pub loop-member-preserved : goal.loop-member-preserved
loop-member-preserved c =
    let all = all_keys c.args.members.now c.args.keys.now in
    let rows = c.args.members.now in
    let k = c.loop-member.member-index in
    let found = slice_get_read rows (length rows) k c.member-item.result refl c.loop-member-test.true c.member-item.is
    in
    let fresh = not-true _ (sym c.in_ok-insert.ensures.added ∙ c.if-not-branch.false) in
    kept-more some_text lent all bytes_eq bytes-told k _ _ _ c.as_str.result c.loop-member.invariant
    (first-text rows c.args.keys.now k c.member-item.result found) (ap Some (sym c.as_str.ensures.value))
    (λ q same. ap (λ bs. list_any (λ x. bytes_eq bs x.now) c.loop-member.known.keys) same ∙ fresh)
    (λ q. c.in_ok-insert.ensures.updates.0 q)

pub loop-row-init : goal.loop-row-init
loop-row-init c =
    let rows = c.args.members.now in
    let all : c.loop-member.member-index ≡ length rows + 0 = omega (arith, c.loop-member-test.false) in
    subst
    (λ i. AreKept some_text lent (all_keys rows c.args.keys.now) i
    (contains (λ x y. bytes_eq x.now y.now) c.loop-member.known))
    all c.loop-member.invariant

pub returns-then-not-branch-2-clause-shared : goal.returns-then-not-branch-2-clause-shared
returns-then-not-branch-2-clause-shared c = λ _ apart.
    let all = all_keys c.args.members.now c.args.keys.now in
    let rows = c.args.keys.now in
    let k = c.loop-row.row-index in
    let found = slice_get_read rows (length rows) k c.row-item.result refl c.loop-row-test.true c.row-item.is in
    kept-clash some_text lent all (length c.args.members.now + k) _ _ c.as_str-in-loop-row.result c.loop-row.invariant
    (later-text c.args.members.now rows k c.row-item.result found) (ap Some (sym c.as_str-in-loop-row.ensures.value))
    (not-false _ (sym c.in_ok-insert-2.ensures.added ∙ c.if-not-branch-2.true)) (always-apart (λ t. t) all apart)

pub loop-row-preserved : goal.loop-row-preserved
loop-row-preserved c =
    let all = all_keys c.args.members.now c.args.keys.now in
    let count = length c.args.members.now in
    let rows = c.args.keys.now in
    let k = c.loop-row.row-index in
    let found = slice_get_read rows (length rows) k c.row-item.result refl c.loop-row-test.true c.row-item.is in
    let fresh = not-true _ (sym c.in_ok-insert-2.ensures.added ∙ c.if-not-branch-2.false) in
    kept-later all count k _
    (kept-more some_text lent all bytes_eq bytes-told (count + k) _ _ _ c.as_str-in-loop-row.result c.loop-row.invariant
    (later-text c.args.members.now rows k c.row-item.result found) (ap Some (sym c.as_str-in-loop-row.ensures.value))
    (λ q same. ap (λ bs. list_any (λ x. bytes_eq bs x.now) c.loop-row.known.keys) same ∙ fresh)
    (λ q. c.in_ok-insert-2.ensures.updates.0 q))

pub returns-clause-apart : goal.returns-clause-apart
returns-clause-apart c = λ _.
    let members = c.args.members.now in
    let keys = c.args.keys.now in
    let long = texts-long members keys in
    apart-always (λ t. t) (all_keys members keys)
    (kept-all some_text lent (all_keys members keys) (length members + c.loop-row.row-index) _ c.loop-row.invariant
    (omega (arith, long, c.loop-row-test.false)))

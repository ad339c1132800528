use Rattle.std.proofs.Common.{rules, ◌≡◌, ◌≤◌, length, Some, cond, ap, sym, subst, ◌∙◌, arith}
use Rattle.std.specs.Str.{bytes_eq}
use Rattle.std.proofs.lemmas.Map.Text.{hash_map_updates_str}
use Rattle.club_audit.specs.internal.SeenAudit.{IsCountOf, found_in}
use Rattle.club_rows.specs.internal.Tally.{stood_then}
use Rattle.club_audit.proofs.SeenCounts.{counted-few, counted-more}
use Rattle.club_audit.proofs.seen_audit.count.Goals as goal

pub returns : goal.returns
returns c = λ texts counted long few.
    let text = c.args.text.now in
    let old = c.args.counts.now in
    let found : c.copied.result ≡ found_in old text = search rules in
    let short : length texts ≤ 600 = omega (arith, long, few) in
    let seldom = counted-few texts text c.copied.result (subst (IsCountOf texts text) (sym found) (counted text)) short
    in
    let stood : c.stood_then-stood.result ≡ stood_then (found_in old text) (length texts) =
    c.stood_then-stood.ensures seldom ∙ (λ i. stood_then (found i) (sym long i)) in
    counted-more texts text (found_in old) (found_in c.insert.new.self) counted
    (λ q. hash_map_updates_str text old c.insert.new.self _ c.in_ok-insert.ensures.updates q
    ∙ ap (λ s. cond (bytes_eq text q) (Some s) (found_in old q)) stood)

use Rattle.std.proofs.Common.{Bor, List, ℕ, ap, arith, refl, sym, ◌∙◌}
use Rattle.std.specs.Map.{lookup}
use Rattle.std.specs.Str.{bytes_eq}
use Rattle.std.proofs.lemmas.List.{nil_from_length}
use Rattle.std.proofs.lemmas.Map.Text.{hash_map_updates_str}
use Rattle.std.proofs.lemmas.Option.{slice_get_read}
use Rattle.club_laws.proofs.Proved.{bytes_eq-same}
use Rattle.club_audit.specs.internal.SeenAudit.{found_in}
use Rattle.club_audit.proofs.SeenCounts.{matched-more, matched-sound, matched-next, matched-all}
use Rattle.club_audit.proofs.KeyLemmas.{lent, no-entries}
use Rattle.club_audit.proofs.seen_audit.are_counted.Goals as goal

pub returns-then-not-has_counted-clause-complete : goal.returns-then-not-has_counted-clause-complete
returns-then-not-has_counted-clause-complete c = λ texts counted are.
    sym c.if-not-has_counted.true ∙ c.has_counted.ensures.complete (matched-next _ _ c.args.rows.now texts counted are
    _ _ _ c.loop-row.invariant (slice_get_read c.args.rows.now _ _ _ refl c.loop-row-test.true c.row-item.is) _
    c.as_str.ensures.value _ c.remove-found.ensures.value)

pub loop-row-preserved : goal.loop-row-preserved
loop-row-preserved c =
    matched-more _ _ c.args.rows.now _ _ _ c.loop-row.invariant
    (slice_get_read c.args.rows.now _ _ _ refl c.loop-row-test.true c.row-item.is) _ c.as_str.ensures.value _
    c.remove-found.ensures.value (c.has_counted.ensures.sound c.if-not-has_counted.false)
    (found_in c.remove-found.new.self) (λ q. hash_map_updates_str c.as_str.result.now c.loop-row.left
    c.remove-found.new.self _ c.remove-found.ensures.updates q)

pub returns-clause-sound : goal.returns-clause-sound
returns-clause-sound c = λ yes texts counted.
    let empty = nil_from_length c.loop-row.left.entries (c.is_empty.ensures.0 yes) in
    matched-sound c.args.game (found_in c.args.counts) c.args.rows.now texts counted (found_in c.loop-row.left)
    c.loop-row.row-index (omega (arith, c.loop-row-test.false)) c.loop-row.invariant
    (λ q. ap (lookup (λ k. bytes_eq q k.now)) empty)

pub returns-clause-complete : goal.returns-clause-complete
returns-clause-complete c = λ texts counted are.
    c.is_empty.ensures.1
    (no-entries (λ (text : List ℕ) (k : Bor (List ℕ)). bytes_eq text k.now) lent (λ k. bytes_eq-same k.now k.now refl)
    c.loop-row.left.entries
    (matched-all c.args.game (found_in c.args.counts) c.args.rows.now texts counted are (found_in c.loop-row.left)
    c.loop-row.row-index (omega (arith, c.loop-row-test.false)) c.loop-row.invariant))

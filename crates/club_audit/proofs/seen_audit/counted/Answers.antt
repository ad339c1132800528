use Rattle.std.proofs.Common.{◌++◌, ◌∷◌, [], length, take, refl, ap, sym, subst, ◌∙◌, arith}
use Rattle.std.specs.Str.{bytes_eq}
use Rattle.std.specs.Map.{lookup}
use Rattle.std.proofs.lemmas.List.{take_all}
use Rattle.std.proofs.lemmas.Option.{slice_get_read}
use Rattle.club_audit.specs.internal.SeenAudit.{AreCounted, found_in, texts_in}
use Rattle.club_audit.proofs.SeenCounts.{counted-start, texts-step, texts-length}
use Rattle.club_audit.proofs.seen_audit.counted.Goals as goal

pub loop-index-init : goal.loop-index-init
loop-index-init c = λ few.
    c.in_ok-count.ensures []
    (counted-start (found_in c.new-counts.result)
    (λ q. ap (lookup (λ k. bytes_eq q k.now)) c.new-counts.ensures.empty)) refl (omega arith)

pub loop-index-preserved : goal.loop-index-preserved
loop-index-preserved c = λ few.
    let moves = c.args.moves.now in
    let start = c.args.start.now in
    let k = c.loop-index.index in
    let row = c.index-moves-index.result in
    let at = slice_get_read moves (length moves) k row refl c.loop-index-test.true c.index-moves-index.is in
    let text = c.as_str.ensures.value in
    let long = texts-length start moves k (omega (arith, c.loop-index-test.true)) in
    let more = c.in_ok-count-2.ensures (texts_in start (take k moves)) (c.loop-index.invariant few) long
    (omega (arith, few, c.loop-index-test.true)) in
    subst (λ ts. AreCounted ts (found_in c.count-in-loop-index.new.counts))
    (ap (λ t. texts_in start (take k moves) ++ t ∷ []) text ∙ sym (texts-step start moves k row at))
    more

pub returns : goal.returns
returns c = λ few.
    subst (λ ms. AreCounted (texts_in c.args.start.now ms) (found_in c.loop-index.counts))
    (take_all c.loop-index.index c.args.moves.now (omega (arith, c.loop-index-test.false)))
    (c.loop-index.invariant few)

use Rattle.std.proofs.Common.{◌≡◌, true, sym, subst, rules}
use Rattle.club_orders.specs.Batches.{IsBegunWith}
use Rattle.club_orders.specs.Explained.{end_explained, orders_explained}
use Rattle.club_orders.proofs.PrintedLemmas.{begun_first, begun_rest}
use Rattle.club_orders.proofs.ExplainedBatchLemmas.{explained_if}
use Rattle.club_orders.proofs.explained_batch.explain_batch.Goals as goal

pub returns-then-not-write_out : goal.returns-then-not-write_out
returns-then-not-write_out g c =
    let asked : c.args.given.now.explains ≡ true = search rules in
    let end : end_explained c.args.status c.args.given.now.batched.now.fault ≡ c.as_bytes.result.now = search rules in
    subst (IsBegunWith (g.E.Write.contents c.args.err.now) (g.E.Write.contents c.write_out.new.writer))
    (sym (explained_if _ c.args.status c.args.given.now.requests.now c.args.given.now.batched.now asked))
    (begun_first _ _ _ _ _ end c.write_out.ensures.beginning)

pub returns : goal.returns
returns g c =
    let asked : c.args.given.now.explains ≡ true = search rules in
    let end : end_explained c.args.status c.args.given.now.batched.now.fault ≡ c.as_bytes.result.now = search rules in
    let wrote : c.write_out.result ≡ true = search rules in
    let batched = c.args.given.now.batched.now in
    let requests = c.args.given.now.requests.now in
    let numbers : c.as_slice.result.now ≡ batched.numbers.items = search rules in
    let outcomes : c.as_slice-2.result.now ≡ batched.outcomes.items = search rules in
    let lines : orders_explained c.as_slice.result.now requests c.as_slice-2.result.now
    ≡ orders_explained batched.numbers.items requests batched.outcomes.items =
    λ i. orders_explained (numbers i) requests (outcomes i) in
    let begun =
    subst (IsBegunWith (g.E.Write.contents c.write_out.new.writer) (g.E.Write.contents c.explain_orders.new.err)) lines
    c.explain_orders.ensures in
    subst (IsBegunWith (g.E.Write.contents c.args.err.now) (g.E.Write.contents c.explain_orders.new.err))
    (sym (explained_if _ c.args.status c.args.given.now.requests.now c.args.given.now.batched.now asked))
    (begun_rest _ _ _ _ _ _ end (c.write_out.ensures.whole wrote) begun)

use Rattle.std.proofs.Common.{arith, [], ◌∷◌, map, subst, sym, ap, ◌∙◌, take, ◌++◌, ◌<◌, length, inl, inr}
use Rattle.std.proofs.lemmas.List.{take_all, take_more, map-append}
use Rattle.sqlite.specs.Held.{state}
use Rattle.sqlite.proofs.StateLemmas.{survives_then}
use Rattle.store_tables.specs.internal.Contents.{put_each}
use Rattle.store_tables.specs.internal.Over.{StepsBeside}
use Rattle.store_tables.proofs.Proved.{one_more}
use Rattle.store_sql.proofs.CommitLemmas.{not_empty}
use Rattle.store_sql.proofs.upsert.put_all.Goals as goal

pub rows-preserved : goal.rows-preserved
rows-preserved g c =
    let cells = g.T.TableRow.cells in
    let rows = c.args.rows.now in
    let i = c.rows.row-index in
    let within : i < length rows = omega arith in (
      c.put.ensures.same_reference ∙ c.rows.invariant.0,
      survives_then _ _ _ _ _ (λ _. ⊥) (λ _ db none. none) (λ _ db none. none) c.rows.invariant.1
          c.put.ensures.survives,
      λ clean inside version fits.
          let so_far = c.rows.invariant.2 (omega (arith, c.put.ensures.survives.clean)) inside version fits in
          let longer = take_more rows i c.row-item.result within
          ∙ ap (λ r. take i rows ++ r ∷ []) (sym c.row-item.is) in
          rw (ap (map cells) longer ∙ map-append cells (take i rows) (c.row-item.result ∷ []))
          (one_more g.T.Upsert.tree g.T.Upsert.key (map cells (take i rows)) (cells c.row-item.result) _ _ _ so_far
          (c.in_ok-put.ensures.put clean so_far.inside version (not_empty rows i within fits))),
    )

pub returns-clause-put : goal.returns-clause-put
returns-clause-put g c clean inside version fits =
    subst (λ l. StepsBeside version (put_each g.T.Upsert.tree g.T.Upsert.key (map g.T.TableRow.cells l))
    (state g.S.Store c.args.tx.now.conn.now) (state g.S.Store c.rows.tx.conn.now))
    (take_all c.rows.row-index c.args.rows.now (omega arith)) (c.rows.invariant.2 clean inside version fits)

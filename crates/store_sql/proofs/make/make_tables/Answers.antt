use Rattle.std.proofs.Common.{arith, ◌∙◌, inl, subst, take}
use Rattle.std.proofs.lemmas.List.{take_all}
use Rattle.std.proofs.lemmas.Option.{slice_get-get_or}
use Rattle.sqlite.specs.Held.{state}
use Rattle.sqlite.proofs.StateLemmas.{survives_then}
use Rattle.store_tables.specs.internal.Room.{MakesHere}
use Rattle.store_sql.proofs.CreateLemmas.{create_known, handed_on, never_all, progressed}
use Rattle.store_sql.proofs.make.make_tables.Goals as goal

pub tables-preserved : goal.tables-preserved
tables-preserved g c = (
  c.make.ensures.same_reference ∙ c.tables.invariant.0,
  survives_then _ _ _ _ _ (λ _. ⊥) (λ _ db none. none) (λ _ db none. none) c.tables.invariant.1
      c.make.ensures.survives,
  λ clean inside.
      let so_far = c.tables.invariant.2 (omega (arith, c.make.ensures.survives.clean)) inside in
      progressed c.args.tables.now c.tables.table-index _
      (slice_get-get_or c.args.tables.now c.tables.table-index _ c.tables-test.true) _
      c.create.ensures _ _ _ so_far (c.in_ok-make.ensures.ran clean so_far.makes.inside),
)

pub returns-in_err-make-clause-known : goal.returns-in_err-make-clause-known
returns-in_err-make-clause-known g c clean inside schema content unused bare holds =
    let so_far = c.tables.invariant.2 (omega (arith, c.make.ensures.survives.clean)) inside in
    handed_on _ _ c.from_residual.ensures.1
    (create_known c.args.tables.now c.tables.table-index _
    (slice_get-get_or c.args.tables.now c.tables.table-index _ c.tables-test.true) _
    c.create.ensures _ _ _ so_far schema content unused bare holds _
    (c.in_err-make.ensures.fails clean so_far.makes.inside))

pub returns-clause-made : goal.returns-clause-made
returns-clause-made g c clean inside =
    subst (λ l. MakesHere l (state g.S.Store c.args.tx.now.conn.now) (state g.S.Store c.tables.tx.conn.now))
    (take_all c.tables.table-index c.args.tables.now (omega arith)) (c.tables.invariant.2 clean inside).makes

pub returns-clause-refuses : goal.returns-clause-refuses
returns-clause-refuses g c clean inside first rest are stands =
    never_all c.args.tables.now c.tables.table-index _ _ (omega arith) (c.tables.invariant.2 clean inside) first rest are
    stands

use Rattle.std.proofs.Common.{arith, ap, sym, subst, take, pos, to_z-of_z, [], ◌∷◌, ◌≡◌, ◌∙◌}
use Rattle.sqlite.specs.Held.{state}
use Rattle.sqlite.specs.declared.types.Value.TheVariants.{Int}
use Rattle.store_tables.specs.Names.{in_order, tree_of}
use Rattle.store_tables.specs.declared.names.Table.TheVariants.{Meta}
use Rattle.store_tables.specs.internal.Contents.{put_in}
use Rattle.store_tables.specs.internal.Over.{StepsBeside}
use Rattle.store_tables.specs.Placed.{TakesClub, tables_of}
use Rattle.store_tables.specs.internal.Room.{AreBare, MakesHere}
use Rattle.store_tables.specs.Room.{AreUnused}
use Rattle.store_tables.proofs.Proved.{bare_from, fills, makes_all, room_takes}
use Rattle.store_sql.proofs.CommitLemmas.{has_meta, small}
use Rattle.store_sql.proofs.CreateLemmas.{first_stands, handed_on, meta_first}
use Rattle.store_sql.proofs.make.create_inside.Goals as goal

pub returns-clause-filled : goal.returns-clause-filled
returns-clause-filled g c clean inside =
    let version = c.args.version in
    let made = c.in_ok-make_tables.ensures.made (omega arith) inside in
    let all : MakesHere (tables_of version) (state g.S.Store c.args.tx.now.conn.now)
    (state g.S.Store c.make_tables.new.tx.conn.now) = rw c.table_count.ensures at made in
    let put = c.in_ok-put_meta.ensures.put clean made.inside version (has_meta version) in
    fills version _ _ _ (makes_all version _ _ all)
    (subst (λ row. StepsBeside version (put_in (tree_of Meta) (0 ∷ []) row) (state g.S.Store c.make_tables.new.tx.conn.now)
    (state g.S.Store c.put_meta.new.tx.conn.now))
    (c.opening_row-meta.ensures ∙ ap (λ n. Int (pos 1) ∷ Int n ∷ Int (pos 0) ∷ []) (to_z-of_z (small version _ c.number.ensures)
    ∙ c.number.ensures)) put)

pub returns-clause-refuses : goal.returns-clause-refuses
returns-clause-refuses g c clean inside has =
    c.in_ok-make_tables.ensures.refuses (omega arith) inside _ _
    (ap (λ n. take n in_order) c.table_count.ensures ∙ meta_first c.args.version) (first_stands _ has)

pub returns-in_err-make_tables-clause-known : goal.returns-in_err-make_tables-clause-known
returns-in_err-make_tables-clause-known g c clean inside schema them is room holds =
    let count = sym c.table_count.ensures in
    let unused = subst (λ v. AreUnused schema (tables_of v)) is room.unused in
    let bare = subst (λ v. AreBare schema them.rows (tables_of v)) is
    (bare_from (tables_of them.version) schema them.rows room.bare) in
    handed_on _ _ c.from_residual.ensures.1
    (c.in_err-make_tables.ensures.known clean inside schema them.rows
    (subst (λ n. AreUnused schema (take n in_order)) count unused)
    (subst (λ n. AreBare schema them.rows (take n in_order)) count bare) holds)

pub returns-in_err-put_meta-clause-known : goal.returns-in_err-put_meta-clause-known
returns-in_err-put_meta-clause-known g c clean inside schema them is room holds =
    let version = c.args.version in
    let made = c.in_ok-make_tables.ensures.made (omega arith) inside in
    let all : MakesHere (tables_of version) (state g.S.Store c.args.tx.now.conn.now)
    (state g.S.Store c.make_tables.new.tx.conn.now) = rw c.table_count.ensures at made in
    let there = (makes_all version _ _ all).made schema them is room holds in
    handed_on _ _ c.from_residual-in_err-put_meta.ensures.1
    (c.in_err-put_meta.ensures.known clean made.inside version
    (subst (TakesClub version) (sym there.schema)
    (subst (λ v. TakesClub v them.schema) is (room_takes schema them room _ holds))))

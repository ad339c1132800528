use Rattle.store_tables.proofs.Proved.{clean_before, rows_after, reads_on}
use Rattle.std.proofs.Common.{inl, inr}
use Rattle.std.proofs.lemmas.Result.{on_ok_weaker}
use Rattle.club_rows.specs.Club.{tables}
use Rattle.club_rows.proofs.Proved.{stores-rows}
use Rattle.club_answers.proofs.exporting.export_stored.Goals as goal

pub returns-clause-reads : goal.returns-clause-reads
returns-clause-reads g c = reads_on c.in_ok-names.ensures.reads c.export_in.ensures.reads

pub returns-clause-written : goal.returns-clause-written
returns-clause-written g c clean =
    let looked = clean_before c.export_in.ensures.reads clean in
    on_ok_weaker c.export_in.result (λ adds s id game is_club at is k. (
      game,
      at,
      c.in_ok-names.names,
      c.in_ok-names.ensures.names looked s id game is_club at is (stores-rows s _ k),
      adds s id game is_club at is (rows_after c.in_ok-names.ensures.reads looked (tables s) k),
    ))
    (c.export_in.ensures.written clean)

pub returns-clause-begun : goal.returns-clause-begun
returns-clause-begun g c clean s id game is_club at is k =
    let looked = clean_before c.export_in.ensures.reads clean in
    elim (c.export_in.ensures.begun clean s id game is_club at is
    (rows_after c.in_ok-names.ensures.reads looked (tables s) k)) [
      | inl same ↦ inl (λ i. g.W.Write.contents (same i))
      | inr begun ↦
          inr (game, at, c.in_ok-names.names, c.in_ok-names.ensures.names looked s id game is_club at is (stores-rows s _ k), begun)
    ]

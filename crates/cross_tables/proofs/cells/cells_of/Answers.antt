use Rattle.std.proofs.Common.{◌≡◌, ◌∙◌, ◌==◌, ℕ, true, false, cond, Some, List, [], ◌∷◌, refl, ap}
use Rattle.std.specs.Prelude.{◌&&◌, if◌then◌else◌, map}
use Rattle.std.specs.List.{filter}
use Rattle.cross_tables.specs.declared.sums.OpponentScore.{OpponentScore}
use Rattle.cross_tables.specs.declared.cells.Cell.TheVariants.{Oneself}
use Rattle.cross_tables.specs.Cells.{cell_of, points_cell, row_of}
use Rattle.cross_tables.proofs.cells.cells_of.Goals as goal

module _ (member other : ℕ) where
  abbrev own : List OpponentScore → List OpponentScore
  own rows = filter (λ row. row.member == member) rows

  -- a member's own rows show what all rows do
  row_of-own : (rows : List OpponentScore) → row_of (own rows) member other ≡ row_of rows member other
  row_of-own [] = refl
  row_of-own (row ∷ rows) =
      elim (row.member == member) as (λ b. (row.member == member) ≡ b
      → row_of (cond b (row ∷ own rows) (own rows)) member other ≡
      cond (b && row.opponent == other) (Some row) (row_of rows member other)) [
        | true ↦ λ e.
            ap (λ b. cond (b && row.opponent == other) (Some row) (row_of (own rows) member other)) e
            ∙ ap (λ found. cond (row.opponent == other) (Some row) found) (row_of-own rows)
        | false ↦ λ _. row_of-own rows
      ] refl

pub returns-clause-own : goal.returns-clause-own
returns-clause-own c = λ all e.
    let member = c.args.member in
    c.in_ok-cells.ensures
    ∙ ((λ i. map (λ s. cell_of (e i) member s.member) (c.as_slice.ensures i))
    ∙ (λ i. map (λ s. if member == s.member then Oneself else points_cell (row_of-own member s.member all i))
    c.args.standings.now))

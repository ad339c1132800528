-- What the rows of the rulings on a game tell, whatever was played in it.
use Rattle.std.specs.Prelude.{◌≡◌, ◌<◌, ◌≤◌, ◌^◌, ◌⊎◌, ℕ, suc, pos, List, [], length, map, Option, Some, true}
use Rattle.std.specs.Prelude.{slice_get}
use Rattle.club_requests.specs.declared.outside_end.OutsideEnd.{OutsideEnd}
use Rattle.club_requests.specs.Limits.{last_moment, most_rulings}
use Rattle.club_requests.specs.Rulings.{has_grant_time}
use Rattle.club_core.specs.Legal.{IsVerdict}
use Rattle.club_core.specs.LegalState.{Each}
use Rattle.club_core.specs.Rulings.{GivenRuling}
use Rattle.store_tables.specs.Cells.{ruling_cells}
use Rattle.store_tables.specs.declared.rows.GameTableRow.{GameTableRow}
use Rattle.store_tables.specs.declared.rows.RulingRow.{RulingRow}
use Rattle.club_rows.specs.Tables.{ruling_rows_from}

-- the later ruling can follow this one: plies and timestamps never decrease, and only verdicts at the same ply follow a
-- verdict
pub record MayFollow (r next : GivenRuling) : Type 0 where
  pub plies : r.plies ≤ next.plies
  pub moment : r.moment ≤ next.moment
  pub verdict : IsVerdict r → IsVerdict next × (next.plies ≡ r.plies)

-- rulings that are possible on some game
pub record ArePossible (rulings : List GivenRuling) : Type 0 where
  pub count : length rulings ≤ most_rulings
  pub time : Each (λ r. has_grant_time r.ruling ≡ true) rulings
  pub moments : Each (λ r. r.moment ≤ last_moment) rulings
  pub in_order : (n : ℕ) (r next : GivenRuling) → slice_get rulings n ≡ Some r → slice_get rulings (suc n) ≡ Some next
      → MayFollow r next

-- the rows are those of these rulings on the game with this id, over some end outside the rules
pub record AreRulingRows (id : ℕ) (rows : List RulingRow) (rulings : List GivenRuling) : Type 0 where
  pub outside : Option OutsideEnd
  pub rows_are : map ruling_cells rows ≡ ruling_rows_from id 1 outside rulings
  pub possible : ArePossible rulings

-- the rows are those of possible rulings on the game with this id
pub record HavePossible (stored : GameTableRow) (rows : List RulingRow) : Type 0 where
  pub id : ℕ
  pub id_is : stored.id ≡ pos id
  pub short : id < 2 ^ 32
  pub rulings : List GivenRuling
  pub are : AreRulingRows id rows rulings

-- there are no rulings, or the rows by themselves are those of possible ones
abbrev pub ArePossibleRows : GameTableRow → List RulingRow → Type 0
ArePossibleRows stored rows = (rows ≡ []) ⊎ HavePossible stored rows

-- The rulings on a game are those of its rows, and still are after other reads.
use Rattle.std.proofs.Common.{◌≡◌, ℕ, List, map, Option, ap, sym, subst, true, ◌∙◌}
use Rattle.std.specs.Prelude.{IsSome}
use Rattle.sqlite.specs.Order.{column}
use Rattle.sqlite.specs.State.{State, HasCleanDisk}
use Rattle.club_requests.specs.declared.outside_end.OutsideEnd.{OutsideEnd}
use Rattle.club_core.specs.Game.{Game}
use Rattle.club_core.specs.Rulings.{GivenRuling, verdict_of}
use Rattle.store_tables.specs.Changes.{HaveSame}
use Rattle.store_tables.specs.Contents.{Content}
use Rattle.store_tables.specs.Reading.{Reads}
use Rattle.store_tables.specs.Cells.{ruling_cells}
use Rattle.store_tables.specs.declared.rows.RulingRow.{RulingRow}
use Rattle.store_tables.proofs.Proved.{rows_after}
use Rattle.club_rows.specs.Tables.{ruling_rows_from}
use Rattle.club_rows.specs.internal.Rulings.{AreRead, rulings_given}
use Rattle.club_rows.specs.declared.rulings.GameRulings.{GameRulings}
use Rattle.club_rows.proofs.Proved.{ruling-at, rulings-told}
use Rattle.club_changes.proofs.Proved.{AreAtPlaces, one_line}
use Rattle.club_reads.specs.internal.Rulings.{FindsVerdict}

-- the rows of rulings have their numbers, from 1, in the second column
rulings_placed : (id : ℕ) (outside : Option OutsideEnd) (rulings : List GivenRuling)
    → AreAtPlaces 1 (ruling_rows_from id 1 outside rulings)
rulings_placed id outside rulings n z at =
    let (r, got, is) = ruling-at id 1 outside rulings n z at in ap (λ w. column w 1) is

-- what was read of rows that are a game's in any order are its rulings, and the end beneath its verdict
pub rulings_read : (id : ℕ) (rows : List RulingRow) (read : GameRulings) (rulings : List GivenRuling)
    (outside : Option OutsideEnd) → AreRead id rows read
    → HaveSame (map ruling_cells rows) (ruling_rows_from id 1 outside rulings)
    → (rulings_given read.given.items ≡ rulings) × (IsSome (verdict_of rulings) → read.beneath ≡ outside)
rulings_read id rows read rulings outside are same =
    let given = rulings_given read.given.items in
    let placed = subst (AreAtPlaces 1) (sym are.rows_are) (rulings_placed id read.beneath given) in
    let all = one_line 1 (map ruling_cells rows) (ruling_rows_from id 1 outside rulings) placed
    (rulings_placed id outside rulings) same in
    let told = rulings-told id 1 read.beneath outside given rulings (sym are.rows_are ∙ all) in
    (told.0, λ some. told.1 (rw told.0 some))

-- a call that only reads leaves the rows of a verdict
pub verdict_still : {M : Type 0} {id : ℕ} {content : Content} {old new : State} (game : Game M) → Reads true old new
    → HasCleanDisk new → FindsVerdict id game content old → FindsVerdict id game content new
verdict_still {content = content} game reads clean finds some =
    let it = finds some in
    record { stored = rows_after reads clean content it.stored; found = it.found; possible = it.possible }

use Rattle.std.proofs.Common.{◌≡◌, map}
use Rattle.store_tables.specs.Cells.{game_cells}
use Rattle.store_tables.specs.internal.Cells.{score_cells}
use Rattle.store_tables.specs.Changes.{HaveSame}
use Rattle.club_rows.specs.Club.{ClubState, IsClub, tables}
use Rattle.club_rows.specs.internal.Pairs.{sums_at}
use Rattle.club_changes.proofs.SweptLemmas.{IsSweptTo}
use Rattle.club_changes.proofs.swept.rows.swept_rows.Given as goal

abbrev pub invariant-loop-game : goal.invariant-loop-game
invariant-loop-game l =
    (s : ClubState) → IsClub s → map game_cells l.games ≡ tables s 10
    → HaveSame (map score_cells l.fn.scores) (tables s 14)
    → IsSweptTo s l.moment l.game-index l.ended.items l.changed.items (λ pair. sums_at l.standings pair)

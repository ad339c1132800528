use Rattle.std.proofs.Common.{◌≡◌, ◌++◌, ℕ, true, drop}
use Rattle.std.specs.Prelude.{string_bytes}
use Rattle.sqlite.specs.Held.{state}
use Rattle.sqlite.specs.State.{HasCleanDisk}
use Rattle.store_tables.specs.Reading.{Reads}
use Rattle.club_rows.specs.Club.{ClubState, IsClub, StoresClub}
use Rattle.club_rows.specs.Tables.{version_of}
use Rattle.club_answers.specs.Games.{game_summaries}
use Rattle.club_answers.specs.internal.Found.{IsReadOf}
use Rattle.club_answers.specs.internal.Rulings.{orders_in}
use Rattle.club_answers.proofs.rulings.orders_of.Given as goal

abbrev pub invariant-loop-game : goal.invariant-loop-game
invariant-loop-game g l = record {
  reads : Reads true (state g.S.Store l.fn.conn) (state g.S.Store l.conn);
  orders : HasCleanDisk (state g.S.Store l.conn) → (s : ClubState) (moment : ℕ) → IsClub s → l.version ≡ version_of s
      → StoresClub s (state g.S.Store l.fn.conn) → IsReadOf s moment l.club
      → string_bytes l.text ++ orders_in s l.bulk (drop l.game-index (game_summaries s))
      ≡ orders_in s l.bulk (game_summaries s);
}

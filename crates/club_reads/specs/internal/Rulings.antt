-- The rows of the rulings on a game, where they are needed. No promise of the program rests on these definitions.
use Rattle.std.specs.Prelude.{ℕ, List, [], ◌∷◌, IsSome, Option, Some, None}
use Rattle.sqlite.specs.Order.{Row}
use Rattle.sqlite.specs.State.{State}
use Rattle.store_tables.specs.Changes.{HaveSame}
use Rattle.store_tables.specs.Contents.{Content}
use Rattle.store_tables.specs.internal.Contents.{AreThose}
use Rattle.store_tables.specs.Names.{tree_of}
use Rattle.store_tables.specs.Over.{HasRowsIn}
use Rattle.store_tables.specs.declared.names.Table.TheVariants.{Rulings}
use Rattle.store_tables.specs.declared.names.Version.TheVariants.{V3}
use Rattle.club_requests.specs.declared.outside_end.OutsideEnd.{OutsideEnd}
use Rattle.club_core.specs.Game.{Game}
use Rattle.club_core.specs.Rulings.{GivenRuling, verdict_of}
use Rattle.club_changes.specs.declared.stored.StoredGame.{StoredGame}
use Rattle.club_rows.specs.Rulings.{ArePossible}
use Rattle.club_rows.specs.Tables.{number, ruling_rows_from}

-- The database is that of a club with an arbiter, and its rows of rulings with this id are those of these rulings, over
-- this end outside the rules.
pub record FindsRulingRows (id : ℕ) (rulings : List GivenRuling) (outside : Option OutsideEnd) (content : Content)
    (s : State) : Type 0 where
  pub stored : HasRowsIn V3 content s
  pub found : (rows : List Row) → AreThose (0 ∷ []) (number id ∷ []) (content (tree_of Rulings)) rows
      → HaveSame rows (ruling_rows_from id 1 outside rulings)
  pub possible : ArePossible rulings

-- The database is that of a club with an arbiter, and its rows of rulings with this id are this game's.
abbrev pub FindsRulings : {M : Type 0} → ℕ → Game M → Content → State → Type 0
FindsRulings id game content s = FindsRulingRows id game.rulings game.outside content s

-- the same if there is a verdict on the game
abbrev pub FindsVerdict : {M : Type 0} → ℕ → Game M → Content → State → Type 0
FindsVerdict id game content s = IsSome (verdict_of game.rulings) → FindsRulings id game content s

-- the same for a stored game that may be there
abbrev pub FindsVerdictUnder : {M : Type 0} → Option (Game M) → Option StoredGame → Content → State → Type 0
FindsVerdictUnder (Some game) (Some stored) content s = FindsVerdict stored.id game content s
FindsVerdictUnder (Some game) None content s = Unit {0}
FindsVerdictUnder None stored content s = Unit {0}

-- What calls tell together.
use Rattle.std.proofs.Common.{◌≡◌, ℕ, Bool, true}
use Rattle.std.specs.Prelude.{Option, Some, Result, Ok, Err, IfOk}
use Rattle.sqlite.specs.State.{State, HasCleanDisk}
use Rattle.store_tables.specs.Over.{HasRowsIn}
use Rattle.store_tables.specs.internal.Over.{HasRows}
use Rattle.store_tables.specs.declared.names.Version.{Version}
use Rattle.store_tables.specs.Reading.{Reads}
use Rattle.store_tables.proofs.Proved.{clean_before, rows_after, reads_on}
use Rattle.club_core.specs.State.{place}
use Rattle.club_rows.specs.Club.{ClubGame, ClubState, IsClub, StoresClub, tables}
use Rattle.club_rows.proofs.Proved.{stores-rows}
use Rattle.club_changes.specs.internal.Stored.{IsFoundGame, IsStoredGame}
use Rattle.club_changes.specs.declared.stored.StoredGame.{StoredGame}

-- between two calls that only read the disk was in no doubt, and it had the rows
pub between : {answered : Bool} {version : Version} {a b c : State} (s : ClubState) → Reads true a b
    → Reads answered b c → HasCleanDisk c → HasRowsIn version (tables s) a
    → HasCleanDisk b × HasRowsIn version (tables s) b
between s one two clean k = let first = clean_before two clean in (first, rows_after one first (tables s) k)

-- the same between three
pub between_three : {answered : Bool} {version : Version} {a b c d : State} (s : ClubState) → Reads true a b
    → Reads true b c → Reads answered c d → HasCleanDisk d → HasRowsIn version (tables s) a
    → HasCleanDisk b × HasRowsIn version (tables s) b × HasCleanDisk c × HasRowsIn version (tables s) c
between_three s one two three clean k =
    let (first, kept) = between s one (reads_on two three) clean k in
    let (second, more) = between s two three clean kept in
    (first, kept, second, more)

-- a call finds the game with this number, and the next call tells P of each game that is stored so
pub tells_stored : {answered : Bool} {a b c : State} {found : Option StoredGame} {stored : StoredGame}
    {P : ClubGame → Type 0} (s : ClubState) (id : ℕ) → Reads true a b → Reads answered b c
    → (HasCleanDisk b → (s : ClubState) → IsClub s → HasRows (tables s) a → IsFoundGame s id found)
    → found ≡ Some stored → HasCleanDisk c → IsClub s → StoresClub s a
    → ((game : ClubGame) → place s.games id ≡ Some game → IsStoredGame s id game stored → StoresClub s b → P game)
    → (game : ClubGame) × (place s.games id ≡ Some game) × P game
tells_stored s id one two finds is clean is_club k tells =
    let (looked, kept) = between s one two clean k in
    let (game, at, stored) = rw is at (finds looked s is_club (stores-rows s _ k)) in
    (game, at, tells game at stored kept)

-- what two facts of an answer tell
pub both_ok : {T E : Type 0} {P Q R : T → Type 0} (r : Result T E) → IfOk r P → IfOk r Q → ((x : T) → P x → Q x → R x)
    → IfOk r R
both_ok (Ok x) p q f = f x p q
both_ok (Err e) p q f = tt

-- The rulings on a game as the code reads them from their rows. No promise of the program rests on these definitions.
use Rattle.std.specs.Prelude.{◌≡◌, ◌+◌, ◌-◌, ◌≤◌, ℕ, ℤ, pos, List, [], ◌∷◌, ◌++◌, map, length, Option, Some, None}
use Rattle.std.specs.Prelude.{IfSome}
use Rattle.std.specs.Prelude.{IsSome, Bool, true, ◌||◌, codes, slice_get, string_bytes}
use Rattle.std.specs.Option.{option_map}
use Rattle.std.specs.Str.{bytes_eq}
use Rattle.squares.specs.declared.sides.Score.{Score}
use Rattle.squares.specs.declared.sides.Side.{Side}
use Rattle.squares.specs.Sides.{score_text}
use Rattle.club_requests.specs.declared.outside_end.OutsideEnd.{OutsideEnd}
use Rattle.club_requests.specs.declared.rulings.Ruling.{Ruling}
use Rattle.club_requests.specs.declared.rulings.Verdict.{Verdict}
use Rattle.club_requests.specs.Limits.{last_moment}
use Rattle.club_requests.specs.OutsideEnd.{outside_score, outside_text}
use Rattle.club_requests.specs.Rulings.{has_grant_time, verdict_in}
use Rattle.club_core.specs.Game.{Game, side_after}
use Rattle.club_core.specs.Legal.{IsVerdict}
use Rattle.club_core.specs.Rulings.{GivenRuling, first_verdict, later_verdict, verdict_of, verdict_or}
use Rattle.store_tables.specs.Cells.{ruling_cells}
use Rattle.store_tables.specs.declared.rows.RulingRow.{RulingRow}
use Rattle.club_rows.specs.Rulings.{ArePossible, MayFollow}
use Rattle.club_rows.specs.Tables.{awarded_score, granted_seconds, ruling_number, ruling_rows_from}
use Rattle.club_rows.specs.declared.rulings.GameRulings.{GameRulings}
use Rattle.club_core.specs.declared.rulings.GivenRuling as read

-- ---- one row

-- a ruling that was read
abbrev pub given_of : read.GivenRuling → GivenRuling
given_of r = record { ruling = r.ruling; moment = r.moment; plies = r.plies }

-- the rulings that were read
abbrev pub rulings_given : List read.GivenRuling → List GivenRuling
rulings_given rulings = map given_of rulings

-- the name is that of a verdict
abbrev pub is_verdict_name : List ℕ → Bool
is_verdict_name name = bytes_eq name (codes "Awarded") || bytes_eq name (codes "Void")

-- the ruling has this number of its kind, these seconds and this score
pub record IsRulingWith (kind : ℤ) (seconds : ℕ) (score : Option Score) (ruling : Ruling) : Type 0 where
  pub kind_is : kind ≡ pos (ruling_number ruling)
  pub seconds_is : seconds ≡ granted_seconds ruling
  pub score_is : score ≡ awarded_score ruling

-- the columns `kind`, `seconds` and `result` are those of this ruling
pub record IsRulingIn (row : RulingRow) (ruling : Ruling) : Type 0 where
  pub kind_is : row.kind ≡ pos (ruling_number ruling)
  pub seconds_is : row.seconds ≡ pos (granted_seconds ruling)
  pub score_is : option_map (λ s. string_bytes s) row.result ≡ option_map score_text (awarded_score ruling)

-- the columns `beneath` and `beneath_result` are those of this end outside the rules, with this side to move
pub record IsBeneathIn (row : RulingRow) (turn : Side) (outside : Option OutsideEnd) : Type 0 where
  pub name_is : option_map (λ s. string_bytes s) row.beneath ≡ option_map outside_text outside
  pub score_is : option_map (λ s. string_bytes s) row.beneath_result
      ≡ option_map (λ end. score_text (outside_score end turn)) outside

-- the columns of this ruling
pub record HasGiven (row : RulingRow) (r : GivenRuling) : Type 0 where
  pub moment_is : row.moment ≡ pos r.moment
  pub plies_is : row.ply ≡ pos r.plies
  pub ruling_is : IsRulingIn row r.ruling

-- ---- the rulings on a game

-- the ruling can follow the last one of these
abbrev pub MayFollowAll : List GivenRuling → GivenRuling → Type 0
MayFollowAll rulings later =
    (earlier : GivenRuling) → slice_get rulings (length rulings - 1) ≡ Some earlier → MayFollow earlier later

-- an end outside the rules is only beneath the first verdict
abbrev pub IsFirstOver : {A : Type 0} → Option A → GivenRuling → Option OutsideEnd → Type 0
IsFirstOver first r over = IsSome over → (first ≡ None) × IsVerdict r

-- the ruling can be given after these, over this end
pub record MayComeNext {A : Type 0} (rulings : List GivenRuling) (first : Option A) (r : GivenRuling)
    (over : Option OutsideEnd) : Type 0 where
  pub time : has_grant_time r.ruling ≡ true
  pub follows : MayFollowAll rulings r
  pub over_first : IsFirstOver first r over

-- the row is that of the ruling that follows these, over this end
pub record IsNextRuling {A : Type 0} (game : ℕ) (rulings : List GivenRuling) (first : Option A) (row : RulingRow)
    (r : GivenRuling) (over : Option OutsideEnd) : Type 0 where
  pub game_is : row.game ≡ pos game
  pub number_is : row.number ≡ pos (length rulings + 1)
  pub given : HasGiven row r
  pub beneath : IsBeneathIn row (side_after r.plies) over
  pub moment : r.moment ≤ last_moment
  pub may_come : MayComeNext rulings first r over

-- the first of two values, if there is any
abbrev pub earlier : {A : Type 0} → Option A → Option A → Option A
earlier None other = other
earlier (Some x) other = Some x

-- the rulings that were read, with one more over this end
pub record Adds (old : GameRulings) (r : GivenRuling) (over : Option OutsideEnd) (new : GameRulings) : Type 0 where
  pub given : rulings_given new.given.items ≡ rulings_given old.given.items ++ r ∷ []
  pub verdict : new.verdict ≡ later_verdict old.verdict (verdict_in r.ruling)
  pub first : option_map given_of new.first ≡ earlier (option_map given_of old.first)
      (verdict_or (verdict_in r.ruling) r None)
  pub beneath : new.beneath ≡ earlier over old.beneath

-- these are the rulings in the rows
pub record AreRead (game : ℕ) (rows : List RulingRow) (read : GameRulings) : Type 0 where
  pub rows_are : map ruling_cells rows ≡ ruling_rows_from game 1 read.beneath (rulings_given read.given.items)
  pub possible : ArePossible (rulings_given read.given.items)
  pub verdict_is : read.verdict ≡ verdict_of (rulings_given read.given.items)
  pub first_is : option_map given_of read.first ≡ first_verdict (rulings_given read.given.items)
  pub beneath_alone : read.verdict ≡ None → read.beneath ≡ None

-- the end outside the rules beneath a verdict on the game, if there is a verdict
abbrev pub IsBeneath : {M : Type 0} → Game M → Option OutsideEnd → Type 0
IsBeneath game beneath = IsSome (verdict_of game.rulings) → beneath ≡ game.outside

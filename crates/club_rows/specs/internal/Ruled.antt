-- Whether rulings are legal in a replayed game. No promise of the program rests on these definitions.
use Rattle.std.specs.Prelude.{ℕ, zero, suc, ℤ, pos, ◌+◌, ◌==◌, ◌&&◌, ◌||◌, Bool, true, false, not, List, length, Option}
use Rattle.std.specs.Prelude.{Some, None, is_some, nat_le, nat_lt, int_le, codes, slice_get, if◌then◌else◌}
use Rattle.std.specs.List.{list_all}
use Rattle.std.specs.Str.{bytes_eq}
use Rattle.club_rules.specs.GameRules.{GameRules}
use Rattle.club_requests.specs.declared.outside_end.OutsideEnd.{OutsideEnd}
use Rattle.club_requests.specs.declared.outside_end.OutsideEnd.TheVariants.{Time, Recorded}
use Rattle.club_requests.specs.Rulings.{verdict_in}
use Rattle.club_core.specs.Rulings.{GivenRuling}
use Rattle.std.specs.Option.{option_map}
use Rattle.store_tables.specs.declared.rows.MoveRow.{MoveRow}
use Rattle.club_rows.specs.internal.Replay.{left_in}
use Rattle.club_rows.specs.internal.Rulings.{given_of}
use Rattle.club_rows.specs.declared.replay.Replayed.{Replayed}
use Rattle.club_rows.specs.declared.rulings.GameRulings.{GameRulings}

-- the timestamp of a row that was looked up, or this one
abbrev pub moment_or : ℕ → Option MoveRow → ℤ
moment_or start None = pos start
moment_or start (Some row) = row.moment

-- the timestamp of the last of this many plies, or of the start
abbrev pub moment_in : ℕ → List MoveRow → ℕ → ℤ
moment_in start moves zero = pos start
moment_in start moves (suc n) = moment_or start (slice_get moves n)

-- the timestamp is not after that of the row, if there is one
abbrev pub is_before : ℕ → Option MoveRow → Bool
is_before moment None = true
is_before moment (Some row) = int_le (pos moment) row.moment

-- the timestamp lies between the last of this many plies and the next one
abbrev pub is_between : ℕ → List MoveRow → ℕ → ℕ → Bool
is_between start moves plies moment =
    int_le (moment_in start moves plies) (pos moment) && is_before moment (slice_get moves plies)

-- a verdict stands after the last move; a game with the score of an imported record has nothing else
abbrev pub may_end : Bool → Bool → Bool → Bool
may_end verdict last recorded = if verdict then last else not recorded

-- the ruling is legal beside these moves
abbrev pub may_be_given : ℕ → List MoveRow → (ruled recorded : Bool) → GivenRuling → Bool
may_be_given start moves ruled recorded r =
    nat_le r.plies (length moves)
    && not (ruled && r.plies == length moves)
    && may_end (is_some (verdict_in r.ruling)) (r.plies == length moves) recorded
    && is_between start moves r.plies r.moment

-- the end is named as that of an imported record
abbrev pub names_record : Option (List ℕ) → Bool
names_record None = false
names_record (Some name) = bytes_eq name (codes "Recorded")

-- the score of the game is that of an imported record, beneath its verdict or by the name of its end
abbrev pub is_recorded : Option OutsideEnd → (judged ruled : Bool) → Option (List ℕ) → Bool
is_recorded (Some (Recorded score)) judged ruled end = true
is_recorded (Some _) judged ruled end = false
is_recorded None judged ruled end = not judged && not ruled && names_record end

-- the first verdict came after this deadline
abbrev pub is_later : ℕ → Option GivenRuling → Bool
is_later deadline None = true
is_later deadline (Some first) = nat_lt deadline first.moment

-- the first verdict over a loss on time came after the deadline
abbrev pub is_after_loss : Option OutsideEnd → Option GivenRuling → ℕ → Bool
is_after_loss (Some Time) first deadline = is_later deadline first
is_after_loss _ first deadline = true

-- the rulings are legal in the replayed game with this name of its end
abbrev pub are_legal : {R P M E T : Type 0} → GameRules P M E T → GameRulings → Replayed R P M E T → ℕ → List MoveRow
    → Option (List ℕ) → Bool
are_legal rules read game start moves end =
    let ruled = is_some (rules.judge rules.start game.line.items) in
    list_all
    (λ r. may_be_given start moves ruled (is_recorded read.beneath (is_some read.verdict) ruled end) (given_of r))
    read.given.items
    && is_after_loss read.beneath (option_map given_of read.first)
    (game.since + left_in game (rules.turn game.position))

-- The rows of the tables of a club begin with their places.
use Rattle.std.proofs.Common.{◌≡◌, ℕ, zero, suc, ◌+◌, List}
use Rattle.std.proofs.Common.{refl, ap, ◌∙◌, arith}
use Rattle.sqlite.specs.Order.{Row, column}
use Rattle.club_core.specs.Members.{Member}
use Rattle.club_core.specs.Events.{Event}
use Rattle.club_rows.specs.Tables.{number, numbered_from, member_row, event_row, rule_row}
use Rattle.store_sql.specs.internal.Read.{BeginWithPlaces}
use Rattle.club_rows.specs.Club.{both_games, ClubState, tables}
use Rattle.club_changes.specs.internal.Steps.{game_in}
use Rattle.club_changes.proofs.Proved.{numbered_places, first_of_game}

pub begins : {A : Type 0} (row : ℕ → A → Row) (first : (id : ℕ) (x : A) → column (row id x) 0 ≡ number id) (xs : List A)
    → BeginWithPlaces (numbered_from row 1 xs)
begins row first xs k within =
    let same : 1 + k ≡ k + 1 = omega arith in
    numbered_places row first 1 xs k within ∙ ap number same

pub members_begin : (xs : List Member) → BeginWithPlaces (numbered_from member_row 1 xs)
members_begin xs = begins member_row (λ id x. refl) xs

pub events_begin : (xs : List Event) → BeginWithPlaces (numbered_from event_row 1 xs)
events_begin xs = begins event_row (λ id x. refl) xs

pub rules_begin : (xs : List Event) → BeginWithPlaces (numbered_from rule_row 1 xs)
rules_begin xs = begins rule_row (λ id x. refl) xs

pub games_begin : (s : ClubState) → BeginWithPlaces (tables s 10)
games_begin s = begins (game_in s) (first_of_game both_games s.events) s.games

pub meta_begins : (s : ClubState) → BeginWithPlaces (tables s 0)
meta_begins s zero within = refl
meta_begins s (suc k) within = absurd (omega arith)

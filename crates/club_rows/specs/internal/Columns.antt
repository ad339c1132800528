-- The typed columns of a game's row: their row, and their legal values. No promise of the program rests on these
-- definitions.
use Rattle.std.specs.Prelude.{◌≡◌, ◌≢◌, ◌≤◌, ◌<◌, ◌^◌, ℕ, pos, List, [], ◌∷◌, length, Option, Some, None, IfSome}
use Rattle.std.specs.Prelude.{IsSome}
use Rattle.std.specs.Prelude.{string_bytes}
use Rattle.std.specs.Option.{option_map}
use Rattle.sqlite_value.specs.declared.value.Value.TheVariants.{Text}
use Rattle.sqlite.specs.Values.{or_null}
use Rattle.sqlite.specs.Order.{Row}
use Rattle.squares.specs.declared.sides.Score.{Score}
use Rattle.squares.specs.Sides.{score_text}
use Rattle.club_rules.specs.GameRules.{GameRules}
use Rattle.club_rules.specs.Line.{line_numbers}
use Rattle.club_requests.specs.declared.outside_end.OutsideEnd.{OutsideEnd}
use Rattle.club_requests.specs.declared.outside_end.OutsideEnd.TheVariants.{Recorded}
use Rattle.club_requests.specs.Limits.{last_moment, most_plies}
use Rattle.club_requests.specs.OutsideEnd.{outside_text}
use Rattle.club_requests.specs.declared.rulings.Verdict.{Verdict}
use Rattle.club_requests.specs.Rulings.{verdict_score, verdict_text}
use Rattle.club_core.specs.declared.rows.GameRow.{GameRow}
use Rattle.club_core.specs.declared.rows.Offer.{Offer}
use Rattle.club_core.specs.Events.{Terms}
use Rattle.club_core.specs.Game.{Entry, Game, clocks_of, moves_of, last_position, end_of, result_of}
use Rattle.club_core.specs.Rulings.{GivenRuling}
use Rattle.club_core.specs.View.{CanGrow}
use Rattle.store_tables.specs.declared.rows.GameTableRow.{GameTableRow}
use Rattle.club_rows.specs.Tables.{number, side_number, end_name_text}
use Rattle.club_rows.specs.declared.columns.GameColumns.{GameColumns}

-- the typed columns of a game's row
pub record Columns : Type 0 where
  pub id : ℕ
  pub key : Option (List ℕ)
  pub event : ℕ
  pub first : ℕ
  pub second : ℕ
  pub start : ℕ
  pub since : ℕ
  pub plies : ℕ
  pub left_first : ℕ
  pub left_second : ℕ
  pub offer : Option Offer
  pub end : Option (List ℕ)
  pub result : Option Score
  pub position : List ℕ
  pub track : ℕ × ℕ

-- the row with these columns
abbrev pub stored_cells : Columns → Row
stored_cells c =
    number c.id
    ∷ or_null Text c.key
    ∷ number c.event
    ∷ number c.first
    ∷ number c.second
    ∷ number c.start
    ∷ number c.since
    ∷ number c.plies
    ∷ number c.left_first
    ∷ number c.left_second
    ∷ or_null (λ o. number (side_number o.side)) c.offer
    ∷ or_null (λ o. number o.ply) c.offer
    ∷ or_null Text c.end
    ∷ or_null (λ score. Text (score_text score)) c.result
    ∷ Text c.position
    ∷ number c.track.0
    ∷ number c.track.1
    ∷ []

-- columns within their ranges
pub record AreColumns (c : Columns) : Type 0 where
  pub id : c.id < 2 ^ 32
  pub event : c.event < 2 ^ 32
  pub first : c.first < 2 ^ 32
  pub second : c.second < 2 ^ 32
  pub start : c.start ≤ last_moment
  pub since : c.since ≤ last_moment
  pub plies : c.plies ≤ most_plies
  pub left_first : c.left_first < 2 ^ 63
  pub left_second : c.left_second < 2 ^ 63
  pub offer : IfSome c.offer (λ o. o.ply < 2 ^ 32)
  pub track : CanGrow c.track

-- the columns of a converted row
abbrev pub columns_in : GameColumns → Columns
columns_in told =
    record {
      id = told.id;
      key = option_map (λ text. text.now) told.key;
      event = told.event;
      first = told.first;
      second = told.second;
      start = told.start;
      since = told.since;
      plies = told.plies;
      left_first = told.left_first;
      left_second = told.left_second;
      offer = told.offer;
      end = option_map (λ text. text.now) told.end;
      result = told.result;
      position = told.position.now;
      track = told.track;
    }

-- A row is converted to its columns; None only if some value is out of range.
abbrev pub IsReadAs : Row → Option GameColumns → Type 0
IsReadAs row (Some told) = (row ≡ stored_cells (columns_in told)) × AreColumns (columns_in told)
IsReadAs row None = (c : Columns) → AreColumns c → ¬ (row ≡ stored_cells c)

-- the row has this offer, or none
abbrev pub HasOffer : GameTableRow → Option Offer → Type 0
HasOffer stored offer =
    (stored.offer_side ≡ option_map (λ o. pos (side_number o.side)) offer)
    × (stored.offer_ply ≡ option_map (λ o. pos o.ply) offer)

-- the columns of a game's row
abbrev pub columns_of : {P M E T : Type 0} → GameRules P M E T → Terms → ℕ → Game M → Columns
columns_of rules terms id game =
    record {
      id = id;
      key = game.key;
      event = game.event;
      first = game.first;
      second = game.second;
      start = game.start;
      since = (clocks_of game terms).since;
      plies = length game.entries;
      left_first = (clocks_of game terms).left_first;
      left_second = (clocks_of game terms).left_second;
      offer = game.offer;
      end = option_map (end_name_text rules) (end_of rules game);
      result = result_of rules game;
      position = rules.write_position (last_position rules game);
      track = line_numbers rules (moves_of game);
    }

-- the columns of a row of the game logic
abbrev pub columns_for : {P M E T : Type 0} → GameRules P M E T → ℕ → GameRow E → Columns
columns_for rules id row =
    record {
      id = id;
      key = option_map (λ s. string_bytes s) row.key;
      event = row.event;
      first = row.first;
      second = row.second;
      start = row.start;
      since = row.since;
      plies = row.plies;
      left_first = row.left_first;
      left_second = row.left_second;
      offer = row.offer;
      end = option_map (end_name_text rules) row.end;
      result = row.result;
      position = string_bytes row.position;
      track = row.track;
    }

-- the columns have the values that follow from the moves
pub record HasReplayed {P M E T : Type 0} (rules : GameRules P M E T) (row : GameRow E) (c : Columns) : Type 0 where
  pub since : c.since ≡ row.since
  pub plies : c.plies ≡ row.plies
  pub left_first : c.left_first ≡ row.left_first
  pub left_second : c.left_second ≡ row.left_second
  pub track_first : c.track.0 ≡ row.track.0
  pub track_second : c.track.1 ≡ row.track.1
  pub end : c.end ≡ option_map (end_name_text rules) row.end
  pub result : c.result ≡ row.result
  pub position : c.position ≡ string_bytes row.position

-- the end that the columns name, if the rules do not decide it
abbrev pub IsNamedIn : Columns → Option OutsideEnd → Type 0
IsNamedIn c outside =
    (end : Option OutsideEnd) → c.end ≡ option_map outside_text end
    → ((s : Score) → end ≡ Some (Recorded s) → c.result ≡ Some s) → outside ≡ end

-- the verdict that the columns name, if the rules have not ended the game
abbrev pub IsVerdictIn : Columns → Option Verdict → Type 0
IsVerdictIn c verdict =
    (v : Option Verdict) → ((given : Verdict) → v ≡ Some given → (c.end ≡ Some (verdict_text given))
    × (c.result ≡ verdict_score given))
    → (v ≡ None → (given : Verdict) → c.end ≢ Some (verdict_text given)) → verdict ≡ v

-- The end outside the rules: the one beneath the verdict if there is a verdict, else the one that the columns name if
-- the rules have not ended the game.
pub record IsOutsideIn {E : Type 0} (c : Columns) (ruled : Option E) (verdict : Option Verdict)
    (beneath outside : Option OutsideEnd) : Type 0 where
  pub judged : IsSome verdict → outside ≡ beneath
  pub alone : verdict ≡ None → IsSome outside → ruled ≡ None
  pub named : verdict ≡ None → ruled ≡ None → IsNamedIn c outside

-- the game with these entries and rulings, and the values of the columns
abbrev pub game_in : {M : Type 0} → Columns → Option OutsideEnd → List GivenRuling → List (Entry M) → Game M
game_in c outside rulings entries =
    record {
      key = c.key;
      event = c.event;
      first = c.first;
      second = c.second;
      start = c.start;
      entries = entries;
      offer = c.offer;
      outside = outside;
      rulings = rulings;
    }

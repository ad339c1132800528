-- Whether the row of a game is possible. No promise of the program rests on these definitions.
use Rattle.std.specs.Prelude.{◌+◌, ◌==◌, ◌&&◌, ℕ, List, Option, Some, None, Bool, true, not}
use Rattle.std.specs.Prelude.{is_some, string_bytes}
use Rattle.std.specs.Option.{option_map}
use Rattle.club_core.specs.declared.rows.GameRow.{GameRow}
use Rattle.club_core.specs.declared.rows.GameView.{GameView}
use Rattle.club_core.specs.declared.rows.Offer.{Offer}
use Rattle.club_requests.specs.declared.outside_end.OutsideEnd.{OutsideEnd}
use Rattle.club_requests.specs.internal.OutsideEnd.{outside_allowed}
use Rattle.club_requests.specs.Limits.{is_name}
use Rattle.club_core.specs.internal.View.{rule_in}
use Rattle.club_rules.specs.GameRules.{GameRules}

abbrev pub may_have_key : Option (List ℕ) → Bool
may_have_key None = true
may_have_key (Some key) = is_name key

-- an offer is for the next ply, if the rules have draw offers and have not ended the game
abbrev pub may_have_offer : Bool → ℕ → Bool → Option Offer → Bool
may_have_offer allowed plies ended None = true
may_have_offer allowed plies ended (Some offer) = allowed && not ended && offer.ply == plies + 1

-- An end outside the rules must be allowed: a record needs a key, no offer, and all moves at the start.
abbrev pub may_have_end : Bool → Bool → Bool → ℕ → ℕ → Option OutsideEnd → Bool
may_have_end key offer declares start since None = true
may_have_end key offer declares start since (Some end) =
    outside_allowed offer declares (key && not offer && since == start) end

-- the event allows declarations, and the side to move may declare a win
abbrev pub may_declare : {R P M E T : Type 0} → GameRules P M E T → GameView R P M E T → Bool
may_declare rules view = view.declares && rules.can_declare view.position

abbrev pub may_stand : {E : Type 0} → Bool → Bool → GameRow E → Bool
may_stand allowed declares row =
    may_have_key (option_map (λ s. string_bytes s) row.key)
    && not (row.first == row.second)
    && may_have_offer allowed row.plies (is_some (rule_in row.end)) row.offer
    && may_have_end (is_some row.key) (is_some row.offer) declares row.start row.since row.outside

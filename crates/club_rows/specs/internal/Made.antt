-- The row of a move that was just played, and that of a ruling that was just given. No promise of the program rests on
-- these definitions.
use Rattle.std.specs.Prelude.{◌≡◌, ◌+◌, ◌++◌, [], ◌∷◌, ℕ, length}
use Rattle.sqlite_value.specs.declared.value.Value.TheVariants.{Text}
use Rattle.sqlite.specs.Order.{Row}
use Rattle.club_rules.specs.GameRules.{GameRules}
use Rattle.club_rules.specs.Line.{IsLegalLine}
use Rattle.club_core.specs.Events.{Terms}
use Rattle.club_core.specs.Game.{Game, moves_of}
use Rattle.club_requests.specs.declared.rulings.Ruling.{Ruling}
use Rattle.club_requests.specs.Rulings.{verdict_in}
use Rattle.club_requests.specs.Outcome.{MoveReply, moved}
use Rattle.club_core.specs.Rulings.{verdict_of}
use Rattle.club_core.specs.Step.{played, reply_of_move, ruled}
use Rattle.club_rows.specs.Tables.{kept_by, number, move_rows, replaced_by, ruling_row, ruling_rows}

-- the row of a move with this reply and timestamp
abbrev pub made_row : ℕ → MoveReply → ℕ → Row
made_row id reply moment = number id ∷ number reply.ply ∷ Text reply.text ∷ number moment ∷ number reply.left
    ∷ Text reply.position ∷ []

-- a move that is played appends the row of its reply to the game's rows
abbrev pub MadeRowIsLast : {P M E T : Type 0} → GameRules P M E T → Type 0
MadeRowIsLast {P} {M} {E} {T} rules =
    (terms : Terms) (id : ℕ) (game : Game M) (m : M) (moment : ℕ) (reply : MoveReply)
    → IsLegalLine rules rules.start (moves_of game)
    → reply_of_move rules terms (played game m moment) (length game.entries + 1) m ≡ moved reply
    → move_rows rules terms id (played game m moment) ≡ move_rows rules terms id game ++ made_row id reply moment ∷ []

-- A ruling appends one row to those of the game's rulings, and leaves the rows of its moves. As the first verdict it
-- has the end outside the rules beneath it.
abbrev pub RulingRowIsLast : {P M E T : Type 0} → GameRules P M E T → Type 0
RulingRowIsLast {P} {M} {E} {T} rules =
    (terms : Terms) (id : ℕ) (game : Game M) (ruling : Ruling) (moment : ℕ)
    → (ruling_rows id (ruled game ruling moment)
    ≡ ruling_rows id game
    ++ ruling_row id (length game.rulings + 1)
    (record { ruling = ruling; moment = moment; plies = length game.entries })
    (replaced_by (verdict_in ruling) (kept_by (verdict_of game.rulings) game.outside))
    ∷ [])
    × (move_rows rules terms id (ruled game ruling moment) ≡ move_rows rules terms id game)

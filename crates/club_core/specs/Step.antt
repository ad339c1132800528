-- The transition of a command on one game: accepted, repeated, or the first refusal that applies.
use Rattle.std.specs.Prelude.{ℕ, zero, suc, ◌+◌, ◌-◌, List, [], ◌∷◌, ◌++◌, length, Option, Some, None, Result, Ok, Err}
use Rattle.std.specs.Prelude.{Bool, true, false, not, ◌&&◌, ◌||◌, is_some, nat_lt, nat_le, ◌==◌, if◌then◌else◌}
use Rattle.std.specs.Prelude.{slice_get}
use Rattle.std.specs.Option.{option_map}
use Rattle.squares.specs.declared.sides.Side.{Side}
use Rattle.squares.specs.declared.sides.Side.TheVariants.{First, Second}
use Rattle.squares.specs.Sides.{same_side, same_score, other}
use Rattle.club_rules.specs.declared.refusals.MoveRefusal.{MoveRefusal}
use Rattle.club_rules.specs.GameRules.{GameRules}
use Rattle.club_requests.specs.declared.requests.Caller.{Caller}
use Rattle.club_requests.specs.declared.requests.Caller.TheVariants.{Officer, Member}
use Rattle.club_requests.specs.declared.outside_end.OutsideEnd.{OutsideEnd}
use Rattle.club_requests.specs.declared.outside_end.OutsideEnd.TheVariants.{Resigned, Agreed, Time, Declared, Recorded}
use Rattle.club_core.specs.declared.rows.Offer.{Offer}
use Rattle.club_requests.specs.declared.refusals.Refusal.{Refusal}
use Rattle.club_requests.specs.declared.refusals.Refusal.TheVariants.{NotAllowed, UnknownGame, NotAPlayer}
use Rattle.club_requests.specs.declared.refusals.Refusal.TheVariants.{NotInThisGame}
use Rattle.club_requests.specs.declared.refusals.Refusal.TheVariants.{GameOver, WrongPly, Conflict, NotYourTurn}
use Rattle.club_requests.specs.declared.refusals.Refusal.TheVariants.{OutOfTime}
use Rattle.club_requests.specs.declared.refusals.Refusal.TheVariants.{TimeLeft, NoOffer, BadValue, Full, NotDeclarable}
use Rattle.club_requests.specs.declared.refusals.Refusal.TheVariants.{Play}
use Rattle.club_requests.specs.declared.rulings.Ruling.{Ruling}
use Rattle.club_requests.specs.Limits.{most_text_bytes, most_rulings}
use Rattle.club_requests.specs.Rulings.{has_grant_time, is_grant}
use Rattle.club_core.specs.Events.{Terms}
use Rattle.club_requests.specs.Outcome.{Reply, moved, draw_offered, game_ended, ruling_given, Outcome, accepted}
use Rattle.club_requests.specs.Outcome.{refused}
use Rattle.club_requests.specs.Outcome.{first_refusal}
use Rattle.club_requests.specs.Outcome.{unless, unless_repeat}
use Rattle.club_requests.specs.OutsideEnd.{outside_score}
use Rattle.club_core.specs.Rulings.{is_given, ruling_under}
use Rattle.club_core.specs.Game.{Game, left_of, side_after, moves_of, clocks_of, clocks_then, last_position, rule_end}
use Rattle.club_core.specs.Game.{turn_of, end_of, game_at}

-- a command on a game, with its text as bytes
pub data GameCommand : Type 0 where
  move : (ply : ℕ) → (text : List ℕ) → GameCommand
  offer_draw : (ply : ℕ) → GameCommand
  accept_draw : (ply : ℕ) → GameCommand
  resign : GameCommand
  claim_time : GameCommand
  declare : (ply : ℕ) → GameCommand

-- the officer may only play moves
abbrev pub may_give : Caller → GameCommand → Bool
may_give (Member id) command = true
may_give Officer (move ply text) = true
may_give Officer (offer_draw ply) = false
may_give Officer (accept_draw ply) = false
may_give Officer resign = false
may_give Officer claim_time = false
may_give Officer (declare ply) = false

-- the refusal of a command on a game that does not exist
abbrev pub no_game_refusal : Caller → GameCommand → Refusal
no_game_refusal who command = if may_give who command then UnknownGame else NotAllowed

-- the ply of the move that a command names, or 0
abbrev pub asked_ply : GameCommand → ℕ
asked_ply (move ply text) = ply
asked_ply (offer_draw ply) = 0
asked_ply (accept_draw ply) = 0
asked_ply resign = 0
asked_ply claim_time = 0
asked_ply (declare ply) = 0

-- this side has made a draw offer at this ply
abbrev pub has_offer : Option Offer → Side → ℕ → Bool
has_offer None side ply = false
has_offer (Some offer) side ply = same_side offer.side side && offer.ply == ply

-- the reply if this is the current draw offer again
abbrev pub repeat_of_offer : Option Offer → Side → ℕ → Option Reply
repeat_of_offer offer side ply = if has_offer offer side ply then Some (draw_offered ply) else None

-- the game ended for this outside reason
abbrev pub is_ended_by : OutsideEnd → Option OutsideEnd → Bool
is_ended_by Resigned (Some Resigned) = true
is_ended_by Agreed (Some Agreed) = true
is_ended_by Time (Some Time) = true
is_ended_by Declared (Some Declared) = true
is_ended_by (Recorded score) (Some (Recorded other)) = same_score score other
is_ended_by _ _ = false

-- the side that a member plays
abbrev pub side_of_member : ℕ → ℕ → ℕ → Option Side
side_of_member first second id = if id == first then Some First else (if id == second then Some Second else None)

-- the side for which a caller gives a command; the officer plays for the side whose turn the ply is
abbrev pub caller_side : ℕ → ℕ → Caller → ℕ → Option Side
caller_side first second Officer ply = Some (side_after (ply - 1))
caller_side first second (Member id) ply = side_of_member first second id

-- the game after one more move
abbrev pub played : {M : Type 0} → Game M → M → ℕ → Game M
played game m moment = record game { entries = game.entries ++ record { made = m; moment = moment } ∷ []; offer = None }

-- the game with a draw offer
abbrev pub offered : {M : Type 0} → Game M → Offer → Game M
offered game offer = record game { offer = Some offer }

-- the game with an end for an outside reason
abbrev pub ended : {M : Type 0} → Game M → OutsideEnd → Game M
ended game end = record game { outside = Some end }

-- the move at a ply, counted from 1
abbrev pub move_at : {M : Type 0} → Game M → ℕ → Option M
move_at game zero = None
move_at game (suc n) = slice_get (moves_of game) n

module _ {P M E T : Type 0} (rules : GameRules P M E T) where
  -- the move if the rules accept it, otherwise their refusal
  abbrev pub checked_as : M → Result (Unit {0}) MoveRefusal → Result M MoveRefusal
  checked_as m (Ok _) = Ok m
  checked_as m (Err refusal) = Err refusal

  -- the move that was read if it is legal, otherwise the refusal
  abbrev pub checked : P → Result M MoveRefusal → Result M MoveRefusal
  checked p (Err refusal) = Err refusal
  checked p (Ok m) = checked_as m (rules.check p m)

  -- the text was read as this move
  abbrev pub reads_as : Result M MoveRefusal → M → Bool
  reads_as (Ok read) m = rules.same read m
  reads_as (Err refusal) m = false

module _ {P M E T : Type 0} (rules : GameRules P M E T) (terms : Terms) (game : Game M) (ply : ℕ) where
  -- the reply to the move at this ply, a function of the entries up to it and of the grants before it
  abbrev pub reply_of_move : M → Reply
  reply_of_move m =
      moved
      (record {
        ply = ply;
        text = rules.write_move (last_position rules (game_at game (ply - 1))) m;
        left = left_of (side_after (ply - 1)) (clocks_then (game_at game ply) terms);
        position = rules.write_position (last_position rules (game_at game ply));
        end = option_map rules.end_name (rule_end rules (game_at game ply));
      })

  -- the text, read in the position before this ply, is the move that this side played there
  abbrev pub repeats : M → Side → List ℕ → Bool
  repeats m side text =
      same_side side (side_after (ply - 1))
      && reads_as rules (rules.read_move (last_position rules (game_at game (ply - 1))) text) m

  -- the reply if the text is the move that this side already played at this ply
  abbrev pub repeat_of : Option M → Side → List ℕ → Option Reply
  repeat_of None side text = None
  repeat_of (Some m) side text = if repeats m side text then Some (reply_of_move m) else None

module _ {P M E T : Type 0} (rules : GameRules P M E T) (game : Game M) where
  -- the game has ended
  abbrev pub is_over : Bool
  is_over = is_some (end_of rules game)

  -- this side is to move
  abbrev pub is_turn : Side → Bool
  is_turn side = same_side side (turn_of rules game)

  -- this ply is the next one to play
  abbrev pub is_next_ply : ℕ → Bool
  is_next_ply ply = ply == length game.entries + 1

  -- a draw command; refused if the rules of this game have no draw by agreement
  abbrev pub if_draws : Outcome (Game M) → Outcome (Game M)
  if_draws outcome = if rules.has_draw_offers then outcome else refused NotInThisGame

  -- the refusals of a draw offer with their tests, in the order in which they apply
  abbrev pub offer_tests : Side → ℕ → List (Bool × Refusal)
  offer_tests side ply =
      (is_over, GameOver)
      ∷ (not (is_next_ply ply), WrongPly)
      ∷ (has_offer game.offer (other side) ply, Conflict)
      ∷ []

  -- the first refusal of a draw offer that applies, if any
  abbrev pub offer_refusal : Side → ℕ → Option Refusal
  offer_refusal side ply = first_refusal (offer_tests side ply)

  -- a side offers a draw, valid until the next move
  abbrev pub step_offer : Side → ℕ → Outcome (Game M)
  step_offer side ply =
      if_draws
      (unless_repeat (repeat_of_offer game.offer side ply)
      (unless (offer_refusal side ply)
      (accepted (offered game (record { side = side; ply = ply })) (draw_offered ply))))

  -- the reply to a command that ends the game for this reason
  abbrev pub reply_of_end : OutsideEnd → Reply
  reply_of_end end = game_ended end (outside_score end (turn_of rules game))

  -- the reply to a command that ends the game, if it repeats an accepted one
  abbrev pub repeat_of_end : OutsideEnd → Bool → Option Reply
  repeat_of_end end repeats = if repeats then Some (reply_of_end end) else None

  -- ends the game for this reason
  abbrev pub ends : OutsideEnd → Outcome (Game M)
  ends end = accepted (ended game end) (reply_of_end end)

  -- the refusals of an acceptance of a draw with their tests, in the order in which they apply
  abbrev pub accept_tests : Side → ℕ → List (Bool × Refusal)
  accept_tests side ply =
      (is_over, GameOver)
      ∷ (not (is_next_ply ply), WrongPly)
      ∷ (not (has_offer game.offer (other side) ply), NoOffer)
      ∷ []

  -- the first refusal of an acceptance of a draw that applies, if any
  abbrev pub accept_refusal : Side → ℕ → Option Refusal
  accept_refusal side ply = first_refusal (accept_tests side ply)

  -- the draw was agreed by this side's acceptance of the opponent's offer at this ply
  abbrev pub repeat_of_accept : Side → ℕ → Option Reply
  repeat_of_accept side ply =
      repeat_of_end Agreed (is_ended_by Agreed game.outside && has_offer game.offer (other side) ply)

  -- a side accepts the opponent's offer
  abbrev pub step_accept : Side → ℕ → Outcome (Game M)
  step_accept side ply =
      if_draws
      (unless_repeat (repeat_of_accept side ply)
      (unless (accept_refusal side ply)
      (ends Agreed)))

  -- the refusals of a resignation with their tests, in the order in which they apply
  abbrev pub resign_tests : Side → List (Bool × Refusal)
  resign_tests side =
      (is_over, GameOver)
      ∷ (not (is_turn side), NotYourTurn)
      ∷ []

  -- the first refusal of a resignation that applies, if any
  abbrev pub resign_refusal : Side → Option Refusal
  resign_refusal side = first_refusal (resign_tests side)

  -- this side, which is to move, already resigned
  abbrev pub repeat_of_resign : Side → Option Reply
  repeat_of_resign side = repeat_of_end Resigned (is_ended_by Resigned game.outside && is_turn side)

  -- the side to move resigns
  abbrev pub step_resign : Side → Outcome (Game M)
  step_resign side = unless_repeat (repeat_of_resign side) (unless (resign_refusal side) (ends Resigned))

  -- the opponent of this side already lost on time
  abbrev pub repeat_of_claim : Side → Option Reply
  repeat_of_claim side = repeat_of_end Time (is_ended_by Time game.outside && not (is_turn side))

module _ {P M E T : Type 0} (rules : GameRules P M E T) (terms : Terms) (game : Game M) where
  -- the side to move already declared a win at this ply
  abbrev pub repeat_of_declare : Side → ℕ → Option Reply
  repeat_of_declare side ply =
      repeat_of_end rules game Declared
      (is_ended_by Declared game.outside && is_turn rules game side && is_next_ply rules game ply)

  -- the event has declarations, and the position allows the side to move to declare a win
  abbrev pub may_declare : Bool
  may_declare = terms.declares && rules.can_declare (last_position rules game)

  -- the refusals of a declared win with their tests, in the order in which they apply
  abbrev pub declare_tests : Side → ℕ → List (Bool × Refusal)
  declare_tests side ply =
      (is_over rules game, GameOver)
      ∷ (not (is_next_ply rules game ply), WrongPly)
      ∷ (not (is_turn rules game side), NotYourTurn)
      ∷ (not may_declare, NotDeclarable)
      ∷ []

  -- the first refusal of a declared win that applies, if any
  abbrev pub declare_refusal : Side → ℕ → Option Refusal
  declare_refusal side ply = first_refusal (declare_tests side ply)

  -- the side to move declares a win
  abbrev pub step_declare : Side → ℕ → Outcome (Game M)
  step_declare side ply =
      unless_repeat (repeat_of_declare side ply) (unless (declare_refusal side ply) (ends rules game Declared))

module _ {P M E T : Type 0} (rules : GameRules P M E T) (terms : Terms) (game : Game M) (moment : ℕ) where
  -- more seconds have elapsed than the side to move had left
  abbrev pub is_overdue : Bool
  is_overdue = nat_lt (left_of (turn_of rules game) (clocks_of game terms)) (moment - (clocks_of game terms).since)

  -- the game is running and the side to move has exceeded the time limit
  abbrev pub is_late : Bool
  is_late = not (is_over rules game) && is_overdue

  -- the game after a sweep
  abbrev pub swept : Game M
  swept = if is_late then ended game Time else game

  -- the refusals of a new move that apply before its text is read
  abbrev pub move_tests : Side → ℕ → List ℕ → List (Bool × Refusal)
  move_tests side ply text =
      (is_over rules game, GameOver)
      ∷ (ply == 0 || nat_lt (length game.entries + 1) ply, WrongPly)
      ∷ (nat_le ply (length game.entries), Conflict)
      ∷ (not (is_turn rules game side), NotYourTurn)
      ∷ (is_overdue, OutOfTime)
      ∷ (nat_lt most_text_bytes (length text), BadValue)
      ∷ []

  -- the first refusal of a new move that applies before its text is read, if any
  abbrev pub move_refusal : Side → ℕ → List ℕ → Option Refusal
  move_refusal side ply text = first_refusal (move_tests side ply text)

  -- plays the move that was read, if it is legal
  abbrev pub plays : Result M MoveRefusal → Outcome (Game M)
  plays (Err refusal) = refused (Play (length game.entries + 1) refusal)
  plays (Ok m) = accepted (played game m moment)
      (reply_of_move rules terms (played game m moment) (length game.entries + 1) m)

  -- a side plays the move of a text at this ply
  abbrev pub step_move : Side → ℕ → List ℕ → Outcome (Game M)
  step_move side ply text =
      unless_repeat (repeat_of rules terms game ply (move_at game ply) side text)
      (unless (move_refusal side ply text)
      (plays (checked rules (last_position rules game) (rules.read_move (last_position rules game) text))))

  -- the refusals of a claim of a win on time with their tests, in the order in which they apply
  abbrev pub claim_tests : Side → List (Bool × Refusal)
  claim_tests side =
      (is_over rules game, GameOver)
      ∷ (is_turn rules game side, NotYourTurn)
      ∷ (not is_overdue, TimeLeft)
      ∷ []

  -- the first refusal of a claim of a win on time that applies, if any
  abbrev pub claim_refusal : Side → Option Refusal
  claim_refusal side = first_refusal (claim_tests side)

  -- the side that is not to move claims a win on time
  abbrev pub step_claim : Side → Outcome (Game M)
  step_claim side = unless_repeat (repeat_of_claim rules game side) (unless (claim_refusal side) (ends rules game Time))

  -- a command by the player of a side
  abbrev pub side_step : Side → GameCommand → Outcome (Game M)
  side_step side (move ply text) = step_move side ply text
  side_step side (offer_draw ply) = step_offer rules game side ply
  side_step side (accept_draw ply) = step_accept rules game side ply
  side_step side resign = step_resign rules game side
  side_step side claim_time = step_claim side
  side_step side (declare ply) = step_declare rules terms game side ply

  -- a command by the player of a side; refused if the caller plays no side
  abbrev pub by_side : Option Side → GameCommand → Outcome (Game M)
  by_side None command = refused NotAPlayer
  by_side (Some side) command = side_step side command

  -- a command of a caller on a game; refused if the caller may not give it
  abbrev pub game_step : Caller → GameCommand → Outcome (Game M)
  game_step who command =
      if may_give who command
      then by_side (caller_side game.first game.second who (asked_ply command)) command
      else refused NotAllowed

-- the game with one more ruling
abbrev pub ruled : {M : Type 0} → Game M → Ruling → ℕ → Game M
ruled game ruling moment =
    record game {
      rulings = game.rulings ++ record { ruling = ruling; moment = moment; plies = length game.entries } ∷ [];
    }

-- the number is that of a ruling on the game, or the next one
abbrev pub is_ruling_number : {M : Type 0} → Game M → ℕ → Bool
is_ruling_number game number = nat_le 1 number && nat_le number (length game.rulings + 1)

module _ {P M E T : Type 0} (rules : GameRules P M E T) (game : Game M) (number : ℕ) (ruling : Ruling) where
  -- the reply if this ruling was given under this number
  abbrev pub repeat_of_ruling : Option Reply
  repeat_of_ruling = if is_given ruling (ruling_under game.rulings number) then Some (ruling_given number) else None

  -- a rule of the game ended it, or time is granted after its end
  abbrev pub is_too_late : Bool
  is_too_late = is_some (rule_end rules game) || is_grant ruling && is_over rules game

  -- the refusals of a ruling with their tests, in the order in which they apply
  abbrev pub ruling_tests : List (Bool × Refusal)
  ruling_tests =
      (is_too_late, GameOver)
      ∷ (is_some (ruling_under game.rulings number), Conflict)
      ∷ (not (is_ruling_number game number && has_grant_time ruling), BadValue)
      ∷ (nat_le most_rulings (length game.rulings), Full)
      ∷ []

  -- the first refusal of a ruling that applies, if any
  abbrev pub ruling_refusal : Option Refusal
  ruling_refusal = first_refusal ruling_tests

  -- the arbiter gives a ruling on the game at this timestamp
  abbrev pub ruling_step : ℕ → Outcome (Game M)
  ruling_step moment =
      unless_repeat repeat_of_ruling
      (unless ruling_refusal
      (accepted (ruled game ruling moment) (ruling_given number)))

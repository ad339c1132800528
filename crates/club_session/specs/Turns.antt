-- Commands sent by members over HTTP and by the officer over the control socket, each a session of its own in the
-- history.
use Rattle.std.specs.Prelude.{◌≡◌, ◌≤◌, ◌⊎◌, ℕ, true, List, [], ◌∷◌, ⊤}
use Rattle.club_requests.specs.Limits.{last_moment}
use Rattle.club_core.specs.State.{Command, on_game, open_challenge, withdraw_challenge, answer_challenge, Request}
use Rattle.club_core.specs.State.{key_holder, officer}
use Rattle.store.specs.Histories as history
use Rattle.store.specs.Histories.{HistoryStep}

-- a command that members can send: on a game, or about a challenge
abbrev pub IsMembers : Command → Type 0
IsMembers (on_game game command) = ⊤
IsMembers (open_challenge number event other first) = ⊤
IsMembers (withdraw_challenge number) = ⊤
IsMembers (answer_challenge challenger number accept) = ⊤
IsMembers _ = ⊥

-- such a command by the holder of a key
pub record IsTurn (request : Request) : Type 0 where
  pub key : List ℕ
  pub command : Command
  pub members : IsMembers command
  pub is : request ≡ record { who = key_holder key; command = command; moment = request.moment }
  pub within : request.moment ≤ last_moment

-- any command of the officer
pub record IsOrder (request : Request) : Type 0 where
  pub command : Command
  pub is : request ≡ record { who = officer; command = command; moment = request.moment }
  pub within : request.moment ≤ last_moment

-- a session with one such command of a member or of the officer
abbrev pub IsTurnOf : HistoryStep → Type 0
IsTurnOf (history.served session) =
    (request : Request) × (IsTurn request ⊎ IsOrder request) × (session.requests ≡ request ∷ [])
IsTurnOf (history.upgraded to answered) = ⊥

-- each step is a session with one command of a member or of the officer
abbrev pub AreTurns : List HistoryStep → Type 0
AreTurns [] = ⊤
AreTurns (chapter ∷ chapters) = IsTurnOf chapter × AreTurns chapters

-- a session that neither a crash nor a fault ended
abbrev pub IsWhole : HistoryStep → Type 0
IsWhole (history.served session) = session.is_whole ≡ true
IsWhole (history.upgraded to answered) = ⊥

-- each step is a session that neither a crash nor a fault ended
abbrev pub AreWhole : List HistoryStep → Type 0
AreWhole [] = ⊤
AreWhole (chapter ∷ chapters) = IsWhole chapter × AreWhole chapters

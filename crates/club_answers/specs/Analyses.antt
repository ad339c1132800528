-- Analyses: what is shown after moves that are tried, or why they are refused.
use Rattle.std.specs.Prelude.{◌≡◌, ◌≢◌, ◌≤◌, ◌<◌, ◌⊎◌, ℕ, Bool, true, false, ◌&&◌, nat_le, List, [], length, take}
use Rattle.std.specs.Prelude.{Option, Some, None}
use Rattle.std.specs.List.{list_all}
use Rattle.serde_json.specs.Written.{compact_text}
use Rattle.club_rules.specs.GameRules.{GameRules}
use Rattle.club_rules.specs.Line.{IsLegalLine, position_after}
use Rattle.club_rules.specs.declared.names.GameKind.{GameKind}
use Rattle.club_rules.specs.declared.names.GameKind.TheVariants.{Draughts, Shogi}
use Rattle.club_rules.specs.declared.refusals.MoveRefusal.TheVariants.{BadText}
use Rattle.club_requests.specs.Analysis.{Analysis, Start, opening, position, in_game}
use Rattle.club_requests.specs.Limits.{most_text_bytes, most_tried_moves}
use Rattle.club_requests.specs.declared.refusals.Refusal.{Refusal}
use Rattle.club_requests.specs.declared.refusals.Refusal.TheVariants.{BadValue, Play, UnknownGame}
use Rattle.club_core.specs.Game.{Game, moves_of}
use Rattle.club_core.specs.State.{draughts, shogi, place}
use Rattle.club_analysis.specs.Tried.{IsAnalysis, IsRefusedLine, LineShown}
use Rattle.club_rows.specs.Club.{ClubGame, ClubState, both_games}
use Rattle.club_lists.specs.Analysis.{analysis_data}

-- the texts of moves to try are neither too many nor too long
abbrev pub are_few : List (List ℕ) → Bool
are_few texts = nat_le (length texts) most_tried_moves && list_all (λ text. nat_le (length text) most_text_bytes) texts

-- ---- from a position, or in a game

module _ {P M E T : Type 0} (rules : GameRules P M E T) where
  -- what is shown after texts that are tried in a game after so many of its plies
  abbrev pub IsShownInGame : Game M → ℕ → List (List ℕ) → LineShown → Type 0
  IsShownInGame game ply texts shown =
      (ply ≤ length game.entries) × IsAnalysis rules rules.start (take ply (moves_of game)) texts shown

  -- why they are refused: the game has fewer plies, or the rules refuse a text
  abbrev pub IsRefusedInGame : Game M → ℕ → List (List ℕ) → Refusal → Type 0
  IsRefusedInGame game ply texts refusal = ((length game.entries < ply) × (refusal ≡ BadValue))
      ⊎ ((ply ≤ length game.entries) × IsRefusedLine rules rules.start (take ply (moves_of game)) texts refusal)

  -- what is shown after texts that are tried from the position of a text, or from the initial position without a text
  abbrev pub IsShownFrom : Option (List ℕ) → List (List ℕ) → LineShown → Type 0
  IsShownFrom None texts shown = IsAnalysis rules rules.start [] texts shown
  IsShownFrom (Some text) texts shown =
      (p : P) × (text ≡ rules.write_position p) × IsAnalysis rules p [] texts shown

  -- the text is that of no position which legal moves lead to
  abbrev pub IsNoPosition : List ℕ → Type 0
  IsNoPosition text = (ms : List M) → IsLegalLine rules rules.start ms →
      text ≢ rules.write_position (position_after rules rules.start ms)

  -- why they are refused: there is no such position, or the rules refuse a text
  abbrev pub IsRefusedFrom : GameKind → Option (List ℕ) → List (List ℕ) → Refusal → Type 0
  IsRefusedFrom kind None texts refusal = IsRefusedLine rules rules.start [] texts refusal
  IsRefusedFrom kind (Some text) texts refusal = (IsNoPosition text × (refusal ≡ Play 0 (BadText kind 0)))
      ⊎ ((p : P) × (text ≡ rules.write_position p) × IsRefusedLine rules p [] texts refusal)

-- ---- by the kind of the game

-- from a position, by the rules of the kind
abbrev pub IsShownFromPosition : GameKind → Option (List ℕ) → List (List ℕ) → LineShown → Type 0
IsShownFromPosition Draughts text texts shown = IsShownFrom both_games.draughts text texts shown
IsShownFromPosition Shogi text texts shown = IsShownFrom both_games.shogi text texts shown

abbrev pub IsRefusedFromPosition : GameKind → Option (List ℕ) → List (List ℕ) → Refusal → Type 0
IsRefusedFromPosition Draughts text texts refusal = IsRefusedFrom both_games.draughts Draughts text texts refusal
IsRefusedFromPosition Shogi text texts refusal = IsRefusedFrom both_games.shogi Shogi text texts refusal

-- in a game of this kind after so many of its plies
abbrev pub IsShownIn : GameKind → ClubGame → ℕ → List (List ℕ) → LineShown → Type 0
IsShownIn Draughts (draughts game) ply texts shown = IsShownInGame both_games.draughts game ply texts shown
IsShownIn Shogi (shogi game) ply texts shown = IsShownInGame both_games.shogi game ply texts shown
IsShownIn Draughts (shogi game) ply texts shown = ⊥
IsShownIn Shogi (draughts game) ply texts shown = ⊥

abbrev pub IsRefusedIn : GameKind → ClubGame → ℕ → List (List ℕ) → Refusal → Type 0
IsRefusedIn Draughts (draughts game) ply texts refusal = IsRefusedInGame both_games.draughts game ply texts refusal
IsRefusedIn Shogi (shogi game) ply texts refusal = IsRefusedInGame both_games.shogi game ply texts refusal
IsRefusedIn Draughts (shogi game) ply texts refusal = ⊥
IsRefusedIn Shogi (draughts game) ply texts refusal = ⊥

-- the game is of this kind
abbrev pub is_kind : GameKind → ClubGame → Bool
is_kind Draughts (draughts game) = true
is_kind Draughts (shogi game) = false
is_kind Shogi (draughts game) = false
is_kind Shogi (shogi game) = true

-- ---- the query

-- a refusal of too many or too long texts, or else this one
abbrev pub IsRefusedUnlessFew : List (List ℕ) → (Refusal → Type 0) → Refusal → Type 0
IsRefusedUnlessFew texts IsWhy refusal =
    ((are_few texts ≡ false) × (refusal ≡ BadValue)) ⊎ ((are_few texts ≡ true) × IsWhy refusal)

-- a game of the other kind counts as no game
abbrev pub IsRefusedFor : GameKind → ClubGame → ℕ → List (List ℕ) → Refusal → Type 0
IsRefusedFor kind game ply texts refusal = ((is_kind kind game ≡ false) × (refusal ≡ UnknownGame))
    ⊎ ((is_kind kind game ≡ true) × IsRefusedUnlessFew texts (IsRefusedIn kind game ply texts) refusal)

-- what is shown of the line that begins here
abbrev pub IsShownAt : ClubState → GameKind → Start → List (List ℕ) → LineShown → Type 0
IsShownAt s kind opening texts shown = IsShownFromPosition kind None texts shown
IsShownAt s kind (position text) texts shown = IsShownFromPosition kind (Some text) texts shown
IsShownAt s kind (in_game id ply) texts shown =
    (game : ClubGame) × (place s.games id ≡ Some game) × IsShownIn kind game ply texts shown

-- why a line that begins here is refused
abbrev pub IsRefusedAt : ClubState → GameKind → Start → List (List ℕ) → Refusal → Type 0
IsRefusedAt s kind opening texts refusal =
    IsRefusedUnlessFew texts (IsRefusedFromPosition kind None texts) refusal
IsRefusedAt s kind (position text) texts refusal =
    IsRefusedUnlessFew texts (IsRefusedFromPosition kind (Some text) texts) refusal
IsRefusedAt s kind (in_game id ply) texts refusal =
    ((place s.games id ≡ None) × (refusal ≡ UnknownGame))
    ⊎ ((game : ClubGame) × (place s.games id ≡ Some game) × IsRefusedFor kind game ply texts refusal)

-- what is shown for an analysis
abbrev pub IsAnalysed : ClubState → Analysis → LineShown → Type 0
IsAnalysed s a shown = (are_few a.texts ≡ true) × IsShownAt s a.kind a.from a.texts shown

-- its JSON
abbrev pub shown_text : LineShown → List ℕ
shown_text shown = compact_text (analysis_data shown.end shown.legal shown.moves shown.position)

abbrev pub IsAnalysisText : ClubState → Analysis → List ℕ → Type 0
IsAnalysisText s a text = (shown : LineShown) × IsAnalysed s a shown × (text ≡ shown_text shown)

-- why an analysis is refused
abbrev pub IsNoAnalysis : ClubState → Analysis → Refusal → Type 0
IsNoAnalysis s a refusal = IsRefusedAt s a.kind a.from a.texts refusal

-- The written text of a move: a quiet move has a hyphen between its squares, a capture an `x` before each landing
-- square that is named.
use Rattle.std.specs.Prelude.{◌≡◌, ◌≢◌, ◌⊎◌, ◌==◌, ◌&&◌, not, Bool, ℕ, List, [], ◌∷◌, ◌++◌}
use Rattle.std.specs.FinSet as set
use Rattle.std.specs.declared.cmp.Ordering.TheVariants.{Greater}
use Rattle.squares.specs.declared.draughts.moves.DMove.{DMove}
use Rattle.squares.specs.DraughtsBoard.{Position}
use Rattle.squares.specs.DraughtsSets.{same_squares}
use Rattle.draughts_moves.specs.Capture.{Capture}
use Rattle.draughts_moves.specs.Legal.{Legal}
use Rattle.draughts_moves.specs.Routes.{route_cmp}
use Rattle.pdn.specs.SquareText.{square_text}

-- the text of a quiet move: two squares with a hyphen between them
abbrev pub quiet_text : ℕ → ℕ → List ℕ
quiet_text from to = square_text from ++ 45 ∷ square_text to

-- a landing square after an `x`
abbrev pub landing_text : ℕ → List ℕ
landing_text n = 120 ∷ square_text n

-- landing squares, each after an `x`
abbrev pub landings_text : List ℕ → List ℕ
landings_text [] = []
landings_text (n ∷ ns) = landing_text n ++ landings_text ns

-- the text of a capture: its origin and landing squares
abbrev pub capture_text : ℕ → List ℕ → List ℕ
capture_text from landings = square_text from ++ landings_text landings

-- whether a move has the same origin and destination, but captures other pieces
abbrev pub is_like : DMove → DMove → Bool
is_like m other = (other.from == m.from) && ((other.to == m.to) && not (same_squares other.taken m.taken))

-- another legal move with the same origin and destination
pub record IsRival (p : Position) (m other : DMove) : Type 0 where
  pub legal : Legal p other
  pub from : other.from ≡ m.from
  pub to : other.to ≡ m.to
  pub differs : other ≢ m

abbrev pub HasRival : Position → DMove → Type 0
HasRival p m = (other : DMove) × IsRival p m other

-- the lexicographically first route of a capture
pub record IsFirstRoute (p : Position) (m : DMove) (landings : List ℕ) : Type 0 where
  pub route : Capture p m.from landings m.taken m.to
  pub first : (others : List ℕ) → Capture p m.from others m.taken m.to → route_cmp landings others ≢ Greater

-- The written text of a legal move. A capture is written short if no other legal move has its origin and destination;
-- otherwise it has all landing squares of its first route.
pub data IsMoveText (p : Position) (m : DMove) (text : List ℕ) : Type 0 where
  quiet : m.taken ≡ set.empty → text ≡ quiet_text m.from m.to → IsMoveText p m text
  short : m.taken ≢ set.empty → (HasRival p m → ⊥) → text ≡ capture_text m.from (m.to ∷ []) → IsMoveText p m text
  long : m.taken ≢ set.empty → HasRival p m → (landings : List ℕ) → IsFirstRoute p m landings
      → text ≡ capture_text m.from landings → IsMoveText p m text

-- A capture that no route makes, so that it is not legal, while a legal move has its origin and destination.
pub record IsUnrouted (p : Position) (m : DMove) : Type 0 where
  pub takes : m.taken ≢ set.empty
  pub rival : HasRival p m
  pub no_route : (landings : List ℕ) → Capture p m.from landings m.taken m.to → ⊥

-- The written text of any move, which for a legal move is `IsMoveText`. A capture that should name its route and has
-- none is written with its origin and destination.
abbrev pub IsWritten : Position → DMove → List ℕ → Type 0
IsWritten p m text = IsMoveText p m text ⊎ (IsUnrouted p m × (text ≡ capture_text m.from (m.to ∷ [])))

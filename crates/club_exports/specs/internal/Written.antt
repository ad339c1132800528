-- The output of a writer of records. No promise of the program rests on these definitions.
use Rattle.std.specs.Prelude.{◌≡◌, ℕ, ◌<◌, ◌^◌, List, ◌++◌, length, Option, Some, Ok, true}
use Rattle.std.specs.Io.KnownBytes.{Appends}
use Rattle.record_writer.specs.Pieces.{AppendsSome}
use Rattle.club_rules.specs.GameRules.{GameRules}
use Rattle.club_rules.specs.Line.{position_after}
use Rattle.club_requests.specs.declared.outside_end.OutsideEnd.TheVariants.{Declared}
use Rattle.club_core.specs.declared.rows.GameEnd.TheVariants.{Outside}
use Rattle.club_exports.specs.Title.{Title}
use Rattle.club_exports.specs.Written.{made_in}

-- the end in the header fits the moves: if it is a declaration, the final position allows it
abbrev pub FitsMoves : {P M E T : Type 0} → GameRules P M E T → Title E → List M → Type 0
FitsMoves rules title ms =
    title.end ≡ Some (Outside Declared) → rules.can_declare (position_after rules rules.start ms) ≡ true

module _ {E M : Type 0} (IsText : Title E → List (M × ℕ) → List ℕ → Type 0) where
  -- the output was extended by exactly the record
  abbrev pub AddsRecord : Title E → List (M × ℕ) → Option (List ℕ) → Option (List ℕ) → Type 0
  AddsRecord title plies before now = (text : List ℕ) × IsText title plies text × Appends before now text

  -- the output was extended by a prefix of the record
  abbrev pub BeginsRecord : Title E → List (M × ℕ) → Option (List ℕ) → Option (List ℕ) → Type 0
  BeginsRecord title plies before now = (text : List ℕ) × IsText title plies text × AppendsSome before now text

  module _ {R : Type 0} (HasWritten : Title E → List (M × ℕ) → Option (List ℕ) → Option (List ℕ) → R → Type 0) where
    -- the output is a prefix of the record of every game that continues it
    abbrev pub BeginsGames : Type 0
    BeginsGames =
        (title : Title E) (plies more : List (M × ℕ)) (before now : Option (List ℕ)) (r : R)
        → HasWritten title plies before now r →
        BeginsRecord title (plies ++ more) before now

-- a move that is legal after the written moves may be written next, if their count fits 32 bits
abbrev pub MayFollowLegal : {P M E T R : Type 0} → GameRules P M E T →
    (Title E → List (M × ℕ) → Option (List ℕ) → Option (List ℕ) → R → Type 0) → (R → M → Type 0) → Type 0
MayFollowLegal {M = M} {E = E} {R = R} rules HasWritten MayFollow =
    (title : Title E) (plies : List (M × ℕ)) (before now : Option (List ℕ)) (r : R) (made : M) →
    HasWritten title plies before now r → length plies < 2 ^ 32 →
    rules.check (position_after rules rules.start (made_in plies)) made ≡ Ok tt → MayFollow r made

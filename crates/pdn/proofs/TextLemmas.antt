-- What is written is read as its form.
use Rattle.std.proofs.Common.{◌≡◌, ℕ, inl, List, [], ◌∷◌, ◌++◌, Ok, refl}
use Rattle.squares.specs.internal.DraughtsGeometry.{OnBoard}
use Rattle.squares.specs.internal.DraughtsOnBoard.{AllOnBoard}
use Rattle.pdn.specs.SquareText.{square_text}
use Rattle.pdn.specs.Forms.{quiet, capture, read_form}
use Rattle.pdn.specs.internal.Grammar.{AreLandings}
use Rattle.pdn.specs.MoveText.{quiet_text, landings_text, capture_text}
use Rattle.pdn.proofs.GrammarLemmas.{text-read_form}

pub read_form-quiet_text : (from to : ℕ) → OnBoard from → OnBoard to
    → read_form (quiet_text from to) ≡ Ok (quiet from to)
read_form-quiet_text from to from_on to_on = text-read_form (quiet_text from to) (quiet from to)
    (square_text from, square_text to, (from_on, inl refl), (to_on, inl refl), refl)

are_landings : (middle : List ℕ) (to : ℕ) → AllOnBoard middle → OnBoard to
    → AreLandings (middle ++ to ∷ []) (landings_text (middle ++ to ∷ []))
are_landings [] to all on =
    (120 ∷ square_text to, [], (120, square_text to, inl refl, (on, inl refl), refl), refl, refl)
are_landings (n ∷ middle) to all on = (
  120 ∷ square_text n,
  landings_text (middle ++ to ∷ []),
  (120, square_text n, inl refl, (all.0, inl refl), refl),
  are_landings middle to all.1 on,
  refl,
)

pub read_form-capture_text : (from : ℕ) (middle : List ℕ) (to : ℕ) → OnBoard from → AllOnBoard middle → OnBoard to
    → read_form (capture_text from (middle ++ to ∷ [])) ≡ Ok (capture from middle to)
read_form-capture_text from middle to on all to_on =
    text-read_form (capture_text from (middle ++ to ∷ [])) (capture from middle to)
    (square_text from, landings_text (middle ++ to ∷ []), (on, inl refl), are_landings middle to all to_on, refl)

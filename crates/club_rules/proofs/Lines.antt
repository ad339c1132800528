-- What holds of a line that grows at its end, and of the moves inside it.
use Rattle.std.proofs.Common.{◌≡◌, ℕ, zero, suc, List, [], ◌∷◌, ◌++◌, take, Some, Ok, ap, ◌∙◌, rules, drop}
use Rattle.std.proofs.Common.{get_or, sym, drop-cons, add-one, ◌+◌, ◌<◌, length}
use Rattle.std.specs.Prelude.{slice_get}
use Rattle.game_history.proofs.Proved.{last_position-append}
use Rattle.squares.specs.Sides.{other}
use Rattle.club_rules.specs.GameRules.{GameRules}
use Rattle.club_rules.specs.Line.{position_after, IsLegalLine}

module _ {P M E T : Type 0} (game_rules : GameRules P M E T) where
  -- the position after one more move
  pub position_after-append : (p : P) (ms : List M) (m : M)
      → position_after game_rules p (ms ++ m ∷ []) ≡ game_rules.play (position_after game_rules p ms) m
  position_after-append = last_position-append game_rules.play

  -- a legal line grows by a legal move
  pub IsLegalLine-append : (p : P) (ms : List M) (m : M) → IsLegalLine game_rules p ms
      → game_rules.check (position_after game_rules p ms) m ≡ Ok tt → IsLegalLine game_rules p (ms ++ m ∷ [])
  IsLegalLine-append p [] m line legal = (legal, tt)
  IsLegalLine-append p (n ∷ ms) m line legal = (line.0, IsLegalLine-append (game_rules.play p n) ms m line.1 legal)

  -- a move of a legal line is legal in its position
  pub check-at : (p : P) (ms : List M) (n : ℕ) (m : M) → IsLegalLine game_rules p ms → slice_get ms n ≡ Some m
      → game_rules.check (position_after game_rules p (take n ms)) m ≡ Ok tt
  check-at p [] n m line at = cc
  check-at p (x ∷ ms) zero m line at = search rules
  check-at p (x ∷ ms) (suc n) m line at = check-at (game_rules.play p x) ms n m line.1 at

  -- what each legal move keeps holds after a legal line
  pub holds-after : (Holds : P → Type 0) →
      ((p : P) (m : M) → Holds p → game_rules.check p m ≡ Ok tt → Holds (game_rules.play p m)) → (p : P) (ms : List M)
      → Holds p → IsLegalLine game_rules p ms → Holds (position_after game_rules p ms)
  holds-after Holds keeps p [] holds line = holds
  holds-after Holds keeps p (m ∷ ms) holds line =
      holds-after Holds keeps (game_rules.play p m) ms (keeps p m holds line.0) line.1

  -- the sides take turns
  pub turn-after : ((p : P) (m : M) → game_rules.check p m ≡ Ok tt
      → game_rules.turn (game_rules.play p m) ≡ other (game_rules.turn p)) → (p : P) (ms : List M) (m : M)
      → IsLegalLine game_rules p ms → game_rules.check (position_after game_rules p ms) m ≡ Ok tt
      → game_rules.turn (position_after game_rules p (ms ++ m ∷ []))
      ≡ other (game_rules.turn (position_after game_rules p ms))
  turn-after passes p ms m line legal = ap game_rules.turn (position_after-append p ms m)
      ∙ passes (position_after game_rules p ms) m legal

  -- the position after a move of a line
  pub position_after-take : (p : P) (ms : List M) (n : ℕ) (m : M) → slice_get ms n ≡ Some m
      → position_after game_rules p (take (suc n) ms) ≡ game_rules.play (position_after game_rules p (take n ms)) m
  position_after-take p [] n m at = cc
  position_after-take p (x ∷ xs) zero m at = let e : x ≡ m = cc in ap (game_rules.play p) e
  position_after-take p (x ∷ xs) (suc n) m at = position_after-take (game_rules.play p x) xs n m at

-- the element at a place, before the rest
pub drop-at : {A : Type 0} (xs : List A) (k : ℕ) (x : A) → k < length xs → x ≡ get_or xs k x
    → drop k xs ≡ x ∷ drop (k + 1) xs
drop-at xs k x within is =
    drop-cons xs k x within ∙ ap (λ y. y ∷ drop (suc k) xs) (sym is) ∙ ap (λ n. x ∷ drop n xs) (sym (add-one k))

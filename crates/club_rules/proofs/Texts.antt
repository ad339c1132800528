-- Texts that stand for one position each, as the positions of lines are written.
use Rattle.std.proofs.Common.{◌≡◌, ℕ, List, Option, Some, None, sym, ap, subst}
use Rattle.club_rules.specs.GameRules.{GameRules}
use Rattle.club_rules.specs.Line.{position_after, IsLegalLine}
use Rattle.club_rules.specs.Laws.{StandsForOne, WritesPositions, TextsTellPositions}
use Rattle.club_rules.specs.internal.Laws.{IsPositionRead}

-- a text is read as the position that it stands for
pub position-read : {P : Type 0} (StandsFor : List ℕ → P → Type 0) → StandsForOne StandsFor
    → (text : List ℕ) (read : Option P) (p : P) → IsPositionRead StandsFor text read → StandsFor text p → read ≡ Some p
position-read StandsFor one text (Some q) p is stands = ap Some (one text q p is stands)
position-read StandsFor one text None p is stands = absurd (is p stands)

module _ {P M E T : Type 0} (rules : GameRules P M E T) (StandsFor : List ℕ → P → Type 0) (one : StandsForOne StandsFor)
    (writes : WritesPositions rules StandsFor) where
  -- the text of a position on a line is read as that position
  pub line-read : (text : List ℕ) (read : Option P) (ms : List M) → IsPositionRead StandsFor text read
      → IsLegalLine rules rules.start ms → text ≡ rules.write_position (position_after rules rules.start ms)
      → read ≡ Some (position_after rules rules.start ms)
  line-read text read ms is legal e =
      let p = position_after rules rules.start ms in
      position-read StandsFor one text read p is (subst (λ t. StandsFor t p) (sym e) (writes ms legal))

  -- and tells it
  pub texts-tell : TextsTellPositions rules
  texts-tell ms ns legal also_legal e =
      let p = position_after rules rules.start ms in
      let q = position_after rules rules.start ns in
      one (rules.write_position p) p q (writes ms legal) (subst (λ t. StandsFor t q) (sym e) (writes ns also_legal))

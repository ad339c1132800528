-- Entries as moves with their seconds.
use Rattle.std.proofs.Common.{◌≡◌, ℕ, suc, ◌-◌, List, [], ◌∷◌, ◌++◌, length, map, refl, ap}
use Rattle.club_core.specs.Game.{Entry}
use Rattle.club_exports.specs.Title.{timed}
use Rattle.club_exports.specs.internal.Title.{since_after}
use Rattle.club_exports.specs.Written.{made_in}

module _ {M : Type 0} where
  -- entries that go on
  pub timed-append : (since : ℕ) (es more : List (Entry M))
      → timed since (es ++ more) ≡ timed since es ++ timed (since_after since es) more
  timed-append since [] more = refl
  timed-append since (e ∷ es) more = ap (λ l. (e.made, e.moment - since) ∷ l) (timed-append e.moment es more)

  -- the moment of the entry that was added
  pub since-last : (since : ℕ) (es : List (Entry M)) (e : Entry M) → since_after since (es ++ e ∷ []) ≡ e.moment
  since-last since [] e = refl
  since-last since (x ∷ es) e = since-last x.moment es e

  pub timed-made : (since : ℕ) (es : List (Entry M)) → made_in (timed since es) ≡ map (λ e. e.made) es
  timed-made since [] = refl
  timed-made since (e ∷ es) = ap (λ l. e.made ∷ l) (timed-made e.moment es)

  pub timed-count : (since : ℕ) (es : List (Entry M)) → length (timed since es) ≡ length es
  timed-count since [] = refl
  timed-count since (e ∷ es) = ap suc (timed-count e.moment es)

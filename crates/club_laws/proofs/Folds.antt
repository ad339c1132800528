-- Only an accepted request changes the state, so the others can be left out; and it raises the last moment.
use Rattle.std.proofs.Common.{◌≡◌, ◌≤◌, List, [], ◌∷◌, Bool, true, false, refl, ap, ◌∙◌, sym}
use Rattle.std.specs.Prelude.{if◌then◌else◌}
use Rattle.club_core.specs.ClubRules.{ClubRules}
use Rattle.club_requests.specs.Outcome.{Outcome, accepted, repeated, refused}
use Rattle.club_core.specs.State.{State, Request, is_accepted, state_after, step, next, fold, accepted_of}
use Rattle.club_laws.proofs.Later.{next-later}

-- an outcome that is not accepted leaves what stood
pub unmoved : {S : Type 0} (s : S) (o : Outcome S) → is_accepted o ≡ false → state_after s o ≡ s
unmoved s (accepted new reply) kept = cc
unmoved s (repeated reply) kept = refl
unmoved s (refused refusal) kept = refl

module _ {DP DM DE DT SP SM SE ST : Type 0} (kinds : ClubRules DP DM DE DT SP SM SE ST) where
  taken : (s : State DM SM) (r : Request) (rs : List Request) (b : Bool) → is_accepted (step kinds s r) ≡ b
      → fold kinds (next kinds s r) (accepted_of kinds (next kinds s r) rs) ≡ fold kinds (next kinds s r) rs
      → fold kinds s (if b then r ∷ accepted_of kinds (next kinds s r) rs else accepted_of kinds (next kinds s r) rs)
      ≡ fold kinds (next kinds s r) rs
  taken s r rs true is rest = rest
  taken s r rs false kept rest = ap (λ t. fold kinds t (accepted_of kinds (next kinds s r) rs))
      (sym (unmoved s (step kinds s r) kept)) ∙ rest

  pub folds-accepted : (s : State DM SM) (rs : List Request) → fold kinds s (accepted_of kinds s rs) ≡ fold kinds s rs
  folds-accepted s [] = refl
  folds-accepted s (r ∷ rs) = taken s r rs (is_accepted (step kinds s r)) refl (folds-accepted (next kinds s r) rs)

  pub next-raises : (s : State DM SM) (r : Request) → s.last ≤ (next kinds s r).last
  next-raises s r = let later = next-later kinds s r in later.last

  -- no request gives a club an arbiter, or takes it away
  pub next-arbiter : (s : State DM SM) (r : Request) → (next kinds s r).has_arbiter ≡ s.has_arbiter
  next-arbiter s r = let later = next-later kinds s r in later.arbiter

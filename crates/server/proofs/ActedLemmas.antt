-- What was done where a reply was given, or none.
use Rattle.std.proofs.Common.{◌≡◌, ℕ, List, ◌++◌, Bool, Option, Some, None, Result, Ok, Err, inl, inr, subst}
use Rattle.std.proofs.Common.{append_assoc, sym, ap, ◌∙◌}
use Rattle.std.specs.Io.KnownBytes.{Consumes}
use Rattle.http_desk.specs.declared.faults.DeskFault.{DeskFault}
use Rattle.http_desk.specs.Desk.{Answers, RepliesTo}
use Rattle.http_desk.specs.Served.{Club}
use Rattle.http_head.specs.Request.{ParseState, Sees, unfinished, refused, whole}
use Rattle.server.specs.Visits.{HasActed, HasActedOn}

module _ {S A : Type 0} (club : Club S) (stands : S → Type 0) (leaves : S → S → Type 0) (view : A → List ℕ) (s : S)
    (moment : ℕ) where
  replied_acted : (bytes : List ℕ) (without_body : Bool) (seen : ParseState) (result : Result A DeskFault) → Sees bytes seen
      → RepliesTo club stands leaves view s moment without_body seen result
      → HasActed club stands leaves s moment bytes
  replied_acted bytes without_body unfinished (Ok reply) sees replies = inl replies.1
  replied_acted bytes without_body (refused r) (Ok reply) sees replies = inl replies.1
  replied_acted bytes without_body (whole request) (Ok reply) sees (inl shows) =
      inr (whole request, sees, inl shows.1)
  replied_acted bytes without_body (whole request) (Ok reply) sees (inr tells) =
      inr (whole request, sees, inr tells.3)
  replied_acted bytes without_body seen (Err fault) sees left = inr (seen, sees, inr left)

  pub answered_acted : (bytes : List ℕ) (result : Result A DeskFault)
      → Answers club stands leaves view s moment bytes result → HasActed club stands leaves s moment bytes
  answered_acted bytes result answers = replied_acted bytes _ answers.0 result answers.1 answers.2

  -- the bytes are those that were heard before, and further ones
  pub answered_acted_on : (heard further taken shown : List ℕ) (result : Result A DeskFault) → shown ≡ taken
      → taken ≡ heard ++ further → Answers club stands leaves view s moment shown result
      → HasActedOn club stands leaves s moment heard
  answered_acted_on heard further taken shown result same parts answers = (
    further,
    subst (λ (b : List ℕ). HasActed club stands leaves s moment b) (same ∙ parts)
        (answered_acted shown result answers),
  )

-- what a reader gives is behind what was heard before
pub consumes_on : (heard further taken more : List ℕ) (reader left : Option (List ℕ)) → reader ≡ Some further
    → taken ≡ heard ++ more → Consumes reader left more → Consumes (Some (heard ++ further)) left taken
consumes_on heard further taken more reader None known parts reads =
    absurd (subst (λ (o : Option (List ℕ)). Consumes o None more) known reads)
consumes_on heard further taken more reader (Some rest) known parts reads =
    let gave : further ≡ more ++ rest = subst (λ (o : Option (List ℕ)). Consumes o (Some rest) more) known reads in
    ap (λ (b : List ℕ). heard ++ b) gave
    ∙ (sym (append_assoc heard more rest) ∙ ap (λ (b : List ℕ). b ++ rest) (sym parts))

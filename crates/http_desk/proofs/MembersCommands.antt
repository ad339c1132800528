-- No command of a member is an arbiter's, so that its faults are those of a call.
use Rattle.std.proofs.Common.{◌≡◌, ℕ, List, Bool, Option, Some, None, option_map, false, true≢false, refl, sym, ◌∙◌}
use Rattle.std.proofs.Common.{inl, inr, Result, Ok, Err, ap}
use Rattle.std.specs.Prelude.{option_and_then}
use Rattle.serde_json.specs.Data.{Data}
use Rattle.club_core.specs.State.{Command, needs_arbiter, on_game}
use Rattle.club_core.specs.Step as play
use Rattle.http_bodies.specs.Bodies.{answer_in, answer_of, answer_with, challenge_in, challenge_of, challenge_with}
use Rattle.http_bodies.specs.Bodies.{bool_in, json_of, text_in}
use Rattle.http_desk.specs.Served.{IsOfCall, IsOfCommand, Serves}
use Rattle.http_desk.specs.declared.faults.ClubFault.{ClubFault}
use Rattle.http_desk.specs.internal.Desk.{is_for_arbiter}

pub of_call : (command : Command) (fault : ClubFault) → needs_arbiter command ≡ false → IsOfCommand command fault
    → IsOfCall fault
of_call command fault none (inl is) = is
of_call command fault none (inr (needs, is)) = absurd (true≢false (sym needs ∙ none))

pub served_of_call : {S A : Type 0} (stands : S → Type 0) (leaves : S → S → Type 0) (s next : S) (is_right : A → Type 0)
    (command : Command) (result : Result A ClubFault) → needs_arbiter command ≡ false
    → Serves stands leaves s next is_right (IsOfCommand command) result
    → Serves stands leaves s next is_right IsOfCall result
served_of_call stands leaves s next is_right command (Ok answer) none is = is
served_of_call stands leaves s next is_right command (Err fault) none is = (of_call command fault none is.0, is.1)

-- a command that is none of an arbiter's, read in the code
pub same_is_members : (given read : Option Command) → given ≡ read → is_for_arbiter read ≡ false
    → is_for_arbiter given ≡ false
same_is_members given read same none = ap is_for_arbiter same ∙ none

pub turn_is_members : (id : ℕ) (given : Option play.GameCommand)
    → is_for_arbiter (option_map (on_game id) given) ≡ false
turn_is_members id None = refl
turn_is_members id (Some command) = refl

challenge_with_is : (n : ℕ) (event other : Option (List ℕ)) (first : Option Bool)
    → is_for_arbiter (challenge_with n event other first) ≡ false
challenge_with_is n None other first = refl
challenge_with_is n (Some event) None first = refl
challenge_with_is n (Some event) (Some other) None = refl
challenge_with_is n (Some event) (Some other) (Some first) = refl

challenge_in_is : (n : ℕ) (read : Option Data) → is_for_arbiter (option_and_then (challenge_in n) read) ≡ false
challenge_in_is n None = refl
challenge_in_is n (Some d) = challenge_with_is n _ _ _

pub challenge_is_members : (n : ℕ) (body : List ℕ) → is_for_arbiter (challenge_of n body) ≡ false
unfolding challenge_of
challenge_is_members n body = challenge_in_is n (json_of body)

answer_with_is : (challenger : List ℕ) (n : ℕ) (accept : Option Bool)
    → is_for_arbiter (answer_with challenger n accept) ≡ false
answer_with_is challenger n None = refl
answer_with_is challenger n (Some accept) = refl

answer_in_is : (challenger : List ℕ) (n : ℕ) (read : Option Data)
    → is_for_arbiter (option_and_then (answer_in challenger n) read) ≡ false
answer_in_is challenger n None = refl
answer_in_is challenger n (Some d) = answer_with_is challenger n _

pub answer_is_members : (challenger : List ℕ) (n : ℕ) (body : List ℕ)
    → is_for_arbiter (answer_of challenger n body) ≡ false
unfolding answer_of
answer_is_members challenger n body = answer_in_is challenger n (json_of body)

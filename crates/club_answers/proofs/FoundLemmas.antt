-- Answers to queries that are the same in each version.
use Rattle.std.proofs.Common.{◌≡◌, ℕ, List}
use Rattle.std.specs.Prelude.{Result, Ok, Err, IfOk, string_bytes}
use Rattle.sqlite.specs.State.{State}
use Rattle.store_tables.specs.internal.Over.{HasRows}
use Rattle.store_tables.specs.declared.names.Version.{Version}
use Rattle.club_requests.specs.declared.questions.Question.{Question}
use Rattle.club_requests.specs.declared.refusals.Refusal.{Refusal}
use Rattle.club_rows.specs.Club.{ClubState, IsClub, StoresClub, tables}
use Rattle.club_rows.specs.Tables.{version_of}
use Rattle.club_rows.proofs.Proved.{stores-rows}
use Rattle.club_reads.specs.declared.fault.LookupFault.{LookupFault}
use Rattle.club_answers.specs.AnswerTexts.{IsRefused, IsText}
use Rattle.club_answers.specs.internal.Found.{IsFound, IsFoundAs}
use Rattle.club_answers.specs.declared.found.Shown.{Shown}
use Rattle.club_answers.specs.declared.found.Shown.TheVariants.{Text, Refused, Record, Records}

module _ (IsThere : ClubState → List ℕ → Type 0) (IsNot : ClubState → Refusal → Type 0) (moment : ℕ) (asked : Question)
    (there : (s : ClubState) (text : List ℕ) → IsThere s text → IsText s moment asked text)
    (not : (s : ClubState) (refusal : Refusal) → IsNot s refusal → IsRefused s asked refusal) where
  -- a text or a refusal that was found is the answer
  found_as : (s : ClubState) (found : Shown) → IsFoundAs (IsThere s) (IsNot s) found → IsFound s moment asked found
  found_as s (Text text) is = there s (string_bytes text) is
  found_as s (Refused refusal) is = not s refusal is
  found_as s (Record game) is = absurd is
  found_as s (Records kind ids) is = absurd is

  -- the query is answered in each version
  pub found_stored : (version : Version) (conn : State) (given : Question) (r : Result Shown LookupFault)
      → given ≡ asked
      → IfOk r (λ found. (s : ClubState) → IsClub s → StoresClub s conn
      → IsFoundAs (IsThere s) (IsNot s) found)
      → IfOk r (λ found. (s : ClubState) → IsClub s → version ≡ version_of s → StoresClub s conn
      → IsFound s moment given found)
  found_stored version conn given (Ok found) is told =
      λ s is_club same stores. rw is (found_as s found (told s is_club stores))
  found_stored version conn given (Err fault) is told = tt

  -- the same for a query that reads only tables that each club has
  pub found_in_rows : (version : Version) (conn : State) (given : Question) (r : Result Shown LookupFault)
      → given ≡ asked
      → IfOk r (λ found. (s : ClubState) → IsClub s → HasRows (tables s) conn
      → IsFoundAs (IsThere s) (IsNot s) found)
      → IfOk r (λ found. (s : ClubState) → IsClub s → version ≡ version_of s → StoresClub s conn
      → IsFound s moment given found)
  found_in_rows version conn given (Ok found) is told =
      λ s is_club same stores. rw is (found_as s found (told s is_club (stores-rows s conn stores)))
  found_in_rows version conn given (Err fault) is told = tt

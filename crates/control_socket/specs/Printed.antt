-- The output and the exit status of a command.
use Rattle.std.specs.Prelude.{◌≡◌, ◌++◌, ℕ, Bool, List, [], Option, Result, Ok, Err, codes, true, false, take}
use Rattle.std.specs.Io.KnownBytes.{Appends}
use Rattle.club_requests.specs.declared.answers.Outcome.{Outcome}
use Rattle.club_requests.specs.declared.answers.Outcome.TheVariants.{Accepted, Repeated, Refused}
use Rattle.club_requests.specs.declared.refusals.Refusal.{Refusal}
use Rattle.club_requests.specs.AnswerText.{outcome_text}

-- exit status, standard output and standard error
pub record Print : Type 0 where
  pub status : ℕ
  pub out : List ℕ
  pub err : List ℕ

-- 0 and standard output if done, 1 and standard error if refused
abbrev pub print_of : (done : Bool) → List ℕ → Print
print_of true text = record { status = 0; out = text; err = [] }
print_of false text = record { status = 1; out = []; err = text }

-- it was printed, and the program ends with its status
pub record IsMade (print : Print) (out out_now err err_now : Option (List ℕ)) (with_status : ℕ) : Type 0 where
  pub status_is : with_status ≡ print.status
  pub out_is : Appends out out_now print.out
  pub err_is : Appends err err_now print.err

-- a prefix of it was printed
pub record IsBegun (print : Print) (out out_now err err_now : Option (List ℕ)) : Type 0 where
  pub count : ℕ
  pub out_is : Appends out out_now (take count print.out)
  pub err_is : Appends err err_now (take count print.err)

-- the output of a command: a line
abbrev pub printed : Outcome → Print
printed (Accepted answer) = print_of true (outcome_text (Accepted answer) ++ codes "\n")
printed (Repeated answer) = print_of true (outcome_text (Repeated answer) ++ codes "\n")
printed (Refused refusal) = print_of false (outcome_text (Refused refusal) ++ codes "\n")

-- the output of a query: the answer, or the refusal
abbrev pub shown_printed : Result (List ℕ) Refusal → Print
shown_printed (Ok text) = print_of true text
shown_printed (Err refusal) = printed (Refused refusal)

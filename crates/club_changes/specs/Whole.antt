-- An effect has rows to upsert only if the command is accepted.
use Rattle.std.specs.Prelude.{⊤}
use Rattle.club_requests.specs.declared.answers.Outcome.{Outcome}
use Rattle.club_requests.specs.declared.answers.Outcome.TheVariants.{Accepted, Repeated, Refused}

-- the command was accepted, neither repeated nor refused
abbrev pub IsAccepted : Outcome → Type 0
IsAccepted (Accepted answer) = ⊤
IsAccepted (Repeated answer) = ⊥
IsAccepted (Refused refusal) = ⊥

-- An effect has rows to upsert only if the command is accepted. No promise of the program rests on these definitions.
use Rattle.std.specs.Prelude.{IfSome}
use Rattle.club_changes.specs.declared.decided.CommandEffect.{CommandEffect}
use Rattle.club_changes.specs.Whole.{IsAccepted}

abbrev pub IsWhole : CommandEffect → Type 0
IsWhole decided = IfSome decided.changes (λ changes. IsAccepted decided.outcome)

-- A club of the store as the HTTP application sees it. No promise of the program rests on these definitions.
use Rattle.std.specs.Prelude.{ℕ, List, Option, Some, None, Result, Ok, Err}
use Rattle.club_requests.specs.declared.refusals.Refusal.{Refusal}

-- the bytes of the answer, or the refusal
abbrev pub written : Option Refusal → List ℕ → Result (List ℕ) Refusal
written None bytes = Ok bytes
written (Some refusal) bytes = Err refusal

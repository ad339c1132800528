-- The mathematical value of an answer to a query.
use Rattle.std.specs.Prelude.{ℕ, List, Result, Ok, Err}
use Rattle.std.specs.declared.alloc.Global.{Global}
use Rattle.std.specs.declared.vec.Vec.{Vec}
use Rattle.club_requests.specs.declared.refusals.Refusal.{Refusal}

-- the bytes of the answer, or the refusal
abbrev pub shown_view : Result (Vec ℕ Global) Refusal → Result (List ℕ) Refusal
shown_view (Ok bytes) = Ok bytes.items
shown_view (Err refusal) = Err refusal

-- A buffer that gets what is read, piece by piece, until a piece is lost.
use Rattle.std.proofs.Common.{◌≡◌, ◌++◌, ℕ, List, true, Option, Result, Ok, Err, true≢false, sym, ◌∙◌}
use Rattle.std.specs.Prelude.{if◌then◌else◌, is_ok, is_err}
use Rattle.std.proofs.KnownBytes.{Consumes-trans}
use Rattle.std.specs.Io.KnownBytes.{Consumes}
use Rattle.http_head.specs.internal.Intake.{HasTaken}
use Rattle.control_socket.specs.internal.Received.{HasReceived}

-- at a failure nothing is added
pub not_added : {A F : Type 0} (result : Result A F) (old new piece : List ℕ)
    → new ≡ (if is_ok result then old ++ piece else old) → is_err result ≡ true → new ≡ old
not_added (Ok a) old new piece is failed = absurd (true≢false (sym failed))
not_added (Err fault) old new piece is failed = is

-- the last piece is lost
pub received_but : (IsAll : Type 0) (before bytes now piece : List ℕ) (a b c : Option (List ℕ))
    → HasTaken before bytes a b → now ≡ bytes → Consumes b c piece → (IsAll → ⊥) → HasReceived IsAll before now a c
received_but IsAll before bytes now piece a b c taken is more lossy = record {
  further = taken.0;
  lost = piece;
  added = is ∙ taken.1;
  is_read = Consumes-trans a b c taken.0 piece taken.2 more;
  none_lost = λ all. absurd (lossy all);
}

-- A request buffer that got one more piece.
use Rattle.std.proofs.Common.{◌≡◌, ◌++◌, ◌∙◌, ℕ, List, [], false, Option, Result, Ok, Err}
use Rattle.std.proofs.Common.{true≢false, ap, refl, sym, subst, append_assoc, append-nil}
use Rattle.std.specs.Prelude.{if◌then◌else◌, is_ok, is_err}
use Rattle.std.proofs.KnownBytes.{Consumes-trans}
use Rattle.std.specs.Io.KnownBytes.{Consumes}
use Rattle.http_head.specs.internal.Intake.{HasTaken}
use Rattle.control_socket.specs.internal.Received.{HasReceived}

-- a call that did not fail added the piece
was_added : {A F : Type 0} (result : Result A F) (old new piece : List ℕ)
    → new ≡ (if is_ok result then old ++ piece else old) → is_err result ≡ false → new ≡ old ++ piece
was_added (Ok a) old new piece is done = is
was_added (Err fault) old new piece is done = absurd (true≢false done)

pub received_with : {A F : Type 0} (result : Result A F) (IsAll : Type 0) (before bytes now piece : List ℕ)
    (a b c : Option (List ℕ)) → HasTaken before bytes a b → Consumes b c piece
    → now ≡ (if is_ok result then bytes ++ piece else bytes) → is_err result ≡ false → HasReceived IsAll before now a c
received_with result IsAll before bytes now piece a b c taken more items done =
    let is = was_added result bytes now piece items done in
    record {
      further = taken.0 ++ piece;
      lost = [];
      added = is ∙ (ap (λ (xs : List ℕ). xs ++ piece) taken.1 ∙ append_assoc before taken.0 piece);
      is_read = subst (λ (xs : List ℕ). Consumes a c xs) (sym (append-nil (taken.0 ++ piece)))
          (Consumes-trans a b c taken.0 piece taken.2 more);
      none_lost = λ all. refl;
    }

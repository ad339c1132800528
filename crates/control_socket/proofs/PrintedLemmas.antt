-- What is printed of an answer goes to one of two streams.
use Rattle.std.proofs.Common.{◌≡◌, ℕ, Bool, true, false, true≢false, List, [], Option, Some, None, take, zero, suc}
use Rattle.std.proofs.Common.{sym, MatchOption}
use Rattle.std.proofs.KnownBytes.{Appends-nil}
use Rattle.std.specs.Io.KnownBytes.{Appends}
use Rattle.control_socket.specs.Printed.{IsBegun, IsMade, print_of}

begun_nothing : (n : ℕ) (known : Option (List ℕ)) → Appends known known (take n [])
begun_nothing zero known = Appends-nil known
begun_nothing (suc n) known = Appends-nil known

module _ (text : List ℕ) (old now still : Option (List ℕ)) where
  pub printed_done : (done : Bool) → done ≡ true → (r : Option ℕ)
      → MatchOption r ((n : ℕ) × Appends old now (take n text)) (λ status. (status ≡ 0) × Appends old now text)
      → MatchOption r (IsBegun (print_of done text) old now still still)
      (IsMade (print_of done text) old now still still)
  printed_done false is r h = absurd (true≢false (sym is))
  printed_done true is None part = record { count = part.0; out_is = part.1; err_is = begun_nothing part.0 still }
  printed_done true is (Some status) whole =
      record { status_is = whole.0; out_is = whole.1; err_is = Appends-nil still }

  pub printed_refused : (done : Bool) → done ≡ false → (r : Option ℕ)
      → MatchOption r ((n : ℕ) × Appends old now (take n text)) (λ status. (status ≡ 1) × Appends old now text)
      → MatchOption r (IsBegun (print_of done text) still still old now)
      (IsMade (print_of done text) still still old now)
  printed_refused true is r h = absurd (true≢false is)
  printed_refused false is None part = record { count = part.0; out_is = begun_nothing part.0 still; err_is = part.1 }
  printed_refused false is (Some status) whole =
      record { status_is = whole.0; out_is = Appends-nil still; err_is = whole.1 }

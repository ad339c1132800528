-- A run of letters and digits that is long enough, whatever follows.
use Rattle.std.proofs.Common.{◌≡◌, ℕ, List, [], ◌∷◌, true, nat_lt, refl}
use Rattle.server.specs.internal.LogLine.{has_run}

pub is_long : (n : ℕ) (bytes : List ℕ) → nat_lt 7 n ≡ true → true ≡ has_run n bytes
is_long n [] long = rw long refl
is_long n (c ∷ bytes) long = rw long refl

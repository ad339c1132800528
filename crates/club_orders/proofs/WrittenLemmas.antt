-- Bytes that are written piece by piece.
use Rattle.std.proofs.Common.{◌≡◌, ℕ, ◌+◌, ◌-◌, List, length, take, drop, Option, Some, None, ◌∙◌, subst}
use Rattle.std.proofs.Common.{arith, length-drop, take_all}
use Rattle.std.proofs.Math.Seq.{take-add}
use Rattle.std.proofs.KnownBytes.{Appends-trans}
use Rattle.std.specs.Io.KnownBytes.{Keeps, Appends}

appends_kept : (a b c : Option (List ℕ)) (x : List ℕ) → Appends a b x → Keeps b c → Appends a c x
appends_kept None b c x p q = tt
appends_kept (Some xs) None c x p q = absurd p
appends_kept (Some xs) (Some ys) None x p q = absurd q
appends_kept (Some xs) (Some ys) (Some zs) x p q = q ∙ p

-- so many more of the bytes from a place on
pub piece_written : (a b c : Option (List ℕ)) (bytes : List ℕ) (at n next : ℕ) → next ≡ at + n
    → Appends a b (take at bytes) → Appends b c (take n (take (length bytes - at) (drop at bytes)))
    → Appends a c (take next bytes)
piece_written a b c bytes at n next is before more =
    let whole : take (length bytes - at) (drop at bytes) ≡ drop at bytes =
    take_all (length bytes - at) (drop at bytes) (omega (arith, length-drop at bytes)) in
    let piece = subst (λ l. Appends b c (take n l)) whole more in
    let both = Appends-trans a b c (take at bytes) (take n (drop at bytes)) before piece in
    rw is (rw (take-add at n bytes) both)

-- none more
pub nothing_written : (a b c : Option (List ℕ)) (bytes : List ℕ) (at next : ℕ) → next ≡ at → Appends a b (take at bytes)
    → Keeps b c → Appends a c (take next bytes)
nothing_written a b c bytes at next is before same = rw is (appends_kept a b c (take at bytes) before same)

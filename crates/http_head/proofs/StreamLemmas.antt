-- Known bytes of readers and writers, over several calls.
use Rattle.std.proofs.Common.{◌≡◌, ℕ, ◌+◌, ◌-◌, List, ◌++◌, length, take, drop, Option, ◌∙◌}
use Rattle.std.proofs.Common.{refl, append_assoc, arith, length-drop, take_all}
use Rattle.std.proofs.KnownBytes.{Appends-trans, Appends-kept, Consumes-trans, Consumes-kept}
use Rattle.std.proofs.Math.Seq.{take-add}
use Rattle.std.specs.Io.KnownBytes.{Consumes, Keeps, Appends}
use Rattle.http_head.specs.internal.Intake.{HasTaken}

-- a write of some bytes of a slice from a place on
pub appends_slice : (a b c : Option (List ℕ)) (bytes : List ℕ) (at n next : ℕ) → next ≡ at + n
    → Appends a b (take at bytes) → Appends b c (take n (take (length bytes - at) (drop at bytes)))
    → Appends a c (take next bytes)
appends_slice a b c bytes at n next e p q =
    let whole : take (length bytes - at) (drop at bytes) ≡ drop at bytes =
    take_all (length bytes - at) (drop at bytes) (omega (arith, length-drop at bytes)) in
    rw (e, take-add at n bytes) (Appends-trans a b c (take at bytes) (take n (drop at bytes)) p (rw whole at q))

pub appends_still : (a b c : Option (List ℕ)) (bytes : List ℕ) (at next : ℕ) → next ≡ at → Appends a b (take at bytes)
    → Keeps b c → Appends a c (take next bytes)
appends_still a b c bytes at next e p q = rw e (Appends-kept a b c (take at bytes) p q)

-- a piece more behind what was heard before and further
pub taken_more : (heard bytes next piece : List ℕ) (a b c : Option (List ℕ)) → HasTaken heard bytes a b
    → next ≡ bytes ++ piece → Consumes b c piece → HasTaken heard next a c
taken_more heard bytes next piece a b c taken is more = (
  taken.0 ++ piece,
  rw (is, taken.1, append_assoc heard) refl,
  Consumes-trans a b c taken.0 piece taken.2 more,
)

pub taken_still : (heard bytes next : List ℕ) (a b c : Option (List ℕ)) → HasTaken heard bytes a b → next ≡ bytes
    → Keeps b c → HasTaken heard next a c
taken_still heard bytes next a b c taken is kept = (taken.0, is ∙ taken.1, Consumes-kept a b c taken.0 taken.2 kept)

-- How the search for a head's end goes over a list of bytes.
use Rattle.std.proofs.Common.{◌≡◌, ℕ, suc, ◌+◌, ◌-◌, ◌<◌, ◌≤◌, Bool, true, false, List, [], ◌∷◌, ◌++◌, length, take}
use Rattle.std.proofs.Common.{Some, None, Option, refl, arith}
use Rattle.http_head.specs.declared.framing.Scan.{Scan}
use Rattle.http_head.specs.Framing.{end_from, ends_head, after}

-- what was found stays, whatever follows
pub end_append : (s : Scan) (bytes more : List ℕ) (end : ℕ × ℕ) → end_from s bytes ≡ Some end
    → end_from s (bytes ++ more) ≡ Some end
end_append s [] more end h = cc
end_append s (b ∷ bytes) more end h =
    let later = end_append (after s b) bytes more end in
    grind (arith, later)

-- it lies within the bytes, and needs none behind it
pub record Ends (s : Scan) (bytes : List ℕ) (end : ℕ × ℕ) : Type 0 where
  pub later : s.at < end.0
  pub within : end.0 ≤ s.at + length bytes
  pub alone : end_from s (take (end.0 - s.at) bytes) ≡ Some end

pub ends : (s : Scan) (bytes : List ℕ) (end : ℕ × ℕ) → end_from s bytes ≡ Some end → Ends s bytes end
ends s [] end h = absurd (let e : ◌≡◌ {A = Option (ℕ × ℕ)} None (Some end) = h in cc)
ends s (b ∷ bytes) end h = by (ends_head s b) refl (λ q. ends (after s b) bytes end q)
  where
    by : (t : Bool) → ends_head s b ≡ t → (end_from (after s b) bytes ≡ Some end → Ends (after s b) bytes end)
        → Ends s (b ∷ bytes) end
    by true e later =
        let found : ◌≡◌ {A = Option (ℕ × ℕ)} (Some (s.at + 1, s.lines)) (Some end) = rw e at h in
        let place : s.at + 1 ≡ end.0 = cc in
        record {
          later = omega arith;
          within = omega arith;
          alone = let d : end.0 - s.at ≡ 1 = omega arith in rw (d, e) found;
        }
    by false e later =
        let rest = later (rw e at h) in
        record {
          later = omega (arith, rest.later);
          within = omega (arith, rest.within);
          alone = let d : end.0 - s.at ≡ suc (end.0 - (s.at + 1)) = omega (arith, rest.later) in rw (d, e) rest.alone;
        }

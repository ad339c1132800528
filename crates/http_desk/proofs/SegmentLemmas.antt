-- The segments of a path that fills a pattern are those of the pattern, with the parts in them.
use Rattle.std.proofs.Common.{◌≡◌, ◌∙◌, ℕ, suc, List, [], ◌∷◌, ◌++◌, Bool, true, false, ◌==◌, if◌then◌else◌, refl, ap, append-nil, arith}
use Rattle.std.proofs.lemmas.Bool.Decides.{nat_tests}
use Rattle.matchit.specs.Rows.{param_token}
use Rattle.matchit.specs.Seek.{has_slash}
use Rattle.http_desk.specs.Paths.{slash, segments, with_byte}
use Rattle.http_desk.proofs.FilledPaths.{filled, later, cond_none, HaveNoSlash}

-- the parts behind those of a segment
abbrev pub parts_after : List ℕ → (ℕ → List ℕ) → ℕ → List ℕ
parts_after [] parts = parts
parts_after (x ∷ rest) parts = if x == param_token then parts_after rest (later parts) else parts_after rest parts

-- a segment with parts, of which the last may end it
abbrev pub segment_filled : List ℕ → (ℕ → List ℕ) → List ℕ
segment_filled [] parts = []
segment_filled (x ∷ []) parts = if x == param_token then parts 0 else x ∷ []
segment_filled (x ∷ y ∷ rest) parts =
    if x == param_token then parts 0 ++ segment_filled (y ∷ rest) (later parts)
    else x ∷ segment_filled (y ∷ rest) parts

abbrev pub segments_filled : List (List ℕ) → (ℕ → List ℕ) → List (List ℕ)
segments_filled [] parts = []
segments_filled (segment ∷ more) parts = segment_filled segment parts ∷ segments_filled more (parts_after segment parts)

-- bytes in front of the first segment
with_bytes : List ℕ → List (List ℕ) → List (List ℕ)
with_bytes part [] = part ∷ []
with_bytes part (segment ∷ more) = (part ++ segment) ∷ more

with_both : (x : ℕ) (part : List ℕ) (all : List (List ℕ)) → with_byte x (with_bytes part all) ≡ with_bytes (x ∷ part) all
unfolding with_bytes
with_both x part [] = refl
with_both x part (segment ∷ more) = refl

with_none : (path : List ℕ) → segments path ≡ with_bytes [] (segments path)
unfolding with_bytes
with_none [] = refl
with_none (x ∷ path) = by (x == slash) (segments path)
  where
    by : (v : Bool) (all : List (List ℕ)) → (if v then [] ∷ all else with_byte x all)
        ≡ with_bytes [] (if v then [] ∷ all else with_byte x all)
    by true all = refl
    by false [] = refl
    by false (segment ∷ more) = refl

-- a part without a slash is in front of the first segment of what follows
with_part : (part path : List ℕ) → has_slash part ≡ false → segments (part ++ path) ≡ with_bytes part (segments path)
with_part [] path none = with_none path
with_part (b ∷ part) path none =
    let e = cond_none (b == slash) _ none in
    rw e.0 (ap (with_byte b) (with_part part path e.1) ∙ with_both b part (segments path))

-- a segment with the part of its first token in front of it
part_first : (segment : List ℕ) (parts : ℕ → List ℕ)
    → parts 0 ++ segment_filled segment (later parts) ≡ segment_filled (param_token ∷ segment) parts
part_first [] parts = append-nil (parts 0)
part_first (y ∷ rest) parts = refl

byte_first : (x : ℕ) (segment : List ℕ) (parts : ℕ → List ℕ) → (x == param_token) ≡ false
    → x ∷ segment_filled segment parts ≡ segment_filled (x ∷ segment) parts
byte_first x [] parts e = rw e refl
byte_first x (y ∷ rest) parts e = rw e refl

part_in_front : (all : List (List ℕ)) (parts : ℕ → List ℕ)
    → with_bytes (parts 0) (segments_filled all (later parts)) ≡ segments_filled (with_byte param_token all) parts
unfolding with_bytes
part_in_front [] parts = refl
part_in_front (segment ∷ more) parts =
    ap (λ (s : List ℕ). s ∷ segments_filled more (parts_after segment (later parts))) (part_first segment parts)

byte_in_front : (x : ℕ) (all : List (List ℕ)) (parts : ℕ → List ℕ) → (x == param_token) ≡ false
    → with_byte x (segments_filled all parts) ≡ segments_filled (with_byte x all) parts
byte_in_front x [] parts e = rw e refl
byte_in_front x (segment ∷ more) parts e =
    rw e (ap (λ (s : List ℕ). s ∷ segments_filled more (parts_after segment parts)) (byte_first x segment parts e))

pub filled_segments : (pattern : List ℕ) (parts : ℕ → List ℕ) → HaveNoSlash parts
    → segments (filled pattern parts) ≡ segments_filled (segments pattern) parts
filled_segments [] parts none = refl
filled_segments (x ∷ rest) parts none =
    by (x == param_token) (x == slash) refl refl (λ parts none. filled_segments rest parts none)
  where
    by : (v w : Bool) → (x == param_token) ≡ v → (x == slash) ≡ w
        → ((parts : ℕ → List ℕ) → HaveNoSlash parts
        → segments (filled rest parts) ≡ segments_filled (segments rest) parts)
        → segments (if v then parts 0 ++ filled rest (later parts) else x ∷ filled rest parts)
        ≡ segments_filled (if w then [] ∷ segments rest else with_byte x (segments rest)) parts
    by true true e f more =
        let one : x ≡ param_token = grind (arith, nat_tests) in
        let other : x ≡ slash = grind (arith, nat_tests) in
        absurd (omega (arith, one, other))
    by true false e f more =
        let same : x ≡ param_token = grind (arith, nat_tests) in
        rw same (with_part (parts 0) (filled rest (later parts)) (none 0)
        ∙ (ap (with_bytes (parts 0)) (more (later parts) (λ i. none (suc i))) ∙ part_in_front (segments rest) parts))
    by false true e f more = rw f (ap (λ (all : List (List ℕ)). [] ∷ all) (more parts none))
    by false false e f more =
        rw f (ap (with_byte x) (more parts none) ∙ byte_in_front x (segments rest) parts e)

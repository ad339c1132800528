-- The parts of a path that is text are text.
use Rattle.std.proofs.Common.{◌≡◌, ℕ, zero, suc, ◌<◌, List, [], ◌∷◌, ◌++◌, length, get_or}
use Rattle.std.proofs.Common.{Bool, true, false, ◌==◌, ltb, if◌then◌else◌, refl, arith, append-nil}
use Rattle.std.proofs.lemmas.Bool.{and_parts}
use Rattle.std.proofs.lemmas.Bool.Decides.{nat_tests}
use Rattle.std.proofs.lemmas.Str.{IsUtf8-nil, IsUtf8-take, IsUtf8-drop, IsCharBoundary-before_ascii}
use Rattle.std.proofs.lemmas.Str.{IsCharBoundary-after_ascii}
use Rattle.std.proofs.lemmas.List.{length-append}
use Rattle.std.proofs.Math.Seq.{take-append_seam, drop-append_seam, get_or-append_seam}
use Rattle.std.specs.Str.{IsUtf8}
use Rattle.matchit.specs.Rows.{param_token}
use Rattle.matchit.specs.Seek.{slash}
use Rattle.http_desk.proofs.FilledPaths.{filled, later, is_plain, ends_part}

-- how many parameters a pattern has
abbrev pub parameters : List ℕ → ℕ
parameters [] = 0
parameters (x ∷ rest) = if x == param_token then suc (parameters rest) else parameters rest

-- text that is cut before an ASCII byte
before_ascii : (front : List ℕ) (b : ℕ) (rest : List ℕ) → b < 128 → IsUtf8 (front ++ b ∷ rest)
    → IsUtf8 front × IsUtf8 (b ∷ rest)
before_ascii front b rest low text =
    let long : length front < length (front ++ b ∷ rest) = omega (arith, length-append front (b ∷ rest)) in
    let byte : get_or (front ++ b ∷ rest) (length front) 0 < 128 = rw (get_or-append_seam front b rest 0) low in
    let at = IsCharBoundary-before_ascii (front ++ b ∷ rest) (length front) long byte in (
      rw (take-append_seam front (b ∷ rest)) at (IsUtf8-take (front ++ b ∷ rest) (length front) text at),
      rw (drop-append_seam front (b ∷ rest)) at (IsUtf8-drop (front ++ b ∷ rest) (length front) text at),
    )

-- text behind an ASCII byte
behind_ascii : (b : ℕ) (rest : List ℕ) → b < 128 → IsUtf8 (b ∷ rest) → IsUtf8 rest
behind_ascii b rest low text =
    let long : 0 < length (b ∷ rest) = omega arith in
    IsUtf8-drop (b ∷ rest) 1 text (IsCharBoundary-after_ascii (b ∷ rest) 0 text long low)

cut_part : (rest part : List ℕ) (parts : ℕ → List ℕ) → ends_part rest ≡ true → IsUtf8 (part ++ filled rest parts)
    → IsUtf8 part × IsUtf8 (filled rest parts)
cut_part [] part parts ends text = (rw append-nil at text, IsUtf8-nil)
cut_part (x ∷ rest) part parts ends text =
    let same : x ≡ slash = grind (arith, nat_tests) in
    rw same (before_ascii part slash (filled rest parts) (omega arith) (rw same at text))

-- the parts of a pattern are text
abbrev pub AreTexts : List ℕ → (ℕ → List ℕ) → Type 0
AreTexts pattern parts = (i : ℕ) → i < parameters pattern → IsUtf8 (parts i)

pub parts_text : (pattern : List ℕ) (parts : ℕ → List ℕ) → is_plain pattern ≡ true → IsUtf8 (filled pattern parts)
    → AreTexts pattern parts
parts_text [] parts plain text i is = absurd (omega arith)
parts_text (x ∷ rest) parts plain text i is =
    by (x == param_token) refl (λ parts text. parts_text rest parts (and_parts _ _ plain).1 text)
  where
    part_at : (i : ℕ) → IsUtf8 (parts 0) → AreTexts rest (later parts) → i < suc (parameters rest) → IsUtf8 (parts i)
    part_at zero one more is = one
    part_at (suc i) one more is = more i (omega arith)

    by : (v : Bool) → (x == param_token) ≡ v
        → ((parts : ℕ → List ℕ) → IsUtf8 (filled rest parts) → AreTexts rest parts) → IsUtf8 (parts i)
    by true e more =
        let ends : ends_part rest ≡ true = (and_parts _ (is_plain rest) (rw e at plain)).0 in
        let cut = cut_part rest (parts 0) (later parts) ends (rw e at text) in
        part_at i cut.0 (more (later parts) cut.1) (rw e at is)
    by false e more =
        let byte : ltb x 128 ≡ true = (and_parts _ (is_plain rest) (rw e at plain)).0 in
        let low : x < 128 = grind (arith, nat_tests) in
        more parts (behind_ascii x (filled rest parts) low (rw e at text)) i (rw e at is)

-- Files that hold no database yet, and what an opening finds in them.
use Rattle.std.proofs.Common.{◌-◌, ◌*◌, ◌∙◌, ◌≡◌, ℕ, List, [], length, take, slice_index}
use Rattle.std.proofs.Common.{get_or-take, ap, ◌<◌, ◌≤◌, Some, Option, unwrap_or, refl, sym, subst, inl, inr}
use Rattle.std.proofs.Common.{arith}
use Rattle.std.proofs.Math.Logic.{∥∥₁_elim}
use Rattle.std.proofs.lemmas.List.{length-take}
use Rattle.std.proofs.Math.Nat.{min-le_left, min-le_right}
use Rattle.sqlite_wal.specs.Format.{part}
use Rattle.sqlite_wal.specs.Recovery.{Image, pages_after}
use Rattle.sqlite_wal.proofs.PartLemmas.{slice_index-part, part_within}
use Rattle.sqlite_wal.proofs.RecoveryLemmas.{replays_once}
use Rattle.sqlite_wal.proofs.AppendLemmas.{some_value, page_from_pages}
use Rattle.sqlite_pages.specs.PageMap.{PageMap}
use Rattle.sqlite_pool.specs.Stored.{stored_size, Adopts}
use Rattle.sqlite_pool.specs.StoredLaws.{trimmed_some}
use Rattle.sqlite_pool.specs.File.{header_in, IsSoundFile}
use Rattle.sqlite_pool.specs.Opening.{IsBlankFile}
use Rattle.sqlite_pool.proofs.ProbeLemmas.{first_byte}
use Rattle.sqlite.specs.Tree.{Trees}
use Rattle.sqlite.specs.Files.{IsNothing, IsEmpty, AreFoundIn}

module _ (size : ℕ) (image : Image) (pages : PageMap) (found : Adopts size image pages)
    (sound : IsSoundFile size pages) where
  -- the header has its first sixteen bytes, so a page has them
  large : 16 ≤ size
  large =
      let whole = ap length sound.header.0.magic in
      let (page, is) = some_value (found.stored 1) found.whole.first in
      let used : pages 1 ≡ Some (take size page) = ap (λ (p : PageMap). p 1) (sym found.shows)
      ∙ trimmed_some size _ 1 page is in
      let head : header_in pages ≡ take 100 (take size page) =
      ap (λ (o : Option (List ℕ)). take 100 (unwrap_or o [])) used in
      let short : (n : ℕ) (bytes : List ℕ) → length (take n bytes) ≤ n = λ n bytes.
      subst (λ k. k ≤ n) (sym (length-take n bytes)) (min-le_left n (length bytes)) in
      let header : 16 ≤ length (header_in pages) =
      subst (λ k. k ≤ length (header_in pages)) whole
      (subst (λ k. k ≤ length (header_in pages)) (sym (length-take 16 (header_in pages)))
      (min-le_right 16 (length (header_in pages)))) in
      let cut : length (header_in pages) ≤ length (take size page) =
      subst (λ h. length h ≤ length (take size page)) (sym head)
      (subst (λ k. k ≤ length (take size page)) (sym (length-take 100 (take size page)))
      (min-le_right 100 (length (take size page)))) in
      omega (arith, header, cut, short size page)

  -- with no frame to replay, the database file begins with the S of SQLite
  from_file : found.found.frames ≡ 0 → (16 ≤ length image.db) × (slice_index image.db 0 ≡ 83)
  from_file none =
      let whole = stored_size size in
      let raw = found.found in
      let (page, is) = some_value (found.stored 1) found.whole.first in
      let alone : pages_after whole image.log image.db 0 1 ≡ Some page =
      ap (λ (p : PageMap). p 1) (ap (pages_after whole image.log image.db) (sym none) ∙ raw.gives) ∙ is in
      let start : (1 - 1) * whole ≡ 0 = omega arith in
      let front : part image.db 0 whole ≡ page = ap (λ (at : ℕ). part image.db at whole) (sym start)
      ∙ (page_from_pages whole image.log image.db 0 1 page alone).0 in
      let long = part_within image.db 0 whole (omega (arith, large)) (ap length front ∙ found.whole.sized 1 page is) in
      let used : pages 1 ≡ Some (take size page) = ap (λ (p : PageMap). p 1) (sym found.shows)
      ∙ trimmed_some size _ 1 page is in
      let head : header_in pages ≡ take 100 (take size (part image.db 0 whole)) =
      ap (λ (o : Option (List ℕ)). take 100 (unwrap_or o [])) used
      ∙ ap (λ (b : List ℕ). take 100 (take size b)) (sym front) in
      let magic : slice_index (header_in pages) 0 ≡ 83 = sym (get_or-take 16 (header_in pages) 0 0 (omega arith))
      ∙ ap (λ (b : List ℕ). slice_index b 0) sound.header.0.magic in
      let same : slice_index (header_in pages) 0 ≡ slice_index image.db 0 =
      ap (λ (b : List ℕ). slice_index b 0) head ∙ get_or-take 100 (take size (part image.db 0 whole)) 0 0 (omega arith)
      ∙ get_or-take size (part image.db 0 whole) 0 0 (omega (arith, large))
      ∙ slice_index-part image.db 0 whole 0 (omega (arith, large)) in
      (omega (arith, large, long), sym same ∙ magic)

  -- files that hold pages are not those that hold no database yet
  not_blank : (other : ℕ) → 0 < other → ¬ IsBlankFile other image
  not_blank other some (inl none) = omega (arith, found.found.present)
  not_blank other some (inr blank) =
      let raw = found.found in
      let none : raw.frames ≡ 0 = elim blank.0 [
        | inl ignored ↦ replays_once (stored_size size) image.log raw.frames 0 raw.replays (inl (ignored.0, refl))
        | inr taken ↦ elim raw.replays [
          | inl ignored ↦ ignored.1
          | inr ours ↦ replays_once (stored_size size) image.log raw.frames 0 raw.replays
              (rw (sym ours.0.head.size ∙ taken.0.head.size) blank.0)
        ]
      ] in
      let (long, byte) = from_file none in
      elim blank.1.0 [
        | inl short ↦ omega arith
        | inr more ↦
            elim more [ inl zero' ↦ omega (arith, zero'.1) | inr rest ↦ rest.1 (byte ∙ sym (first_byte other some)) ]
      ]

-- of such files an opening finds no table
pub found_empty : (files : Image) (found : Trees) → IsNothing files → AreFoundIn files found → IsEmpty found
found_empty files found nothing (inr made) = made.1
found_empty files found nothing (inl held) =
    absurd (∥∥₁_elim held.4 (λ a b. absurd a) (λ ours.
    let never = not_blank held.0 files held.1 held.3 ours.file.sound in
    elim nothing [ inl plain ↦ never _ (omega arith) plain | inr summed ↦ never _ (omega arith) summed ]))

-- The lists that have the legal moves.
use Rattle.std.proofs.Common.{◌≡◌, ℕ, ◌⊎◌, inl, inr, [], arith}
use Rattle.std.specs.Prelude.{◌↔◌}
use Rattle.std.specs.List.{Contains}
use Rattle.std.specs.List.Sorted.{IsStrictlySortedBy}
use Rattle.std.specs.declared.cmp.Ordering.TheVariants.{Equal}
use Rattle.squares.specs.declared.draughts.moves.DMove.{DMove}
use Rattle.squares.specs.DraughtsBoard.{Position}
use Rattle.squares.specs.internal.In.{In, In-Contains, Contains-In}
use Rattle.squares.specs.OrderedLists.{put_all}
use Rattle.squares.specs.internal.PutLemmas.{put_all-sorted, put_all-in, put_all-has}
use Rattle.draughts_moves.specs.internal.Capture.{IsMost}
use Rattle.draughts_moves.specs.Legal.{Legal}
use Rattle.draughts_moves.specs.Listing.{move_cmp, moves}
use Rattle.draughts_moves.specs.internal.Listing.{quiet_list}
use Rattle.draughts_moves.specs.Search.{most}
use Rattle.draughts_moves.proofs.ListLemmas.{move_cmp-same, moves-sound, moves-complete, quiet-sound, quiet-listed}
use Rattle.draughts_moves.proofs.FoundLemmas.{sorted-none}
use Rattle.draughts_moves.proofs.MostLemmas.{IsMost-most, most-HasCapture, LegalCapture-size}
use Rattle.draughts_moves.proofs.PlaceLemmas.{move_cmp-total}

pub all-sorted : (p : Position) (n : ℕ) → IsStrictlySortedBy move_cmp (put_all move_cmp (moves p n) [])
all-sorted p n = put_all-sorted move_cmp move_cmp-total (moves p n) [] sorted-none

pub members_all : (p : Position) (n : ℕ) → IsMost p n → (m : DMove)
    → Contains (put_all move_cmp (moves p n) []) m ↔ Legal p m
members_all p n most m =
    let same : (a b : DMove) → In a [] ⊎ In a (moves p n) → In b (moves p n) → move_cmp a b ≡ Equal → a ≡ b =
    λ a b h k tie. elim h [
      | inl never ↦ absurd never
      | inr h' ↦ move_cmp-same a b (moves-sound p n most a h').1 (moves-sound p n most b k).1 tie
    ] in (
      λ h. elim (put_all-in move_cmp move_cmp-total (moves p n) [] m (Contains-In m _ h))
          [ inl never ↦ absurd never | inr k ↦ (moves-sound p n most m k).0 ],
      λ legal. In-Contains m _
          (put_all-has move_cmp move_cmp-total (moves p n) [] m same (moves-complete p n most m legal)),
    )

-- where nothing can be taken, the quiet moves are the legal ones
pub quiet_all : (p : Position) → most p ≡ 0 → (m : DMove) → Contains (quiet_list p) m ↔ Legal p m
quiet_all p none m = (
  λ h. inr (λ c. omega (arith, none, most-HasCapture p (IsMost-most p) c), quiet-sound p m (Contains-In m _ h)),
  λ legal. elim legal [
    | inl c ↦ absurd (omega (arith, none, c.takes, LegalCapture-size p (IsMost-most p) c))
    | inr q ↦ In-Contains m _ (quiet-listed p m q.1)
  ],
)

-- A move leaves each side one king, and keeps to the sets: no piece comes to the game or leaves it.
use Rattle.std.proofs.Common.{◌≡◌, ◌≢◌, ℕ, zero, suc, ◌+◌, ◌-◌, ◌<◌, ◌≤◌, Bool, true, false, cond, nat_eq, Option, Some}
use Rattle.std.proofs.Common.{None, inl, inr, List, ◌∷◌, count_by, refl, sym, ap, ◌∙◌, arith, ◌&&◌, subst}
use Rattle.std.specs.Option.{option_map_or}
use Rattle.std.specs.Ordering.{nat_cmp, eq_by_cmp}
use Rattle.std.specs.Cmp.{nat_cmp_total, unsigned_tied}
use Rattle.std.specs.List.{range_with_len}
use Rattle.std.specs.FinMap as map
use Rattle.std.proofs.lemmas.Grind.{common_steps}
use Rattle.std.proofs.lemmas.Bool.{cases_eq, and_parts, not-true}
use Rattle.std.proofs.lemmas.List.Sums.{sum_by-cons}
use denote.Enum.Bare.{sameb, same_true}
use Rattle.squares.specs.contracts.shogi.piece.HandKind.{the_type}
use Rattle.squares.specs.declared.sides.Side.{Side}
use Rattle.squares.specs.declared.sides.Side.TheVariants.{First, Second}
use Rattle.squares.specs.declared.shogi.piece.Role.{Role}
use Rattle.squares.specs.declared.shogi.piece.Role.TheVariants as role
use Rattle.squares.specs.declared.shogi.piece.HandKind.{HandKind}
use Rattle.squares.specs.declared.shogi.piece.HandKind.TheVariants as in_hand
use Rattle.squares.specs.declared.shogi.piece.SPiece.{SPiece}
use Rattle.squares.specs.declared.shogi.hand.Hand.{Hand}
use Rattle.squares.specs.declared.shogi.hand.Hands.{Hands}
use Rattle.squares.specs.ShogiBoard.{ShogiBoard}
use Rattle.squares.specs.ShogiHands.{count_of, with_count}
use Rattle.squares.specs.ShogiPieces.{kind_of, hand_kind}
use Rattle.squares.specs.ShogiSets.{is_king, ShogiPosition}
use Rattle.squares.specs.internal.ShogiSets.{count_on, is_of, holds_kind, IsShogiPosition, holds_king}
use Rattle.shogi_moves.specs.Rules.{held, with_held, dropped_role, arrived, taken_kind, Goes, Pseudo, may_land}
use Rattle.shogi_moves.specs.Rules.{board_after, hands_after}
use Rattle.std.specs.Prelude.{not}
use Rattle.std.specs.FinMap as map
use Rattle.squares.specs.declared.shogi.moves.SMove.{SMove}
use Rattle.squares.specs.declared.shogi.moves.SMove.TheVariants.{Step, Drop}
use Rattle.squares.specs.Sides.{same_side}
use Rattle.squares.specs.internal.Sides.{same_side-of}
use Rattle.shogi_moves.proofs.ReachLemmas.{Reach-on}

-- one where the test holds
abbrev pub one_if : Bool → ℕ
one_if b = cond b 1 0

count_by-cons : (p : ℕ → Bool) (x : ℕ) (xs : List ℕ) → count_by p (x ∷ xs) ≡ one_if (p x) + count_by p xs
count_by-cons p x xs = sum_by-cons (λ y. one_if (p y)) x xs

-- Two tests of numbers that differ at one number at most.
module _ (f g : ℕ → Bool) (k : ℕ) (others : (n : ℕ) → n ≢ k → f n ≡ g n) where
  counts_above : (a n : ℕ) → k < a → count_by f (range_with_len a n) ≡ count_by g (range_with_len a n)
  counts_above a zero h = refl
  counts_above a (suc n) h =
      omega (
        arith,
        count_by-cons f a (range_with_len (a + 1) n),
        count_by-cons g a (range_with_len (a + 1) n),
        ap one_if (others a (omega arith)),
        counts_above (a + 1) n (omega arith),
      )

  counts_at : (a n : ℕ) → a ≤ k → k < a + n
      → count_by f (range_with_len a n) + one_if (g k) ≡ count_by g (range_with_len a n) + one_if (f k)
  counts_at a zero low high = absurd (omega arith)
  counts_at a (suc n) low high =
      elim (cases_eq a k) [
        | inl e ↦
            omega (
              arith,
              count_by-cons f a (range_with_len (a + 1) n),
              count_by-cons g a (range_with_len (a + 1) n),
              ap (λ m. one_if (f m)) e,
              ap (λ m. one_if (g m)) e,
              counts_above (a + 1) n (omega arith),
            )
        | inr differs ↦
            omega (
              arith,
              count_by-cons f a (range_with_len (a + 1) n),
              count_by-cons g a (range_with_len (a + 1) n),
              ap one_if (others a differs),
              counts_at (a + 1) n (omega arith) (omega arith),
            )
      ]

pub tied_same : (n : ℕ) → eq_by_cmp nat_cmp n n ≡ true
tied_same n = let same : nat_eq n n ≡ true = grind (arith, common_steps) in unsigned_tied n n ∙ same

pub tied_other : (q n : ℕ) → q ≢ n → eq_by_cmp nat_cmp q n ≡ false
tied_other q n e = let differs : nat_eq q n ≡ false = grind (arith, common_steps) in unsigned_tied q n ∙ differs

module _ (board : ShogiBoard) (k : ℕ) where
  pub get-put : (piece : SPiece) → map.get (map.insert board k piece) k ≡ Some piece
  get-put piece = map.get-insert nat_cmp_total board k piece k
      ∙ ap (λ b. cond b (Some piece) (map.get board k)) (tied_same k)

  pub get-put_other : (piece : SPiece) (n : ℕ) → n ≢ k → map.get (map.insert board k piece) n ≡ map.get board n
  get-put_other piece n h = map.get-insert nat_cmp_total board k piece n
      ∙ ap (λ b. cond b (Some piece) (map.get board n)) (tied_other n k h)

  pub get-cleared : map.get (map.remove board k) k ≡ None
  get-cleared = map.get-remove nat_cmp_total board k k ∙ ap (λ b. cond b None (map.get board k)) (tied_same k)

  pub get-cleared_other : (n : ℕ) → n ≢ k → map.get (map.remove board k) n ≡ map.get board n
  get-cleared_other n h = map.get-remove nat_cmp_total board k n
      ∙ ap (λ b. cond b None (map.get board n)) (tied_other n k h)

  module _ (test : Option SPiece → Bool) (on : k < 81) where
    pub count_on-put : (piece : SPiece) → count_on test (map.insert board k piece) + one_if (test (map.get board k))
        ≡ count_on test board + one_if (test (Some piece))
    unfolding count_on
    count_on-put piece =
        counts_at (λ n. test (map.get (map.insert board k piece) n)) (λ n. test (map.get board n)) k
        (λ n h. ap test (get-put_other piece n h)) 0 81 (omega arith) (omega arith)
        ∙ ap (λ o. count_by (λ n. test (map.get board n)) (range_with_len 0 81) + one_if (test o)) (get-put piece)

    pub count_on-cleared : count_on test (map.remove board k) + one_if (test (map.get board k))
        ≡ count_on test board + one_if (test None)
    unfolding count_on
    count_on-cleared =
        counts_at (λ n. test (map.get (map.remove board k) n)) (λ n. test (map.get board n)) k
        (λ n h. ap test (get-cleared_other n h)) 0 81 (omega arith) (omega arith)
        ∙ ap (λ o. count_by (λ n. test (map.get board n)) (range_with_len 0 81) + one_if (test o)) get-cleared

-- whether two kinds are one
abbrev pub same_kind : HandKind → HandKind → Bool
same_kind a b = sameb the_type a b

abbrev pub is_kind : HandKind → Option HandKind → Bool
is_kind kind None = false
is_kind kind (Some other) = same_kind other kind

-- what holds of each kind holds of any
every-kind : (T : HandKind → Type 0) → T in_hand.Rook → T in_hand.Bishop → T in_hand.Gold → T in_hand.Silver
    → T in_hand.Knight → T in_hand.Lance → T in_hand.Pawn → (kind : HandKind) → T kind
every-kind T rook bishop gold silver knight lance pawn in_hand.Rook = rook
every-kind T rook bishop gold silver knight lance pawn in_hand.Bishop = bishop
every-kind T rook bishop gold silver knight lance pawn in_hand.Gold = gold
every-kind T rook bishop gold silver knight lance pawn in_hand.Silver = silver
every-kind T rook bishop gold silver knight lance pawn in_hand.Knight = knight
every-kind T rook bishop gold silver knight lance pawn in_hand.Lance = lance
every-kind T rook bishop gold silver knight lance pawn in_hand.Pawn = pawn

-- a piece is of a kind where the hand would take it as that kind
abbrev IsOfKind : Role → HandKind → Type 0
IsOfKind r kind = is_of kind r ≡ is_kind kind (hand_kind (kind_of r))

pub is_of-kind : (kind : HandKind) (r : Role) → IsOfKind r kind
is_of-kind kind role.King = every-kind (IsOfKind role.King) refl refl refl refl refl refl refl kind
is_of-kind kind r = every-kind (IsOfKind r) refl refl refl refl refl refl refl kind

-- promoting changes neither kind nor king
pub arrived-kind : (r : Role) (side : Side) (promote : Bool)
    → kind_of (arrived (record { side = side; role = r }) promote).role ≡ kind_of r
arrived-kind r side false = refl
arrived-kind role.King side true = refl
arrived-kind _ side true = refl

pub arrived-king : (r : Role) (side : Side) (promote : Bool)
    → is_king (arrived (record { side = side; role = r }) promote).role ≡ is_king r
arrived-king r side false = refl
arrived-king role.King side true = refl
arrived-king _ side true = refl

pub dropped-kind : (kind : HandKind) → hand_kind (kind_of (dropped_role kind)) ≡ Some kind
dropped-kind in_hand.Rook = refl
dropped-kind _ = refl

pub dropped-no_king : (kind : HandKind) → is_king (dropped_role kind) ≡ false
dropped-no_king in_hand.Rook = refl
dropped-no_king _ = refl

-- a hand with so many of another kind
abbrev IsCounted : HandKind → ℕ → Hand → HandKind → Type 0
IsCounted other n hand kind = count_of kind (with_count other n hand)
    ≡ cond (same_kind other kind) n (count_of kind hand)

counted : (other : HandKind) (n : ℕ) (hand : Hand) (kind : HandKind) → IsCounted other n hand kind
counted in_hand.Rook n hand = every-kind (IsCounted in_hand.Rook n hand) refl refl refl refl refl refl refl
counted other n hand = every-kind (IsCounted other n hand) refl refl refl refl refl refl refl

-- one more or one fewer of a kind in a hand
more_of : (kind other : HandKind) (hand : Hand)
    → count_of kind (with_count other (count_of other hand + 1) hand)
    ≡ count_of kind hand + one_if (same_kind other kind)
more_of kind other hand =
    counted other (count_of other hand + 1) hand kind
    ∙ elim (same_kind other kind) as (λ b. same_kind other kind ≡ b →
    cond b (count_of other hand + 1) (count_of kind hand) ≡ count_of kind hand + one_if b) [
      | true ↦ λ e. ap (λ k. count_of k hand + 1) (same_true the_type tt other kind e)
      | false ↦ λ e. omega arith
    ] refl

fewer_of : (kind other : HandKind) (hand : Hand) → 0 < count_of other hand
    → count_of kind (with_count other (count_of other hand - 1) hand) + one_if (same_kind other kind)
    ≡ count_of kind hand
fewer_of kind other hand some =
    ap (λ n. n + one_if (same_kind other kind)) (counted other (count_of other hand - 1) hand kind)
    ∙ elim (same_kind other kind) as (λ b. same_kind other kind ≡ b →
    cond b (count_of other hand - 1) (count_of kind hand) + one_if b ≡ count_of kind hand) [
      | true ↦ λ e. let same : count_of other hand ≡ count_of kind hand = ap (λ k. count_of k hand)
          (same_true the_type tt other kind e) in omega (arith, some, same)
      | false ↦ λ e. omega arith
    ] refl

abbrev pub in_hands : HandKind → Hands → ℕ
in_hands kind hands = count_of kind hands.first + count_of kind hands.second

pub more_in_hands : (kind other : HandKind) (side : Side) (hands : Hands)
    → in_hands kind (with_held hands side other (held hands side other + 1))
    ≡ in_hands kind hands + one_if (same_kind other kind)
more_in_hands kind other First hands = omega (arith, more_of kind other hands.first)
more_in_hands kind other Second hands = omega (arith, more_of kind other hands.second)

pub fewer_in_hands : (kind other : HandKind) (side : Side) (hands : Hands) → 0 < held hands side other
    → in_hands kind (with_held hands side other (held hands side other - 1)) + one_if (same_kind other kind)
    ≡ in_hands kind hands
fewer_in_hands kind other First hands some = omega (arith, fewer_of kind other hands.first some)
fewer_in_hands kind other Second hands some = omega (arith, fewer_of kind other hands.second some)

-- what is taken goes to the hand as one of its kind
pub taken_in_hands : (kind : HandKind) (side : Side) (hands : Hands) (cell : Option SPiece) →
    in_hands kind
    (option_map_or (λ other. with_held hands side other (held hands side other + 1)) (taken_kind cell) hands)
    ≡ in_hands kind hands + one_if (holds_kind kind cell)
taken_in_hands kind side hands None = omega arith
taken_in_hands kind side hands (Some piece) =
    elim (hand_kind (kind_of piece.role)) as (λ o.
    in_hands kind (option_map_or (λ other. with_held hands side other (held hands side other + 1)) o hands)
    ≡ in_hands kind hands + one_if (is_kind kind o)) [
      | None ↦ omega arith
      | Some other ↦ more_in_hands kind other side hands
    ]
    ∙ ap (λ b. in_hands kind hands + one_if b) (sym (is_of-kind kind piece.role))

-- ---- A move leaves each side one king, and keeps to the sets

-- where a step may land, there stands no king
land-no_king : (mover side : Side) (cell : Option SPiece) → may_land mover cell ≡ true → holds_king side cell ≡ false
land-no_king mover side None e = refl
land-no_king mover side (Some piece) e =
    ap (λ k. k && same_side piece.side side)
    (not-true (is_king piece.role) (and_parts (not (same_side piece.side mover)) (not (is_king piece.role)) e).1)

module _ (p : ShogiPosition) (from to : ℕ) (promote : Bool) (g : Goes p from to promote) where
  to-from : to ≡ from → ⊥
  to-from e =
      let there : may_land p.turn (Some g.piece) ≡ true =
      subst (λ o. may_land p.turn o ≡ true) (ap (map.get p.board) e ∙ g.reach.stands) g.lands in
      let own = same_side-of g.piece.side p.turn g.own in
      let never : false ≡ true = ap (λ s. not s && not (is_king g.piece.role)) (sym own) ∙ there in
      cc

  abbrev moved : ShogiBoard
  moved = map.insert (map.remove p.board from) to (arrived g.piece promote)

  board_after-step : board_after p (Step from to promote) ≡ moved
  board_after-step =
      ap (λ o. option_map_or (λ piece. map.insert (map.remove p.board from) to (arrived piece promote)) o p.board)
      g.reach.stands

  step-counts : (test : Option SPiece → Bool) → test None ≡ false →
      count_on test moved + one_if (test (map.get p.board to)) + one_if (test (Some g.piece))
      ≡ count_on test p.board + one_if (test (Some (arrived g.piece promote)))
  step-counts test none =
      let on = Reach-on p.board g.piece from to g.reach in
      let put = count_on-put (map.remove p.board from) to test on.1 (arrived g.piece promote) in
      let cleared = count_on-cleared p.board from test on.0 in
      let there = ap (λ o. one_if (test o)) (get-cleared_other p.board from to to-from) in
      let here = ap (λ o. one_if (test o)) g.reach.stands in
      let nothing = ap one_if none in
      omega (arith, put, cleared, there, here, nothing)

  step-kings : (side : Side) → count_on (holds_king side) moved ≡ count_on (holds_king side) p.board
  step-kings side =
      let same = ap (λ k. one_if (k && same_side g.piece.side side)) (arrived-king g.piece.role g.piece.side promote) in
      let land = ap one_if (land-no_king p.turn side (map.get p.board to) g.lands) in
      omega (arith, step-counts (holds_king side) refl, same, land)

  step-kinds : (kind : HandKind) → count_on (holds_kind kind) moved + one_if (holds_kind kind (map.get p.board to))
      ≡ count_on (holds_kind kind) p.board
  step-kinds kind =
      let same =
      ap one_if
      (is_of-kind kind (arrived g.piece promote).role
      ∙ ap (λ k. is_kind kind (hand_kind k)) (arrived-kind g.piece.role g.piece.side promote)
      ∙ sym (is_of-kind kind g.piece.role)) in
      omega (arith, step-counts (holds_kind kind) refl, same)

  step-sound : IsShogiPosition p.board p.hands → IsShogiPosition moved (hands_after p (Step from to promote))
  step-sound sound =
      record {
        kings = λ side. step-kings side ∙ sound.kings side;
        sets =
            λ kind. omega (
              arith,
              step-kinds kind,
              taken_in_hands kind p.turn p.hands (map.get p.board to),
              sound.sets kind,
            );
      }

module _ (p : ShogiPosition) (dropped : HandKind) (to : ℕ) (on : to < 81) (free : map.get p.board to ≡ None)
    (some : 0 < held p.hands p.turn dropped) where
  abbrev piece : SPiece
  piece = record { side = p.turn; role = dropped_role dropped }

  drop-counts : (test : Option SPiece → Bool) → test None ≡ false
      → count_on test (map.insert p.board to piece) ≡ count_on test p.board + one_if (test (Some piece))
  drop-counts test none =
      omega (arith, count_on-put p.board to test on piece, ap (λ o. one_if (test o)) free, ap one_if none)

  drop-kings : (side : Side) → count_on (holds_king side) (map.insert p.board to piece)
      ≡ count_on (holds_king side) p.board
  drop-kings side =
      let none = ap (λ k. one_if (k && same_side p.turn side)) (dropped-no_king dropped) in
      omega (arith, drop-counts (holds_king side) refl, none)

  drop-kinds : (kind : HandKind) → count_on (holds_kind kind) (map.insert p.board to piece)
      ≡ count_on (holds_kind kind) p.board + one_if (same_kind dropped kind)
  drop-kinds kind =
      let same = ap one_if (is_of-kind kind (dropped_role dropped) ∙ ap (is_kind kind) (dropped-kind dropped)) in
      omega (arith, drop-counts (holds_kind kind) refl, same)

  drop-sound : IsShogiPosition p.board p.hands
      → IsShogiPosition (map.insert p.board to piece) (hands_after p (Drop dropped to))
  drop-sound sound =
      record {
        kings = λ side. drop-kings side ∙ sound.kings side;
        sets = λ kind. omega (arith, drop-kinds kind, fewer_in_hands kind dropped p.turn p.hands some, sound.sets kind);
      }

positive : (n : ℕ) → (n ≡ 0 → ⊥) → 0 < n
positive n h = elim (cases_eq n 0) [ inl e ↦ absurd (h e) | inr differs ↦ omega arith ]

pub play-sound : (p : ShogiPosition) (m : SMove) → Pseudo p m → IsShogiPosition p.board p.hands
    → IsShogiPosition (board_after p m) (hands_after p m)
play-sound p (Step from to promote) s sound =
    subst (λ b. IsShogiPosition b (hands_after p (Step from to promote)))
    (sym (board_after-step p from to promote s.moves)) (step-sound p from to promote s.moves sound)
play-sound p (Drop kind to) s sound = drop-sound p kind to s.moves.0 s.moves.1
    (positive (held p.hands p.turn kind) s.holds) sound

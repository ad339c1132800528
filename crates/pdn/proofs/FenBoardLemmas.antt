-- The items of a written position give its board.
use Rattle.std.proofs.Common.{◌≡◌, ◌≢◌, ℕ, zero, suc, ◌+◌, ◌<◌, ◌≤◌, ◌⊎◌, inl, inr, Bool, true, false, cond, ◌&&◌, ◌||◌}
use Rattle.std.proofs.Common.{nat_le, Ok, length, List, [], ◌∷◌, ◌++◌, Option, Some, None, refl, sym, ap, ◌∙◌, subst}
use Rattle.std.proofs.Common.{arith}
use Rattle.std.specs.Prelude.{fold, IsSome, is_some}
use Rattle.std.specs.List.{cons_option, range_with_len, list_any}
use Rattle.std.specs.Ordering.{nat_cmp}
use Rattle.std.specs.Cmp.{nat_cmp_total, unsigned_tied}
use Rattle.std.specs.FinMap as map
use Rattle.std.specs.FinMap.{nat_cmp-IsAntisymmetric}
use Rattle.std.proofs.lemmas.Bool.{cases_eq, le-leb}
use Rattle.std.proofs.lemmas.Bool.Decides.{nat_tests}
use Rattle.squares.specs.declared.sides.Side.{Side}
use Rattle.squares.specs.declared.sides.Side.TheVariants.{First, Second}
use Rattle.squares.specs.declared.draughts.piece.DPiece.{DPiece}
use Rattle.squares.specs.Sides.{same_side}
use Rattle.squares.specs.internal.Sides.{same_side-same, same_side-itself}
use Rattle.squares.specs.DraughtsBoard.{Board, Position}
use Rattle.squares.specs.internal.DraughtsGeometry.{OnBoard}
use Rattle.squares.specs.internal.DraughtsMarks.{nat_eq_same, nat_eq_other}
use Rattle.squares.specs.internal.In.{In, In-left, In-right, In-cases}
use Rattle.draughts_moves.proofs.Proved.{In-range}
use Rattle.pdn.specs.declared.items.Item.{Item}
use Rattle.pdn.specs.FenText.{all_squares, fen_text}
use Rattle.pdn.specs.FenForm.{ReadsForm}
use Rattle.pdn.specs.ReadFen.{shares, repeated_after, repeated, put_on, put_item, IsFen}
use Rattle.pdn.proofs.FenBackLemmas.{Entry, own, own_on, entry_text, entries_text, IsItemOf, AllOn, item_at, items_at}
use Rattle.pdn.proofs.FenBackLemmas.{reads-back, fen_text-entries}

abbrev pub piece_on : Side → Bool → DPiece
piece_on side king = record { side = side; king = king }

in_cons : (o : Option Entry) (es : List Entry) (e : Entry) → In e es → In e (cons_option o es)
in_cons None es e h = h
in_cons (Some f) es e h = inr h

-- entries are the pieces of the side
own-in : (side : Side) (board : Board) (ns : List ℕ) (e : Entry) → In e (own_on side board ns) → In e.0 ns
    × (map.get board e.0 ≡ Some (piece_on side e.1))
own-in side board [] e h = absurd h
own-in side board (n ∷ ns) e h =
    elim (map.get board n) as (λ o. map.get board n ≡ o → In e (cons_option (own side n o) (own_on side board ns))
    → In e.0 (n ∷ ns) × (map.get board e.0 ≡ Some (piece_on side e.1))) [
      | None ↦ λ _ k. let w = own-in side board ns e k in (inr w.0, w.1)
      | Some q ↦ λ stands k. mine (λ j. own-in side board ns e j) q stands (same_side q.side side) refl k
    ] refl h
  where
    mine : (In e (own_on side board ns) → In e.0 ns × (map.get board e.0 ≡ Some (piece_on side e.1))) → (q : DPiece)
        → map.get board n ≡ Some q → (b : Bool) → same_side q.side side ≡ b
        → In e (cons_option (cond b (Some (n, q.king)) None) (own_on side board ns)) → In e.0 (n ∷ ns)
        × (map.get board e.0 ≡ Some (piece_on side e.1))
    mine later q stands true same (inl is) =
        let square : n ≡ e.0 = ap (λ (f : Entry). f.0) is in
        let king : q.king ≡ e.1 = ap (λ (f : Entry). f.1) is in
        let side_is = same_side-same q.side side same in (
          inl square,
          subst (λ m. map.get board m ≡ Some (piece_on side e.1)) square
              (stands ∙ (λ i. Some (record { side = side_is i; king = king i }))),
        )
    mine later q stands true same (inr k) = let w = later k in (inr w.0, w.1)
    mine later q stands false same k = let w = later k in (inr w.0, w.1)

in-own : (side : Side) (board : Board) (ns : List ℕ) (n : ℕ) (king : Bool) → In n ns
    → map.get board n ≡ Some (piece_on side king) → In {A = Entry} (n, king) (own_on side board ns)
in-own side board [] n king h stands = absurd h
in-own side board (m ∷ ns) n king (inl is) stands =
    let here : own side m (map.get board m) ≡ Some (n, king) =
    ap (own side m) (ap (map.get board) is ∙ stands) ∙ ap (λ b. cond b (Some (m, king)) None) (same_side-itself side)
    ∙ ap (λ k. Some (k, king)) is in
    subst (λ o. In {A = Entry} (n, king) (cons_option o (own_on side board ns))) (sym here) (inl refl)
in-own side board (m ∷ ns) n king (inr h) stands =
    in_cons (own side m (map.get board m)) (own_on side board ns) (n, king) (in-own side board ns n king h stands)

range-in : (n a v : ℕ) → In v (range_with_len a n) → (a ≤ v) × (v < a + n)
range-in zero a v h = absurd h
range-in (suc n) a v (inl e) = (omega arith, omega arith)
range-in (suc n) a v (inr h) = let w = range-in n (a + 1) v h in (omega (arith, w.0), omega (arith, w.1))

all-on : (es : List Entry) → ((e : Entry) → In e es → OnBoard e.0) → AllOn es
all-on [] h = tt
all-on (e ∷ es) h = (h e (inl refl), all-on es (λ f k. h f (inr k)))

squares-on : (n : ℕ) → In n all_squares → OnBoard n
unfolding all_squares
squares-on n h = let w = range-in 50 1 n h in (w.0, omega (arith, w.1))

on-squares : (n : ℕ) → OnBoard n → In n all_squares
unfolding all_squares
on-squares n on = In-range 1 50 n on.0 (omega (arith, on.1))

own-on : (side : Side) (board : Board) → AllOn (own_on side board all_squares)
own-on side board = all-on (own_on side board all_squares) (λ e h. squares-on e.0 (own-in side board all_squares e h).0)

-- items and entries
items-of : (side : Side) (base : ℕ) (es : List Entry) (i : Item) → In i (items_at side base es) → (e : Entry) × In e es
    × IsItemOf side e i
items-of side base [] i h = absurd h
items-of side base (e ∷ es) i (inl same) = (e, inl refl, subst (IsItemOf side e) same (refl, refl, refl))
items-of side base (e ∷ es) i (inr h) = let w = items-of side (base + length (entry_text e) + 1) es i h in
    (w.0, inr w.1, w.2)

of-items : (side : Side) (base : ℕ) (es : List Entry) (e : Entry) → In e es → (i : Item) × In i (items_at side base es)
    × IsItemOf side e i
of-items side base [] e h = absurd h
of-items side base (f ∷ es) e (inl same) = (
  item_at base f.0 side f.1,
  inl refl,
  subst (λ x. IsItemOf side x (item_at base f.0 side f.1)) same (refl, refl, refl),
)
of-items side base (f ∷ es) e (inr h) = let w = of-items side (base + length (entry_text f) + 1) es e h in
    (w.0, inr w.1, w.2)

-- the squares of items ascend, from this one
abbrev pub Rises : ℕ → List Item → Type 0
Rises a [] = Unit {0}
Rises a (i ∷ items) = (a ≤ i.from) × Rises (i.from + 1) items

rises-less : (a b : ℕ) (items : List Item) → a ≤ b → Rises b items → Rises a items
rises-less a b [] h rises = tt
rises-less a b (i ∷ items) h rises = (omega (arith, rises.0), rises.1)

rises-above : (a : ℕ) (items : List Item) (j : Item) → Rises a items → In j items → a ≤ j.from
rises-above a [] j rises h = absurd h
rises-above a (i ∷ items) j rises (inl same) = subst (λ (x : Item). a ≤ x.from) same rises.0
rises-above a (i ∷ items) j rises (inr h) = omega (arith, rises.0, rises-above (i.from + 1) items j rises.1 h)

own-rises : (side : Side) (board : Board) (n a base : ℕ)
    → Rises a (items_at side base (own_on side board (range_with_len a n)))
own-rises side board zero a base = tt
own-rises side board (suc n) a base = by_piece (map.get board a) (own-rises side board n (a + 1))
  where
    by_piece : (o : Option DPiece)
        → ((base : ℕ) → Rises (a + 1) (items_at side base (own_on side board (range_with_len (a + 1) n))))
        → Rises a (items_at side base (cons_option (own side a o) (own_on side board (range_with_len (a + 1) n))))
    by_piece None later = rises-less a (a + 1) (items_at side base (own_on side board (range_with_len (a + 1) n)))
        (omega arith) (later base)
    by_piece (Some q) later =
        elim (same_side q.side side) as (λ b. Rises a (items_at side base
        (cons_option (cond b (Some (a, q.king)) None) (own_on side board (range_with_len (a + 1) n))))) [
          | true ↦ (omega arith, later (base + length (entry_text (a, q.king)) + 1))
          | false ↦ rises-less a (a + 1) (items_at side base (own_on side board (range_with_len (a + 1) n)))
              (omega arith) (later base)
        ]

abbrev pub ItemsApart : List Item → Type 0
ItemsApart [] = Unit {0}
ItemsApart (i ∷ items) = ((j : Item) → In j items → i.from ≢ j.from) × ItemsApart items

rises-apart : (a : ℕ) (items : List Item) → Rises a items → ItemsApart items
rises-apart a [] rises = tt
rises-apart a (i ∷ items) rises = (
  λ j h same. let above = rises-above (i.from + 1) items j rises.1 h in
      absurd (omega arith),
  rises-apart (i.from + 1) items rises.1,
)

append-apart : (xs ys : List Item) → ItemsApart xs → ItemsApart ys
    → ((i j : Item) → In i xs → In j ys → i.from ≢ j.from) → ItemsApart (xs ++ ys)
append-apart [] ys a b cross = b
append-apart (x ∷ xs) ys a b cross = (
  λ j h. elim (In-cases j xs ys h) [ inl k ↦ a.0 j k | inr k ↦ cross x j (inl refl) k ],
  append-apart xs ys a.1 b (λ i j h k. cross i j (inr h) k),
)

-- an item of one square of the board, with the piece that stands there
pub record Fits (board : Board) (i : Item) : Type 0 where
  pub single : i.to ≡ i.from
  pub on : OnBoard i.from
  pub stands : map.get board i.from ≡ Some i.piece

none-any : {A : Type 0} (f : A → Bool) (xs : List A) → ((x : A) → In x xs → f x ≡ false) → list_any f xs ≡ false
none-any f [] h = refl
none-any f (x ∷ xs) h = λ i. h x (inl refl) i || none-any f xs (λ y k. h y (inr k)) i

apart_le : (a b : ℕ) → a ≢ b → (nat_le a b && nat_le b a) ≡ false
apart_le a b differ =
    elim (nat_le a b) as (λ c. nat_le a b ≡ c → (c && nat_le b a) ≡ false) [
      | true ↦ λ e. let below : a ≤ b = grind (arith, nat_tests, e) in let less : a < b = omega arith in
          grind (arith, nat_tests)
      | false ↦ λ e. refl
    ] refl

not-shared : (board : Board) (i j : Item) → Fits board i → Fits board j → i.from ≢ j.from → shares i j ≡ false
not-shared board i j f g differ = (λ k. nat_le i.from (g.single k) && nat_le j.from (f.single k))
    ∙ apart_le i.from j.from differ

none-repeated : (board : Board) (items before : List Item) → ((i : Item) → In i items → Fits board i)
    → ((j : Item) → In j before → Fits board j) → ItemsApart items
    → ((i j : Item) → In i items → In j before → i.from ≢ j.from) → repeated_after before items ≡ None
none-repeated board [] before fits earlier apart cross = refl
none-repeated board (i ∷ items) before fits earlier apart cross =
    ap (λ b. cond b (Some i.at) (repeated_after (before ++ i ∷ []) items))
    (none-any (shares i) before
    (λ j h. not-shared board i j (fits i (inl refl)) (earlier j h) (cross i j (inl refl) h)))
    ∙ none-repeated board items (before ++ i ∷ []) (λ k h. fits k (inr h))
    (λ j h. elim (In-cases j before (i ∷ []) h) [
      | inl k ↦ earlier j k
      | inr k ↦
          elim k [ inl same ↦ subst (Fits board) same (fits i (inl refl)) | inr never ↦ absurd never ]
    ])
    apart.1
    (λ k j h g. elim (In-cases j before (i ∷ []) g) [
      | inl b ↦ cross k j (inr h) b
      | inr b ↦
          elim b [ inl same ↦ λ e. apart.0 k h (ap (λ (x : Item). x.from) same ∙ sym e) | inr never ↦ absurd never ]
    ])

get-same : (b : Board) (n : ℕ) (p : DPiece) → map.get (map.insert b n p) n ≡ Some p
get-same b n p = map.get-insert nat_cmp_total b n p n
    ∙ ap (λ c. cond c (Some p) (map.get b n)) (unsigned_tied n n ∙ nat_eq_same n n refl)

get-other : (b : Board) (n q : ℕ) (p : DPiece) → q ≢ n → map.get (map.insert b n p) q ≡ map.get b q
get-other b n q p differ = map.get-insert nat_cmp_total b n p q
    ∙ ap (λ c. cond c (Some p) (map.get b q)) (unsigned_tied q n ∙ nat_eq_other q n differ)

-- what an item of one square puts on a square
put_on-is : (i : Item) (b : Board) (m : ℕ) → i.to ≡ i.from
    → ((m ≡ i.from) × (put_on i b m ≡ map.insert b i.from i.piece)) ⊎ ((m ≢ i.from) × (put_on i b m ≡ b))
put_on-is i b m single =
    elim (cases_eq m i.from) [
      | inl same ↦
          let inside : (nat_le i.from m && nat_le m i.to) ≡ true =
          λ k. le-leb i.from m (omega arith) k && le-leb m i.to (omega arith) k in
          inl (same, ap (λ c. cond c (map.insert b m i.piece) b) inside ∙ ap (λ n. map.insert b n i.piece) same)
      | inr differ ↦
          let outside : (nat_le i.from m && nat_le m i.to) ≡ false = ap (λ t. nat_le i.from m && nat_le m t) single
          ∙ apart_le i.from m (λ s. differ (sym s)) in
          inr (differ, ap (λ c. cond c (map.insert b m i.piece) b) outside)
    ]

-- a square that the item does not give, and the square that it gives
fold-other : (i : Item) (ns : List ℕ) (b : Board) (q : ℕ) → i.to ≡ i.from → q ≢ i.from
    → map.get (fold (put_on i) b ns) q ≡ map.get b q
fold-other i [] b q single differ = refl
fold-other i (n ∷ ns) b q single differ =
    fold-other i ns (put_on i b n) q single differ
    ∙ elim (put_on-is i b n single) [
      | inl w ↦ ap (λ x. map.get x q) w.1 ∙ get-other b i.from q i.piece differ
      | inr w ↦ ap (λ x. map.get x q) w.1
    ]

fold-here : (i : Item) (ns : List ℕ) (b : Board) → i.to ≡ i.from → (map.get b i.from ≡ Some i.piece) ⊎ In i.from ns
    → map.get (fold (put_on i) b ns) i.from ≡ Some i.piece
fold-here i [] b single (inl e) = e
fold-here i [] b single (inr h) = absurd h
fold-here i (n ∷ ns) b single h =
    fold-here i ns (put_on i b n) single
    (elim (put_on-is i b n single) [
      | inl w ↦ inl (ap (λ x. map.get x i.from) w.1 ∙ get-same b i.from i.piece)
      | inr w ↦ elim h [
        | inl e ↦ inl (ap (λ x. map.get x i.from) w.1 ∙ e)
        | inr k ↦ elim k [ inl same ↦ absurd (w.0 same) | inr later ↦ inr later ]
      ]
    ])

put_item-other : (i : Item) (b : Board) (q : ℕ) → i.to ≡ i.from → q ≢ i.from → map.get (put_item b i) q ≡ map.get b q
unfolding put_item
put_item-other i b q single differ = fold-other i (range_with_len 1 50) b q single differ

put_item-here : (board : Board) (i : Item) (b : Board) → Fits board i → map.get (put_item b i) i.from ≡ Some i.piece
unfolding put_item
put_item-here board i b f = fold-here i (range_with_len 1 50) b f.single
    (inr (In-range 1 50 i.from f.on.0 (omega (arith, f.on.1))))

-- all items put what stands there
put-all : (board : Board) (items : List Item) (b : Board) (q : ℕ) → ((i : Item) → In i items → Fits board i)
    → (map.get b q ≡ map.get board q) ⊎ ((i : Item) × In i items × (i.from ≡ q))
    → map.get (fold put_item b items) q ≡ map.get board q
put-all board [] b q fits (inl e) = e
put-all board [] b q fits (inr w) = absurd w.1
put-all board (i ∷ items) b q fits h =
    let mine = fits i (inl refl) in
    put-all board items (put_item b i) q (λ j k. fits j (inr k))
    (elim (cases_eq q i.from) [
      | inl same ↦
          inl
          (subst (λ m. map.get (put_item b i) m ≡ map.get board m) (sym same)
          (put_item-here board i b mine ∙ sym mine.stands))
      | inr differ ↦ elim h [
        | inl e ↦ inl (put_item-other i b q mine.single differ ∙ e)
        | inr w ↦ elim w.1 [
          | inl is ↦ absurd (differ (sym w.2 ∙ ap (λ (x : Item). x.from) (sym is)))
          | inr k ↦ inr (w.0, k, w.2)
        ]
      ]
    ])

module _ (p : Position) (on_board : (n : ℕ) → IsSome (map.get p.board n) → OnBoard n) where
  -- the items of a side that stand after so many bytes
  abbrev pub items_of : Side → ℕ → List Item
  items_of side base = items_at side base (own_on side p.board all_squares)

  abbrev pub base : ℕ
  base = 3 + length (entries_text (own_on First p.board all_squares)) + 2

  abbrev pub all_items : List Item
  all_items = items_of First 3 ++ items_of Second base

  item-fits : (side : Side) (base : ℕ) (i : Item) → In i (items_of side base) → Fits p.board i
  item-fits side base i h =
      let w = items-of side base (own_on side p.board all_squares) i h in
      let entry = own-in side p.board all_squares w.0 w.1 in
      record {
        single = w.2.1 ∙ sym w.2.0;
        on = subst OnBoard (sym w.2.0) (squares-on w.0.0 entry.0);
        stands = ap (map.get p.board) w.2.0 ∙ entry.1 ∙ ap Some (sym w.2.2);
      }

  item-side : (side : Side) (base : ℕ) (i : Item) → In i (items_of side base) → i.piece.side ≡ side
  item-side side base i h = let w = items-of side base (own_on side p.board all_squares) i h in
      ap (λ (q : DPiece). q.side) w.2.2

  all-fit : (i : Item) → In i all_items → Fits p.board i
  all-fit i h = elim (In-cases i (items_of First 3) (items_of Second base) h)
      [ inl k ↦ item-fits First 3 i k | inr k ↦ item-fits Second base i k ]

  cross : (i j : Item) → In i (items_of First 3) → In j (items_of Second base) → i.from ≢ j.from
  cross i j h k = λ same.
      let f = item-fits First 3 i h in
      let g = item-fits Second base j k in
      let pieces : Some i.piece ≡ Some j.piece = sym f.stands ∙ ap (map.get p.board) same ∙ g.stands in
      let one : i.piece ≡ j.piece = cc in
      let sides : First ≡ Second = sym (item-side First 3 i h) ∙ ap (λ (q : DPiece). q.side) one
      ∙ item-side Second base j k in
      cc

  side-apart : (side : Side) (base : ℕ) → ItemsApart (items_of side base)
  unfolding all_squares
  side-apart side base = rises-apart 1 (items_of side base) (own-rises side p.board 50 1 base)

  no-repeat : repeated all_items ≡ None
  no-repeat =
      none-repeated p.board all_items [] all-fit (λ j never. absurd never)
      (append-apart (items_of First 3) (items_of Second base) (side-apart First 3) (side-apart Second base) cross)
      (λ i j h never. absurd never)

  given : (side : Side) (base q : ℕ) (piece : DPiece) → map.get p.board q ≡ Some piece → piece.side ≡ side → (i : Item)
      × In i (items_of side base) × (i.from ≡ q)
  given side base q piece stands is =
      let on = on_board q (ap is_some stands) in
      let entry = in-own side p.board all_squares q piece.king (on-squares q on)
      (stands ∙ (λ i. Some (record { side = is i; king = piece.king }))) in
      let w = of-items side base (own_on side p.board all_squares) (q, piece.king) entry in
      (w.0, w.1, w.2.0)

  found : (q : ℕ) (piece : DPiece) → map.get p.board q ≡ Some piece → (side : Side) → piece.side ≡ side → (i : Item)
      × In i all_items × (i.from ≡ q)
  found q piece stands First is = let w = given First 3 q piece stands is in
      (w.0, In-left w.0 (items_of First 3) (items_of Second base) w.1, w.2)
  found q piece stands Second is = let w = given Second base q piece stands is in
      (w.0, In-right w.0 (items_of First 3) (items_of Second base) w.1, w.2)

  square-back : (q : ℕ) (o : Option DPiece) → map.get p.board q ≡ o
      → map.get (fold put_item map.empty all_items) q ≡ map.get p.board q
  square-back q None e = put-all p.board all_items map.empty q all-fit (inl (map.get-empty nat_cmp q ∙ sym e))
  square-back q (Some piece) e = put-all p.board all_items map.empty q all-fit (inr (found q piece e piece.side refl))

  board-back : fold put_item map.empty all_items ≡ p.board
  board-back = map.same_map nat_cmp_total nat_cmp-IsAntisymmetric _ _ (λ q. square-back q (map.get p.board q) refl)

  pub fen-back : IsFen (fen_text p) p
  fen-back = (
    record { turn = p.turn; items = all_items },
    subst (λ text. ReadsForm text (Ok (record { turn = p.turn; items = all_items }))) (sym (fen_text-entries p))
        (reads-back p.turn (own_on First p.board all_squares) (own_on Second p.board all_squares)
        (own-on First p.board) (own-on Second p.board)),
    no-repeat,
    λ i. record { board = sym board-back i; turn = p.turn },
  )

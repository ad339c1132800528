-- What the line of a hand in a diagram of Japanese programs tells.
use Rattle.std.proofs.Common.{◌≡◌, ℕ, zero, suc, ◌+◌, ◌*◌, ◌≤◌, ◌==◌, List, [], ◌++◌, get_or, drop, nat_eq}
use Rattle.std.proofs.Common.{false, cond, refl, sym, ap, ◌∙◌, arith, if◌then◌else◌}
use Rattle.std.specs.Prelude.{map as list_map}
use Rattle.std.specs.List.{range_with_len}
use Rattle.std.proofs.Math.Utf8.{encode}
use Rattle.std.proofs.lemmas.List.FromFn.{get_or-map-range_with_len}
use Rattle.squares.specs.declared.shogi.piece.HandKind.{HandKind}
use Rattle.squares.specs.declared.shogi.piece.HandKind.TheVariants as in_hand
use Rattle.squares.specs.declared.shogi.hand.Hand.{Hand}
use Rattle.squares.specs.internal.DraughtsMarks.{nat_eq_same}
use Rattle.squares.specs.ShogiPieces.{on_board, demoted}
use Rattle.diagrams.specs.BodNames.{role_name, ten, wide_blank, nothing, count_name}
use Rattle.diagrams.specs.BodDiagram.{held_text, hand_text}
use Rattle.diagrams.specs.ShogiLines.{hand_kinds}
use Rattle.diagrams.proofs.HandLemmas as hands
use Rattle.diagrams.proofs.HandLemmas.{IsFew, NamesTell, AreApart, IsOther}

-- the first three bytes of a text as one number
abbrev pub value : List ℕ → ℕ
value text = 65536 * get_or text 0 0 + 256 * get_or text 1 0 + get_or text 2 0

abbrev kind_value : HandKind → ℕ
kind_value kind = value (role_name (demoted (on_board kind)))

held-value : (kind : HandKind) (n : ℕ) (r : List ℕ) → value (held_text kind (suc n) ++ r) ≡ kind_value kind
unfolding encode
held-value in_hand.Rook n r = refl
held-value _ n r = refl

held-drop : (kind : HandKind) (n : ℕ) (r : List ℕ)
    → drop 3 (held_text kind (suc n) ++ r) ≡ (count_name (suc n) ++ wide_blank) ++ r
unfolding encode
held-drop in_hand.Rook n r = refl
held-drop _ n r = refl

abbrev read_digit : ℕ → ℕ
read_digit v =
    if v == 14989440 then 1 else
    if v == 14989964 then 2 else
    if v == 14989449 then 3 else
    if v == 15047579 then 4 else
    if v == 14989972 then 5 else
    if v == 15041965 then 6 else
    if v == 14989443 then 7 else
    if v == 15041963 then 8 else
    9

abbrev read_count : List ℕ → ℕ
read_count text =
    if value text == 14909568 then 1 else
    if value text == 15043969 then
    (if value (drop 3 text) == 14909568 then 10 else 10 + read_digit (value (drop 3 text)))
    else read_digit (value text)

abbrev after_count : List ℕ → List ℕ
after_count text =
    if value text == 14909568 then drop 3 text else
    if value (drop 3 text) == 14909568 then drop 6 text else drop 9 text

-- a count, and what stands behind it
abbrev read_on : List ℕ → ℕ × List ℕ
read_on text = (read_count text, after_count text)

abbrev counted : ℕ → List ℕ → List ℕ
counted n r = (count_name n ++ wide_blank) ++ r

counts-table : (r : List ℕ)
    → list_map (λ n. read_on (counted n r)) (range_with_len 1 18) ≡ list_map (λ n. (n, r)) (range_with_len 1 18)
unfolding encode ten wide_blank
counts-table r = refl

count-read : (k : ℕ) (r : List ℕ) → suc k ≤ 18 → read_on (counted (suc k) r) ≡ (suc k, r)
count-read k r h =
    sym (get_or-map-range_with_len (λ n. read_on (counted n r)) 1 18 k (suc k) (0, []) (omega (arith, h)) (omega arith))
    ∙ ap (λ l. get_or l k (0, [])) (counts-table r)
    ∙ get_or-map-range_with_len (λ n. (n, r)) 1 18 k (suc k) (0, []) (omega (arith, h)) (omega arith)

-- a text that does not begin with the name of that value
abbrev pub Ends : ℕ → List ℕ → Type 0
Ends name text = nat_eq (value text) name ≡ false

abbrev read : HandKind → List ℕ → ℕ × List ℕ
read kind text = cond (nat_eq (value text) (kind_value kind)) (read_on (drop 3 text)) (0, text)

held-read : (kind : HandKind) (n : ℕ) (rest : List ℕ) → n ≤ 18 → Ends (kind_value kind) rest
    → read kind (held_text kind n ++ rest) ≡ (n, rest)
held-read kind zero rest few ends = rw ends
held-read kind (suc n) rest few ends =
    rw (nat_eq_same _ _ (held-value kind n rest), held-drop kind n rest) (count-read n rest few)

held-ends : (name : ℕ) (kind : HandKind) (n : ℕ) (rest : List ℕ) → nat_eq (kind_value kind) name ≡ false
    → Ends name rest → Ends name (held_text kind n ++ rest)
held-ends name kind zero rest other ends = ends
held-ends name kind (suc n) rest other ends = ap (λ (v : ℕ). nat_eq v name) (held-value kind n rest) ∙ other

-- ---- a line

tell : NamesTell kind_value held_text Ends
tell = record { goes_on = held-ends; read = read; reads = held-read }

-- a line without its word for nothing
abbrev without_nothing : List ℕ → List ℕ
without_nothing text = cond (nat_eq (value text) 14909866) (drop 6 text) text

no-nothing : (rest : List ℕ) → without_nothing (nothing ++ rest) ≡ rest
unfolding nothing encode
no-nothing rest = refl

apart : AreApart kind_value held_text Ends hand_kinds
unfolding hand_kinds encode
apart = search

other : IsOther kind_value held_text Ends 14909866 hand_kinds
unfolding hand_kinds encode
other = search

-- a line's end, and no name of a kind and no word for nothing with it
abbrev pub IsLineEnd : List ℕ → Type 0
IsLineEnd = hands.IsLineEnd kind_value held_text Ends 14909866

pub hands-apart : (a b : Hand) (r s : List ℕ) → IsFew a → IsFew b → IsLineEnd r → IsLineEnd s
    → hand_text a ++ r ≡ hand_text b ++ s → (a ≡ b) × (r ≡ s)
unfolding hand_text
hands-apart = hands.lines-apart kind_value held_text Ends tell nothing 14909866 without_nothing no-nothing
    (λ text ends. ap (λ t. cond t (drop 6 text) text) ends) apart other

-- The texts of moves are those that are read, each as its move.
use Rattle.std.proofs.Common.{◌≡◌, ℕ, ◌+◌, ◌-◌, ◌<◌, List, [], ◌∷◌, ◌++◌, Bool, true, false, cond, ◌&&◌, nat_eq, nat_le}
use Rattle.std.proofs.Common.{Option, Some, None, refl, sym, ap, subst, ◌∙◌, arith}
use Rattle.std.proofs.lemmas.Bool.{and_parts, eqb-true, ne_eqb, le-leb, leb-true}
use Rattle.squares.specs.declared.shogi.piece.HandKind.{HandKind}
use Rattle.squares.specs.declared.shogi.piece.HandKind.TheVariants as in_hand
use Rattle.squares.specs.declared.shogi.moves.SMove.{SMove}
use Rattle.squares.specs.declared.shogi.moves.SMove.TheVariants.{Step, Drop}
use Rattle.squares.specs.ShogiGeometry.{shogi_number, file_of, rank_of}
use Rattle.squares.specs.ShogiPieces.{on_board}
use Rattle.sfen.specs.Letters.{capital}
use Rattle.sfen.specs.UsiText.{square_text, promotion_text, usi_text}
use Rattle.sfen.specs.internal.UsiText.{IsOnBoard, IsUsiText}
use Rattle.sfen.specs.UsiReading.{is_file, is_rank, square_reading, kind_reading, step_of, drop_of, usi_reading}

-- the bytes of a square
pub is_file-text : (n : ℕ) → n < 81 → is_file (48 + file_of n) ≡ true
is_file-text n h = rw (le-leb 49 (48 + file_of n) (omega arith), le-leb (48 + file_of n) 57 (omega arith)) refl

pub is_rank-text : (n : ℕ) → n < 81 → is_rank (96 + rank_of n) ≡ true
is_rank-text n h = rw (le-leb 97 (96 + rank_of n) (omega arith), le-leb (96 + rank_of n) 105 (omega arith)) refl

-- the square of a file's digit and a rank's letter
pub square-bytes : (file rank : ℕ) → is_file file ≡ true → is_rank rank ≡ true
    → (shogi_number (file - 48) (rank - 96) < 81)
    × (file ∷ rank ∷ [] ≡ square_text (shogi_number (file - 48) (rank - 96)))
square-bytes file rank f r =
    let file_tests = and_parts (nat_le 49 file) (nat_le file 57) f in
    let rank_tests = and_parts (nat_le 97 rank) (nat_le rank 105) r in
    let file_low = leb-true 49 file file_tests.0 in
    let file_high = leb-true file 57 file_tests.1 in
    let rank_low = leb-true 97 rank rank_tests.0 in
    let rank_high = leb-true rank 105 rank_tests.1 in
    let n = shogi_number (file - 48) (rank - 96) in
    let file_is : file ≡ 48 + file_of n = omega arith in
    let rank_is : rank ≡ 96 + rank_of n = omega arith in
    (omega arith, λ i. file_is i ∷ rank_is i ∷ [])

pub square_reading-sound : (file rank n : ℕ) → square_reading file rank ≡ Some n → (n < 81)
    × (file ∷ rank ∷ [] ≡ square_text n)
square_reading-sound file rank n =
    elim (is_file file && is_rank rank) as (λ b. (is_file file && is_rank rank) ≡ b
    → cond b (Some (shogi_number (file - 48) (rank - 96))) None ≡ Some n → (n < 81)
    × (file ∷ rank ∷ [] ≡ square_text n)) [
      | true ↦ λ is e.
          let tests = and_parts (is_file file) (is_rank rank) is in
          let same : shogi_number (file - 48) (rank - 96) ≡ n = cc in
          subst (λ (m : ℕ). (m < 81) × (file ∷ rank ∷ [] ≡ square_text m)) same (square-bytes file rank tests.0 tests.1)
      | false ↦ λ is e. absurd cc
    ] refl

pub square_reading-text : (n : ℕ) → n < 81 → square_reading (48 + file_of n) (96 + rank_of n) ≡ Some n
square_reading-text n h =
    let file : is_file (48 + file_of n) ≡ true = is_file-text n h in
    let rank : is_rank (96 + rank_of n) ≡ true = is_rank-text n h in
    let number : shogi_number (48 + file_of n - 48) (96 + rank_of n - 96) ≡ n = omega arith in
    (λ i. cond (file i && rank i) (Some (shogi_number (48 + file_of n - 48) (96 + rank_of n - 96))) None)
    ∙ ap Some number

pub kind_reading-text : (kind : HandKind) → kind_reading (capital (on_board kind)) ≡ Some kind
kind_reading-text in_hand.Rook = refl
kind_reading-text _ = refl

-- one test of a letter: it is that of the kind, or the others tell
one_letter : (c d : ℕ) (kind found : HandKind) (others : Option HandKind) → d ≡ capital (on_board kind)
    → (others ≡ Some found → c ≡ capital (on_board found)) → cond (nat_eq c d) (Some kind) others ≡ Some found
    → c ≡ capital (on_board found)
one_letter c d kind found others is_letter rest =
    elim (nat_eq c d) as (λ b. nat_eq c d ≡ b → cond b (Some kind) others ≡ Some found → c ≡ capital (on_board found)) [
      | true ↦ λ is e.
          let same : kind ≡ found = cc in
          eqb-true c d is ∙ is_letter ∙ ap (λ k. capital (on_board k)) same
      | false ↦ λ is e. rest e
    ] refl

pub kind_reading-sound : (c : ℕ) (found : HandKind) → kind_reading c ≡ Some found → c ≡ capital (on_board found)
kind_reading-sound c found e =
    one_letter c 82 in_hand.Rook found _ refl
    (one_letter c 66 in_hand.Bishop found _ refl
    (one_letter c 71 in_hand.Gold found _ refl
    (one_letter c 83 in_hand.Silver found _ refl
    (one_letter c 78 in_hand.Knight found _ refl
    (one_letter c 76 in_hand.Lance found _ refl
    (one_letter c 80 in_hand.Pawn found None refl (λ h. absurd cc)))))))
    e

step-sound : (a b c d : ℕ) (promote : Bool) (m : SMove) (from to : Option ℕ) → square_reading a b ≡ from
    → square_reading c d ≡ to → step_of from to promote ≡ Some m → IsUsiText (a ∷ b ∷ c ∷ d ∷ promotion_text promote) m
step-sound a b c d promote m (Some from) (Some to) f t e =
    let first = square_reading-sound a b from f in
    let second = square_reading-sound c d to t in
    let same : Step from to promote ≡ m = cc in
    let text : a ∷ b ∷ c ∷ d ∷ promotion_text promote ≡ usi_text (Step from to promote) = λ i.
    first.1 i ++ (second.1 i ++ promotion_text promote) in
    subst (λ (n : SMove). IsUsiText (a ∷ b ∷ c ∷ d ∷ promotion_text promote) n) same ((first.0, second.0), text)
step-sound a b c d promote m _ _ f t e = absurd cc

drop-sound : (a c d : ℕ) (m : SMove) (kind : Option HandKind) (to : Option ℕ) → kind_reading a ≡ kind
    → square_reading c d ≡ to → drop_of kind to ≡ Some m → IsUsiText (a ∷ 42 ∷ c ∷ d ∷ []) m
drop-sound a c d m (Some kind) (Some to) k t e =
    let first = kind_reading-sound a kind k in
    let second = square_reading-sound c d to t in
    let same : Drop kind to ≡ m = cc in
    let text : a ∷ 42 ∷ c ∷ d ∷ [] ≡ usi_text (Drop kind to) = λ i. first i ∷ 42 ∷ second.1 i in
    subst (λ (n : SMove). IsUsiText (a ∷ 42 ∷ c ∷ d ∷ []) n) same (second.0, text)
drop-sound a c d m _ _ k t e = absurd cc

-- what is read as a move is that move's text
pub usi_reading-sound : (text : List ℕ) (m : SMove) → usi_reading text ≡ Some m → IsUsiText text m
usi_reading-sound (a ∷ b ∷ c ∷ d ∷ []) m e =
    elim (nat_eq b 42) as (λ t. nat_eq b 42 ≡ t
    → cond t (drop_of (kind_reading a) (square_reading c d))
    (step_of (square_reading a b) (square_reading c d) false) ≡ Some m → IsUsiText (a ∷ b ∷ c ∷ d ∷ []) m) [
      | true ↦ λ is h.
          subst (λ (x : ℕ). IsUsiText (a ∷ x ∷ c ∷ d ∷ []) m) (sym (eqb-true b 42 is))
          (drop-sound a c d m (kind_reading a) (square_reading c d) refl refl h)
      | false ↦ λ is h. step-sound a b c d false m (square_reading a b) (square_reading c d) refl refl h
    ] refl e
usi_reading-sound (a ∷ b ∷ c ∷ d ∷ f ∷ []) m e =
    elim (nat_eq f 43) as (λ t. nat_eq f 43 ≡ t
    → cond t (step_of (square_reading a b) (square_reading c d) true) None ≡ Some m
    → IsUsiText (a ∷ b ∷ c ∷ d ∷ f ∷ []) m) [
      | true ↦ λ is h.
          subst (λ (x : ℕ). IsUsiText (a ∷ b ∷ c ∷ d ∷ x ∷ []) m) (sym (eqb-true f 43 is))
          (step-sound a b c d true m (square_reading a b) (square_reading c d) refl refl h)
      | false ↦ λ is h. absurd cc
    ] refl e
usi_reading-sound _ m e = absurd cc

-- a move's text is read as that move
pub usi_reading-text : (m : SMove) → IsOnBoard m → usi_reading (usi_text m) ≡ Some m
usi_reading-text (Step from to false) on =
    let no_star : nat_eq (96 + rank_of from) 42 ≡ false = ne_eqb (96 + rank_of from) 42
    (λ e. absurd (omega arith)) in
    let steps = step_of (square_reading (48 + file_of from) (96 + rank_of from))
    (square_reading (48 + file_of to) (96 + rank_of to)) false in
    let drops = drop_of (kind_reading (48 + file_of from)) (square_reading (48 + file_of to) (96 + rank_of to)) in
    ap (λ b. cond b drops steps) no_star
    ∙ (λ i. step_of (square_reading-text from on.0 i) (square_reading-text to on.1 i) false)
usi_reading-text (Step from to true) on =
    λ i. step_of (square_reading-text from on.0 i) (square_reading-text to on.1 i) true
usi_reading-text (Drop kind to) on = λ i. drop_of (kind_reading-text kind i) (square_reading-text to on i)

pub text-read : (text : List ℕ) (m : SMove) → IsUsiText text m → usi_reading text ≡ Some m
text-read text m h = ap usi_reading h.1 ∙ usi_reading-text m h.0

pub one-move : (text : List ℕ) (a b : SMove) → IsUsiText text a → IsUsiText text b → a ≡ b
one-move text a b first second =
    let one = text-read text a first in
    let other = text-read text b second in
    let same : ◌≡◌ {A = Option SMove} (Some a) (Some b) = sym one ∙ other in
    cc

-- The computed test whether a square or a king is attacked is the relation, and a drop uncovers no king.
use Rattle.std.proofs.Common.{◌≡◌, ℕ, inl, inr, true, ◌&&◌, Option, Some, None, refl, ap, ◌∙◌, false, List, [], ◌∷◌}
use Rattle.std.proofs.Common.{sym}
use Rattle.std.specs.Prelude.{IsTrue, ◌↔◌}
use Rattle.std.specs.FinMap as map
use Rattle.std.proofs.lemmas.Bool.{cases_eq, and_parts, and_from, both_ways, false_from_ne_true}
use Rattle.squares.specs.declared.sides.Side.{Side}
use Rattle.squares.specs.declared.shogi.piece.SPiece.{SPiece}
use Rattle.squares.specs.declared.shogi.piece.Role.{Role}
use Rattle.squares.specs.declared.shogi.piece.Role.TheVariants as role
use Rattle.squares.specs.Sides.{other, same_side}
use Rattle.squares.specs.internal.Sides.{same_side-of, same_side-same, same_side-itself}
use Rattle.squares.specs.ShogiBoard.{ShogiBoard}
use Rattle.squares.specs.ShogiSets.{is_king, ShogiPosition}
use Rattle.squares.specs.internal.ShogiSets.{holds_king}
use Rattle.shogi_moves.specs.Reach.{Reach, Attacked, KingAttacked, king, AllClear}
use Rattle.shogi_moves.specs.internal.Search.{piece_reaches, side_reaches, attacked, king_attacked_at, king_attacked}
use Rattle.shogi_moves.proofs.ReachLemmas.{piece_reaches-sound, piece_reaches-complete, Reach-on}
use Rattle.shogi_moves.proofs.TruthLemmas.{standing-is, some_square-is, and-is}
use Rattle.std.specs.FinMap as map
use Rattle.squares.specs.declared.sides.Side.TheVariants.{First, Second}
use Rattle.squares.specs.declared.shogi.moves.SMove.TheVariants.{Drop}
use Rattle.squares.specs.declared.shogi.piece.HandKind.{HandKind}
use Rattle.shogi_moves.specs.Rules.{board_after, dropped_role}
use Rattle.shogi_moves.proofs.PlayLemmas.{get-put, get-put_other, dropped-no_king}

-- a piece of a side stands on x and reaches y
record SideReaches (board : ShogiBoard) (side : Side) (y x : ℕ) : Type 0 where
  piece : SPiece
  own : piece.side ≡ side
  reach : Reach board piece x y

side_reaches-is : (board : ShogiBoard) (side : Side) (y x : ℕ)
    → IsTrue (side_reaches board side y x) ↔ SideReaches board side y x
unfolding side_reaches
side_reaches-is board side y x =
    let own = λ (piece : SPiece). same_side piece.side side in
    let reaches = λ (piece : SPiece). piece_reaches board piece x y in
    let stands = standing-is (λ piece. own piece && reaches piece) (map.get board x) in (
      λ e.
          let w = stands.0 e in
          let both = and_parts (own w.0) (reaches w.0) w.2 in
          record {
            piece = w.0;
            own = same_side-same w.0.side side both.0;
            reach = piece_reaches-sound board w.0 x y w.1 both.1;
          },
      λ s.
          let both = and_from (own s.piece) (reaches s.piece) (same_side-of s.piece.side side s.own)
          (piece_reaches-complete board s.piece x y s.reach) in
          stands.1 (s.piece, s.reach.stands, both),
    )

pub attacked-is : (board : ShogiBoard) (side : Side) (square : ℕ)
    → IsTrue (attacked board side square) ↔ Attacked board side square
unfolding attacked
attacked-is board side square =
    let some = some_square-is (side_reaches board (other side) square) (SideReaches board (other side) square)
    (side_reaches-is board (other side) square) in (
      λ e. let w = some.0 e in
          record { from = w.square; piece = w.holds.piece; enemy = w.holds.own; reach = w.holds.reach },
      λ a.
          some.1 (record {
            square = a.from;
            on_board = (Reach-on board a.piece a.from square a.reach).0;
            holds = record { piece = a.piece; own = a.enemy; reach = a.reach };
          }),
    )

is_king-king : (r : Role) → is_king r ≡ true → r ≡ role.King
is_king-king role.King e = refl
is_king-king _ e = cc

pub holds_king-is : (side : Side) (o : Option SPiece) → IsTrue (holds_king side o) ↔ (o ≡ Some (king side))
holds_king-is side None = (λ e. cc, λ e. cc)
holds_king-is side (Some piece) = (
  λ e. let w = and_parts (is_king piece.role) (same_side piece.side side) e in
      (λ i. Some (record { side = same_side-same piece.side side w.1 i; role = is_king-king piece.role w.0 i })),
  λ e. ap (holds_king side) e ∙ same_side-itself side,
)

-- a king of the side stands there and is attacked
abbrev KingAttackedAt : ShogiBoard → Side → ℕ → Type 0
KingAttackedAt board side n = (map.get board n ≡ Some (king side)) × Attacked board side n

pub king_attacked-is : (board : ShogiBoard) (side : Side) → IsTrue (king_attacked board side) ↔ KingAttacked board side
unfolding king_attacked king_attacked_at
king_attacked-is board side =
    let some = some_square-is (king_attacked_at board side) (KingAttackedAt board side)
    (λ n. and-is (holds_king side (map.get board n)) (attacked board side n) (holds_king-is side (map.get board n))
    (attacked-is board side n)) in (
      λ e. let w = some.0 e in record { square = w.square; stands = w.holds.0; attacked = w.holds.1 },
      λ k.
          some.1 (record {
            square = k.square;
            on_board = (Reach-on board k.attacked.piece k.attacked.from k.square k.attacked.reach).1;
            holds = (k.stands, k.attacked);
          }),
    )

-- ---- A drop uncovers no king: what attacks it after the drop attacked it before

-- what stands on a square after a piece is put on another
put_at : (board : ShogiBoard) (to q : ℕ) (piece : SPiece) (o : Option SPiece)
    → map.get (map.insert board to piece) q ≡ o → (Some piece ≡ o → ⊥) → map.get board q ≡ o
put_at board to q piece o is other =
    elim (cases_eq q to) [
      | inl same ↦ absurd (other (sym (ap (map.get (map.insert board to piece)) same ∙ get-put board to piece) ∙ is))
      | inr differs ↦ sym (get-put_other board to piece q differs) ∙ is
    ]

clear_before : (board : ShogiBoard) (to : ℕ) (piece : SPiece) (squares : List ℕ)
    → AllClear (map.insert board to piece) squares → AllClear board squares
clear_before board to piece [] h = tt
clear_before board to piece (n ∷ ns) h =
    (put_at board to n piece None h.0 (λ e. cc), clear_before board to piece ns h.1)

enemy_of_itself : (side : Side) → side ≡ other side → ⊥
enemy_of_itself First e = cc
enemy_of_itself Second e = cc

module _ (board : ShogiBoard) (side : Side) (to : ℕ) (r : Role) (common : is_king r ≡ false) where
  abbrev dropped : SPiece
  dropped = record { side = side; role = r }

  attacked_before : (square : ℕ) → Attacked (map.insert board to dropped) side square → Attacked board side square
  attacked_before square a = record {
    from = a.from;
    piece = a.piece;
    enemy = a.enemy;
    reach = record {
      stands = put_at board to a.from dropped (Some a.piece) a.reach.stands (λ e. let own : dropped ≡ a.piece = cc in
          enemy_of_itself side (ap (λ (p : SPiece). p.side) own ∙ a.enemy));
      heading = a.reach.heading;
      before = a.reach.before;
      after = a.reach.after;
      along = a.reach.along;
      clear = clear_before board to dropped a.reach.before a.reach.clear;
    };
  }

  no_king : Some dropped ≡ Some (king side) → ⊥
  no_king e =
      let same : dropped ≡ king side = cc in
      let is : true ≡ false = sym (ap (λ (p : SPiece). is_king p.role) same) ∙ common in
      cc

  pub king_attacked_before : KingAttacked (map.insert board to dropped) side → KingAttacked board side
  king_attacked_before k = record {
    square = k.square;
    stands = put_at board to k.square dropped (Some (king side)) k.stands no_king;
    attacked = attacked_before k.square k.attacked;
  }

pub drop-safe : (p : ShogiPosition) (kind : HandKind) (to : ℕ) → king_attacked p.board p.turn ≡ false
    → king_attacked (board_after p (Drop kind to)) p.turn ≡ false
drop-safe p kind to safe =
    false_from_ne_true (king_attacked (board_after p (Drop kind to)) p.turn)
    (λ t.
    both_ways (king_attacked p.board p.turn) safe
    ((king_attacked-is p.board p.turn).1
    (king_attacked_before p.board p.turn to (dropped_role kind) (dropped-no_king kind)
    ((king_attacked-is (board_after p (Drop kind to)) p.turn).0 t))))

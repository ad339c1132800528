-- The computed tests of the rules are the rules.
use Rattle.std.proofs.Common.{◌≡◌, ◌<◌, ℕ, Bool, true, false, ◌&&◌, ◌||◌, nat_eq, nat_lt, Option, Some, None, refl, ap}
use Rattle.std.proofs.Common.{◌∙◌}
use Rattle.std.specs.Prelude.{IsTrue, ◌↔◌, not, is_none}
use Rattle.std.specs.FinMap as map
use Rattle.std.proofs.lemmas.Bool.{and_parts, ltb-true, lt-ltb}
use Rattle.squares.specs.declared.sides.Side.{Side}
use Rattle.squares.specs.declared.shogi.piece.SPiece.{SPiece}
use Rattle.squares.specs.declared.shogi.piece.Role.{Role}
use Rattle.squares.specs.declared.shogi.piece.Role.TheVariants as role
use Rattle.squares.specs.declared.shogi.piece.HandKind.TheVariants as in_hand
use Rattle.squares.specs.declared.shogi.moves.SMove.{SMove}
use Rattle.squares.specs.declared.shogi.moves.SMove.TheVariants.{Step, Drop}
use Rattle.squares.specs.Sides.{same_side}
use Rattle.squares.specs.internal.Sides.{same_side-of, same_side-same, same_side-itself}
use Rattle.squares.specs.ShogiBoard.{ShogiBoard}
use Rattle.squares.specs.ShogiSets.{ShogiPosition}
use Rattle.squares.specs.ShogiGeometry.{file_of}
use Rattle.shogi_moves.specs.internal.Search.{piece_reaches}
use Rattle.shogi_moves.specs.Rules.{held, may_promote, is_stuck, may_land, Goes, Movement, Lacks, StuckAfter, Stays}
use Rattle.shogi_moves.specs.Rules.{DropsDead, pawn, PawnOnFile, DropsPawn, DropsSecondPawn, target, Pseudo}
use Rattle.shogi_moves.specs.internal.Computed.{goes, is_free, is_movement, drops_unheld, stuck_after}
use Rattle.shogi_moves.specs.internal.Computed.{fails_to_promote, drops_dead, is_pawn}
use Rattle.shogi_moves.specs.internal.Computed.{holds_pawn, pawn_on_file_at, pawn_on_file, drops_pawn}
use Rattle.shogi_moves.specs.internal.Computed.{drops_second_pawn}
use Rattle.shogi_moves.specs.internal.Computed.{is_pseudo}
use Rattle.shogi_moves.proofs.ReachLemmas.{piece_reaches-sound, piece_reaches-complete, is_none-none}
use Rattle.shogi_moves.proofs.TruthLemmas.{standing-is, some_square-is, not-is, and-is, same-is}

pub is_free-is : (board : ShogiBoard) (square : ℕ) → square < 81 → is_free board square ≡ is_none (map.get board square)
unfolding is_free
is_free-is board square on = ap (λ t. t && is_none (map.get board square)) (lt-ltb square 81 on)

-- a step promotes only where it may
promotes-is : (promote may : Bool) → IsTrue (not promote || may) ↔ (promote ≡ true → may ≡ true)
promotes-is true may = (λ e _. e, λ h. h refl)
promotes-is false may = (λ _ e. cc, λ _. refl)

module _ (p : ShogiPosition) (from to : ℕ) (promote : Bool) where
  abbrev pub goes_as : SPiece → Bool
  goes_as piece = same_side piece.side p.turn && may_land p.turn (map.get p.board to) &&
      (not promote || may_promote piece from to) && piece_reaches p.board piece from to

  pub goes-is : IsTrue (goes p from to promote) ↔ Goes p from to promote
  unfolding goes
  goes-is =
      let some = standing-is goes_as (map.get p.board from) in (
        λ e.
            let s = some.0 e in
            let piece = s.0 in
            let own = same_side piece.side p.turn in
            let lands = may_land p.turn (map.get p.board to) in
            let may = not promote || may_promote piece from to in
            let u = and_parts (own && lands && may) (piece_reaches p.board piece from to) s.2 in
            let v = and_parts (own && lands) may u.0 in
            let w = and_parts own lands v.0 in
            record {
              piece = piece;
              own = same_side-same piece.side p.turn w.0;
              reach = piece_reaches-sound p.board piece from to s.1 u.1;
              lands = w.1;
              may = (promotes-is promote (may_promote piece from to)).0 v.1;
            },
        λ g.
            some.1 (
              g.piece,
              g.reach.stands,
              (λ i.
                  same_side-of g.piece.side p.turn g.own i && g.lands i
                  && (promotes-is promote (may_promote g.piece from to)).1 g.may i
                  && piece_reaches-complete p.board g.piece from to g.reach i),
            ),
      )

module _ (p : ShogiPosition) where
  pub is_movement-is : (m : SMove) → IsTrue (is_movement p m) ↔ Movement p m
  unfolding is_free
  is_movement-is (Step from to promote) = goes-is p from to promote
  is_movement-is (Drop kind to) = and-is (nat_lt to 81) (is_none (map.get p.board to))
      (ltb-true to 81, lt-ltb to 81) (is_none-none (map.get p.board to), ap is_none)

  pub lacks-is : (m : SMove) → IsTrue (drops_unheld p m) ↔ Lacks p m
  lacks-is (Step from to promote) = (λ e. cc, λ never. absurd never)
  lacks-is (Drop kind to) = same-is (held p.hands p.turn kind) 0

  stuck_after-is : (from to : ℕ) → IsTrue (stuck_after p from to) ↔ StuckAfter p from to
  unfolding stuck_after
  stuck_after-is from to = standing-is (λ piece. is_stuck piece.side piece.role to) (map.get p.board from)

  pub stays-is : (m : SMove) → IsTrue (fails_to_promote p m) ↔ Stays p m
  stays-is (Step from to true) = (λ e. cc, λ w. let e = w.0 in cc)
  stays-is (Step from to false) = (λ e. (refl, (stuck_after-is from to).0 e), λ w. (stuck_after-is from to).1 w.1)
  stays-is (Drop kind to) = (λ e. cc, λ never. absurd never)

  pub drops_dead-is : (m : SMove) → IsTrue (drops_dead p m) ↔ DropsDead p m
  drops_dead-is (Step from to promote) = (λ e. cc, λ never. absurd never)
  drops_dead-is (Drop kind to) = (λ e. e, λ e. e)

pub drops_pawn-is : (m : SMove) → IsTrue (drops_pawn m) ↔ DropsPawn m
drops_pawn-is (Step from to promote) = (λ e. cc, λ never. absurd never)
drops_pawn-is (Drop in_hand.Pawn to) = (λ _. tt, λ _. refl)
drops_pawn-is (Drop _ to) = (λ e. cc, λ never. absurd never)

is_pawn-pawn : (r : Role) → is_pawn r ≡ true → r ≡ role.Pawn
is_pawn-pawn role.Pawn e = refl
is_pawn-pawn _ e = cc

holds_pawn-is : (side : Side) (o : Option SPiece) → IsTrue (holds_pawn side o) ↔ (o ≡ Some (pawn side))
holds_pawn-is side None = (λ e. cc, λ e. cc)
holds_pawn-is side (Some piece) = (
  λ e. let w = and_parts (is_pawn piece.role) (same_side piece.side side) e in
      (λ i. Some (record { side = same_side-same piece.side side w.1 i; role = is_pawn-pawn piece.role w.0 i })),
  λ e. ap (holds_pawn side) e ∙ same_side-itself side,
)

-- a pawn of the side stands there, on the file of the square
abbrev PawnAt : ShogiBoard → Side → ℕ → ℕ → Type 0
PawnAt board side square n = (map.get board n ≡ Some (pawn side)) × (file_of n ≡ file_of square)

pawn_on_file-is : (board : ShogiBoard) (side : Side) (square : ℕ)
    → IsTrue (pawn_on_file board side square) ↔ PawnOnFile board side square
unfolding pawn_on_file pawn_on_file_at
pawn_on_file-is board side square =
    let some = some_square-is (pawn_on_file_at board side square) (PawnAt board side square)
    (λ n. and-is (holds_pawn side (map.get board n)) (nat_eq (file_of n) (file_of square))
    (holds_pawn-is side (map.get board n)) (same-is (file_of n) (file_of square))) in (
      λ e. let w = some.0 e in
          record { there = w.square; on_board = w.on_board; stands = w.holds.0; same_file = w.holds.1 },
      λ f. some.1 (record { square = f.there; on_board = f.on_board; holds = (f.stands, f.same_file) }),
    )

module _ (p : ShogiPosition) (m : SMove) where
  pub drops_second_pawn-is : IsTrue (drops_second_pawn p m) ↔ DropsSecondPawn p m
  unfolding drops_second_pawn
  drops_second_pawn-is = and-is (drops_pawn m) (pawn_on_file p.board p.turn (target m)) (drops_pawn-is m)
      (pawn_on_file-is p.board p.turn (target m))

  pub is_pseudo-is : IsTrue (is_pseudo p m) ↔ Pseudo p m
  unfolding is_pseudo
  is_pseudo-is =
      let holds = not-is (drops_unheld p m) (lacks-is p m) in
      let promotes = not-is (fails_to_promote p m) (stays-is p m) in
      let alive = not-is (drops_dead p m) (drops_dead-is p m) in
      let one = not-is (drops_second_pawn p m) drops_second_pawn-is in
      let all = and-is _ _ (and-is _ _ (and-is _ _ (and-is _ _ (is_movement-is p m) holds) promotes) alive) one in (
        λ e. let w = all.0 e in
            record { moves = w.0.0.0.0; holds = w.0.0.0.1; promotes = w.0.0.1; alive = w.0.1; one_pawn = w.1 },
        λ s. all.1 ((((s.moves, s.holds), s.promotes), s.alive), s.one_pawn),
      )

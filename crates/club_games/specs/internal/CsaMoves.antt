-- The move that a written move means is the computed one. No promise of the program rests on these definitions.
use Rattle.std.proofs.Common.{◌≡◌, ℕ, Bool, true, false, Option, Some, None, refl, sym, ap, subst, ◌∙◌, arith}
use Rattle.std.specs.Prelude.{IfSome, if◌then◌else◌}
use Rattle.std.specs.Option.{option_map}
use Rattle.std.proofs.lemmas.Bool.{false_from_ne_true}
use Rattle.std.specs.FinMap as map
use denote.Enum.Bare.{same_true, true_same}
use Rattle.squares.specs.contracts.shogi.piece.Role as role_of
use Rattle.squares.specs.declared.shogi.moves.SMove.{SMove}
use Rattle.squares.specs.declared.shogi.moves.SMove.TheVariants.{Step, Drop}
use Rattle.squares.specs.declared.shogi.piece.HandKind.{HandKind}
use Rattle.squares.specs.declared.shogi.piece.HandKind.TheVariants as in_hand
use Rattle.squares.specs.declared.shogi.piece.Role.{Role}
use Rattle.squares.specs.declared.shogi.piece.Role.TheVariants as role
use Rattle.squares.specs.declared.shogi.piece.SPiece.{SPiece}
use Rattle.squares.specs.Sides.{same_side}
use Rattle.squares.specs.internal.Sides.{same_side-itself, same_side-same}
use Rattle.squares.specs.ShogiSets.{ShogiPosition}
use Rattle.shogi_moves.specs.Rules.{arrived, dropped_role}
use Rattle.csa.specs.declared.statements.WrittenMove.{WrittenMove}
use Rattle.csa.specs.Moves.{CodedAs, Means}
use Rattle.club_games.specs.internal.CsaReading.{same_role, promotion_of, promotion_at, dropped_kind, meant_from}
use Rattle.club_games.specs.internal.CsaReading.{meant}

drop-kind : (kind : HandKind) → dropped_kind (dropped_role kind) ≡ Some kind
drop-kind in_hand.Rook = refl
drop-kind _ = refl

kind-dropped : (r : Role) (kind : HandKind) → dropped_kind r ≡ Some kind → r ≡ dropped_role kind
kind-dropped role.Rook kind e = grind arith
kind-dropped _ kind e = grind arith

coded-promotion : (piece : SPiece) (promote : Bool) (code : Role) → CodedAs piece promote code
    → promotion_of piece code ≡ Some promote
coded-promotion piece false code coded =
    ap (λ b. if b then Some false else if same_role code (arrived piece true).role then Some true else None)
    (true_same role_of.the_type code piece.role coded.after)
coded-promotion piece true code coded =
    let other = false_from_ne_true (same_role code piece.role)
    (λ e. coded.own refl (same_true role_of.the_type tt code piece.role e)) in
    λ i. if other i then Some false else if true_same role_of.the_type code
    (arrived piece true).role coded.after i then Some true else None

promotion-coded : (piece : SPiece) (code : Role)
    → IfSome (promotion_of piece code) (λ promote. CodedAs piece promote code)
promotion-coded piece code = by-own (same_role code piece.role) (same_role code (arrived piece true).role) refl refl
  where
    by-own : (own after : Bool) → same_role code piece.role ≡ own → same_role code (arrived piece true).role ≡ after
        → IfSome (if own then Some false else if after then Some true else None)
        (λ promote. CodedAs piece promote code)
    by-own true after own_is after_is =
        record { after = same_true role_of.the_type tt code piece.role own_is; own = λ never. absurd (cc) }
    by-own false true own_is after_is = record {
      after = same_true role_of.the_type tt code (arrived piece true).role after_is;
      own = λ _ same. let never : false ≡ true = sym own_is ∙ true_same role_of.the_type code piece.role same in
          absurd (cc);
    }
    by-own false false own_is after_is = tt

-- what is meant is computed
pub means-meant : (p : ShogiPosition) (w : WrittenMove) (m : SMove) → Means p w m → meant p w ≡ Some m
means-meant p w (Step from to promote) (side, to_is, from_is, (piece, at, coded)) =
    (λ i. if (ap (λ s. same_side s p.turn) side ∙ same_side-itself p.turn) i then meant_from p w (from_is i) else None)
    ∙ ap (λ o. option_map (λ b. Step from w.to b) (promotion_at o w.role)) at
    ∙ ap (λ o. option_map (λ b. Step from w.to b) o) (coded-promotion piece promote w.role coded)
    ∙ ap (λ t. Some (Step from t promote)) to_is
means-meant p w (Drop kind to) (side, to_is, from_is, role_is) =
    (λ i. if (ap (λ s. same_side s p.turn) side ∙ same_side-itself p.turn) i then meant_from p w (from_is i) else None)
    ∙ ap (λ o. option_map (λ k. Drop k w.to) o) (ap dropped_kind role_is ∙ drop-kind kind)
    ∙ ap (λ t. Some (Drop kind t)) to_is

module _ (p : ShogiPosition) (w : WrittenMove) (side : w.side ≡ p.turn) where
  dropped-means : (o : Option HandKind) → dropped_kind w.role ≡ o → w.from ≡ None
      → IfSome (option_map (λ k. Drop k w.to) o) (Means p w)
  dropped-means None is from = tt
  dropped-means (Some kind) is from = (side, refl, from, kind-dropped w.role kind is)

  stepped-means : (from : ℕ) (cell : Option SPiece) (o : Option Bool) → map.get p.board from ≡ cell
      → promotion_at cell w.role ≡ o → w.from ≡ Some from → IfSome (option_map (λ b. Step from w.to b) o) (Means p w)
  stepped-means from cell None at is from_is = tt
  stepped-means from None (Some promote) at is from_is = absurd (cc)
  stepped-means from (Some piece) (Some promote) at is from_is =
      let coded = subst (λ o. IfSome o (λ b. CodedAs piece b w.role)) is (promotion-coded piece w.role) in
      (side, refl, from_is, (piece, at, coded))

  from-means : (from : Option ℕ) → w.from ≡ from → IfSome (meant_from p w from) (Means p w)
  from-means None is = dropped-means (dropped_kind w.role) refl is
  from-means (Some from) is =
      stepped-means from (map.get p.board from) (promotion_at (map.get p.board from) w.role) refl refl is

pub meant-means : (p : ShogiPosition) (w : WrittenMove) → IfSome (meant p w) (Means p w)
meant-means p w = by-side (same_side w.side p.turn) refl
  where
    by-side : (b : Bool) → same_side w.side p.turn ≡ b
        → IfSome (if b then meant_from p w w.from else None) (Means p w)
    by-side true is = from-means p w (same_side-same w.side p.turn is) w.from refl
    by-side false is = tt

-- and where nothing is meant, there is none
pub none-meant : (p : ShogiPosition) (w : WrittenMove) → ((m : SMove) → Means p w m → ⊥) → meant p w ≡ None
none-meant p w none = not-some (meant p w) (meant-means p w)
  where
    not-some : (o : Option SMove) → IfSome o (Means p w) → o ≡ None
    not-some None means = refl
    not-some (Some m) means = absurd (none m means)

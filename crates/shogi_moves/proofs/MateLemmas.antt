-- The computed tests for an escape, a mate and a legal move are the rules.
use Rattle.std.proofs.Common.{◌≡◌, Bool, true, inl, refl, List, [], ◌∷◌, sym, ◌∙◌}
use Rattle.std.specs.List.{Contains}
use Rattle.std.specs.List.Sorted.{IsStrictlySortedBy}
use Rattle.std.specs.Prelude.{IsTrue, ◌↔◌, not}
use Rattle.squares.specs.declared.shogi.moves.SMove.{SMove}
use Rattle.squares.specs.declared.shogi.moves.SMove.TheVariants.{Step, Drop}
use Rattle.squares.specs.ShogiSets.{ShogiPosition}
use Rattle.squares.specs.internal.In.{In, In-Contains, Contains-In}
use Rattle.shogi_moves.specs.Listing.{move_cmp}
use Rattle.shogi_moves.specs.internal.Listing.{all_moves}
use Rattle.shogi_moves.specs.internal.Seeking.{is_any}
use Rattle.shogi_moves.specs.Reach.{KingAttacked}
use Rattle.shogi_moves.specs.internal.Search.{king_attacked}
use Rattle.shogi_moves.specs.Rules.{Movement, Pseudo, Safe, Mate, MatesByPawn, Legal, HasMove, board_after, play}
use Rattle.shogi_moves.specs.internal.Computed.{is_pseudo, leaves_king, escapes, some_move, drops_pawn, is_mate}
use Rattle.shogi_moves.specs.internal.Computed.{mates_by_pawn}
use Rattle.shogi_moves.specs.internal.Computed.{is_legal, has_move}
use Rattle.shogi_moves.proofs.ListingLemmas.{NamesSquares, moves-ordered, passing-moves}
use Rattle.shogi_moves.proofs.SeekLemmas.{any-moves}
use Rattle.shogi_moves.proofs.AttackLemmas.{king_attacked-is}
use Rattle.shogi_moves.proofs.ReachLemmas.{Reach-on}
use Rattle.shogi_moves.proofs.RuleLemmas.{is_pseudo-is, drops_pawn-is}
use Rattle.shogi_moves.proofs.TruthLemmas.{not-is, and-is}

pub Movement-squares : (p : ShogiPosition) (m : SMove) → Movement p m → NamesSquares m
Movement-squares p (Step from to promote) g = Reach-on p.board g.piece from to g.reach
Movement-squares p (Drop kind to) g = g.0

-- some move passes a test where the listed moves that pass are some
module _ (test : SMove → Bool) where
  pub some_move-found : some_move test ≡ true → (m : SMove) × (test m ≡ true)
  some_move-found e = some-of (all_moves test) (any-moves test ∙ e)
      (λ m h. ((moves-ordered test).members m h).1)
    where
      some-of : (ms : List SMove) → is_any ms ≡ true → ((m : SMove) → In m ms → test m ≡ true)
          → (m : SMove) × (test m ≡ true)
      some-of [] e passes = cc
      some-of (m ∷ ms) e passes = (m, passes m (inl refl))

  pub some_move-finds : (m : SMove) → NamesSquares m → test m ≡ true → some_move test ≡ true
  some_move-finds m on e = sym (any-moves test) ∙ some-in (all_moves test) (passing-moves test m on e)
    where
      some-in : (ms : List SMove) → In m ms → is_any ms ≡ true
      some-in [] h = absurd h
      some-in (n ∷ ms) h = refl

module _ (p : ShogiPosition) (m : SMove) where
  pub leaves_king-is : IsTrue (leaves_king p m) ↔ KingAttacked (board_after p m) p.turn
  unfolding leaves_king
  leaves_king-is = king_attacked-is (board_after p m) p.turn

  pub escapes-is : IsTrue (escapes p m) ↔ (Pseudo p m × Safe p m)
  unfolding escapes
  escapes-is = and-is (is_pseudo p m) (not (leaves_king p m)) (is_pseudo-is p m)
      (not-is (leaves_king p m) leaves_king-is)

module _ (p : ShogiPosition) where
  some_escape-is : IsTrue (some_move (escapes p)) ↔ ((m : SMove) × Pseudo p m × Safe p m)
  some_escape-is = (
    λ e. let w = some_move-found (escapes p) e in let v = (escapes-is p w.0).0 w.1 in (w.0, v.0, v.1),
    λ w. some_move-finds (escapes p) w.0 (Movement-squares p w.0 w.1.moves) ((escapes-is p w.0).1 (w.1, w.2)),
  )

  pub is_mate-is : IsTrue (is_mate p) ↔ Mate p
  unfolding is_mate
  is_mate-is =
      let both = and-is (king_attacked p.board p.turn) (not (some_move (escapes p))) (king_attacked-is p.board p.turn)
      (not-is (some_move (escapes p)) some_escape-is) in (
        λ e. let w = both.0 e in record { attacked = w.0; no_escape = λ m pseudo safe. w.1 (m, pseudo, safe) },
        λ mate. both.1 (mate.attacked, λ w. mate.no_escape w.0 w.1 w.2),
      )

module _ (p : ShogiPosition) (m : SMove) where
  pub mates_by_pawn-is : IsTrue (mates_by_pawn p m) ↔ MatesByPawn p m
  unfolding mates_by_pawn
  mates_by_pawn-is = and-is (drops_pawn m) (is_mate (play p m)) (drops_pawn-is m) (is_mate-is (play p m))

  pub is_legal-is : IsTrue (is_legal p m) ↔ Legal p m
  unfolding is_legal
  is_legal-is =
      let both = and-is (escapes p m) (not (mates_by_pawn p m)) (escapes-is p m)
      (not-is (mates_by_pawn p m) mates_by_pawn-is) in (
        λ e. let w = both.0 e in record { pseudo = w.0.0; safe = w.0.1; no_pawn_mate = w.1 },
        λ l. both.1 ((l.pseudo, l.safe), l.no_pawn_mate),
      )

pub has_move-is : (p : ShogiPosition) → IsTrue (has_move p) ↔ HasMove p
unfolding has_move
has_move-is p = (
  λ e. let w = some_move-found (is_legal p) e in (w.0, (is_legal-is p w.0).0 w.1),
  λ w. some_move-finds (is_legal p) w.0 (Movement-squares p w.0 w.1.pseudo.moves) ((is_legal-is p w.0).1 w.1),
)

-- the listed moves, in order, are the legal ones
pub moves-sorted : (p : ShogiPosition) → IsStrictlySortedBy move_cmp (all_moves (is_legal p))
moves-sorted p = (moves-ordered (is_legal p)).sorted

module _ (p : ShogiPosition) where
  pub moves-members : (m : SMove) → Contains (all_moves (is_legal p)) m ↔ Legal p m
  moves-members m = (
    λ c. (is_legal-is p m).0 ((moves-ordered (is_legal p)).members m (Contains-In m (all_moves (is_legal p)) c)).1,
    λ l. In-Contains m (all_moves (is_legal p))
        (passing-moves (is_legal p) m (Movement-squares p m l.pseudo.moves) ((is_legal-is p m).1 l)),
  )

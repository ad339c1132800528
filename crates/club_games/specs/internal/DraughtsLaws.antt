-- The laws of GameRules for draughts. No promise of the program rests on these definitions.
use Rattle.std.proofs.Common.{Contains, ◌↔◌, ◌≡◌, ◌⊎◌, inl, inr, ℕ, zero, suc, ◌+◌, ◌-◌, ◌≤◌, ◌<◌, Bool, true, false}
use Rattle.std.proofs.Common.{cond, not, nat_eq, nat_le, List, [], ◌∷◌, length, Option, Some, None, is_some, Ok, IsSome}
use Rattle.std.proofs.Common.{refl, sym, ap, ◌∙◌, subst, arith, eqb-true, eq-eqb}
use Rattle.std.specs.List.Sorted.{IsStrictlySortedBy}
use Rattle.std.specs.Prelude.{if◌then◌else◌, map as list_map}
use Rattle.std.specs.List.{range_with_len}
use Rattle.std.specs.Ordering.{nat_cmp, eq_by_cmp}
use Rattle.std.specs.Cmp.{nat_cmp_total, unsigned_tied}
use Rattle.std.specs.FinSet as set
use Rattle.std.specs.FinMap as map
use Rattle.std.specs.FinMap.{nat_cmp-IsAntisymmetric}
use Rattle.std.proofs.lemmas.Bool.Decides.{nat_tests}
use Rattle.std.proofs.lemmas.List.{get_or_past}
use Rattle.std.proofs.lemmas.List.FromFn.{length-map-range_with_len}
use Rattle.squares.specs.declared.draughts.moves.DMove.{DMove}
use Rattle.squares.specs.declared.draughts.piece.DPiece.{DPiece}
use Rattle.squares.specs.DraughtsBoard.{Board, Position}
use Rattle.squares.specs.internal.DraughtsCells.{get-board_of, get-board_of-zero}
use Rattle.squares.specs.internal.DraughtsGeometry.{OnBoard}
use Rattle.squares.specs.DraughtsOpening.{opening, opening_piece}
use Rattle.squares.specs.DraughtsSamePosition.{same_position}
use Rattle.squares.specs.internal.DraughtsSamePosition.{same_position-same, same_position-itself}
use Rattle.squares.specs.DraughtsSets.{Squares}
use Rattle.draughts_moves.specs.Capture.{Cells, Route}
use Rattle.draughts_moves.specs.internal.Check.{check_of}
use Rattle.draughts_moves.specs.Legal.{Legal, crowned, moved, play}
use Rattle.draughts_moves.proofs.Proved.{check_of-is, play-turn}
use Rattle.draughts_draws.specs.declared.ends.DEnd.{DEnd}
use Rattle.draughts_draws.specs.declared.ends.DEnd.TheVariants as draughts_end
use Rattle.draughts_draws.specs.declared.tails.Class.{Class}
use Rattle.draughts_draws.specs.Ends.{end_of, first_end, is_king_move, are_king_moves, ends_with, stands_thrice}
use Rattle.draughts_draws.specs.Line.{last_position}
use Rattle.draughts_draws.specs.Tails.{end_by, class_of, in_class, first_count, count_on}
use Rattle.draughts_draws.specs.internal.Tails.{tail_of}
use Rattle.draughts_draws.specs.internal.Tails.{times_stood}
use Rattle.draughts_draws.proofs.Proved.{tail-begins, tail-goes-on, ends-by-tail}
use Rattle.pdn.specs.internal.Laws.{IsOnBoard}
use Rattle.pdn.specs.ReadFen.{IsFen}
use Rattle.pdn.specs.MoveValue.{move_text}
use Rattle.pdn.proofs.Proved.{quiet-on, same_move-same, same_move-itself, text-is, reads-back, reading-ok, fen-back}
use Rattle.pdn.proofs.Proved.{fen-one, Route-on}
use Rattle.draughts_moves.specs.Listing.{move_cmp}
use Rattle.club_rules.specs.Listed.{IsLegalList}
use Rattle.club_rules.specs.Line.{position_after, line_track}
use Rattle.club_rules.specs.Laws.{FirstStarts, StartsRunning, TurnPasses, ReadsBack, SameIs, SamePositionIs}
use Rattle.club_rules.specs.Laws.{EndsAtLimit, StandsForOne}
use Rattle.club_rules.specs.Laws.{WritesPositions, TextsTellPositions, TracksTellEnds, NumbersGiveTracks}
use Rattle.club_rules.specs.Laws.{TracksGiveNumbers, NumbersAreFew}
use Rattle.club_rules.proofs.Proved.{holds-after, passed-by, passes-by, tells-equal, texts-tell, track-is, numbers-few}
use Rattle.club_rules.proofs.Proved.{count-next}
use Rattle.club_games.specs.Draughts.{draughts, refusal_of, move_read}
use Rattle.club_games.specs.internal.FirstMoves.{man-has_move}

-- ---- legal moves

pub check-legal : (p : Position) (m : DMove) → draughts.check p m ≡ Ok tt → Legal p m
check-legal p m e = (check_of-is p m).legal.0 (passed-by refusal_of (check_of p m) e)

pub legal-check : (p : Position) (m : DMove) → Legal p m → draughts.check p m ≡ Ok tt
legal-check p m legal = passes-by refusal_of (check_of p m) ((check_of-is p m).legal.1 legal)

pub draughts-listed : (p : Position) (ms : List DMove) → IsStrictlySortedBy move_cmp ms
    → ((m : DMove) → Contains ms m ↔ Legal p m) → IsLegalList draughts p ms
draughts-listed p ms in_order members =
    record {
      in_order = in_order;
      members = λ m.
          ((λ listed. legal-check p m ((members m).0 listed)), (λ e. (members m).1 (check-legal p m e)));
    }

pub draughts-first_starts : FirstStarts draughts
unfolding opening
draughts-first_starts = refl

pub draughts-turn_passes : TurnPasses draughts
draughts-turn_passes p m e = play-turn p m (check-legal p m e)

pub draughts-reads_back : ReadsBack draughts
draughts-reads_back p m e =
    let legal = check-legal p m e in
    ap move_read ((reading-ok p (move_text p m) m).1 (reads-back p m (move_text p m) legal (text-is p m legal)))

-- ---- equality

pub draughts-same_is : SameIs draughts
draughts-same_is a b = (same_move-same a b, same_move-itself a b)

pub draughts-same_position_is : SamePositionIs draughts
draughts-same_position_is = tells-equal same_position same_position-same same_position-itself

-- ---- the ply limit

abbrev some_end : Bool → Bool → Bool → Bool → Bool → Bool → Option DEnd
some_end stuck thrice kings three two limit =
    if stuck
    then Some draughts_end.NoMove
    else if thrice
    then Some draughts_end.Repetition
    else if kings
    then Some draughts_end.KingMoves
    else if three
    then Some draughts_end.ThreeToOne
    else if two then Some draughts_end.TwoToOne else if limit then Some draughts_end.PlyLimit else None

at_limit : (a b c d e : Bool) → IsSome (some_end a b c d e true)
at_limit true b c d e = refl
at_limit false true c d e = refl
at_limit false false true d e = refl
at_limit false false false true e = refl
at_limit false false false false true = refl
at_limit false false false false false = refl

pub draughts-ends_at_limit : EndsAtLimit draughts
unfolding end_of first_end
draughts-ends_at_limit ms line is =
    let last : nat_eq (length ms) 600 ≡ true = eq-eqb (length ms) 600 is in
    rw last (at_limit _ _ _ _ _)

-- ---- the first ply

pub draughts-starts_running : StartsRunning draughts
unfolding end_of first_end stands_thrice are_king_moves ends_with
draughts-starts_running =
    λ i. some_end (not (man-has_move i)) (nat_le 3 (0 + cond (same_position-itself opening i) 1 0)) false false false
    false

-- ---- reachable positions have no pieces off the board

beyond : (n : ℕ) → 50 < n → map.get opening.board n ≡ None
unfolding opening
beyond n h =
    get-board_of (list_map opening_piece (range_with_len 1 50)) n (n - 1) (omega (arith, h))
    ∙ get_or_past (list_map opening_piece (range_with_len 1 50)) (n - 1) None
    (omega (arith, h, length-map-range_with_len opening_piece 1 50))

at_zero : map.get opening.board 0 ≡ None
unfolding opening
at_zero = get-board_of-zero (list_map opening_piece (range_with_len 1 50))

none_some : {A : Type 0} (o : Option A) → o ≡ None → IsSome o → ⊥
none_some None e some = cc
none_some (Some x) e some = cc

opening-on : IsOnBoard opening
opening-on zero some = absurd (none_some (map.get opening.board 0) at_zero some)
opening-on (suc n) some =
    elim (nat_le (suc n) 50) as (λ b. nat_le (suc n) 50 ≡ b → OnBoard (suc n)) [
      | true ↦ λ e. (omega arith, grind (arith, nat_tests, e))
      | false ↦
          λ e. absurd (none_some (map.get opening.board (suc n)) (beyond (suc n) (grind (arith, nat_tests, e))) some)
    ] refl

route-to_on : (b : Cells) (q : DPiece) (ls : List ℕ) (t : Squares) (s : ℕ) (all : Squares) (to : ℕ) → OnBoard s
    → Route b q t s ls all to → OnBoard to
route-to_on b q [] t s all to on r = subst OnBoard r.1 on
route-to_on b q (l ∷ ls) t s all to on r =
    route-to_on b q ls (set.insert t r.0) l all to (Route-on b q (l ∷ ls) t s all to r).0 r.2

to_on : (p : Position) (m : DMove) → IsOnBoard p → Legal p m → OnBoard m.to
to_on p m on (inl c) = route-to_on _ _ c.landings _ m.from _ m.to (on m.from (ap is_some c.capture.stands))
    c.capture.route
to_on p m on (inr q) = (quiet-on p m.from m.to q.1.0).1

some_here : {A : Type 0} (b : Bool) (x : A) (o : Option A) → IsSome (cond b (Some x) o) → (b ≡ true) ⊎ IsSome o
some_here true x o some = inl refl
some_here false x o some = inr some

some_kept : {A : Type 0} (b : Bool) (o : Option A) → IsSome (cond b o None) → IsSome o
some_kept true o some = some
some_kept false o some = cc

some_left : {A : Type 0} (b : Bool) (o : Option A) → IsSome (cond b None o) → IsSome o
some_left true o some = cc
some_left false o some = some

module _ (p : Position) (m : DMove) (on : IsOnBoard p) (to : OnBoard m.to) where
  abbrev keeps : ℕ → Bool
  keeps n = not (set.contains m.taken n)

  abbrev left : Board
  left = map.remove p.board m.from

  abbrev kept : Board
  kept = map.retain_keys left keeps

  kept-on : (n : ℕ) → IsSome (map.get kept n) → OnBoard n
  kept-on n some =
      let stays : IsSome (map.get left n) =
      some_kept (keeps n) (map.get left n)
      (subst IsSome (map.get-retain_keys left keeps n (λ x e. ap keeps (sym (nat_cmp-IsAntisymmetric n x e)))) some)
      in
      on n
      (some_left (eq_by_cmp nat_cmp n m.from) (map.get p.board n)
      (subst IsSome (map.get-remove nat_cmp_total p.board m.from n) stays))

  moved-on : (q : DPiece) → IsOnBoard (moved p m (Some q))
  moved-on q n some =
      elim (some_here (eq_by_cmp nat_cmp n m.to) (crowned q m.to) (map.get kept n)
      (subst IsSome (map.get-insert nat_cmp_total kept m.to (crowned q m.to) n) some)) [
        | inl e ↦ subst OnBoard (sym (eqb-true n m.to (sym (unsigned_tied n m.to) ∙ e))) to
        | inr more ↦ kept-on n more
      ]

play-on : (p : Position) (m : DMove) → IsOnBoard p → Legal p m → IsOnBoard (play p m)
play-on p m on (inl c) =
    subst (λ o. IsOnBoard (moved p m o)) (sym c.capture.stands) (moved-on p m on (to_on p m on (inl c)) c.capture.piece)
play-on p m on (inr q) =
    subst (λ o. IsOnBoard (moved p m o)) (sym q.1.0.stands) (moved-on p m on (to_on p m on (inr q)) q.1.0.piece)

pub draughts-writes_positions : WritesPositions draughts IsFen
draughts-writes_positions ms legal =
    fen-back (position_after draughts opening ms)
    (holds-after draughts IsOnBoard (λ p m on e. play-on p m on (check-legal p m e)) opening ms opening-on legal)

pub draughts-stands_for_one : StandsForOne IsFen
draughts-stands_for_one text p q is also = fen-one text q p also is

pub draughts-texts_tell_positions : TextsTellPositions draughts
draughts-texts_tell_positions = texts-tell draughts IsFen draughts-stands_for_one draughts-writes_positions

-- ---- tracks

line_track-is : (start : Position) (ms : List DMove) → line_track draughts start ms ≡ tail_of start ms
line_track-is start =
    track-is draughts start (tail_of start) (tail-begins start) (λ ms m. tail-goes-on start ms m)

pub draughts-tracks_tell_ends : TracksTellEnds draughts
draughts-tracks_tell_ends ms first played stands =
    ap (λ track. end_by track (last_position opening ms) (length ms) (times_stood opening ms))
    (line_track-is opening ms)
    ∙ ends-by-tail opening ms

pub draughts-numbers_give_tracks : NumbersGiveTracks draughts
draughts-numbers_give_tracks track = refl

pub draughts-tracks_give_numbers : TracksGiveNumbers draughts
draughts-tracks_give_numbers a b = refl

class-next : (before : Position) (count : ℕ) (class : Option Class) → count_on before count class ≤ count + 1
class-next before count None = omega arith
class-next before count (Some class) = count-next (in_class class before) count 1 (omega arith)

class-first : (class : Option Class) → first_count class ≤ 1
class-first None = omega arith
class-first (Some class) = omega arith

pub draughts-numbers_are_few : NumbersAreFew draughts
draughts-numbers_are_few =
    numbers-few draughts
    (λ track p m q. (
      count-next (is_king_move p m) track.king_plies 0 (omega arith),
      class-next p track.class_positions (class_of q),
    ))
    (omega arith) (class-first (class_of opening))

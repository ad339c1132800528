-- The laws of GameRules for shogi. No promise of the program rests on these definitions.
use Rattle.std.proofs.Common.{Contains, ◌↔◌, ◌≡◌, ℕ, ◌+◌, ◌≤◌, ◌<◌, Bool, true, false, cond, not, ◌&&◌, nat_eq, List}
use Rattle.std.proofs.Common.{[], ◌∷◌, length, Option, Some, None, Ok, IsSome, refl, ap, ◌∙◌, arith}
use Rattle.std.proofs.Common.{eqb-true, eq-eqb}
use Rattle.std.specs.List.Sorted.{IsStrictlySortedBy}
use Rattle.std.specs.Prelude.{if◌then◌else◌, nat_le, map as list_map}
use Rattle.std.specs.List.{range_with_len}
use Rattle.std.specs.Option.{option_map_or}
use Rattle.std.specs.Ordering.{nat_cmp, eq_by_cmp}
use Rattle.std.specs.Cmp.{nat_cmp_total, unsigned_tied}
use Rattle.std.specs.FinMap as map
use Rattle.std.specs.Cmp.{booleans_Decides}
use Rattle.std.proofs.Math.Bool.{beq}
use Rattle.std.proofs.lemmas.Bool.{and_parts}
use denote.Enum.Bare.{same_true, true_same}
use Rattle.squares.specs.contracts.shogi.piece.HandKind.{the_type}
use Rattle.std.proofs.lemmas.List.{get_or_past}
use Rattle.std.proofs.lemmas.List.FromFn.{length-map-range_with_len}
use Rattle.squares.specs.declared.shogi.moves.SMove.{SMove}
use Rattle.squares.specs.declared.shogi.moves.SMove.TheVariants.{Step, Drop}
use Rattle.squares.specs.declared.shogi.piece.SPiece.{SPiece}
use Rattle.squares.specs.declared.sides.Side.{Side}
use Rattle.squares.specs.declared.sides.Side.TheVariants.{First, Second}
use Rattle.squares.specs.internal.DraughtsMarks.{nat_eq_other}
use Rattle.squares.specs.ShogiBoard.{ShogiBoard}
use Rattle.squares.specs.ShogiOpening.{opening, opening_cell}
use Rattle.squares.specs.ShogiSamePosition.{same_shogi_position}
use Rattle.squares.specs.internal.ShogiSamePosition.{same_shogi_position-same, same_shogi_position-itself}
use Rattle.squares.specs.ShogiSets.{ShogiPosition}
use Rattle.squares.specs.internal.ShogiSets.{IsShogiPosition}
use Rattle.squares.proofs.Proved.{get-shogi_board_of, opening-IsShogiPosition}
use Rattle.shogi_moves.specs.internal.Computed.{check_of, has_move}
use Rattle.shogi_moves.specs.Rules.{Legal, Movement, arrived, board_after, play}
use Rattle.shogi_moves.proofs.Proved.{check_of-legal, has_move-is, play-sound, Reach-on}
use Rattle.shogi_repetition.specs.declared.ends.SEnd.{SEnd}
use Rattle.shogi_repetition.specs.declared.ends.SEnd.TheVariants as shogi_end
use Rattle.shogi_repetition.specs.declared.tails.Tail.{Tail}
use Rattle.shogi_repetition.specs.internal.Computed.{end_of, first_end, repetition, stands_four_times}
use Rattle.shogi_repetition.specs.Ends.{is_in_check}
use Rattle.shogi_repetition.specs.Line as line
use Rattle.shogi_repetition.specs.internal.Line as internal_line
use Rattle.shogi_repetition.specs.Tails.{tail_after, end_by}
use Rattle.shogi_repetition.specs.internal.Tails.{tail_of, times_stood}
use Rattle.shogi_repetition.proofs.Proved.{tail-begins, tail-goes-on, ends-by-tail}
use Rattle.sfen.specs.internal.SfenGrammar.{IsOnSquares}
use Rattle.sfen.specs.UsiReading.{usi_reach}
use Rattle.sfen.specs.UsiText.{usi_text}
use Rattle.sfen.specs.internal.UsiText.{IsOnBoard}
use Rattle.sfen.proofs.Proved.{usi_reading-text, position-alone, stands-for-one}
use Rattle.shogi_moves.specs.Listing.{move_cmp}
use Rattle.club_rules.specs.Listed.{IsLegalList}
use Rattle.club_rules.specs.Line.{position_after, line_track}
use Rattle.club_rules.specs.Laws.{FirstStarts, StartsRunning, TurnPasses, ReadsBack, SameIs, SamePositionIs}
use Rattle.club_rules.specs.Laws.{EndsAtLimit, StandsForOne}
use Rattle.club_rules.specs.Laws.{WritesPositions, TextsTellPositions, TracksTellEnds, NumbersGiveTracks}
use Rattle.club_rules.specs.Laws.{TracksGiveNumbers, NumbersAreFew}
use Rattle.club_rules.proofs.Proved.{holds-after, passed-by, passes-by, tells-equal, texts-tell, track-is, numbers-few}
use Rattle.club_rules.proofs.Proved.{count-next}
use Rattle.club_rules.specs.MoveRefusal.{refused_by}
use Rattle.club_games.specs.internal.FirstMoves.{pawn_step, pawn-passes}
use Rattle.club_games.specs.Shogi.{shogi, refusal_of, move_read, same_kind, same_move}
use Rattle.club_games.specs.internal.Shogi.{IsPositionText}

-- ---- legal moves

pub check-legal : (p : ShogiPosition) (m : SMove) → shogi.check p m ≡ Ok tt → Legal p m
check-legal p m e = (check_of-legal p m).0 (passed-by refusal_of (check_of p m) e)

pub legal-check : (p : ShogiPosition) (m : SMove) → Legal p m → shogi.check p m ≡ Ok tt
legal-check p m legal = passes-by refusal_of (check_of p m) ((check_of-legal p m).1 legal)

pub shogi-listed : (p : ShogiPosition) (ms : List SMove) → IsStrictlySortedBy move_cmp ms
    → ((m : SMove) → Contains ms m ↔ Legal p m) → IsLegalList shogi p ms
shogi-listed p ms in_order members =
    record {
      in_order = in_order;
      members = λ m.
          ((λ listed. legal-check p m ((members m).0 listed)), (λ e. (members m).1 (check-legal p m e)));
    }

pub shogi-first_starts : FirstStarts shogi
unfolding opening
shogi-first_starts = refl

pub shogi-turn_passes : TurnPasses shogi
shogi-turn_passes p m e = refl

move-on : (p : ShogiPosition) (m : SMove) → Movement p m → IsOnBoard m
move-on p (Step from to promote) goes = Reach-on p.board goes.piece from to goes.reach
move-on p (Drop kind to) drops = drops.0

pub shogi-reads_back : ReadsBack shogi
shogi-reads_back p m e =
    ap (λ o. move_read o (usi_reach (usi_text m))) (usi_reading-text m (move-on p m (check-legal p m e).pseudo.moves))

-- ---- equality

move-same : (a b : SMove) → same_move a b ≡ true → a ≡ b
move-same (Step from to promote) (Step from_b to_b promote_b) e =
    let all = and_parts (nat_eq from from_b) (nat_eq to to_b && beq promote promote_b) e in
    let rest = and_parts (nat_eq to to_b) (beq promote promote_b) all.1 in
    let same_from = eqb-true from from_b all.0 in
    let same_to = eqb-true to to_b rest.0 in
    let same = (booleans_Decides promote promote_b).0 rest.1 in
    λ i. Step (same_from i) (same_to i) (same i)
move-same (Drop kind to) (Drop kind_b to_b) e =
    let all = and_parts (same_kind kind kind_b) (nat_eq to to_b) e in
    let same = same_true the_type tt kind kind_b all.0 in
    let same_to = eqb-true to to_b all.1 in
    λ i. Drop (same i) (same_to i)
move-same (Step from to promote) (Drop kind to_b) e = cc
move-same (Drop kind to) (Step from_b to_b promote_b) e = cc

move-itself : (a : SMove) → same_move a a ≡ true
move-itself (Step from to promote) =
    let same_from = eq-eqb from from refl in
    let same_to = eq-eqb to to refl in
    let same = (booleans_Decides promote promote).1 refl in
    λ i. same_from i && (same_to i && same i)
move-itself (Drop kind to) =
    let same = true_same the_type kind kind refl in
    let same_to = eq-eqb to to refl in
    λ i. same i && same_to i

pub shogi-same_is : SameIs shogi
shogi-same_is = tells-equal same_move move-same move-itself

pub shogi-same_position_is : SamePositionIs shogi
shogi-same_position_is = tells-equal same_shogi_position same_shogi_position-same same_shogi_position-itself

-- ---- the ply limit

abbrev some_end : Bool → Bool → SEnd → Bool → Option SEnd
some_end stuck repeated repetition limit =
    if stuck
    then Some shogi_end.NoMove
    else if repeated then Some repetition else if limit then Some shogi_end.PlyLimit else None

at_limit : (a b : Bool) (end : SEnd) → IsSome (some_end a b end true)
at_limit true b end = refl
at_limit false true end = refl
at_limit false false end = refl

pub shogi-ends_at_limit : EndsAtLimit shogi
unfolding end_of first_end
shogi-ends_at_limit ms legal is =
    let last : nat_eq (length ms) 600 ≡ true = eq-eqb (length ms) 600 is in
    let final = line.last_position opening ms in
    let all = internal_line.positions opening ms in
    rw last (at_limit (not (has_move final)) (stands_four_times final all) (repetition final all))

-- ---- the first ply

has_first_move : has_move opening ≡ true
has_first_move =
    (has_move-is opening).1 (pawn_step, check-legal opening pawn_step (ap (refused_by refusal_of) pawn-passes))

pub shogi-starts_running : StartsRunning shogi
unfolding end_of first_end stands_four_times
shogi-starts_running =
    λ i. some_end (not (has_first_move i)) (nat_le 4 (0 + cond (same_shogi_position-itself opening i) 1 0))
    (repetition opening (opening ∷ [])) false

-- ---- reachable positions have a legal set of pieces, all on the board or in hand

pub record IsSound (p : ShogiPosition) : Type 0 where
  pub sound : IsShogiPosition p.board p.hands
  pub on : IsOnSquares p.board

opening-on : IsOnSquares opening.board
unfolding opening
opening-on n h =
    get-shogi_board_of (list_map opening_cell (range_with_len 0 81)) n
    ∙ get_or_past (list_map opening_cell (range_with_len 0 81)) n None
    (omega (arith, h, length-map-range_with_len opening_cell 0 81))

opening-sound : IsSound opening
opening-sound = record { sound = opening-IsShogiPosition; on = opening-on }

beyond : (n k : ℕ) → 81 ≤ n → k < 81 → eq_by_cmp nat_cmp n k ≡ false
beyond n k h less = unsigned_tied n k ∙ nat_eq_other n k (λ e. absurd (omega (arith, e)))

insert-on : (board : ShogiBoard) (to : ℕ) (piece : SPiece) → IsOnSquares board → to < 81
    → IsOnSquares (map.insert board to piece)
insert-on board to piece on less n h =
    map.get-insert nat_cmp_total board to piece n ∙ ap (λ b. cond b (Some piece) (map.get board n)) (beyond n to h less)
    ∙ on n h

left-none : {A : Type 0} (b : Bool) (o : Option A) → o ≡ None → cond b None o ≡ None
left-none true o e = refl
left-none false o e = e

remove-on : (board : ShogiBoard) (from : ℕ) → IsOnSquares board → IsOnSquares (map.remove board from)
remove-on board from on n h = map.get-remove nat_cmp_total board from n
    ∙ left-none (eq_by_cmp nat_cmp n from) (map.get board n) (on n h)

step-on : (p : ShogiPosition) (from to : ℕ) (promote : Bool) (o : Option SPiece) → IsOnSquares p.board → to < 81
    → IsOnSquares (option_map_or (λ piece. map.insert (map.remove p.board from) to (arrived piece promote)) o p.board)
step-on p from to promote None on less = on
step-on p from to promote (Some piece) on less =
    insert-on (map.remove p.board from) to (arrived piece promote) (remove-on p.board from on) less

board_after-on : (p : ShogiPosition) (m : SMove) → IsOnSquares p.board → IsOnBoard m → IsOnSquares (board_after p m)
board_after-on p (Step from to promote) on within = step-on p from to promote (map.get p.board from) on within.1
board_after-on p (Drop kind to) on within = insert-on p.board to _ on within

play-IsSound : (p : ShogiPosition) (m : SMove) → IsSound p → Legal p m → IsSound (play p m)
play-IsSound p m s legal =
    record {
      sound = play-sound p m legal.pseudo s.sound;
      on =
          board_after-on p m s.on (move-on p m legal.pseudo.moves);
    }

pub shogi-writes_positions : WritesPositions shogi IsPositionText
shogi-writes_positions ms legal =
    let s = holds-after shogi IsSound (λ p m s e. play-IsSound p m s (check-legal p m e)) opening ms opening-sound legal
    in
    (1, position-alone (position_after shogi opening ms) s.sound s.on)

pub shogi-stands_for_one : StandsForOne IsPositionText
shogi-stands_for_one text p q is also = (stands-for-one text p q is.0 also.0 is.1 also.1).0

pub shogi-texts_tell_positions : TextsTellPositions shogi
shogi-texts_tell_positions = texts-tell shogi IsPositionText shogi-stands_for_one shogi-writes_positions

-- ---- tracks

line_track-is : (start : ShogiPosition) (ms : List SMove) → line_track shogi start ms ≡ tail_of start ms
line_track-is start =
    track-is shogi start (tail_of start) (tail-begins start) (λ ms m. tail-goes-on start ms m)

pub shogi-tracks_tell_ends : TracksTellEnds shogi
shogi-tracks_tell_ends ms first played stands =
    ap (λ track. end_by track (line.last_position opening ms) (length ms) (times_stood opening ms) first)
    (line_track-is opening ms)
    ∙ ends-by-tail opening ms first stands

pub shogi-numbers_give_tracks : NumbersGiveTracks shogi
shogi-numbers_give_tracks track = refl

pub shogi-tracks_give_numbers : TracksGiveNumbers shogi
shogi-tracks_give_numbers a b = refl

-- a move raises each side's count of successive checks by at most one
checks-next : (track : Tail) (gives_check : Bool) (turn : Side) →
    ((tail_after track gives_check turn).first_checks ≤ track.first_checks + 1)
    × ((tail_after track gives_check turn).second_checks ≤ track.second_checks + 1)
checks-next track gives_check First = (omega arith, count-next gives_check track.second_checks 0 (omega arith))
checks-next track gives_check Second = (count-next gives_check track.first_checks 0 (omega arith), omega arith)

pub shogi-numbers_are_few : NumbersAreFew shogi
shogi-numbers_are_few = numbers-few shogi (λ track p m q. checks-next track (is_in_check q) q.turn) (omega arith)
    (omega arith)

-- Shogi as an instance of GameRules.
use Rattle.std.specs.Prelude.{ℕ, ◌==◌, ◌&&◌, List, Bool, false, Option, Some, None, Result, Ok, Err}
use Rattle.std.proofs.Math.Bool.{beq}
use denote.Enum.Bare.{sameb}
use Rattle.squares.specs.contracts.shogi.piece.HandKind.{the_type}
use Rattle.squares.specs.declared.shogi.moves.SMove.{SMove}
use Rattle.squares.specs.declared.shogi.moves.SMove.TheVariants.{Step, Drop}
use Rattle.squares.specs.declared.shogi.piece.HandKind.{HandKind}
use Rattle.squares.specs.ShogiOpening.{opening}
use Rattle.squares.specs.ShogiSamePosition.{same_shogi_position}
use Rattle.squares.specs.ShogiSets.{ShogiPosition}
use Rattle.shogi_moves.specs.declared.checking.Illegal.{Illegal}
use Rattle.shogi_moves.specs.declared.checking.Illegal.TheVariants as illegal
use Rattle.shogi_moves.specs.Check.{Answer}
use Rattle.shogi_moves.specs.Rules.{play}
use Rattle.shogi_moves.specs.Listing.{move_cmp}
use Rattle.shogi_moves.proofs.Proved.{check-answer, declare-answer}
use Rattle.shogi_repetition.specs.declared.ends.SEnd.{SEnd}
use Rattle.shogi_repetition.specs.declared.ends.SEnd.TheVariants as shogi_end
use Rattle.shogi_repetition.specs.declared.tails.Tail.{Tail}
use Rattle.shogi_repetition.specs.Ends.{outcome_of}
use Rattle.shogi_repetition.specs.Tails.{no_checks, next_tail, end_by}
use Rattle.shogi_repetition.proofs.Proved.{line-end}
use Rattle.sfen.specs.SfenText.{position_text}
use Rattle.sfen.specs.UsiReading.{usi_reach, usi_reading}
use Rattle.sfen.specs.UsiText.{usi_text}
use Rattle.club_rules.specs.declared.names.GameKind.TheVariants as game
use Rattle.club_rules.specs.declared.names.EndName.{EndName}
use Rattle.club_rules.specs.declared.names.EndName.TheVariants as name
use Rattle.club_rules.specs.declared.refusals.MoveRefusal.{MoveRefusal}
use Rattle.club_rules.specs.declared.refusals.MoveRefusal.TheVariants.{NoSuchMove, NotInHand, MustPromote, DeadDrop}
use Rattle.club_rules.specs.declared.refusals.MoveRefusal.TheVariants.{TwoPawns, KingAttacked, DropMate, BadText}
use Rattle.club_rules.specs.GameRules.{GameRules}
use Rattle.club_rules.specs.MoveRefusal.{refused_by}

-- the answer of a move check: the only one that the rules allow
abbrev pub move_answer : ShogiPosition → SMove → Answer
move_answer p m = (check-answer p m).value

-- the end of a line of moves, if its last ply ends it: the only one that the rules allow
abbrev pub end_after : ShogiPosition → List SMove → Option SEnd
end_after start ms = (line-end start ms).value

-- whether the side to move may declare a win: the Boolean that is true exactly if the rule allows it
abbrev pub may_declare : ShogiPosition → Bool
may_declare p = (declare-answer p).value

-- the club's refusal of an illegal move of shogi
abbrev pub refusal_of : Illegal → MoveRefusal
refusal_of illegal.NoSuchMove = NoSuchMove game.Shogi
refusal_of illegal.NotInHand = NotInHand
refusal_of illegal.MustPromote = MustPromote
refusal_of illegal.DeadDrop = DeadDrop
refusal_of illegal.TwoPawns = TwoPawns
refusal_of illegal.KingAttacked = KingAttacked
refusal_of illegal.DropMate = DropMate

-- the move of a text, or a syntax error at the end of its longest prefix that can begin a move
abbrev pub move_read : Option SMove → ℕ → Result SMove MoveRefusal
move_read (Some m) reach = Ok m
move_read None reach = Err (BadText game.Shogi reach)

-- equality of kinds of pieces, as `==` computes it
abbrev pub same_kind : HandKind → HandKind → Bool
same_kind a b = sameb the_type a b

-- equality of moves
abbrev pub same_move : SMove → SMove → Bool
same_move (Step from to promote) (Step from_b to_b promote_b) =
    (from == from_b) && ((to == to_b) && beq promote promote_b)
same_move (Drop kind to) (Drop kind_b to_b) = same_kind kind kind_b && (to == to_b)
same_move (Step from to promote) (Drop kind to_b) = false
same_move (Drop kind to) (Step from_b to_b promote_b) = false

-- the club's name of an end of shogi
abbrev pub name_of : SEnd → EndName
name_of shogi_end.NoMove = name.NoMove
name_of (shogi_end.PerpetualCheck side) = name.PerpetualCheck
name_of shogi_end.Fourfold = name.Fourfold
name_of shogi_end.PlyLimit = name.PlyLimit

-- the rules of shogi, with moves in USI and positions in SFEN
abbrev pub shogi : GameRules ShogiPosition SMove SEnd Tail
shogi = record {
  start = opening;
  turn = λ p. p.turn;
  check = λ p m. refused_by refusal_of (move_answer p m);
  move_order = move_cmp;
  same = same_move;
  same_position = same_shogi_position;
  play = play;
  read_move = λ p text. move_read (usi_reading text) (usi_reach text);
  write_move = λ p m. usi_text m;
  write_position = position_text;
  judge = end_after;
  track_start = λ p. no_checks;
  track_next = λ track before m after. next_tail track after;
  track_end = end_by;
  track_numbers = λ track. (track.first_checks, track.second_checks);
  track_of = λ a b. record { first_checks = a; second_checks = b };
  outcome = outcome_of;
  end_name = name_of;
  has_draw_offers = false;
  can_declare = may_declare;
}

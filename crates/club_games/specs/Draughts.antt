-- International draughts as an instance of GameRules.
use Rattle.std.specs.Prelude.{ℕ, true, false, List, Option, Result, Ok, Err}
use Rattle.squares.specs.declared.draughts.moves.DMove.{DMove}
use Rattle.squares.specs.DraughtsBoard.{Position}
use Rattle.squares.specs.DraughtsOpening.{opening}
use Rattle.squares.specs.DraughtsSamePosition.{same_position}
use Rattle.draughts_moves.specs.declared.checking.Illegal.{Illegal}
use Rattle.draughts_moves.specs.declared.checking.Illegal.TheVariants as illegal
use Rattle.draughts_moves.specs.Check.{Answer}
use Rattle.draughts_moves.specs.Legal.{play}
use Rattle.draughts_moves.specs.Listing.{move_cmp}
use Rattle.draughts_moves.proofs.Proved.{check-answer}
use Rattle.draughts_draws.specs.declared.ends.DEnd.{DEnd}
use Rattle.draughts_draws.specs.declared.ends.DEnd.TheVariants as draughts_end
use Rattle.draughts_draws.specs.declared.tails.Tail.{Tail}
use Rattle.draughts_draws.specs.Ends.{outcome_of}
use Rattle.draughts_draws.specs.Tails.{first_tail, next_tail, end_by}
use Rattle.draughts_draws.proofs.Proved.{line-end}
use Rattle.pdn.specs.declared.faults.MoveFault.{MoveFault}
use Rattle.pdn.specs.declared.faults.MoveFault.TheVariants as fault
use Rattle.pdn.specs.Choice.{same_move}
use Rattle.pdn.specs.FenText.{fen_text}
use Rattle.pdn.specs.ReadMove.{Reading}
use Rattle.pdn.proofs.Proved.{reading-answer, text-answer}
use Rattle.club_rules.specs.declared.names.GameKind.TheVariants as game
use Rattle.club_rules.specs.declared.names.EndName.{EndName}
use Rattle.club_rules.specs.declared.names.EndName.TheVariants as name
use Rattle.club_rules.specs.declared.refusals.MoveRefusal.{MoveRefusal}
use Rattle.club_rules.specs.declared.refusals.MoveRefusal.TheVariants.{NoSuchMove, MustCapture, NotLongest, BadText}
use Rattle.club_rules.specs.declared.refusals.MoveRefusal.TheVariants.{Ambiguous}
use Rattle.club_rules.specs.GameRules.{GameRules}
use Rattle.club_rules.specs.MoveRefusal.{refused_by}

-- the answer of a move check: the only one that the rules allow
abbrev pub move_answer : Position → DMove → Answer
move_answer p m = (check-answer p m).value

-- the end of a line of moves, if its last ply ends it: the only one that the rules allow
abbrev pub end_after : Position → List DMove → Option DEnd
end_after start ms = (line-end start ms).value

-- the reading of a text as a move: the only one that the notation allows
abbrev pub reading_of : Position → List ℕ → Reading
reading_of p text = (reading-answer p text).value

-- the text of a move: the only one that the notation allows
abbrev pub text_of : Position → DMove → List ℕ
text_of p m = (text-answer p m).value

-- the club's refusal of an illegal move of draughts
abbrev pub refusal_of : Illegal → MoveRefusal
refusal_of illegal.NoSuchMove = NoSuchMove game.Draughts
refusal_of illegal.MustCapture = MustCapture
refusal_of illegal.NotLongest = NotLongest

-- the refusal of a text; the reading function has no fault of memory, so that case is arbitrary
abbrev pub text_refusal : MoveFault → MoveRefusal
text_refusal (fault.BadText offset) = BadText game.Draughts offset
text_refusal fault.Ambiguous = Ambiguous
text_refusal (fault.Illegal cause) = refusal_of cause
text_refusal fault.Memory = NoSuchMove game.Draughts

-- the move that a text denotes, or the club's refusal of the text
abbrev pub move_read : Reading → Result DMove MoveRefusal
move_read (Ok m) = Ok m
move_read (Err fault) = Err (text_refusal fault)

-- the club's name of an end of draughts
abbrev pub name_of : DEnd → EndName
name_of draughts_end.NoMove = name.NoMove
name_of draughts_end.Repetition = name.Repetition
name_of draughts_end.KingMoves = name.KingMoves
name_of draughts_end.ThreeToOne = name.ThreeToOne
name_of draughts_end.TwoToOne = name.TwoToOne
name_of draughts_end.PlyLimit = name.PlyLimit

-- the rules of international draughts, with moves in PDN and positions in FEN
abbrev pub draughts : GameRules Position DMove DEnd Tail
draughts = record {
  start = opening;
  turn = λ p. p.turn;
  check = λ p m. refused_by refusal_of (move_answer p m);
  move_order = move_cmp;
  same = same_move;
  same_position = same_position;
  play = play;
  read_move = λ p text. move_read (reading_of p text);
  write_move = text_of;
  write_position = fen_text;
  judge = end_after;
  track_start = first_tail;
  track_next = next_tail;
  track_end = λ track p plies times first. end_by track p plies times;
  track_numbers = λ track. (track.king_plies, track.class_positions);
  track_of = λ a b. record { king_plies = a; class_positions = b };
  outcome = outcome_of;
  end_name = name_of;
  has_draw_offers = true;
  can_declare = λ p. false;
}

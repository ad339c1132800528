-- The PDN reader as a function of the tokens of a text. No promise of the program rests on these definitions.
use Rattle.std.specs.Prelude.{ℕ, zero, suc, ◌+◌, ◌-◌, ◌==◌, List, [], ◌∷◌, ◌++◌, length, Bool, true, false, Option}
use Rattle.std.specs.Prelude.{Some, None, Result, Ok, Err, codes, if◌then◌else◌}
use Rattle.squares.specs.declared.sides.Score.{Score}
use Rattle.squares.specs.declared.draughts.moves.DMove.{DMove}
use Rattle.squares.specs.DraughtsOpening.{opening}
use Rattle.draughts_draws.specs.declared.ends.DEnd.{DEnd}
use Rattle.draughts_draws.specs.Ends.{end_of}
use Rattle.draughts_draws.specs.Line.{last_position}
use Rattle.pdn.specs.MoveValue as move_value
use Rattle.pdn.specs.internal.MoveValue as internal_move_value
use Rattle.pdn_games.specs.declared.faults.PdnFault.{PdnFault}
use Rattle.pdn_games.specs.declared.faults.PdnFault.TheVariants as fault
use Rattle.pdn_games.specs.declared.game.PdnGame.{PdnGame}
use Rattle.pdn_games.specs.Contents.{first_tag, move_texts, is_other_type}
use Rattle.pdn_games.specs.Order.{bad_at}
use Rattle.pdn_games.specs.Reading.{score_in}
use Rattle.pdn_games.specs.internal.Replaying.{at_ply}
use Rattle.pdn_games.specs.Tokens.{Token, PlacedToken, LexStep, ended, skipped, found, stuck, front_at, begins_feed}
use Rattle.pdn_games.specs.Tokens.{lets_follow}
use Rattle.club_rules.specs.Records.{Recorded, Reading, game, no_part, refused}
use Rattle.club_games.specs.internal.FenReading.{is_opening}
use Rattle.club_games.specs.PdnRecord.{pdn_refusal}

-- the tokens of a text, and the offset at which the lexer stopped, unless at the end
pub record Lexed : Type 0 where
  pub tokens : List PlacedToken
  pub stop : Option ℕ

-- a token before those of the rest of the text
abbrev pub with_token : ℕ → Token → Lexed → Lexed
with_token at token rest = record { tokens = record { at = at; token = token } ∷ rest.tokens; stop = rest.stop }

-- the tokens from an offset on, by the front of the text; `skips` and `takes` lex what follows it
abbrev pub after_front : ℕ → (List ℕ → Lexed) → (Token → List ℕ → Lexed) → LexStep → Lexed
after_front at skips takes ended = record { tokens = []; stop = None }
after_front at skips takes stuck = record { tokens = []; stop = Some at }
after_front at skips takes (skipped rest) = skips rest
after_front at skips takes (found token rest) = with_token at token (takes token rest)

-- the lexer: n exceeds the number of bytes left, total is the length of the whole text
abbrev pub lexed : ℕ → ℕ → Bool → Bool → List ℕ → Lexed
lexed zero total line free text = record { tokens = []; stop = None }
lexed (suc n) total line free text =
    after_front (total - length text)
    (λ rest. lexed n total (begins_feed text) true rest)
    (λ token rest. lexed n total false (lets_follow token) rest)
    (front_at line free text)

-- the moves of a text, or its fault
abbrev pub Replayed : Type 0
Replayed = Result (List DMove) PdnFault

-- the next move of a replay: a fault if the game has ended, or if its text is refused
abbrev pub replay_next : List DMove → (DMove → Replayed) → Option DEnd → move_value.Reading → Replayed
replay_next ms rest (Some end) read = Err (fault.AfterEnd (length ms + 1))
replay_next ms rest None (Err f) = Err (at_ply (length ms + 1) f)
replay_next ms rest None (Ok m) = rest m

-- the replay of texts of moves after these moves
abbrev pub replayed : List DMove → List (List ℕ) → Replayed
replayed ms [] = Ok ms
replayed ms (text ∷ texts) =
    replay_next ms (λ m. replayed (ms ++ m ∷ []) texts) (end_of opening ms)
    (internal_move_value.move_reading (last_position opening ms) text)

-- the game of a text, or its fault
abbrev pub GameRead : Type 0
GameRead = Result (Recorded DMove) PdnFault

-- the game with these moves and this score, or the fault of the score
abbrev pub with_score : List DMove → Result Score PdnFault → GameRead
with_score ms (Ok score) = Ok (record { moves = ms; score = score; declared = false })
with_score ms (Err f) = Err f

-- the game of a text after the replay of its moves, or the fault of the replay
abbrev pub with_moves : List PlacedToken → Replayed → GameRead
with_moves tokens (Ok ms) = with_score ms (score_in tokens ms)
with_moves tokens (Err f) = Err f

-- whether the FEN tag, if any, denotes the initial position
abbrev pub begins_even : Option (List ℕ) → Bool
begins_even None = true
begins_even (Some text) = is_opening text

-- the game of well-formed tokens: international draughts, from the initial position
abbrev pub tokens_reading : List PlacedToken → GameRead
tokens_reading tokens =
    if is_other_type tokens
    then Err fault.OtherType
    else if begins_even (first_tag (codes "FEN") tokens)
    then with_moves tokens (replayed [] (move_texts tokens))
    else Err fault.OtherOpening

-- the game of these tokens, or a syntax error at an offset
abbrev pub formed_reading : List PlacedToken → Option ℕ → GameRead
formed_reading tokens (Some offset) = Err (fault.BadText offset)
formed_reading tokens None = tokens_reading tokens

-- the game of a lexed text, or its fault
abbrev pub lexed_reading : Lexed → GameRead
lexed_reading l = formed_reading l.tokens (bad_at l.tokens l.stop)

-- the game of a text, or its fault
unfoldable pub pdn_reading : List ℕ → GameRead
pdn_reading text = lexed_reading (lexed (suc (length text)) (length text) true true text)

-- a game that was read, as the club's type
abbrev pub game_of : PdnGame → Recorded DMove
game_of g = record { moves = g.moves.items; score = g.score; declared = false }

-- the game of a text, or the club's refusal of the text
abbrev pub whole : GameRead → Reading DMove
whole (Err f) = refused (pdn_refusal f)
whole (Ok r) = game r

-- a text has one part
abbrev pub pdn_part : List ℕ → ℕ → Reading DMove
pdn_part text part = if part == 1 then whole (pdn_reading text) else no_part

-- The computed reading of a PDN text is its game, or a fault of the text. No promise of the program rests on these
-- definitions.
use Rattle.std.proofs.Common.{◌≡◌, ◌≢◌, ℕ, suc, ◌+◌, List, [], ◌∷◌, ◌++◌, length, Bool, true, false, Option, Some, None}
use Rattle.std.proofs.Common.{Result, Ok, Err, refl, sym, ap, subst, ◌∙◌, append-nil, append_assoc, arith, ◌&&◌}
use Rattle.std.specs.Prelude.{codes, if◌then◌else◌, is_some}
use Rattle.game_history.proofs.Proved.{played-more, played-none}
use Rattle.squares.specs.declared.sides.Score.{Score}
use Rattle.squares.specs.declared.draughts.moves.DMove.{DMove}
use Rattle.squares.specs.DraughtsBoard.{Position}
use Rattle.squares.specs.DraughtsOpening.{opening}
use Rattle.draughts_moves.specs.Legal.{Legal, play}
use Rattle.draughts_draws.specs.declared.ends.DEnd.{DEnd}
use Rattle.draughts_draws.specs.Ends.{end_of}
use Rattle.draughts_draws.specs.Faults.{draughts_lines}
use Rattle.draughts_draws.specs.Line.{last_position}
use Rattle.pdn.specs.declared.faults.MoveFault.TheVariants as move_fault
use Rattle.pdn.specs.Forms.{Form, quiet, capture}
use Rattle.pdn.specs.MoveValue as move_value
use Rattle.pdn.specs.internal.MoveValue as internal_move_value
use Rattle.pdn.specs.ReadMove.{IsRead, StandsFor}
use Rattle.pdn.proofs.Proved.{reading-ok, reading-err, text-read_form}
use Rattle.pdn_games.specs.declared.faults.PdnFault.{PdnFault}
use Rattle.pdn_games.specs.declared.faults.PdnFault.TheVariants as fault
use Rattle.pdn_games.specs.Contents.{first_tag, move_texts, texts_in, is_other_type, BeginsEven}
use Rattle.pdn_games.specs.Moves.{MeanAll, AreMoves, RefusesNext, RefusesMove}
use Rattle.pdn_games.specs.declared.order.GameStage.TheVariants as part
use Rattle.pdn_games.specs.Order.{bad_at, first_stray, missing, or_else}
use Rattle.pdn_games.specs.Reading.{agrees, settled, score_in, AreTokens, IsOfClub, Plays, IsGameWith, Fails}
use Rattle.pdn_games.specs.Reading.{TextFails, IsRefused}
use Rattle.pdn_games.specs.internal.Replaying.{IsMoveForm, HasItsForm, HaveForms}
use Rattle.pdn_games.specs.Tokens.{Token, tag, number, move_by, result, PlacedToken, TextTokens}
use Rattle.pdn_games.proofs.Proved.{end-fails, have-forms}
use Rattle.club_games.specs.internal.FenOpening.{tells-opening}
use Rattle.club_games.specs.internal.FenReading.{is_opening}
use Rattle.club_games.specs.internal.PdnLexing.{lexed-lexes}
use Rattle.club_games.specs.internal.PdnReading.{Lexed, lexed, lexed_reading, Replayed, replay_next, replayed}
use Rattle.club_games.specs.internal.PdnReading.{GameRead}
use Rattle.club_games.specs.internal.PdnReading.{with_score, with_moves, begins_even, tokens_reading, formed_reading}
use Rattle.club_games.specs.internal.PdnReading.{pdn_reading}
use Rattle.club_games.specs.PdnRecord.{IsPdnGame}

-- ---- moves

-- texts with the form of a move
abbrev AreForms : List (List ℕ) → Type 0
AreForms [] = Unit {0}
AreForms (text ∷ texts) = IsMoveForm text × AreForms texts

token-forms : (t : Token) (more : List (List ℕ)) → HasItsForm t → AreForms more → AreForms (texts_in t more)
token-forms (tag name value) more form are = are
token-forms number more form are = are
token-forms (move_by text) more form are = (form, are)
token-forms (result w) more form are = are

all-forms : (tokens : List PlacedToken) → HaveForms tokens → AreForms (move_texts tokens)
all-forms [] forms = tt
all-forms (placed ∷ more) forms = token-forms placed.token (move_texts more) forms.0 (all-forms more forms.1)

-- a move that a text denotes is legal
pub read-legal : (p : Position) (form : Form) (m : DMove) → StandsFor p form m → Legal p m
read-legal p (quiet from to) m is = is.1
read-legal p (capture from middle to) m is = is.0

-- texts and the moves that they denote, with one more each
mean-more : (p : Position) (texts : List (List ℕ)) (ms : List DMove) (text : List ℕ) (m : DMove) → MeanAll p texts ms
    → IsRead (last_position p ms) text m → MeanAll p (texts ++ text ∷ []) (ms ++ m ∷ [])
mean-more p [] [] text m all one = (one, tt)
mean-more p (t ∷ texts) (n ∷ ms) text m all one = (all.0, mean-more (play p n) texts ms text m all.1 one)
mean-more p _ _ text m all one = absurd all

-- what a replay says of the texts
abbrev IsReplay : List (List ℕ) → Replayed → Type 0
IsReplay texts (Ok ms) = AreMoves texts ms
IsReplay texts (Err f) = RefusesMove texts f

module _ (before : List (List ℕ)) (ms : List DMove) (are : AreMoves before ms) (text : List ℕ)
    (texts : List (List ℕ)) where
  refuses : (f : PdnFault) → RefusesNext ms text f → RefusesMove (before ++ text ∷ texts) f
  refuses f next = record {
    before = before;
    refused = text;
    after = texts;
    parts = refl;
    moves = ms;
    played = are;
    refuses = next;
  }

  grown : (m : DMove) → end_of opening ms ≡ None → IsRead (last_position opening ms) text m
      → AreMoves (before ++ text ∷ []) (ms ++ m ∷ [])
  grown m running read = record {
    mean = mean-more opening before ms text m are.mean read;
    played =
        played-more draughts_lines opening ms m are.played running
        (read-legal (last_position opening ms) read.0 m read.2);
  }

  next-replay : (rest : DMove → Replayed) (end : Option DEnd) (read : move_value.Reading) → IsMoveForm text
      → end_of opening ms ≡ end → internal_move_value.move_reading (last_position opening ms) text ≡ read
      → ((m : DMove) → AreMoves (before ++ text ∷ []) (ms ++ m ∷ [])
      → IsReplay ((before ++ text ∷ []) ++ texts) (rest m))
      → IsReplay (before ++ text ∷ texts) (replay_next ms rest end read)
  next-replay rest (Some end) read form ended is on = refuses (fault.AfterEnd (length ms + 1)) (refl, ap is_some ended)
  next-replay rest None (Ok m) form running is on =
      subst (λ l. IsReplay l (rest m)) (append_assoc before (text ∷ []) texts)
      (on m (grown m running ((reading-ok (last_position opening ms) text m).0 is)))
  next-replay rest None (Err move_fault.Memory) form running is on =
      absurd (((reading-err (last_position opening ms) text move_fault.Memory).0 is).1 refl)
  next-replay rest None (Err (move_fault.BadText offset)) form running is on =
      let bad = ((reading-err (last_position opening ms) text (move_fault.BadText offset)).0 is).0 in
      let good = text-read_form text form.0 form.1 in
      absurd (cc)
  next-replay rest None (Err move_fault.Ambiguous) form running is on =
      refuses (fault.Ambiguous (length ms + 1))
      (refl, running, ((reading-err (last_position opening ms) text move_fault.Ambiguous).0 is).0)
  next-replay rest None (Err (move_fault.Illegal cause)) form running is on =
      refuses (fault.Illegal (length ms + 1) cause)
      (refl, running, ((reading-err (last_position opening ms) text (move_fault.Illegal cause)).0 is).0)

replay-is : (before : List (List ℕ)) (ms : List DMove) (texts : List (List ℕ)) → AreMoves before ms → AreForms texts
    → IsReplay (before ++ texts) (replayed ms texts)
replay-is before ms [] are forms = subst (λ l. AreMoves l ms) (sym (append-nil before)) are
replay-is before ms (text ∷ texts) are forms =
    next-replay before ms are text texts (λ m. replayed (ms ++ m ∷ []) texts) (end_of opening ms)
    (internal_move_value.move_reading (last_position opening ms) text) forms.0 refl refl
    (λ m more. replay-is (before ++ text ∷ []) (ms ++ m ∷ []) texts more forms.1)

-- ---- tokens

-- what a reading says of well-formed tokens
abbrev IsTokensReading : List PlacedToken → GameRead → Type 0
IsTokensReading tokens (Ok r) = IsGameWith tokens r.moves r.score × (r.declared ≡ false)
IsTokensReading tokens (Err f) = (f ≢ fault.Memory) × Fails tokens f

checked-memory : (b : Bool) (claim : Score)
    → ◌≡◌ {A = Result Score PdnFault} (if b then Ok claim else Err fault.ResultDiffers) (Err fault.Memory) → ⊥
checked-memory true claim e = cc
checked-memory false claim e = cc

settled-memory : (claim rule by_tag : Option Score) → settled claim rule by_tag ≡ Err fault.Memory → ⊥
settled-memory None rule by_tag e = cc
settled-memory (Some claim) rule by_tag e = checked-memory (agrees claim rule && agrees claim by_tag) claim e

scored-is : (tokens : List PlacedToken) (ms : List DMove) (score : Result Score PdnFault) → Plays tokens ms
    → score_in tokens ms ≡ score → IsTokensReading tokens (with_score ms score)
scored-is tokens ms (Ok s) plays is = (record { plays = plays; score = is }, refl)
scored-is tokens ms (Err f) plays is =
    (λ memory. settled-memory _ _ _ (is ∙ ap Err memory), end-fails tokens ms f plays is)

move-fails : (tokens : List PlacedToken) (f : PdnFault) → IsOfClub tokens → RefusesMove (move_texts tokens) f
    → IsTokensReading tokens (Err f)
move-fails tokens (fault.Ambiguous ply) of r = (λ e. cc, record { of_club = of; refused = r })
move-fails tokens (fault.Illegal ply cause) of r = (λ e. cc, record { of_club = of; refused = r })
move-fails tokens (fault.AfterEnd ply) of r = (λ e. cc, record { of_club = of; refused = r })
move-fails tokens _ of r = absurd r.refuses

moved-is : (tokens : List PlacedToken) (read : Replayed) → IsOfClub tokens → IsReplay (move_texts tokens) read
    → IsTokensReading tokens (with_moves tokens read)
moved-is tokens (Ok ms) of are =
    scored-is tokens ms (score_in tokens ms) (record { of_club = of; moves = are }) refl
moved-is tokens (Err f) of r = move-fails tokens f of r

even-begins : (value : Option (List ℕ)) → begins_even value ≡ true → BeginsEven value
even-begins None is = tt
even-begins (Some text) is = (tells-opening text).0 is

other-begins : (value : Option (List ℕ)) → begins_even value ≡ false → BeginsEven value → ⊥
other-begins None is fen = cc
other-begins (Some text) is fen = let even : is_opening text ≡ true = (tells-opening text).1 fen in cc

kind-is : (tokens : List PlacedToken) (other even : Bool) → HaveForms tokens → is_other_type tokens ≡ other
    → begins_even (first_tag (codes "FEN") tokens) ≡ even
    → IsTokensReading tokens
    (if other then Err fault.OtherType
    else if even then with_moves tokens (replayed [] (move_texts tokens)) else Err fault.OtherOpening)
kind-is tokens true even forms kind begins = (λ e. cc, kind)
kind-is tokens false false forms kind begins = (λ e. cc, (kind, other-begins _ begins))
kind-is tokens false true forms kind begins =
    moved-is tokens (replayed [] (move_texts tokens)) (record { kind = kind; opening = even-begins _ begins })
    (replay-is [] [] (move_texts tokens) (record { mean = tt; played = played-none draughts_lines opening })
    (all-forms tokens forms))

tokens-is : (tokens : List PlacedToken) → HaveForms tokens → IsTokensReading tokens (tokens_reading tokens)
tokens-is tokens forms =
    kind-is tokens (is_other_type tokens) (begins_even (first_tag (codes "FEN") tokens)) forms refl refl

-- ---- a text

-- what a reading says of a text
abbrev pub IsPdnReading : List ℕ → GameRead → Type 0
IsPdnReading text (Ok r) = IsPdnGame text r
IsPdnReading text (Err f) = (f ≢ fault.Memory) × IsRefused text f

text-refused : (text : List ℕ) (f : PdnFault) → f ≢ fault.Memory → TextFails text f → IsRefused text f
text-refused text fault.Memory differs fails = tt
text-refused text (fault.BadText offset) differs fails = absurd fails.2
text-refused text _ differs fails = fails

text-is : (text : List ℕ) (tokens : List PlacedToken) (read : GameRead) → AreTokens text tokens
    → IsTokensReading tokens read → IsPdnReading text read
text-is text tokens (Ok r) are is = record { read = (tokens, are, is.0); declared = is.1 }
text-is text tokens (Err f) are is = (is.0, text-refused text f is.0 (tokens, are, is.1))

no-stop : (stray stop lacking : Option ℕ) → or_else stray (or_else stop lacking) ≡ None → stop ≡ None
no-stop (Some n) stop lacking is = cc
no-stop None (Some n) lacking is = cc
no-stop None None lacking is = refl

formed-is : (text : List ℕ) (tokens : List PlacedToken) (stop bad : Option ℕ) → TextTokens text tokens stop
    → bad_at tokens stop ≡ bad → IsPdnReading text (formed_reading tokens bad)
formed-is text tokens stop (Some offset) lexes bad = (λ e. cc, (tokens, stop, lexes, bad))
formed-is text tokens stop None lexes bad =
    let none : stop ≡ None = no-stop (first_stray part.Tags tokens) stop (missing tokens) bad in
    text-is text tokens (tokens_reading tokens)
    (record { whole = subst (TextTokens text tokens) none lexes; form = sym (ap (bad_at tokens) none) ∙ bad })
    (tokens-is tokens (have-forms (length text) true true text tokens stop lexes))

lexed-is : (text : List ℕ) (l : Lexed) → TextTokens text l.tokens l.stop → IsPdnReading text (lexed_reading l)
lexed-is text l lexes = formed-is text l.tokens l.stop (bad_at l.tokens l.stop) lexes refl

pub pdn-read : (text : List ℕ) → IsPdnReading text (pdn_reading text)
unfolding pdn_reading
pdn-read text =
    lexed-is text (lexed (suc (length text)) (length text) true true text)
    (lexed-lexes (suc (length text)) (length text) true true text (omega arith))

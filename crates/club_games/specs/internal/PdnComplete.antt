-- The games and the refusals of PDN texts are the computed ones. No promise of the program rests on these definitions.
use Rattle.std.proofs.Common.{◌≡◌, ◌≢◌, ℕ, suc, ◌+◌, List, [], ◌∷◌, ◌++◌, length, take, true, false, Option, Some}
use Rattle.std.proofs.Common.{None, IsSome, Err, refl, sym, ap, subst, ◌∙◌, append-nil, append_assoc, arith}
use Rattle.std.specs.Prelude.{codes, if◌then◌else◌}
use Rattle.std.proofs.lemmas.Bool.{false_from_ne_true}
use Rattle.std.proofs.lemmas.List.{length-append}
use Rattle.std.proofs.Math.Seq.{take-append_seam}
use Rattle.game_history.proofs.Proved.{last_position-append}
use Rattle.squares.specs.declared.sides.Score.{Score}
use Rattle.squares.specs.declared.draughts.moves.DMove.{DMove}
use Rattle.squares.specs.DraughtsOpening.{opening}
use Rattle.draughts_moves.specs.Legal.{play}
use Rattle.draughts_draws.specs.declared.ends.DEnd.{DEnd}
use Rattle.draughts_draws.specs.Ends.{end_of}
use Rattle.draughts_draws.specs.Faults.{IsPlayed}
use Rattle.draughts_draws.specs.internal.Faults.{GoesOn}
use Rattle.draughts_draws.specs.Line.{last_position}
use Rattle.pdn.specs.declared.faults.MoveFault.TheVariants as move_fault
use Rattle.pdn.specs.MoveValue as move_value
use Rattle.pdn.specs.internal.MoveValue as internal_move_value
use Rattle.pdn.proofs.Proved.{reading-ok, reading-err}
use Rattle.pdn_games.specs.declared.faults.PdnFault.{PdnFault}
use Rattle.pdn_games.specs.declared.faults.PdnFault.TheVariants as fault
use Rattle.pdn_games.specs.Contents.{first_tag, move_texts, BeginsEven}
use Rattle.pdn_games.specs.Moves.{MeanAll, RefusesNext}
use Rattle.pdn_games.specs.Order.{bad_at}
use Rattle.pdn_games.specs.Reading.{IsOfClub, EndFails, MoveFails, Fails, TextFails, IsTextWith, IsRefused}
use Rattle.pdn_games.specs.Reading.{Plays, score_in}
use Rattle.pdn_games.specs.Tokens.{PlacedToken, TextTokens}
use Rattle.club_rules.specs.Records.{game, refused}
use Rattle.club_games.specs.internal.FenReading.{is_opening}
use Rattle.club_games.specs.internal.PdnReading.{lexed_reading, Replayed, replay_next, replayed, with_score}
use Rattle.club_games.specs.internal.PdnReading.{with_moves}
use Rattle.club_games.specs.internal.PdnReading.{begins_even, tokens_reading, formed_reading, pdn_reading}
use Rattle.club_games.specs.internal.PdnReading.{whole, pdn_part}
use Rattle.club_games.specs.PdnRecord.{pdn_refusal}
use Rattle.club_games.specs.internal.FenOpening.{tells-opening}
use Rattle.club_games.specs.internal.PdnLexing.{lexes-lexed}

-- texts that mean moves of a game are replayed as these
replays-on : (front : List DMove) (texts more : List (List ℕ)) (rest : List DMove)
    → MeanAll (last_position opening front) texts rest → IsPlayed opening (front ++ rest) (length (front ++ rest))
    → replayed front (texts ++ more) ≡ replayed (front ++ rest) more
replays-on front [] more [] mean played = ap (λ l. replayed l more) (sym (append-nil front))
replays-on front [] more (m ∷ rest) mean played = absurd mean
replays-on front (t ∷ texts) more [] mean played = absurd mean
replays-on front (t ∷ texts) more (m ∷ rest) mean played =
    let long = length-append front (m ∷ rest) in
    let here : GoesOn opening (front ++ m ∷ rest) (length front) = played (length front) (omega (arith, long)) in
    let seam : take (length front) (front ++ m ∷ rest) ≡ front = take-append_seam front (m ∷ rest) in
    let running : end_of opening front ≡ None = subst (λ l. end_of opening l ≡ None) seam here.unended in
    let next : DMove → Replayed = λ x. replayed (front ++ x ∷ []) (texts ++ more) in
    let grown : (front ++ m ∷ []) ++ rest ≡ front ++ m ∷ rest = append_assoc front (m ∷ []) rest in
    (λ i. replay_next front next (running i) ((reading-ok (last_position opening front) t m).1 mean.0 i))
    ∙ replays-on (front ++ m ∷ []) texts more rest
    (subst (λ p. MeanAll p texts rest) (sym (last_position-append play opening front m)) mean.1)
    (subst (λ l. IsPlayed opening l (length l)) (sym grown) played)
    ∙ ap (λ l. replayed l more) grown

-- a text that is refused ends the replay
after-end : (ms : List DMove) (rest : DMove → Replayed) (end : Option DEnd) (read : move_value.Reading) → IsSome end
    → replay_next ms rest end read ≡ Err (fault.AfterEnd (length ms + 1))
after-end ms rest (Some end) read some = refl
after-end ms rest None read some = cc

refused-next : (ms : List DMove) (text : List ℕ) (after : List (List ℕ)) (f : PdnFault) → RefusesNext ms text f
    → replayed ms (text ∷ after) ≡ Err f
refused-next ms text after (fault.AfterEnd ply) (is, some) =
    after-end ms (λ m. replayed (ms ++ m ∷ []) after) (end_of opening ms)
    (internal_move_value.move_reading (last_position opening ms) text) some
    ∙ ap (λ n. Err (fault.AfterEnd n)) (sym is)
refused-next ms text after (fault.Ambiguous ply) (is, running, has) =
    (λ i. replay_next ms (λ m. replayed (ms ++ m ∷ []) after) (running i)
    ((reading-err (last_position opening ms) text move_fault.Ambiguous).1 (has, λ e. cc) i))
    ∙ ap (λ n. Err (fault.Ambiguous n)) (sym is)
refused-next ms text after (fault.Illegal ply cause) (is, running, has) =
    (λ i. replay_next ms (λ m. replayed (ms ++ m ∷ []) after) (running i)
    ((reading-err (last_position opening ms) text (move_fault.Illegal cause)).1 (has, λ e. cc) i))
    ∙ ap (λ n. Err (fault.Illegal n cause)) (sym is)
refused-next ms text after _ h = absurd h

-- tokens
even : (value : Option (List ℕ)) → BeginsEven value → begins_even value ≡ true
even None begins = refl
even (Some text) fen = (tells-opening text).1 fen

not-even : (value : Option (List ℕ)) → (BeginsEven value → ⊥) → begins_even value ≡ false
not-even None none = absurd (none tt)
not-even (Some text) none = false_from_ne_true (is_opening text) (λ t. none ((tells-opening text).0 t))

club-reading : (tokens : List PlacedToken) → IsOfClub tokens
    → tokens_reading tokens ≡ with_moves tokens (replayed [] (move_texts tokens))
club-reading tokens of =
    λ i. if of.kind i then Err fault.OtherType else if even (first_tag (codes "FEN") tokens) of.opening
    i then with_moves tokens (replayed [] (move_texts tokens)) else Err fault.OtherOpening

played-reading : (tokens : List PlacedToken) (ms : List DMove) → Plays tokens ms
    → tokens_reading tokens ≡ with_score ms (score_in tokens ms)
played-reading tokens ms plays =
    let texts = move_texts tokens in
    club-reading tokens plays.of_club ∙ ap (with_moves tokens)
    (ap (replayed []) (sym (append-nil texts)) ∙ replays-on [] texts [] ms plays.moves.mean plays.moves.played)

end-refused : (tokens : List PlacedToken) (f : PdnFault) → EndFails tokens f → tokens_reading tokens ≡ Err f
end-refused tokens f fails =
    played-reading tokens fails.moves fails.plays ∙ ap (with_score fails.moves) fails.score

made-refused : (tokens : List PlacedToken) (f : PdnFault) → MoveFails tokens f → tokens_reading tokens ≡ Err f
made-refused tokens f fails =
    let r = fails.refused in
    club-reading tokens fails.of_club ∙ ap (with_moves tokens) (ap (replayed []) r.parts
    ∙ replays-on [] r.before (r.refused ∷ r.after) r.moves r.played.mean r.played.played
    ∙ refused-next r.moves r.refused r.after f r.refuses)

tokens-refused : (tokens : List PlacedToken) (f : PdnFault) → f ≢ fault.Memory → Fails tokens f
    → tokens_reading tokens ≡ Err f
tokens-refused tokens fault.Memory differs fails = absurd (differs refl)
tokens-refused tokens (fault.BadText offset) differs fails = absurd fails
tokens-refused tokens fault.OtherType differs fails =
    ap
    (λ b. if b then Err fault.OtherType else if begins_even (first_tag (codes "FEN") tokens) then with_moves
    tokens (replayed [] (move_texts tokens)) else Err fault.OtherOpening) fails
tokens-refused tokens fault.OtherOpening differs fails =
    λ i. if fails.0 i then Err fault.OtherType else if not-even (first_tag (codes "FEN") tokens) fails.1
    i then with_moves tokens (replayed [] (move_texts tokens)) else Err fault.OtherOpening
tokens-refused tokens fault.Unfinished differs fails = end-refused tokens _ fails
tokens-refused tokens fault.ResultDiffers differs fails = end-refused tokens _ fails
tokens-refused tokens f differs fails = made-refused tokens f fails

-- a text
formed : (text : List ℕ) (tokens : List PlacedToken) (stop bad : Option ℕ) → TextTokens text tokens stop
    → bad_at tokens stop ≡ bad → pdn_reading text ≡ formed_reading tokens bad
unfolding pdn_reading
formed text tokens stop bad lexes is =
    ap lexed_reading (lexes-lexed (suc (length text)) (length text) true true text tokens stop lexes (omega arith))
    ∙ ap (formed_reading tokens) is

some-fails : (text : List ℕ) (f : PdnFault) → f ≢ fault.Memory → TextFails text f → pdn_reading text ≡ Err f
some-fails text f differs (tokens, are, fails) = formed text tokens None None are.whole are.form
    ∙ tokens-refused tokens f differs fails

pub text-refused : (text : List ℕ) (f : PdnFault) → f ≢ fault.Memory → IsRefused text f → pdn_reading text ≡ Err f
text-refused text fault.Memory differs refuses = absurd (differs refl)
text-refused text (fault.BadText offset) differs (tokens, stop, lexes, bad) =
    formed text tokens stop (Some offset) lexes bad
text-refused text f differs refuses = some-fails text f differs refuses

-- the one part of a text
pub part-read : (text : List ℕ) (part : ℕ) (ms : List DMove) (score : Score) → part ≡ 1 → IsTextWith text ms score
    → game (record { moves = ms; score = score; declared = false }) ≡ pdn_part text part
part-read text part ms score one (tokens, are, is) =
    sym (ap (pdn_part text) one ∙ ap whole (formed text tokens None None are.whole are.form
    ∙ played-reading tokens ms is.plays ∙ ap (with_score ms) is.score))

pub part-refused : (text : List ℕ) (part : ℕ) (f : PdnFault) → part ≡ 1 → f ≢ fault.Memory → IsRefused text f
    → refused (pdn_refusal f) ≡ pdn_part text part
part-refused text part f one differs refuses =
    sym (ap (pdn_part text) one ∙ ap whole (text-refused text f differs refuses))

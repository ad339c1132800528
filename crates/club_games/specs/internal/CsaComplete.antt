-- The games and the refusals of CSA texts are the computed ones. No promise of the program rests on these definitions.
use Rattle.std.proofs.Common.{◌≡◌, ◌≢◌, inl, inr, ℕ, zero, suc, ◌+◌, ◌-◌, List, [], ◌∷◌, ◌++◌, length, take, map, true}
use Rattle.std.proofs.Common.{false, Bool, Option, Some, None, Result, Ok, Err, IsOk, refl, sym, ap, subst, ◌∙◌}
use Rattle.std.proofs.Common.{append-nil, append_assoc, arith}
use Rattle.std.specs.Prelude.{slice_get, if◌then◌else◌}
use Rattle.std.proofs.lemmas.List.{length-append}
use Rattle.std.proofs.lemmas.Option.{slice_get-get_or}
use Rattle.std.proofs.Math.Seq.{take-append_seam, get_or-append_seam}
use Rattle.game_history.proofs.Proved.{last_position-append}
use Rattle.squares.specs.declared.shogi.moves.SMove.{SMove}
use Rattle.squares.specs.ShogiOpening.{opening}
use Rattle.shogi_moves.specs.declared.checking.Illegal.{Illegal}
use Rattle.shogi_moves.specs.internal.Computed.{check_of}
use Rattle.shogi_moves.specs.Rules.{Legal, play}
use Rattle.shogi_moves.proofs.Proved.{check_of-legal, check_of-refused}
use Rattle.shogi_repetition.specs.declared.ends.SEnd.{SEnd}
use Rattle.shogi_repetition.specs.internal.Computed.{end_of}
use Rattle.shogi_repetition.specs.Ends.{EndsSo}
use Rattle.shogi_repetition.specs.Faults.{IsPlayed}
use Rattle.shogi_repetition.specs.internal.Faults.{GoesOn}
use Rattle.shogi_repetition.specs.Line.{last_position}
use Rattle.csa.specs.declared.faults.CsaFault.{CsaFault}
use Rattle.csa.specs.declared.faults.CsaFault.TheVariants as fault
use Rattle.csa.specs.declared.game.CsaGame.{CsaGame}
use Rattle.csa.specs.declared.lines.NumberedStatement.{NumberedStatement}
use Rattle.csa.specs.declared.order.RecordStage.TheVariants as place
use Rattle.csa.specs.declared.statements.Statement.{Statement}
use Rattle.csa.specs.declared.statements.Statement.TheVariants as statement
use Rattle.csa.specs.declared.statements.WrittenMove.{WrittenMove}
use Rattle.csa.specs.Endings.{says_declared}
use Rattle.csa.specs.Lines.{text_statements}
use Rattle.csa.specs.Moves.{MeanAll}
use Rattle.csa.specs.Order.{first_stray}
use Rattle.csa.specs.Reading.{first_statement, records_of, AreOfGames, FailsAfter, SomeRecordFails}
use Rattle.csa.specs.internal.Reading.{AreRecordsOf}
use Rattle.csa.specs.Reading.{AreOrdered, Refuses, IsRefused}
use Rattle.csa.specs.internal.Reading.{IsTextOf}
use Rattle.csa.specs.Records.{begins_even, end_in, score_in, EndFails, Plays, RecordFails}
use Rattle.csa.specs.Replays.{written_moves, RefusesNext, RefusesMove}
use Rattle.club_rules.specs.Records.{Recorded, refused}
use Rattle.club_games.specs.internal.CsaReading.{meant, Replayed, go_on, replay_next, replayed, with_score, with_moves}
use Rattle.club_games.specs.internal.CsaReading.{record_reading, and_more, records_reading, is_version}
use Rattle.club_games.specs.internal.CsaReading.{ordered_reading}
use Rattle.club_games.specs.internal.CsaReading.{statements_reading, csa_reading, game_of, found_game, part_of}
use Rattle.club_games.specs.internal.CsaReading.{csa_part}
use Rattle.club_games.specs.CsaRecord.{csa_refusal, IsCsaGame, AreCsaGames, IsTextOfGames}
use Rattle.club_games.specs.internal.CsaMoves.{means-meant, none-meant}
use Rattle.club_games.specs.internal.ShogiEnds.{end-computed}

go-ok : (ply : ℕ) (rest : Replayed) (answer : Result (Unit {0}) Illegal) → IsOk answer → go_on ply rest answer ≡ rest
go-ok ply rest (Ok u) ok = refl
go-ok ply rest (Err cause) ok = cc

-- written moves that mean moves of a game are replayed as these
replays-on : (front : List SMove) (ws more : List WrittenMove) (rest : List SMove)
    → MeanAll (last_position opening front) ws rest → IsPlayed opening (front ++ rest) (length (front ++ rest))
    → replayed front (ws ++ more) ≡ replayed (front ++ rest) more
replays-on front [] more [] mean played = ap (λ l. replayed l more) (sym (append-nil front))
replays-on front [] more (m ∷ rest) mean played = absurd mean
replays-on front (w ∷ ws) more [] mean played = absurd mean
replays-on front (w ∷ ws) more (m ∷ rest) mean played =
    let whole : List SMove = front ++ m ∷ rest in
    let long = length-append front (m ∷ rest) in
    let here : GoesOn opening whole (length front) = played (length front) (omega (arith, long)) in
    let seam : take (length front) whole ≡ front = take-append_seam front (m ∷ rest) in
    let running : end_of opening front ≡ None =
    sym (end-computed opening front None (subst (λ l. EndsSo opening l None) seam here.unended)) in
    let there : slice_get whole (length front) ≡ Some m =
    slice_get-get_or whole (length front) m (omega (arith, long)) ∙ ap Some (get_or-append_seam front m rest m) in
    let legal = subst (λ l. Legal (last_position opening l) m) seam (here.legal m there) in
    let next : SMove → Replayed = λ x. replayed (front ++ x ∷ []) (ws ++ more) in
    let grown : (front ++ m ∷ []) ++ rest ≡ whole = append_assoc front (m ∷ []) rest in
    (λ i. replay_next front next (running i) (means-meant (last_position opening front) w m mean.0 i))
    ∙ go-ok (length front + 1) (next m) (check_of (last_position opening front) m)
    ((check_of-legal (last_position opening front) m).1 legal)
    ∙ replays-on (front ++ m ∷ []) ws more rest
    (subst (λ p. MeanAll p ws rest) (sym (last_position-append play opening front m)) mean.1)
    (subst (λ l. IsPlayed opening l (length l)) (sym grown) played)
    ∙ ap (λ l. replayed l more) grown

-- a move that is refused ends the replay
refused-next : (ms : List SMove) (w : WrittenMove) (after : List WrittenMove) (f : CsaFault) → RefusesNext ms w f
    → replayed ms (w ∷ after) ≡ Err f
refused-next ms w after (fault.AfterEnd ply) (is, end, ends) =
    ap (λ e. replay_next ms (λ m. replayed (ms ++ m ∷ []) after) e (meant (last_position opening ms) w))
    (sym (end-computed opening ms (Some end) ends))
    ∙ ap (λ n. Err (fault.AfterEnd n)) (sym is)
refused-next ms w after (fault.Illegal ply cause) (is, unended, inl (m, means, broken)) =
    (λ i. replay_next ms (λ x. replayed (ms ++ x ∷ []) after) (sym (end-computed opening ms None unended) i)
    (means-meant (last_position opening ms) w m means i))
    ∙ ap (go_on (length ms + 1) (replayed (ms ++ m ∷ []) after))
    ((check_of-refused (last_position opening ms) m cause).1 broken)
    ∙ ap (λ n. Err (fault.Illegal n cause)) (sym is)
refused-next ms w after (fault.Illegal ply cause) (is, unended, inr (none_is, none)) =
    (λ i. replay_next ms (λ x. replayed (ms ++ x ∷ []) after) (sym (end-computed opening ms None unended) i)
    (none-meant (last_position opening ms) w none i))
    ∙ (λ i. Err (fault.Illegal (sym is i) (sym none_is i)))
refused-next ms w after _ h = absurd h

-- a record
even-reading : (placed : List NumberedStatement) (even : Bool) → begins_even placed ≡ even
    → record_reading placed
    ≡ (if even then with_moves placed (replayed [] (written_moves placed)) else Err fault.OtherOpening)
even-reading placed even =
    ap (λ b. if b then with_moves placed (replayed [] (written_moves placed)) else Err fault.OtherOpening)

played-reading : (placed : List NumberedStatement) (ms : List SMove) (end : Option SEnd) → Plays placed ms end
    → record_reading placed ≡ with_score (says_declared (end_in placed)) ms (score_in placed ms end)
played-reading placed ms end plays =
    let ws = written_moves placed in
    even-reading placed true plays.even ∙ ap (with_moves placed)
    (ap (replayed []) (sym (append-nil ws)) ∙ replays-on [] ws [] ms plays.moves.mean plays.moves.played)
    ∙ ap (λ e. with_score (says_declared (end_in placed)) ms (score_in placed ms e))
    (sym (end-computed opening ms end plays.ends))

record-read : (placed : List NumberedStatement) (r : Recorded SMove) → IsCsaGame placed r → record_reading placed ≡ Ok r
record-read placed r is =
    played-reading placed r.moves is.end is.plays
    ∙ (λ i. with_score (sym is.declared i) r.moves (is.score i))

end-refused : (placed : List NumberedStatement) (f : CsaFault) → EndFails placed f → record_reading placed ≡ Err f
end-refused placed f fails =
    played-reading placed fails.moves fails.end fails.plays
    ∙ ap (with_score (says_declared (end_in placed)) fails.moves) fails.score

made-refused : (placed : List NumberedStatement) (f : CsaFault) → begins_even placed ≡ true
    → RefusesMove (written_moves placed) f → record_reading placed ≡ Err f
made-refused placed f even r =
    even-reading placed true even ∙ ap (with_moves placed) (ap (replayed []) r.parts
    ∙ replays-on [] r.before (r.refused ∷ r.after) r.moves r.played.mean r.played.played
    ∙ refused-next r.moves r.refused r.after f r.refuses)

record-refused : (placed : List NumberedStatement) (f : CsaFault) → f ≢ fault.Memory → RecordFails placed f
    → record_reading placed ≡ Err f
record-refused placed fault.Memory differs fails = absurd (differs refl)
record-refused placed fault.OtherOpening differs fails = even-reading placed false fails
record-refused placed (fault.Illegal ply cause) differs fails = made-refused placed _ fails.0 fails.1
record-refused placed (fault.AfterEnd ply) differs fails = made-refused placed _ fails.0 fails.1
record-refused placed fault.Unfinished differs fails = end-refused placed _ fails
record-refused placed fault.ResultDiffers differs fails = end-refused placed _ fails
record-refused placed _ differs fails = absurd fails

-- records one after another
records-read : (records : List (List NumberedStatement)) (games : List (Recorded SMove)) → AreCsaGames records games
    → records_reading records ≡ Ok games
records-read [] [] are = refl
records-read [] (r ∷ games) are = absurd are
records-read (placed ∷ records) [] are = absurd are
records-read (placed ∷ records) (r ∷ games) are =
    λ i. and_more (record-read placed r are.0 i) (records-read records games are.1 i)

fails-after : (before : List (List NumberedStatement)) (failing : List NumberedStatement)
    (after : List (List NumberedStatement)) (f : CsaFault) → AreOfGames before → record_reading failing ≡ Err f
    → records_reading (before ++ failing ∷ after) ≡ Err f
fails-after [] failing after f read fails = ap (λ r. and_more r (records_reading after)) fails
fails-after (placed ∷ before) failing after f ((ms, score, wins, is), read) fails =
    let first = record-read placed (record { moves = ms; score = score; declared = wins }) is in
    λ i. and_more (first i) (fails-after before failing after f read fails i)

-- a text
ordered-reading : (placed : List NumberedStatement) → AreOrdered placed
    → statements_reading placed (first_statement placed) ≡ records_reading (records_of placed)
ordered-reading placed ordered =
    ap (statements_reading placed) ordered.version ∙ ap (ordered_reading placed) ordered.order

some-fails : (placed : List NumberedStatement) (f : CsaFault) → f ≢ fault.Memory → SomeRecordFails placed f
    → statements_reading placed (first_statement placed) ≡ Err f
some-fails placed f differs fails =
    let after : FailsAfter (records_of placed) f = fails.1 in
    ordered-reading placed fails.0 ∙ ap records_reading after.parts
    ∙ fails-after after.before after.failing after.after f after.read
    (record-refused after.failing f differs after.fails)

not-version : (s : Statement) → s ≢ statement.Version → is_version s ≡ false
not-version statement.Version differs = absurd (differs refl)
not-version _ differs = refl

statements-refused : (placed : List NumberedStatement) (f : CsaFault) → f ≢ fault.Memory → Refuses placed f
    → statements_reading placed (first_statement placed) ≡ Err f
statements-refused placed fault.Memory differs refuses = absurd (differs refl)
statements-refused placed (fault.BadText line) differs (inl (none, is)) = ap (statements_reading placed) none
    ∙ ap (λ n. Err (fault.BadText n)) (sym is)
statements-refused placed (fault.BadText line) differs (inr (version, stray)) =
    ap (statements_reading placed) version ∙ ap (ordered_reading placed) stray
statements-refused placed fault.Version differs (first, is, other) =
    ap (statements_reading placed) is
    ∙ ap (λ b. if b then ordered_reading placed (first_stray place.Start placed) else Err fault.Version)
    (not-version first other)
statements-refused placed f differs refuses = some-fails placed f differs refuses

pub games-read : (text : List ℕ) (games : List (Recorded SMove)) → IsTextOfGames text games
    → csa_reading text ≡ Ok games
unfolding csa_reading
games-read text games is =
    ordered-reading (text_statements text) is.ordered
    ∙ records-read (records_of (text_statements text)) games is.records

pub text-refused : (text : List ℕ) (f : CsaFault) → f ≢ fault.Memory → IsRefused text f → csa_reading text ≡ Err f
unfolding csa_reading
text-refused text f differs refuses = statements-refused (text_statements text) f differs refuses

-- a part of a text
from-one : (text : List ℕ) (part : ℕ) → (part ≡ 0 → ⊥) → csa_part text part ≡ part_of (part - 1) (csa_reading text)
from-one text zero some = absurd (some refl)
from-one text (suc n) some = let before : n ≡ suc n - 1 = omega arith in ap (λ k. part_of k (csa_reading text)) before

are-games : (records : List (List NumberedStatement)) (games : List CsaGame) → AreRecordsOf records games
    → AreCsaGames records (map game_of games)
are-games [] [] are = tt
are-games (placed ∷ records) (g ∷ games) are = (are.0, are-games records games are.1)
are-games _ _ are = absurd are

pub part-read : (text : List ℕ) (part : ℕ) (games : List CsaGame) → (part ≡ 0 → ⊥) → IsTextOf text games
    → found_game (slice_get (map game_of games) (part - 1)) ≡ csa_part text part
part-read text part games some is =
    let are : IsTextOfGames text (map game_of games) =
    record { ordered = is.ordered; records = are-games (records_of (text_statements text)) games is.records } in
    sym (from-one text part some ∙ ap (part_of (part - 1)) (games-read text (map game_of games) are))

pub part-refused : (text : List ℕ) (part : ℕ) (f : CsaFault) → (part ≡ 0 → ⊥) → f ≢ fault.Memory → IsRefused text f
    → refused (csa_refusal f) ≡ csa_part text part
part-refused text part f some differs refuses =
    sym (from-one text part some ∙ ap (part_of (part - 1)) (text-refused text f differs refuses))

-- The computed readings of a CSA text are its games, or a fault of the text. No promise of the program rests on these
-- definitions.
use Rattle.std.proofs.Common.{◌≡◌, ◌≢◌, ◌+◌, inl, inr, List, [], ◌∷◌, ◌++◌, length, Bool, true, false, ℕ, Option, Some}
use Rattle.std.proofs.Common.{None, Result, Ok, Err, refl, sym, ap, subst, ◌∙◌, append-nil, append_assoc}
use Rattle.std.specs.Prelude.{if◌then◌else◌, IfSome}
use Rattle.game_history.proofs.Proved.{played-more, played-none}
use Rattle.squares.specs.declared.sides.Score.{Score}
use Rattle.squares.specs.declared.shogi.moves.SMove.{SMove}
use Rattle.squares.specs.ShogiOpening.{opening}
use Rattle.shogi_moves.specs.declared.checking.Illegal.{Illegal}
use Rattle.shogi_moves.specs.declared.checking.Illegal.TheVariants as illegal
use Rattle.shogi_moves.specs.internal.Computed.{check_of}
use Rattle.shogi_moves.specs.Rules.{Legal}
use Rattle.shogi_moves.proofs.Proved.{check_of-legal, check_of-refused}
use Rattle.shogi_repetition.specs.declared.ends.SEnd.{SEnd}
use Rattle.shogi_repetition.specs.internal.Computed.{end_of}
use Rattle.shogi_repetition.specs.Ends.{EndsSo}
use Rattle.shogi_repetition.specs.Faults.{shogi_lines}
use Rattle.shogi_repetition.specs.Line.{last_position}
use Rattle.shogi_repetition.proofs.Proved.{end_of-is}
use Rattle.csa.specs.declared.faults.CsaFault.{CsaFault}
use Rattle.csa.specs.declared.faults.CsaFault.TheVariants as fault
use Rattle.csa.specs.declared.lines.NumberedStatement.{NumberedStatement}
use Rattle.csa.specs.declared.order.RecordStage.TheVariants as place
use Rattle.csa.specs.declared.statements.Statement.{Statement}
use Rattle.csa.specs.declared.statements.Statement.TheVariants as statement
use Rattle.csa.specs.declared.statements.WrittenMove.{WrittenMove}
use Rattle.csa.specs.Endings.{says_declared}
use Rattle.csa.specs.Lines.{text_statements}
use Rattle.csa.specs.Moves.{Means}
use Rattle.csa.specs.Order.{first_stray}
use Rattle.csa.specs.Reading.{first_statement, records_of, FailsAfter, AreOrdered, Refuses, IsRefused}
use Rattle.csa.specs.Records.{begins_even, end_in, score_in, Plays, RecordFails}
use Rattle.csa.specs.Replays.{written_moves, AreMoves, RefusesNext, RefusesMove}
use Rattle.csa.proofs.Proved.{end-fails, mean-more, of-ends}
use Rattle.club_games.specs.internal.CsaMoves.{means-meant, meant-means}
use Rattle.club_games.specs.internal.CsaReading.{meant, Replayed, go_on, replay_next, replayed, RecordRead, with_score}
use Rattle.club_games.specs.internal.CsaReading.{with_moves, record_reading, RecordsRead, and_more, records_reading}
use Rattle.club_games.specs.internal.CsaReading.{is_version}
use Rattle.club_games.specs.internal.CsaReading.{ordered_reading, statements_reading, csa_reading}
use Rattle.club_games.specs.CsaRecord.{IsCsaGame, AreCsaGames, IsTextOfGames}

-- ---- moves

-- what a replay says of written moves
abbrev IsReplay : List WrittenMove → Replayed → Type 0
IsReplay ws (Ok ms) = AreMoves ws ms
IsReplay ws (Err f) = RefusesMove ws f

module _ (before : List WrittenMove) (ms : List SMove) (are : AreMoves before ms) (w : WrittenMove)
    (ws : List WrittenMove) where
  refuses : (f : CsaFault) → RefusesNext ms w f → RefusesMove (before ++ w ∷ ws) f
  refuses f next = record {
    before = before;
    refused = w;
    after = ws;
    parts = refl;
    moves = ms;
    played = are;
    refuses = next;
  }

  ends-so : (end : Option SEnd) → end_of opening ms ≡ end → EndsSo opening ms end
  ends-so end is = subst (EndsSo opening ms) is (end_of-is opening ms)

  grown : (m : SMove) → end_of opening ms ≡ None → Means (last_position opening ms) w m
      → Legal (last_position opening ms) m → AreMoves (before ++ w ∷ []) (ms ++ m ∷ [])
  grown m running means legal = record {
    mean = mean-more opening before ms w m are.mean means;
    played = played-more shogi_lines opening ms m are.played (ends-so None running) legal;
  }

  module _ (rest : SMove → Replayed)
      (on : (m : SMove) → AreMoves (before ++ w ∷ []) (ms ++ m ∷ [])
      → IsReplay ((before ++ w ∷ []) ++ ws) (rest m)) where
    checked-replay : (m : SMove) (answer : Result (Unit {0}) Illegal) → end_of opening ms ≡ None
        → Means (last_position opening ms) w m → check_of (last_position opening ms) m ≡ answer
        → IsReplay (before ++ w ∷ ws) (go_on (length ms + 1) (rest m) answer)
    checked-replay m (Ok u) running means is =
        let legal : Legal (last_position opening ms) m =
        (check_of-legal (last_position opening ms) m).0 (rw is refl) in
        subst (λ l. IsReplay l (rest m)) (append_assoc before (w ∷ []) ws) (on m (grown m running means legal))
    checked-replay m (Err cause) running means is =
        refuses (fault.Illegal (length ms + 1) cause)
        (refl, ends-so None running, inl (m, means, (check_of-refused (last_position opening ms) m cause).0 is))

    next-replay : (end : Option SEnd) (found : Option SMove) → end_of opening ms ≡ end
        → meant (last_position opening ms) w ≡ found → IsReplay (before ++ w ∷ ws) (replay_next ms rest end found)
    next-replay (Some end) found ended is =
        refuses (fault.AfterEnd (length ms + 1)) (refl, end, ends-so (Some end) ended)
    next-replay None None running is =
        let nothing : (m : SMove) → Means (last_position opening ms) w m → ⊥ =
        λ m means. let some = means-meant (last_position opening ms) w m means in cc in
        refuses (fault.Illegal (length ms + 1) illegal.NoSuchMove) (refl, ends-so None running, inr (refl, nothing))
    next-replay None (Some m) running is =
        let means : Means (last_position opening ms) w m =
        subst (λ o. IfSome o (Means (last_position opening ms) w)) is (meant-means (last_position opening ms) w) in
        checked-replay m (check_of (last_position opening ms) m) running means refl

replay-is : (before : List WrittenMove) (ms : List SMove) (ws : List WrittenMove) → AreMoves before ms
    → IsReplay (before ++ ws) (replayed ms ws)
replay-is before ms [] are = subst (λ l. AreMoves l ms) (sym (append-nil before)) are
replay-is before ms (w ∷ ws) are =
    next-replay before ms are w ws (λ m. replayed (ms ++ m ∷ []) ws)
    (λ m more. replay-is (before ++ w ∷ []) (ms ++ m ∷ []) ws more) (end_of opening ms)
    (meant (last_position opening ms) w) refl refl

-- ---- a record

-- what a reading says of a record
abbrev IsRecordReading : List NumberedStatement → RecordRead → Type 0
IsRecordReading placed (Ok r) = IsCsaGame placed r
IsRecordReading placed (Err f) = (f ≢ fault.Memory) × RecordFails placed f

scored-is : (placed : List NumberedStatement) (ms : List SMove) (score : Result Score CsaFault)
    → Plays placed ms (end_of opening ms) → score_in placed ms (end_of opening ms) ≡ score
    → IsRecordReading placed (with_score (says_declared (end_in placed)) ms score)
scored-is placed ms (Ok s) plays is = record { end = end_of opening ms; plays = plays; score = is; declared = refl }
scored-is placed ms (Err f) plays is = (
  λ memory. elim (of-ends (end_in placed) (last_position opening ms) (end_of opening ms) f is) [
    | inl unfinished ↦ cc
    | inr differs ↦ cc
  ],
  end-fails placed ms (end_of opening ms) f plays is,
)

move-fails : (placed : List NumberedStatement) (f : CsaFault) → begins_even placed ≡ true
    → RefusesMove (written_moves placed) f → IsRecordReading placed (Err f)
move-fails placed (fault.Illegal ply cause) even r = (λ e. cc, (even, r))
move-fails placed (fault.AfterEnd ply) even r = (λ e. cc, (even, r))
move-fails placed _ even r = absurd r.refuses

moved-is : (placed : List NumberedStatement) (read : Replayed) → begins_even placed ≡ true
    → IsReplay (written_moves placed) read → IsRecordReading placed (with_moves placed read)
moved-is placed (Ok ms) even are =
    scored-is placed ms (score_in placed ms (end_of opening ms))
    (record { even = even; moves = are; ends = end_of-is opening ms }) refl
moved-is placed (Err f) even r = move-fails placed f even r

even-is : (placed : List NumberedStatement) (even : Bool) → begins_even placed ≡ even
    → IsRecordReading placed
    (if even then with_moves placed (replayed [] (written_moves placed)) else Err fault.OtherOpening)
even-is placed true even =
    moved-is placed (replayed [] (written_moves placed)) even
    (replay-is [] [] (written_moves placed) (record { mean = tt; played = played-none shogi_lines opening }))
even-is placed false even = (λ e. cc, even)

record-is : (placed : List NumberedStatement) → IsRecordReading placed (record_reading placed)
record-is placed = even-is placed (begins_even placed) refl

-- ---- records one after another

-- what a reading says of records
abbrev IsRecordsReading : List (List NumberedStatement) → RecordsRead → Type 0
IsRecordsReading records (Ok games) = AreCsaGames records games
IsRecordsReading records (Err f) = (f ≢ fault.Memory) × FailsAfter records f

and-more : (placed : List NumberedStatement) (records : List (List NumberedStatement)) (one : RecordRead)
    (more : RecordsRead) → IsRecordReading placed one → IsRecordsReading records more
    → IsRecordsReading (placed ∷ records) (and_more one more)
and-more placed records (Err f) more is are = (
  is.0,
  record { before = []; failing = placed; after = records; parts = refl; read = tt; fails = is.1 },
)
and-more placed records (Ok r) (Err f) is are =
    let later : FailsAfter records f = are.1 in (
      are.0,
      record {
        before = placed ∷ later.before;
        failing = later.failing;
        after = later.after;
        parts = ap (λ l. placed ∷ l) later.parts;
        read = ((r.moves, r.score, r.declared, is), later.read);
        fails = later.fails;
      },
    )
and-more placed records (Ok r) (Ok games) is are = (is, are)

records-are : (records : List (List NumberedStatement)) → IsRecordsReading records (records_reading records)
records-are [] = tt
records-are (placed ∷ records) =
    and-more placed records (record_reading placed) (records_reading records) (record-is placed) (records-are records)

-- ---- a text

-- what a reading says of statements
abbrev IsStatementsReading : List NumberedStatement → RecordsRead → Type 0
IsStatementsReading placed (Ok games) = AreOrdered placed × AreCsaGames (records_of placed) games
IsStatementsReading placed (Err f) = (f ≢ fault.Memory) × Refuses placed f

ordered-refused : (placed : List NumberedStatement) (f : CsaFault) → AreOrdered placed
    → FailsAfter (records_of placed) f → Refuses placed f
ordered-refused placed fault.Memory ordered h = tt
ordered-refused placed (fault.BadText line) ordered h = absurd h.fails
ordered-refused placed fault.Version ordered h = absurd h.fails
ordered-refused placed _ ordered h = (ordered, h)

in-order : (placed : List NumberedStatement) (read : RecordsRead) → AreOrdered placed
    → IsRecordsReading (records_of placed) read → IsStatementsReading placed read
in-order placed (Ok games) ordered are = (ordered, are)
in-order placed (Err f) ordered are = (are.0, ordered-refused placed f ordered are.1)

ordered-is : (placed : List NumberedStatement) (stray : Option ℕ)
    → first_statement placed ≡ Some statement.Version → first_stray place.Start placed ≡ stray
    → IsStatementsReading placed (ordered_reading placed stray)
ordered-is placed (Some line) version is = (λ e. cc, inr (version, is))
ordered-is placed None version is =
    in-order placed (records_reading (records_of placed)) (record { version = version; order = is })
    (records-are (records_of placed))

version-is : (first : Statement) → is_version first ≡ true → first ≡ statement.Version
version-is statement.Version is = refl
version-is _ is = cc

first-is : (placed : List NumberedStatement) (first : Statement) (version : Bool)
    → first_statement placed ≡ Some first → is_version first ≡ version
    → IsStatementsReading placed
    (if version then ordered_reading placed (first_stray place.Start placed) else Err fault.Version)
first-is placed first true is version =
    ordered-is placed (first_stray place.Start placed) (is ∙ ap Some (version-is first version)) refl
first-is placed first false is version =
    (λ e. cc, (first, is, λ same. let never : false ≡ true = sym version ∙ ap is_version same in cc))

statements-are : (placed : List NumberedStatement) (first : Option Statement) → first_statement placed ≡ first
    → IsStatementsReading placed (statements_reading placed first)
statements-are placed None is = (λ e. cc, inl (is, refl))
statements-are placed (Some first) is = first-is placed first (is_version first) is refl

-- what a reading says of a text
abbrev pub IsCsaReading : List ℕ → RecordsRead → Type 0
IsCsaReading text (Ok games) = IsTextOfGames text games
IsCsaReading text (Err f) = (f ≢ fault.Memory) × IsRefused text f

text-is : (text : List ℕ) (read : RecordsRead) → IsStatementsReading (text_statements text) read
    → IsCsaReading text read
text-is text (Ok games) is = record { ordered = is.0; records = is.1 }
text-is text (Err f) is = is

pub csa-read : (text : List ℕ) → IsCsaReading text (csa_reading text)
unfolding csa_reading
csa-read text =
    text-is text (statements_reading (text_statements text) (first_statement (text_statements text)))
    (statements-are (text_statements text) (first_statement (text_statements text)) refl)

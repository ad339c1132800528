-- A game that is read from a CSA text is a game by the rules of shogi. No promise of the program rests on these
-- definitions.
use Rattle.std.proofs.Common.{◌≡◌, ℕ, zero, suc, ◌+◌, List, [], ◌∷◌, ◌++◌, length, Bool, true, false, ◌&&◌, Option}
use Rattle.std.proofs.Common.{Some, None, Result, Ok, Err, refl, sym, ap, ◌∙◌, subst}
use Rattle.std.specs.Prelude.{slice_get, if◌then◌else◌}
use Rattle.squares.specs.declared.sides.Score.{Score}
use Rattle.squares.specs.declared.shogi.moves.SMove.{SMove}
use Rattle.squares.specs.Sides.{loses, other, same_score}
use Rattle.squares.specs.internal.Sides.{same_score-same}
use Rattle.squares.specs.ShogiSets.{ShogiPosition}
use Rattle.squares.specs.ShogiOpening.{opening}
use Rattle.shogi_moves.specs.declared.checking.Illegal.{Illegal}
use Rattle.shogi_moves.specs.internal.Computed.{check_of}
use Rattle.shogi_moves.specs.internal.Declaring.{can_declare}
use Rattle.shogi_repetition.specs.declared.ends.SEnd.{SEnd}
use Rattle.shogi_repetition.specs.internal.Computed.{end_of}
use Rattle.shogi_repetition.specs.Ends.{outcome_of}
use Rattle.shogi_repetition.specs.Line.{last_position}
use Rattle.csa.specs.declared.end_words.EndWord.{EndWord}
use Rattle.csa.specs.declared.end_words.EndWord.TheVariants as word
use Rattle.csa.specs.declared.faults.CsaFault.{CsaFault}
use Rattle.csa.specs.declared.faults.CsaFault.TheVariants as fault
use Rattle.csa.specs.declared.lines.NumberedStatement.{NumberedStatement}
use Rattle.csa.specs.declared.order.RecordStage.TheVariants as place
use Rattle.csa.specs.declared.statements.Statement.{Statement}
use Rattle.csa.specs.declared.statements.WrittenMove.{WrittenMove}
use Rattle.csa.specs.Lines.{text_statements}
use Rattle.csa.specs.Order.{first_stray}
use Rattle.csa.specs.Endings.{claimed, fits_rules, agrees, claim_settled, ending, says_declared}
use Rattle.csa.specs.Reading.{first_statement, records_of}
use Rattle.csa.specs.Records.{begins_even, end_in, score_in}
use Rattle.csa.specs.Replays.{written_moves}
use Rattle.club_rules.specs.Line.{IsPlayedLine}
use Rattle.club_rules.specs.MoveRefusal.{refused_by}
use Rattle.club_rules.specs.Records.{Recorded, IsGameByRules, ReadsGames, game}
use Rattle.club_rules.proofs.Proved.{IsPlayedLine-none, IsPlayedLine-append}
use Rattle.club_games.specs.Shogi.{shogi, refusal_of}
use Rattle.club_games.specs.internal.CsaReading.{meant, Replayed, go_on, replay_next, replayed, RecordRead, with_score}
use Rattle.club_games.specs.internal.CsaReading.{with_moves, record_reading, RecordsRead, and_more, records_reading}
use Rattle.club_games.specs.internal.CsaReading.{is_version}
use Rattle.club_games.specs.internal.CsaReading.{ordered_reading, statements_reading, csa_reading, found_game, part_of}
use Rattle.club_games.specs.ShogiRecords.{shogi_records}

-- replaying moves after a line played by the rules yields such a line
module _ (ms : List SMove) (line : IsPlayedLine shogi opening ms) (rest : SMove → Replayed) (ns : List SMove)
    (goes_on : (m : SMove) → IsPlayedLine shogi opening (ms ++ m ∷ []) → rest m ≡ Ok ns → IsPlayedLine shogi opening ns)
  where
    checked-line : (m : SMove) (answer : Result (Unit {0}) Illegal) → end_of opening ms ≡ None
        → check_of (last_position opening ms) m ≡ answer → go_on (length ms + 1) (rest m) answer ≡ Ok ns
        → IsPlayedLine shogi opening ns
    checked-line m (Err cause) running is read = cc
    checked-line m (Ok u) running is read =
        goes_on m
        (IsPlayedLine-append shogi opening ms m line running
        (ap (refused_by refusal_of) is)) read

    next-line : (end : Option SEnd) (found : Option SMove) → end_of opening ms ≡ end
        → replay_next ms rest end found ≡ Ok ns → IsPlayedLine shogi opening ns
    next-line (Some end) found is read = cc
    next-line None None is read = cc
    next-line None (Some m) is read = checked-line m (check_of (last_position opening ms) m) is refl read

replay-line : (ms : List SMove) (ws : List WrittenMove) (ns : List SMove) → IsPlayedLine shogi opening ms
    → replayed ms ws ≡ Ok ns → IsPlayedLine shogi opening ns
replay-line ms [] ns line read = let same : ms ≡ ns = cc in subst (IsPlayedLine shogi opening) same line
replay-line ms (w ∷ ws) ns line read =
    next-line ms line (λ m. replayed (ms ++ m ∷ []) ws) ns (λ m more. replay-line (ms ++ m ∷ []) ws ns more)
    (end_of opening ms) (meant (last_position opening ms) w) refl read

-- if the rules ended the game, the score is theirs
settled-score : (fits same : Bool) (claim by_rule s : Score) → same_score claim by_rule ≡ same
    → ◌≡◌ {A = Result Score CsaFault} (if fits && same then Ok claim else Err fault.ResultDiffers) (Ok s) → s ≡ by_rule
settled-score true true claim by_rule s is told = let claimed_is : claim ≡ s = cc in
    sym claimed_is ∙ same_score-same claim by_rule is
settled-score true false claim by_rule s is told = cc
settled-score false same claim by_rule s is told = cc

claim-score : (w : EndWord) (claim : Option Score) (p : ShogiPosition) (end : SEnd) (s : Score)
    → claim_settled w claim p (Some end) ≡ Ok s → s ≡ outcome_of end p.turn
claim-score w None p end s told = cc
claim-score w (Some claim) p end s told =
    settled-score (fits_rules w p (Some end)) (same_score claim (outcome_of end p.turn)) claim (outcome_of end p.turn) s
    refl told

ending-score : (word : Option EndWord) (p : ShogiPosition) (end : SEnd) (s : Score) → ending word p (Some end) ≡ Ok s
    → s ≡ outcome_of end p.turn
ending-score None p end s told = cc
ending-score (Some w) p end s told = claim-score w (claimed w p.turn) p end s told

-- a record ends with a declared win only if the side to move may declare one
settled-fits : (fits same : Bool) (claim s : Score)
    → ◌≡◌ {A = Result Score CsaFault} (if fits && same then Ok claim else Err fault.ResultDiffers) (Ok s) → fits ≡ true
settled-fits true same claim s told = refl
settled-fits false same claim s told = cc

declared-fits : (word : Option EndWord) (p : ShogiPosition) (end : Option SEnd) (s : Score)
    → ending word p end ≡ Ok s → says_declared word ≡ true → can_declare p ≡ true
declared-fits None p end s told says = cc
declared-fits (Some word.Declared) p end s told says =
    settled-fits (can_declare p) (agrees (loses (other p.turn)) p.turn end) (loses (other p.turn)) s told
declared-fits (Some word.Resigned) p end s told says = cc
declared-fits (Some word.TimeUp) p end s told says = cc
declared-fits (Some word.IllegalMove) p end s told says = cc
declared-fits (Some word.Mate) p end s told says = cc
declared-fits (Some word.Repetition) p end s told says = cc
declared-fits (Some word.Impasse) p end s told says = cc
declared-fits (Some word.Draw) p end s told says = cc
declared-fits (Some word.BlackIllegal) p end s told says = cc
declared-fits (Some word.WhiteIllegal) p end s told says = cc
declared-fits (Some word.Interrupted) p end s told says = cc

-- the game that is read from a record is a game by the rules
scored-game : (placed : List NumberedStatement) (ms : List SMove) (said : Result Score CsaFault) (r : Recorded SMove)
    → IsPlayedLine shogi opening ms → score_in placed ms (end_of opening ms) ≡ said
    → with_score (says_declared (end_in placed)) ms said ≡ Ok r
    → IsGameByRules shogi r
scored-game placed ms (Err f) r line told is = cc
scored-game placed ms (Ok s) r line told is =
    let same : record { moves = ms; score = s; declared = says_declared (end_in placed) } ≡ r = cc in
    subst (IsGameByRules shogi) same
    (record {
      line = line;
      score = λ end ends.
          ending-score (end_in placed) (last_position opening ms) end s
          (ap (λ e. score_in placed ms e) (sym ends) ∙ told);
      declared = λ says. declared-fits (end_in placed) (last_position opening ms) (end_of opening ms) s told says;
    })

moved-game : (placed : List NumberedStatement) (read : Replayed) (r : Recorded SMove)
    → ((ns : List SMove) → read ≡ Ok ns → IsPlayedLine shogi opening ns) → with_moves placed read ≡ Ok r
    → IsGameByRules shogi r
moved-game placed (Err f) r line is = cc
moved-game placed (Ok ms) r line is = scored-game placed ms (score_in placed ms (end_of opening ms)) r (line ms refl)
    refl is

record-game : (placed : List NumberedStatement) (even : Bool) (r : Recorded SMove)
    →
    ◌≡◌ {A = RecordRead}
    (if even then with_moves placed (replayed [] (written_moves placed)) else Err fault.OtherOpening) (Ok r)
    → IsGameByRules shogi r
record-game placed true r is = moved-game placed (replayed [] (written_moves placed)) r
    (λ ns. replay-line [] (written_moves placed) ns (IsPlayedLine-none shogi opening)) is
record-game placed false r is = cc

abbrev AreGames : List (Recorded SMove) → Type 0
AreGames gs = (n : ℕ) (r : Recorded SMove) → slice_get gs n ≡ Some r → IsGameByRules shogi r

some-same : (a b : Recorded SMove) → Some a ≡ Some b → a ≡ b
some-same a b is = cc

more-games : (one : RecordRead) (more : RecordsRead) (gs : List (Recorded SMove))
    → ((r : Recorded SMove) → one ≡ Ok r → IsGameByRules shogi r)
    → ((rs : List (Recorded SMove)) → more ≡ Ok rs → AreGames rs) → and_more one more ≡ Ok gs → AreGames gs
more-games (Err f) more gs first rest is = cc
more-games (Ok g) (Err f) gs first rest is = cc
more-games (Ok g) (Ok rs) gs first rest is = let same : g ∷ rs ≡ gs = cc in
    subst AreGames same (all g rs (first g refl) (rest rs refl))
  where
    all : (g : Recorded SMove) (rs : List (Recorded SMove)) → IsGameByRules shogi g → AreGames rs → AreGames (g ∷ rs)
    all g rs first rest zero r at = subst (IsGameByRules shogi) (some-same g r at) first
    all g rs first rest (suc n) r at = rest n r at

records-games : (records : List (List NumberedStatement)) (gs : List (Recorded SMove)) → records_reading records ≡ Ok gs
    → AreGames gs
records-games [] gs is = let same : [] ≡ gs = cc in subst AreGames same no-games
  where
    no-games : AreGames []
    no-games zero r at = absurd (cc)
    no-games (suc n) r at = absurd (cc)
records-games (placed ∷ records) gs is =
    more-games (record_reading placed) (records_reading records) gs (record-game placed (begins_even placed))
    (records-games records) is

ordered-games : (placed : List NumberedStatement) (stray : Option ℕ) (gs : List (Recorded SMove))
    → ordered_reading placed stray ≡ Ok gs → AreGames gs
ordered-games placed (Some line) gs is = cc
ordered-games placed None gs is = records-games (records_of placed) gs is

version-games : (placed : List NumberedStatement) (version : Bool) (gs : List (Recorded SMove))
    →
    ◌≡◌ {A = RecordsRead}
    (if version then ordered_reading placed (first_stray place.Start placed) else Err fault.Version) (Ok gs)
    → AreGames gs
version-games placed true gs is = ordered-games placed (first_stray place.Start placed) gs is
version-games placed false gs is = cc

statements-games : (placed : List NumberedStatement) (first : Option Statement) (gs : List (Recorded SMove))
    → statements_reading placed first ≡ Ok gs → AreGames gs
statements-games placed None gs is = cc
statements-games placed (Some s) gs is = version-games placed (is_version s) gs is

text-games : (text : List ℕ) (gs : List (Recorded SMove)) → csa_reading text ≡ Ok gs → AreGames gs
unfolding csa_reading
text-games text gs is = statements-games (text_statements text) (first_statement (text_statements text)) gs is

found-is : (o : Option (Recorded SMove)) (r : Recorded SMove) → found_game o ≡ game r → o ≡ Some r
found-is None r is = cc
found-is (Some g) r is = let same : g ≡ r = cc in ap Some same

part-game : (before : ℕ) (read : RecordsRead) (r : Recorded SMove)
    → ((gs : List (Recorded SMove)) → read ≡ Ok gs → AreGames gs) → part_of before read ≡ game r → IsGameByRules shogi r
part-game before (Err f) r games is = cc
part-game before (Ok gs) r games is = games gs refl before r (found-is (slice_get gs before) r is)

pub shogi-reads_games : ReadsGames shogi shogi_records
shogi-reads_games text zero r is = cc
shogi-reads_games text (suc before) r is = part-game before (csa_reading text) r (text-games text) is

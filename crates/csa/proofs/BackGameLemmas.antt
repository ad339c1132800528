-- The statements of a game's text.
use Rattle.std.proofs.Common.{◌≡◌, ℕ, zero, suc, ◌+◌, List, [], ◌∷◌, ◌++◌, length, Option, Some, None, true, false}
use Rattle.std.proofs.Common.{refl, sym, ap, subst, ◌∙◌, append_assoc, arith}
use Rattle.std.proofs.lemmas.Bool.Decides.{nat_tests}
use Rattle.std.proofs.lemmas.List.Splits.{slice_split_none}
use Rattle.std.proofs.lemmas.Option.{slice_get_within}
use Rattle.std.specs.Fmt.{decimal}
use Rattle.std.specs.Prelude.{codes, slice_get}
use Rattle.std.specs.Str.Lines.{lines}
use Rattle.clocks.specs.declared.dates.CivilTime.{CivilTime}
use Rattle.squares.specs.declared.sides.Side.TheVariants.{First}
use Rattle.squares.specs.declared.shogi.moves.SMove.{SMove}
use Rattle.squares.specs.ShogiSets.{ShogiPosition}
use Rattle.squares.specs.ShogiOpening.{opening}
use Rattle.shogi_moves.specs.Rules.{Legal, play}
use Rattle.shogi_repetition.specs.Line.{last_position, position_after}
use Rattle.shogi_repetition.specs.Faults.{IsPlayed}
use Rattle.csa.specs.declared.end_words.EndWord.{EndWord}
use Rattle.csa.specs.declared.end_words.EndWord.TheVariants as word
use Rattle.csa.specs.declared.head.CsaEnd.{CsaEnd}
use Rattle.csa.specs.declared.lines.NumberedStatement.{NumberedStatement}
use Rattle.csa.specs.declared.order.RecordStage.TheVariants as place
use Rattle.csa.specs.declared.statements.Statement.TheVariants as statement
use Rattle.csa.specs.declared.statements.WrittenMove.{WrittenMove}
use Rattle.csa.specs.EndWords.{word_text}
use Rattle.csa.specs.Lines.{is_header, statements_from, text_statements}
use Rattle.csa.specs.Moves.{Means, MeanAll}
use Rattle.csa.specs.Order.{first_stray}
use Rattle.csa.specs.Reading.{is_parting, records_of, without_bare_last, AreOrdered}
use Rattle.csa.specs.Records.{begins_even, end_in}
use Rattle.csa.specs.Replays.{written_moves}
use Rattle.csa.specs.Writing.{line_of, date_text, head_text, move_text, entry_text, entries_text, word_of, end_text}
use Rattle.csa.specs.WrittenGame.{IsGameText}
use Rattle.csa.specs.internal.BackLaws.{IsKept, moves_of}
use Rattle.csa.proofs.BackLineLemmas.{Every, every-all, IsOfLine, one-line, statement-then, alone-then, header-line}
use Rattle.csa.proofs.BackMoveLemmas.{move-read, decimal-digits, seconds-read}

-- ---- the moves and the end

-- statements of a record after its head, that write moves from a position and end with a word
record Continues (p : ShogiPosition) (ms : List SMove) (word : EndWord) (ss : List NumberedStatement) : Type 0 where
  mean : MeanAll p (written_moves ss) ms
  sided : first_stray place.Sided ss ≡ None
  moved : first_stray place.Moved ss ≡ None
  even : begins_even ss ≡ true
  end : end_in ss ≡ Some word
  whole : Every (λ each. is_parting each.statement ≡ false) ss

-- each move of a line is legal in its position
abbrev AreLegal : ShogiPosition → List SMove → Type 0
AreLegal p [] = Unit {0}
AreLegal p (m ∷ ms) = Legal p m × AreLegal (play p m) ms

legal-line : (p : ShogiPosition) (ms : List SMove)
    → ((k : ℕ) (m : SMove) → slice_get ms k ≡ Some m → Legal (position_after p ms k) m) → AreLegal p ms
legal-line p [] h = tt
legal-line p (m ∷ ms) h = (h zero m refl, legal-line (play p m) ms (λ k n e. h (suc k) n e))

played-legal : (ms : List SMove) → IsPlayed opening ms (length ms) → AreLegal opening ms
played-legal ms played = legal-line opening ms (λ k m e. (played k (slice_get_within ms k m e)).legal m e)

-- a text that ends with a word is that statement, on whatever line
abbrev IsEnd : EndWord → List ℕ → Type 0
IsEnd word text = (n : ℕ) → statements_from n (lines text) ≡ record { line = n; statement = statement.End (Some word) }
    ∷ []

end-read : (word : EndWord) → IsEnd word (line_of (word_text word) [])
end-read word.Resigned = λ n. refl
end-read _ = λ n. refl

time-header : (l : List ℕ) → is_header (84 ∷ l) ≡ false
time-header [] = refl
time-header (c ∷ l) = refl

seconds-then : (n seconds : ℕ) (rest : List ℕ)
    → statements_from n (lines (84 ∷ (decimal seconds ++ 10 ∷ rest)))
    ≡ record { line = n; statement = statement.Seconds } ∷ statements_from (suc n) (lines rest)
seconds-then n seconds rest =
    alone-then n 84 (decimal seconds) rest statement.Seconds _
    ((refl, refl, refl), (decimal-digits seconds).within) refl (time-header (decimal seconds)) (seconds-read seconds)
    refl

-- the lines of a move, and what follows them
entry-then : (n : ℕ) (p : ShogiPosition) (m : SMove) (seconds : ℕ) (rest : List ℕ) → Legal p m →
    (w : WrittenMove) × Means p w m
    ×
    (statements_from n (lines (entry_text p m seconds ++ rest)) ≡ record { line = n; statement = statement.Move w }
    ∷ record { line = suc n; statement = statement.Seconds } ∷ statements_from (suc (suc n)) (lines rest))
entry-then n p m seconds rest legal =
    let r = move-read p m legal in
    let second : List ℕ = line_of (codes "T") (decimal seconds) in
    let time : List ℕ = 84 ∷ (decimal seconds ++ 10 ∷ rest) in
    let joined : entry_text p m seconds ++ rest ≡ r.sign ∷ (r.more ++ 10 ∷ time) =
    append_assoc (line_of (move_text p m) []) second rest ∙ append_assoc (move_text p m) (10 ∷ []) (second ++ rest)
    ∙ (λ i. r.is i ++ 10 ∷ append_assoc (84 ∷ decimal seconds) (10 ∷ []) rest i) in (
      r.written,
      r.means,
      ap (λ l. statements_from n (lines l)) joined
          ∙ alone-then n r.sign r.more time (statement.Move r.written) _ r.within r.comment r.header r.reads
          (seconds-then (suc n) seconds rest),
    )

entries-read : (p : ShogiPosition) (es : List (SMove × ℕ)) (n : ℕ) (word : EndWord) (last : List ℕ)
    → AreLegal p (moves_of es) → IsEnd word last
    → Continues p (moves_of es) word (statements_from n (lines (entries_text p es ++ last)))
entries-read p [] n word last legal end =
    subst (Continues p [] word) (sym (end n))
    (record { mean = tt; sided = refl; moved = refl; even = refl; end = refl; whole = (refl, tt) })
entries-read p (e ∷ es) n word last legal end =
    let next : ShogiPosition = play p e.0 in
    let here = entry-then n p e.0 e.1 (entries_text next es ++ last) legal.0 in
    let later = entries-read next es (suc (suc n)) word last legal.1 end in
    subst (Continues p (e.0 ∷ moves_of es) word)
    (sym
    (ap (λ l. statements_from n (lines l)) (append_assoc (entry_text p e.0 e.1) (entries_text next es) last) ∙ here.2))
    (record {
      mean = (here.1, later.mean);
      sided = later.moved;
      moved = later.moved;
      even = later.even;
      end = later.end;
      whole = (refl, (refl, later.whole));
    })

-- ---- the head

-- the statements of a head, and those of a rest
abbrev with_head : List NumberedStatement → List NumberedStatement
with_head rest =
    record { line = 1; statement = statement.Version } ∷ record { line = 2; statement = statement.Header }
    ∷ record { line = 3; statement = statement.Header }
    ∷ record { line = 4; statement = statement.Header } ∷ record { line = 5; statement = statement.Header }
    ∷ record { line = 6; statement = statement.Opening true }
    ∷ record { line = 7; statement = statement.Turn First } ∷ rest

digit-line : (k : ℕ) → IsOfLine (48 + k)
digit-line k = grind (arith, nat_tests)

date-line : (at : CivilTime) → Every IsOfLine (date_text at)
date-line at = search digit-line

head-then : (event black white : List ℕ) (at : CivilTime) (rest : List ℕ) → Every IsOfLine event → Every IsOfLine black
    → Every IsOfLine white →
    statements_from 1 (lines (head_text event black white at ++ rest)) ≡ with_head (statements_from 8 (lines rest))
head-then event black white at rest event_in black_in white_in =
    let date : List ℕ = date_text at in
    let side : List ℕ = codes "+\n" ++ rest in
    let start : List ℕ = codes "PI\n" ++ side in
    let time : List ℕ = codes "$START_TIME:" ++ (date ++ 10 ∷ start) in
    let name : List ℕ = codes "$EVENT:" ++ (event ++ 10 ∷ time) in
    let second : List ℕ = codes "N-" ++ (white ++ 10 ∷ name) in
    let first : List ℕ = codes "N+" ++ (black ++ 10 ∷ second) in
    let joined : head_text event black white at ++ rest ≡ codes "V2.2\n" ++ first = simp append_assoc in
    ap (λ l. statements_from 1 (lines l)) joined
    ∙ statement-then 1 (codes "V2.2") first statement.Version _ (refl, (refl, (refl, (refl, tt)))) refl
    (statement-then 2 (codes "N+" ++ black) second statement.Header _ (refl, (refl, black_in))
    (header-line 2 78 43 black refl (λ l. refl))
    (statement-then 3 (codes "N-" ++ white) name statement.Header _ (refl, (refl, white_in))
    (header-line 3 78 45 white refl (λ l. refl))
    (statement-then 4 (codes "$EVENT:" ++ event) time statement.Header _
    (refl, (refl, (refl, (refl, (refl, (refl, (refl, event_in)))))))
    (header-line 4 36 69 (codes "VENT:" ++ event) refl (λ l. refl))
    (statement-then 5 (codes "$START_TIME:" ++ date) start statement.Header _
    (refl, (refl, (refl, (refl, (refl, (refl, (refl, (refl, (refl, (refl, (refl, (refl, date-line at))))))))))))
    (header-line 5 36 83 (codes "TART_TIME:" ++ date) refl (λ l. refl))
    (statement-then 6 (codes "PI") side (statement.Opening true) _ (refl, (refl, tt)) refl
    (statement-then 7 (codes "+") rest (statement.Turn First) _ (refl, tt) refl refl))))))

-- ---- the whole

-- statements of one record, which begins evenly, writes these moves and ends with that word
pub record IsWhole (ms : List SMove) (word : EndWord) (ss : List NumberedStatement) : Type 0 where
  pub ordered : AreOrdered ss
  pub alone : records_of ss ≡ ss ∷ []
  pub even : begins_even ss ≡ true
  pub mean : MeanAll opening (written_moves ss) ms
  pub end : end_in ss ≡ Some word

with-head : (ms : List SMove) (word : EndWord) (rest : List NumberedStatement) → Continues opening ms word rest
    → IsWhole ms word (with_head rest)
with-head ms word rest c =
    let ss : List NumberedStatement = with_head rest in
    let no_parting : Every (λ each. is_parting each.statement ≡ false) ss =
    (refl, (refl, (refl, (refl, (refl, (refl, (refl, c.whole))))))) in
    record {
      ordered = record { version = refl; order = c.sided };
      alone =
          ap without_bare_last
          (slice_split_none (λ each. is_parting each.statement) ss
          (every-all (λ each. is_parting each.statement ≡ false) ss no_parting));
      even = c.even;
      mean = c.mean;
      end = c.end;
    }

long : (es : List (SMove × ℕ)) → length es ≡ length (moves_of es)
long [] = refl
long (e ∷ es) = let more = long es in omega (arith, more)

-- all moves of the list are played
pub played-all : (es : List (SMove × ℕ)) → IsPlayed opening (moves_of es) (length es)
    → IsPlayed opening (moves_of es) (length (moves_of es))
played-all es played = subst (IsPlayed opening (moves_of es)) (long es) played

-- the text of a game is the one record of its moves, and ends with the word of its end
pub text-whole : (event black white : List ℕ) (start : ℕ) (end : Option CsaEnd) (es : List (SMove × ℕ)) (text : List ℕ)
    → IsKept event black white end es → IsGameText event black white start end es text →
    IsWhole (moves_of es) (word_of end (last_position opening (moves_of es)).turn) (text_statements text)
unfolding text_statements
text-whole event black white start end es text kept is =
    let word : EndWord = word_of end (last_position opening (moves_of es)).turn in
    let head : List ℕ = head_text event black white is.at in
    let moves : List ℕ = entries_text opening es in
    let last : List ℕ = end_text end (last_position opening (moves_of es)).turn in
    let legal : AreLegal opening (moves_of es) = played-legal (moves_of es) (played-all es kept.played) in
    let said : statements_from 1 (lines text) ≡ with_head (statements_from 8 (lines (moves ++ last))) =
    ap (λ l. statements_from 1 (lines l)) (is.written ∙ append_assoc head moves last)
    ∙ head-then event black white is.at (moves ++ last) (one-line event kept.event_line)
    (one-line black kept.black_line) (one-line white kept.white_line) in
    subst (IsWhole (moves_of es) word) (sym said)
    (with-head (moves_of es) word (statements_from 8 (lines (moves ++ last)))
    (entries-read opening es 8 word last legal (end-read word)))

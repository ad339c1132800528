-- The text of an ended game is that of its moves and its score.
use Rattle.std.proofs.Common.{◌≡◌, ◌⊎◌, ℕ, suc, ◌+◌, ◌-◌, ◌/◌, ◌%◌, ◌^◌, ◌<◌, ◌≤◌, inl, inr, List, [], ◌∷◌, ◌++◌}
use Rattle.std.proofs.Common.{append_assoc, length, take, Option, Some, None, Bool, true, false, cond, not, nat_eq}
use Rattle.std.proofs.Common.{◌&&◌, Ok, Err, Result, refl, sym, ap, subst, ◌∙◌, arith}
use Rattle.std.specs.Fmt.{decimal}
use Rattle.std.specs.Prelude.{codes, is_some, unsigned_abs}
use Rattle.std.proofs.lemmas.Bool.{and_parts}
use Rattle.std.proofs.lemmas.Bool.Decides.{nat_tests}
use Rattle.std.proofs.lemmas.List.{length-append, length-take-le}
use Rattle.std.proofs.Math.Seq.{take-append_seam, get_or-append_seam}
use Rattle.clocks.specs.declared.dates.CivilTime.{CivilTime}
use Rattle.squares.specs.declared.draughts.moves.DMove.{DMove}
use Rattle.squares.specs.declared.sides.Score.{Score}
use Rattle.squares.specs.declared.sides.Score.TheVariants as score
use Rattle.squares.specs.DraughtsBoard.{Position}
use Rattle.squares.specs.DraughtsOpening.{opening}
use Rattle.squares.specs.Sides.{score_text, same_score}
use Rattle.squares.specs.internal.Sides.{same_score-itself}
use Rattle.draughts_moves.specs.Legal.{Legal, play}
use Rattle.draughts_moves.specs.internal.Search.{has_move}
use Rattle.draughts_draws.specs.declared.ends.DEnd.{DEnd}
use Rattle.draughts_draws.specs.declared.ends.DEnd.TheVariants.{PlyLimit}
use Rattle.draughts_draws.specs.Line.{last_position, positions}
use Rattle.draughts_draws.specs.Ends.{stands_thrice, are_king_moves, ends_with, is_three_to_one, is_two_to_one}
use Rattle.draughts_draws.specs.Ends.{first_end, end_of}
use Rattle.draughts_draws.specs.Faults.{IsPlayed}
use Rattle.game_history.proofs.Proved.{last_position-append}
use Rattle.pdn.specs.MoveValue.{move_text}
use Rattle.pdn.proofs.Proved.{le_or_more}
use Rattle.pdn_games.specs.declared.faults.PdnFault.{PdnFault}
use Rattle.pdn_games.specs.declared.faults.PdnFault.TheVariants as fault
use Rattle.pdn_games.specs.declared.game.PdnGame.{PdnGame}
use Rattle.pdn_games.specs.internal.BackLaws.{IsPlain, IsKept}
use Rattle.pdn_games.specs.declared.results.ResultWord.{ResultWord}
use Rattle.pdn_games.specs.Results.{result_word}
use Rattle.pdn_games.specs.internal.SkipGrammar.{All}
use Rattle.pdn_games.specs.Tags.{is_name_byte}
use Rattle.pdn_games.specs.Tokens.{tag, PlacedToken, Lexes, takes}
use Rattle.pdn_games.specs.Order.{or_else}
use Rattle.pdn_games.specs.Contents.{first_tag, move_texts, result_in, BeginsEven}
use Rattle.pdn_games.specs.Moves.{MeanAll, AreMoves}
use Rattle.pdn_games.specs.Reading.{score_of_result, tag_score, agrees, score_by_rules, settled, score_in}
use Rattle.pdn_games.specs.internal.Reading.{IsTextOf}
use Rattle.pdn_games.specs.Writing.{tag_line, two_digits, date_text, ply_text, plies_text, end_text, game_text}
use Rattle.pdn_games.proofs.DigitLemmas.{all_pass, pass-all}
use Rattle.pdn_games.proofs.TagLemmas.{tag-found}
use Rattle.pdn_games.proofs.WriterLemmas.{next-legal}
use Rattle.pdn_games.proofs.PlyLemmas.{written-read, past-feed, word_for, texts_of, AllLegal, AreOf, Found, score-found}
use Rattle.pdn_games.proofs.PlyLemmas.{feed-found, blank-found, number-found, move-found}

-- How a text goes on after a move of White's: with a blank or a line's end, and then tokens.
abbrev GoesOnFound : ℕ → List ℕ → List (List ℕ) → ResultWord → Type 0
GoesOnFound total text texts w = (c : ℕ) × (rest : List ℕ) × (text ≡ c ∷ rest) × ((c ≡ 32) ⊎ (c ≡ 10))
    × Found total false false (c ∷ rest) texts w

-- the text of a move after an even number of plies, and after an odd one
even-ply : (n : ℕ) (text : List ℕ) → n % 2 ≡ 0 → ply_text n text ≡ decimal (n / 2 + 1) ++ (46 ∷ 32 ∷ text)
even-ply n text even = ap (λ k. cond (nat_eq k 0) (decimal (n / 2 + 1) ++ (46 ∷ 32 ∷ text)) (32 ∷ text ++ 10 ∷ [])) even

odd-ply : (n : ℕ) (text : List ℕ) → n % 2 ≡ 1 → ply_text n text ≡ 32 ∷ text ++ 10 ∷ []
odd-ply n text odd = ap (λ k. cond (nat_eq k 0) (decimal (n / 2 + 1) ++ (46 ∷ 32 ∷ text)) (32 ∷ text ++ 10 ∷ [])) odd

joined-white : (d t more e : List ℕ) → ((d ++ (46 ∷ 32 ∷ t)) ++ more) ++ e ≡ d ++ (46 ∷ 32 ∷ (t ++ (more ++ e)))
joined-white d t more e = simp append_assoc

joined-black : (t more e : List ℕ) → ((32 ∷ t ++ 10 ∷ []) ++ more) ++ e ≡ 32 ∷ (t ++ 10 ∷ (more ++ e))
joined-black t more e = simp append_assoc

-- a move of White's is found before what follows it
white-found : (total : ℕ) (p : Position) (n : ℕ) (m : DMove) (more e : List ℕ) (texts : List (List ℕ)) (w : ResultWord)
    → Legal p m → n / 2 + 1 < 2 ^ 64 → n % 2 ≡ 0 → GoesOnFound total (more ++ e) texts w
    → Found total true true ((ply_text n (move_text p m) ++ more) ++ e) (move_text p m ∷ texts) w
white-found total p n m more e texts w legal few even (c, rest, split, ends, found) =
    let t : List ℕ = move_text p m in
    let text : (ply_text n t ++ more) ++ e ≡ decimal (n / 2 + 1) ++ (46 ∷ 32 ∷ (t ++ c ∷ rest)) =
    (λ i. (even-ply n t even i ++ more) ++ e) ∙ joined-white (decimal (n / 2 + 1)) t more e
    ∙ ap (λ l. decimal (n / 2 + 1) ++ (46 ∷ 32 ∷ (t ++ l))) split in
    subst (λ x. Found total true true x (t ∷ texts) w) (sym text)
    (number-found total true (n / 2 + 1) (t ++ c ∷ rest) (t ∷ texts) w few
    (blank-found total false true (t ++ c ∷ rest) (t ∷ texts) w
    (move-found total false p m c rest texts w legal ends found)))

-- the moves and the result of a game are found as they were written, where White is to move and where Black is
plies-found : (total : ℕ) (p : Position) (n : ℕ) (ms : List DMove) (s : Score) → AllLegal p ms → n + length ms < 2 ^ 63
    →
    (n % 2 ≡ 0
    → Found total true true (plies_text p n ms ++ end_text (n + length ms) (Some s)) (texts_of p ms) (word_for s))
    ×
    (n % 2 ≡ 1
    → GoesOnFound total (plies_text p n ms ++ end_text (n + length ms) (Some s)) (texts_of p ms) (word_for s))
plies-found total p n [] s legal few =
    let same : n + 0 ≡ n = omega arith in
    let last : List ℕ = score_text s ++ 10 ∷ [] in
    let found = score-found total true s in (
      λ even. let text : end_text (n + 0) (Some s) ≡ last = rw (same, even) refl in
          subst (λ t. Found total true true t [] (word_for s)) (sym text) found,
      λ odd. let text : end_text (n + 0) (Some s) ≡ 10 ∷ last = rw (same, odd) refl in
          (10, last, text, inr refl, feed-found total false false last [] (word_for s) found),
    )
plies-found total p n (m ∷ ms) s legal few =
    let t : List ℕ = move_text p m in
    let q : Position = play p m in
    let more : List ℕ = plies_text q (n + 1) ms in
    let e : List ℕ = end_text ((n + 1) + length ms) (Some s) in
    let texts : List (List ℕ) = texts_of q ms in
    let count : n + suc (length ms) ≡ (n + 1) + length ms = omega arith in
    let later = plies-found total q (n + 1) ms s legal.1 (omega (arith, few)) in (
      λ even.
          subst (λ k. Found total true true (plies_text p n (m ∷ ms) ++ end_text k (Some s)) (t ∷ texts) (word_for s))
          (sym count)
          (white-found total p n m more e texts (word_for s) legal.0 (omega (arith, few)) even
          (later.1 (omega (arith, even)))),
      λ odd.
          let rest : List ℕ = more ++ e in
          let text : plies_text p n (m ∷ ms) ++ end_text (n + suc (length ms)) (Some s) ≡ 32 ∷ (t ++ 10 ∷ rest) =
          (λ i. (odd-ply n t odd i ++ more) ++ end_text (count i) (Some s)) ∙ joined-black t more e in (
            32,
            t ++ 10 ∷ rest,
            text,
            inl refl,
            blank-found total false false (t ++ 10 ∷ rest) (t ∷ texts) (word_for s)
                (move-found total false p m 10 rest texts (word_for s) legal.0 (inr refl)
                (feed-found total false false rest texts (word_for s) (later.0 (omega (arith, odd))))),
          ),
    )

-- a tag on its line
abbrev placed_at : ℕ → List ℕ → List ℕ → List ℕ → PlacedToken
placed_at total text name value = record { at = total - length text; token = tag name value }

tag-lexed : (total : ℕ) (name value more : List ℕ) (tokens : List PlacedToken) → 0 < length name → All is_name_byte name
    → IsPlain value → Lexes total true true more tokens None →
    Lexes total true true (tag_line name value ++ more)
    (placed_at total (tag_line name value ++ more) name value ∷ tokens) None
tag-lexed total name value more tokens some named plain h =
    let text : tag_line name value ++ more ≡ 91 ∷ name ++ (32 ∷ 34 ∷ value ++ (34 ∷ 93 ∷ 10 ∷ more)) =
    simp append_assoc in
    subst (λ t. Lexes total true true t (placed_at total t name value ∷ tokens) None) (sym text)
    (takes true true (91 ∷ name ++ (32 ∷ 34 ∷ value ++ (34 ∷ 93 ∷ 10 ∷ more))) (10 ∷ more) (tag name value) tokens None
    (tag-found true name value (10 ∷ more) some named plain) (past-feed total false true more tokens None h))

-- tags one after another, each with a name and a plain value, before more of a text
abbrev is_name : List ℕ → Bool
is_name [] = false
is_name (c ∷ name) = all_pass is_name_byte (c ∷ name)

record Tag : Type 0 where
  pub name : List ℕ
  pub value : List ℕ
  pub named : is_name name ≡ true
  pub plain : IsPlain value

-- such a name has a byte, and only bytes of names
name-parts : (name : List ℕ) → is_name name ≡ true → (0 < length name) × All is_name_byte name
name-parts [] is = absurd (cc)
name-parts (c ∷ name) is = (omega arith, pass-all is_name_byte (c ∷ name) is)

abbrev lines : List Tag → List ℕ → List ℕ
lines [] more = more
lines (t ∷ tags) more = tag_line t.name t.value ++ lines tags more

lines-append : (tags : List Tag) (x y : List ℕ) → lines tags x ++ y ≡ lines tags (x ++ y)
lines-append [] x y = refl
lines-append (t ∷ tags) x y = append_assoc (tag_line t.name t.value) (lines tags x) y
    ∙ ap (λ l. tag_line t.name t.value ++ l) (lines-append tags x y)

abbrev tags_at : ℕ → List Tag → List ℕ → List PlacedToken → List PlacedToken
tags_at total [] more tokens = tokens
tags_at total (t ∷ tags) more tokens =
    placed_at total (lines (t ∷ tags) more) t.name t.value ∷ tags_at total tags more tokens

-- the tags are found, one after another
tags-lexed : (total : ℕ) (tags : List Tag) (more : List ℕ) (tokens : List PlacedToken)
    → Lexes total true true more tokens None
    → Lexes total true true (lines tags more) (tags_at total tags more tokens) None
tags-lexed total [] more tokens h = h
tags-lexed total (t ∷ tags) more tokens h =
    let (some, named) = name-parts t.name t.named in
    tag-lexed total t.name t.value (lines tags more) (tags_at total tags more tokens) some named t.plain
    (tags-lexed total tags more tokens h)

-- what is written beside the names is plain
abbrev is_plain : ℕ → Bool
is_plain c = not (nat_eq c 34) && not (nat_eq c 92)

plain-test : (text : List ℕ) → all_pass is_plain text ≡ true → IsPlain text
plain-test [] is = tt
plain-test (c ∷ text) is =
    let w = and_parts (is_plain c) (all_pass is_plain text) is in
    let here = w.0 in
    (λ e. grind (arith, nat_tests, here, e), λ e. grind (arith, nat_tests, here, e), plain-test text w.1)

plain-two : (n : ℕ) (more : List ℕ) → IsPlain more → IsPlain (two_digits n ++ more)
plain-two n more plain =
    (λ e. omega (arith, e), λ e. omega (arith, e), (λ e. omega (arith, e), λ e. omega (arith, e), plain))

plain-dot : (more : List ℕ) → IsPlain more → IsPlain (46 ∷ more)
plain-dot more plain = (λ e. omega (arith, e), λ e. omega (arith, e), plain)

plain-date : (date : CivilTime) → IsPlain (date_text date)
plain-date date =
    let year : ℕ = unsigned_abs date.year in
    let day : List ℕ = two_digits date.day in
    let month : List ℕ = two_digits date.month ++ 46 ∷ day in
    plain-two (year / 100) (two_digits year ++ (46 ∷ month))
    (plain-two year (46 ∷ month)
    (plain-dot month (plain-two date.month (46 ∷ day) (plain-dot day (plain-two date.day [] tt)))))

plain-score : (s : Score) → IsPlain (score_text s)
plain-score score.FirstWins = plain-test (score_text score.FirstWins) refl
plain-score s = plain-test (score_text s) refl

-- the moves of a game are legal, each in its position
legal-from : (before ms : List DMove) → IsPlayed opening (before ++ ms) (length (before ++ ms))
    → AllLegal (last_position opening before) ms
legal-from before [] played = tt
legal-from before (m ∷ ms) played =
    let whole : List DMove = before ++ m ∷ ms in
    let long = length-append before (m ∷ ms) in
    let there = sym (get_or-append_seam before m ms m) in
    let here = next-legal whole (length before) m (omega (arith, long)) there played in
    let again : IsPlayed opening ((before ++ m ∷ []) ++ ms) (length ((before ++ m ∷ []) ++ ms)) =
    subst (λ l. IsPlayed opening l (length l)) (sym (append_assoc before (m ∷ []) ms)) played in (
      subst (λ l. Legal (last_position opening l) m) (take-append_seam before (m ∷ ms)) here,
      subst (λ p. AllLegal p ms) (last_position-append play opening before m) (legal-from (before ++ m ∷ []) ms again),
    )

mean-all : (p : Position) (ms : List DMove) → AllLegal p ms → MeanAll p (texts_of p ms) ms
mean-all p [] legal = tt
mean-all p (m ∷ ms) legal = (written-read p m legal.0, mean-all (play p m) ms legal.1)

-- after 600 plies a game has ended
no-end : (b : Bool) (x o : Option DEnd) → cond b x o ≡ None → is_some x ≡ true → o ≡ None
no-end true x o none some = absurd (let bad : false ≡ true = sym (ap is_some none) ∙ some in cc)
no-end false x o none some = none

limit-ends : (last : Position) (ps : List Position) (ms : List DMove) → length ms ≡ 600 → first_end last ps ms ≡ None
    → ⊥
unfolding first_end
limit-ends last ps ms long none =
    let late : cond (nat_eq (length ms) 600) (Some PlyLimit) None ≡ None =
    no-end (ends_with 11 is_two_to_one ps) _ _
    (no-end (ends_with 33 is_three_to_one ps) _ _
    (no-end (are_king_moves ps ms) _ _
    (no-end (stands_thrice last ps) _ _ (no-end (not (has_move last)) _ _ none refl) refl) refl) refl) refl in
    let never : ◌≡◌ {A = Option DEnd} (Some PlyLimit) None = rw long at late in
    cc

few-plies : (ms : List DMove) → IsPlayed opening ms (length ms) → length ms ≤ 600
unfolding end_of
few-plies ms played =
    elim (le_or_more (length ms) 600) [
      | inl few ↦ few
      | inr more ↦
          let long : length (take 600 ms) ≡ 600 = length-take-le 600 ms (omega (arith, more)) in
          absurd
          (limit-ends (last_position opening (take 600 ms)) (positions opening (take 600 ms)) (take 600 ms) long
          (played 600 more).unended)
    ]

-- the score of the result and of the tag
said-score : (s : Score) → score_of_result (Some (word_for s)) ≡ Some s
said-score score.FirstWins = refl
said-score _ = refl

told-score : (s : Score) → tag_score (Some (score_text s)) ≡ Some s
unfolding result_word
told-score score.FirstWins = refl
told-score _ = refl

settled-score : (s : Score) (rule : Option Score) → agrees s rule ≡ true
    → ◌≡◌ {A = Result Score PdnFault} (settled (Some s) rule (Some s)) (Ok s)
settled-score s rule fits =
    ap (λ b. cond (b && same_score s s) (Ok s) (Err fault.ResultDiffers)) fits
    ∙ ap (λ b. cond b (Ok s) (Err fault.ResultDiffers)) (same_score-itself s)

-- the score of tokens with such a tag and such a result
score-there : (s : Score) (ms : List DMove) (tokens : List PlacedToken)
    → first_tag (codes "Result") tokens ≡ Some (score_text s) → result_in tokens ≡ Some (word_for s)
    → agrees s (score_by_rules (end_of opening ms) (last_position opening ms).turn) ≡ true → score_in tokens ms ≡ Ok s
score-there s ms tokens tagged ended agreed =
    let rule : Option Score = score_by_rules (end_of opening ms) (last_position opening ms).turn in
    (λ i. settled ((ap score_of_result ended ∙ said-score s) i) rule ((ap tag_score tagged ∙ told-score s) i))
    ∙ settled-score s rule agreed

pub written-back : (event white black : List ℕ) (date : CivilTime) (s : Score) (ms : List DMove) (g : PdnGame)
    → IsKept event white black s ms → g.moves.items ≡ ms → g.score ≡ s
    → IsTextOf (game_text event date white black (Some s) ms) g
written-back event white black date s ms g kept items score_is =
    let text : List ℕ = game_text event date white black (Some s) ms in
    let total : ℕ = length text in
    let legal : AllLegal opening ms = legal-from [] ms kept.played in
    let few = few-plies ms kept.played in
    let same : 0 + length ms ≡ length ms = omega arith in
    let rest : List ℕ = plies_text opening 0 ms ++ end_text (length ms) (Some s) in
    let found : Found total true true rest (texts_of opening ms) (word_for s) =
    subst
    (λ n. Found total true true (plies_text opening 0 ms ++ end_text n (Some s)) (texts_of opening ms) (word_for s))
    same ((plies-found total opening 0 ms s legal (omega (arith, few))).0 refl) in
    let tokens : List PlacedToken = found.0 in
    let are : AreOf (texts_of opening ms) (word_for s) tokens = found.2 in
    let tags : List Tag =
    record { name = codes "Event"; value = event; named = refl; plain = kept.event_plain }
    ∷ record { name = codes "Date"; value = date_text date; named = refl; plain = plain-date date }
    ∷ record { name = codes "White"; value = white; named = refl; plain = kept.white_plain }
    ∷ record { name = codes "Black"; value = black; named = refl; plain = kept.black_plain }
    ∷ record { name = codes "Result"; value = score_text s; named = refl; plain = plain-score s }
    ∷ record { name = codes "GameType"; value = codes "20"; named = refl; plain = plain-test (codes "20") refl } ∷ [] in
    let all : List PlacedToken = tags_at total tags (10 ∷ rest) tokens in
    let lexed : Lexes total true true (lines tags (10 ∷ rest)) all None =
    tags-lexed total tags (10 ∷ rest) tokens (past-feed total true true rest tokens None found.1) in
    let parts : text ≡ lines tags (10 ∷ rest) = lines-append tags (10 ∷ []) rest in
    let tagged : first_tag (codes "Result") all ≡ Some (score_text s) = refl in
    let ended : result_in all ≡ Some (word_for s) = are.ends in
    let score_there : score_in all ms ≡ Ok s = score-there s ms all tagged ended kept.agreed in
    let mean : MeanAll opening (move_texts all) ms =
    subst (λ l. MeanAll opening l ms) (sym are.moves) (mean-all opening ms legal) in
    let open_there : BeginsEven (first_tag (codes "FEN") all) =
    subst BeginsEven (sym (are.untagged (codes "FEN"))) tt in (
      all,
      record {
        whole = subst (λ t. Lexes total true true t all None) (sym parts) lexed;
        form =
            ap (λ o. or_else o None) are.first;
      },
      record {
        plays =
            record {
              of_club = record { kind = refl; opening = open_there };
              moves = subst (λ l. AreMoves (move_texts all) l) (sym items)
                  (record { mean = mean; played = kept.played });
            };
        score = ap (score_in all) items ∙ score_there ∙ ap (λ x. Ok x) (sym score_is);
      },
    )

-- A game that is written move by move.
use Rattle.std.proofs.Common.{◌≡◌, ℕ, suc, ◌+◌, ◌<◌, List, [], ◌∷◌, ◌++◌, length, take, drop, get_or, Option, Some}
use Rattle.std.proofs.Common.{append_assoc, append-nil, length-append, sym, ap, ap₂, subst, ◌∙◌, add-one}
use Rattle.std.proofs.Common.{take-append-drop, arith}
use Rattle.std.specs.Io.KnownBytes.{Appends}
use Rattle.std.proofs.KnownBytes.{Appends-trans}
use Rattle.std.proofs.lemmas.List.{take_more}
use Rattle.std.proofs.lemmas.Option.{slice_get-get_or}
use Rattle.std.proofs.Math.Seq.{drop-cons}
use Rattle.record_writer.specs.Pieces.{AppendsSome}
use Rattle.record_writer.specs.internal.PieceLaws.{begun-next, begun-longer}
use Rattle.squares.specs.declared.draughts.moves.DMove.{DMove}
use Rattle.squares.specs.DraughtsBoard.{Position}
use Rattle.squares.specs.DraughtsOpening.{opening}
use Rattle.draughts_moves.specs.Legal.{Legal, play}
use Rattle.draughts_draws.specs.Line.{last_position}
use Rattle.draughts_draws.specs.Faults.{IsPlayed}
use Rattle.game_history.proofs.Proved.{last_position-append}
use Rattle.pdn.specs.MoveValue.{move_text}
use Rattle.pdn_games.specs.declared.head.PdnHead.{PdnHead}
use Rattle.pdn_games.specs.declared.game_writer.GameWriter.{GameWriter}
use Rattle.pdn_games.specs.Writing.{ply_text, plies_text, end_text}
use Rattle.pdn_games.specs.internal.Writer.{tags_text, text_up_to, whole_text, HasWritten, AddsMove, BeginsMove}
use Rattle.pdn_games.specs.internal.Writer.{StandsStill}
use Rattle.pdn_games.specs.internal.Writer.{Finishes, BeginsEnd, TagsBeginGames, MovesBeginGames}

-- the text of moves that go on
pub plies-append : (p : Position) (n : ℕ) (ms more : List DMove)
    → plies_text p n (ms ++ more) ≡ plies_text p n ms ++ plies_text (last_position p ms) (n + length ms) more
plies-append p n [] more = ap (λ i. plies_text p i more) (let same : n ≡ n + 0 = omega arith in same)
plies-append p n (k ∷ ms) more =
    let next : Position = play p k in
    let last : Position = last_position next ms in
    let shift : (n + 1) + length ms ≡ n + suc (length ms) = omega arith in
    ap (λ l. ply_text n (move_text p k) ++ l)
    (plies-append next (n + 1) ms more ∙ ap (λ i. plies_text next (n + 1) ms ++ plies_text last i more) shift)
    ∙ sym (append_assoc (ply_text n (move_text p k)) (plies_text next (n + 1) ms) _)

-- the text of one move more
pub plies-then : (p : Position) (ms : List DMove) (m : DMove)
    → plies_text p 0 (ms ++ m ∷ []) ≡ plies_text p 0 ms ++ ply_text (length ms) (move_text (last_position p ms) m)
plies-then p ms m =
    let same : 0 + length ms ≡ length ms = omega arith in
    let last : Position = last_position p ms in
    plies-append p 0 ms (m ∷ []) ∙ ap (λ l. plies_text p 0 ms ++ l)
    (append-nil (ply_text (0 + length ms) (move_text last m)) ∙ ap (λ i. ply_text i (move_text last m)) same)

-- ---- what a writer has

-- what is put into an emptied text is all of it
pub put-alone : {old text bytes : List ℕ} (line : List ℕ) → bytes ≡ text → text ≡ old ++ line → old ≡ []
    → bytes ≡ line
put-alone line value grown empty = value ∙ grown ∙ ap (λ l. l ++ line) empty

-- the line of the next move
abbrev pub line_of : GameWriter → DMove → List ℕ
line_of game m = ply_text game.plies (move_text game.position m)

-- the text grows by that line
pub text-then : (head : PdnHead) (ms : List DMove) (m : DMove) (before held : Option (List ℕ)) (game : GameWriter)
    → HasWritten head ms before held game → text_up_to head ms ++ line_of game m ≡ text_up_to head (ms ++ m ∷ [])
text-then head ms m before held game h =
    let front : List ℕ = plies_text opening 0 ms in
    let there : line_of game m ≡ ply_text (length ms) (move_text (last_position opening ms) m) =
    (λ i. ply_text (h.plies i) (move_text (h.position i) m)) in
    append_assoc (tags_text head) front (line_of game m)
    ∙ ap (λ l. tags_text head ++ l) (ap (λ l. front ++ l) there ∙ sym (plies-then opening ms m))

-- that line was written
pub adds-line : (m : DMove) (old new : GameWriter) (held now : Option (List ℕ)) → new.position ≡ play old.position m
    → new.plies ≡ old.plies + 1 → new.score ≡ old.score → Appends held now (line_of old m) → AddsMove m old new held now
adds-line m old new held now position plies score added = λ head before ms h.
    let one : length (ms ++ m ∷ []) ≡ length ms + 1 = length-append ms (m ∷ []) in
    record {
      written = subst (Appends before now) (text-then head ms m before held old h)
          (Appends-trans before held now (text_up_to head ms) (line_of old m) h.written added);
      position = position ∙ ap (λ p. play p m) h.position ∙ sym (last_position-append play opening ms m);
      plies = plies ∙ ap (λ n. n + 1) h.plies ∙ sym one;
      score = score ∙ h.score;
    }

-- a beginning of it was
pub begins-line : (m : DMove) (game : GameWriter) (held now : Option (List ℕ)) → AppendsSome held now (line_of game m)
    → BeginsMove m game held now
begins-line m game held now some = λ head before ms h.
    subst (AppendsSome before now) (text-then head ms m before held game h)
    (begun-next before held now (text_up_to head ms) (line_of game m) h.written some)

-- the game that the writer has is the same
pub stands_still : (old new : GameWriter) → new.position ≡ old.position → new.plies ≡ old.plies → new.score ≡ old.score
    → StandsStill old new
stands_still old new position plies score =
    λ head before held ms h. record {
      written = h.written;
      position = position ∙ h.position;
      plies = plies
          ∙ h.plies;
      score = score ∙ h.score;
    }

-- the end of a game
abbrev pub last_of : GameWriter → List ℕ
last_of game = end_text game.plies game.score

-- the text ends by it
pub text-end : (head : PdnHead) (ms : List DMove) (before held : Option (List ℕ)) (game : GameWriter)
    → HasWritten head ms before held game → text_up_to head ms ++ last_of game ≡ whole_text head ms
unfolding tags_text whole_text
text-end head ms before held game h =
    append_assoc (tags_text head) (plies_text opening 0 ms) (last_of game)
    ∙ ap (λ l. tags_text head ++ (plies_text opening 0 ms ++ l)) (ap₂ end_text h.plies h.score)

-- the end was written
pub adds-end : (game : GameWriter) (held now : Option (List ℕ)) → Appends held now (last_of game)
    → Finishes game held now
adds-end game held now added = λ head before ms h.
    subst (Appends before now) (text-end head ms before held game h)
    (Appends-trans before held now (text_up_to head ms) (last_of game) h.written added)

-- a beginning of it was
pub begins-end : (game : GameWriter) (held now : Option (List ℕ)) → AppendsSome held now (last_of game)
    → BeginsEnd game held now
begins-end game held now some = λ head before ms h.
    subst (AppendsSome before now) (text-end head ms before held game h)
    (begun-next before held now (text_up_to head ms) (last_of game) h.written some)

-- ---- beginnings of the whole

pub tags-begin : TagsBeginGames
unfolding tags_text whole_text
tags-begin = λ head ms before now some. begun-longer before now (tags_text head)
    (plies_text opening 0 ms ++ end_text (length ms) head.score) some

pub moves-begin : MovesBeginGames
unfolding tags_text whole_text
moves-begin = λ head ms more before now some.
    let all : List DMove = ms ++ more in
    let tags : List ℕ = tags_text head in
    let front : List ℕ = plies_text opening 0 ms in
    let next : List ℕ = plies_text (last_position opening ms) (0 + length ms) more in
    let last : List ℕ = end_text (length all) head.score in
    let goes_on : (tags ++ front) ++ (next ++ last) ≡ whole_text head all =
    append_assoc tags front (next ++ last) ∙ ap (λ l. tags ++ l)
    (sym (append_assoc front next last) ∙ ap (λ l. l ++ last) (sym (plies-append opening 0 ms more))) in
    subst (AppendsSome before now) goes_on (begun-longer before now (tags ++ front) (next ++ last) some)

-- ---- a whole game

-- the first moves and the next one
pub taken-next : (ms : List DMove) (i : ℕ) (m : DMove) → i < length ms → m ≡ get_or ms i m
    → take (i + 1) ms ≡ take i ms ++ m ∷ []
taken-next ms i m h is = take_more ms i m h ∙ ap (λ x. take i ms ++ x ∷ []) (sym is)

-- a beginning of the text up to a move of a game begins the whole text of the game
pub move-begins : (head : PdnHead) (ms : List DMove) (i : ℕ) (m : DMove) (before now : Option (List ℕ)) → i < length ms
    → m ≡ get_or ms i m → AppendsSome before now (text_up_to head (take i ms ++ m ∷ []))
    → AppendsSome before now (whole_text head ms)
move-begins head ms i m before now h is some =
    let front : List DMove = take i ms ++ m ∷ [] in
    let rest : List DMove = drop (i + 1) ms in
    let all : front ++ rest ≡ ms = ap (λ l. l ++ rest) (sym (taken-next ms i m h is)) ∙ take-append-drop (i + 1) ms in
    subst (λ l. AppendsSome before now (whole_text head l)) all (moves-begin head front rest before now some)

-- the next move of a line that is played by the rules is legal
pub next-legal : (ms : List DMove) (i : ℕ) (m : DMove) → i < length ms → m ≡ get_or ms i m
    → IsPlayed opening ms (length ms) → Legal (last_position opening (take i ms)) m
next-legal ms i m h is played = (played i h).legal m (slice_get-get_or ms i m h ∙ ap (λ x. Some x) (sym is))

-- the position after one move more
pub next-position : (ms : List DMove) (i : ℕ) (m : DMove) → i < length ms → m ≡ get_or ms i m
    → last_position opening (take (i + 1) ms) ≡ play (last_position opening (take i ms)) m
next-position ms i m h is =
    ap (last_position opening) (taken-next ms i m h is) ∙ last_position-append play opening (take i ms) m

-- one move more
pub plies-grow : (p : Position) (ms : List DMove) (i : ℕ) (m : DMove) (old new whole : List ℕ) → i < length ms
    → m ≡ get_or ms i m → new ≡ old ++ ply_text i (move_text p m) → old ++ plies_text p i (drop i ms) ≡ whole
    → new ++ plies_text (play p m) (i + 1) (drop (i + 1) ms) ≡ whole
plies-grow p ms i m old new whole h is grown kept =
    let next : drop (suc i) ms ≡ drop (i + 1) ms = ap (λ k. drop k ms) (sym (add-one i)) in
    let here : drop i ms ≡ m ∷ drop (i + 1) ms = drop-cons ms i m h ∙ ap (λ x. x ∷ drop (suc i) ms) (sym is)
    ∙ ap (λ l. m ∷ l) next in
    let rest : List ℕ = plies_text (play p m) (i + 1) (drop (i + 1) ms) in
    ap (λ l. l ++ rest) grown ∙ append_assoc old (ply_text i (move_text p m)) rest
    ∙ ap (λ l. old ++ l) (sym (ap (plies_text p i) here)) ∙ kept

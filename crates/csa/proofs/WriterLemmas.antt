-- A game that is written move by move.
use Rattle.std.proofs.Common.{◌≡◌, ℕ, ◌+◌, ◌<◌, List, [], ◌∷◌, ◌++◌, length, take, drop, get_or, Option}
use Rattle.std.proofs.Common.{append_assoc, append-nil, refl, sym, ap, ap₂, subst, ◌∙◌, take-append-drop}
use Rattle.std.specs.Io.KnownBytes.{Appends}
use Rattle.std.proofs.KnownBytes.{Appends-trans}
use Rattle.std.proofs.lemmas.List.{map-append, take_more}
use Rattle.record_writer.specs.Pieces.{AppendsSome}
use Rattle.record_writer.specs.internal.PieceLaws.{begun-next, begun-longer}
use Rattle.game_history.proofs.Proved.{last_position-append}
use Rattle.squares.specs.declared.shogi.moves.SMove.{SMove}
use Rattle.squares.specs.ShogiSets.{ShogiPosition}
use Rattle.squares.specs.ShogiOpening.{opening}
use Rattle.shogi_moves.specs.Rules.{play}
use Rattle.shogi_repetition.specs.Line.{last_position}
use Rattle.csa.specs.declared.head.CsaHead.{CsaHead}
use Rattle.csa.specs.declared.game_writer.GameWriter.{GameWriter}
use Rattle.csa.specs.internal.BackLaws.{moves_of}
use Rattle.csa.specs.Writing.{entry_text, entries_text, end_text}
use Rattle.csa.specs.internal.Writer.{lines_text, text_up_to, HasBegun, HasWritten, AddsEntry, BeginsEntry, Finishes}
use Rattle.csa.specs.internal.Writer.{BeginsEnd}
use Rattle.csa.specs.internal.Writer.{BeginsGame, LinesBeginGames, MovesBeginGames}
use Rattle.csa.specs.WrittenGame.{IsGameText}

-- the text of moves that go on
pub entries-append : (p : ShogiPosition) (es more : List (SMove × ℕ))
    → entries_text p (es ++ more) ≡ entries_text p es ++ entries_text (last_position p (moves_of es)) more
entries-append p [] more = refl
entries-append p (x ∷ es) more = ap (λ l. entry_text p x.0 x.1 ++ l) (entries-append (play p x.0) es more)
    ∙ sym (append_assoc (entry_text p x.0 x.1) (entries_text (play p x.0) es) _)

-- the text of one entry more
pub entries-then : (p : ShogiPosition) (es : List (SMove × ℕ)) (e : SMove × ℕ)
    → entries_text p (es ++ e ∷ []) ≡ entries_text p es ++ entry_text (last_position p (moves_of es)) e.0 e.1
entries-then p es e = entries-append p es (e ∷ [])
    ∙ ap (λ l. entries_text p es ++ l) (append-nil (entry_text (last_position p (moves_of es)) e.0 e.1))

-- the position after one entry more
pub position-then : (p : ShogiPosition) (es : List (SMove × ℕ)) (e : SMove × ℕ)
    → last_position p (moves_of (es ++ e ∷ [])) ≡ play (last_position p (moves_of es)) e.0
position-then p es e = ap (last_position p) (map-append (λ x. x.0) es (e ∷ []))
    ∙ last_position-append play p (moves_of es) e.0

-- ---- what a writer has

-- the lines of the next move
abbrev pub entry_of : GameWriter → SMove × ℕ → List ℕ
entry_of game e = entry_text game.position e.0 e.1

-- the text grows by those lines
pub text-then : (head : CsaHead) (es : List (SMove × ℕ)) (e : SMove × ℕ) (before held : Option (List ℕ))
    (game : GameWriter) (h : HasWritten head es before held game)
    → text_up_to head es h.at ++ entry_of game e ≡ text_up_to head (es ++ e ∷ []) h.at
text-then head es e before held game h =
    let front : List ℕ = entries_text opening es in
    append_assoc (lines_text head h.at) front (entry_of game e)
    ∙ ap (λ l. lines_text head h.at ++ l) (ap (λ p. front ++ entry_text p e.0 e.1) h.position
    ∙ sym (entries-then opening es e))

-- those lines were written
pub adds-entry : (e : SMove × ℕ) (old new : GameWriter) (held now : Option (List ℕ))
    → new.position ≡ play old.position e.0 → new.end ≡ old.end → Appends held now (entry_of old e)
    → AddsEntry e old new held now
adds-entry e old new held now position end added = λ head before es h. record {
  at = h.at;
  shown = h.shown;
  written = subst (Appends before now) (text-then head es e before held old h)
      (Appends-trans before held now (text_up_to head es h.at) (entry_of old e) h.written added);
  position = position ∙ ap (λ p. play p e.0) h.position ∙ sym (position-then opening es e);
  end = end ∙ h.end;
}

-- a beginning of them was
pub begins-entry : (e : SMove × ℕ) (game : GameWriter) (held now : Option (List ℕ))
    → AppendsSome held now (entry_of game e) → BeginsEntry e game held now
begins-entry e game held now some = λ head before es h. record {
  at = h.at;
  shown = h.shown;
  begun = subst (AppendsSome before now) (text-then head es e before held game h)
      (begun-next before held now (text_up_to head es h.at) (entry_of game e) h.written some);
}

-- the end of a game
abbrev pub last_of : GameWriter → List ℕ
last_of game = end_text game.end game.position.turn

-- with it the text is that of the whole game
whole : (head : CsaHead) (es : List (SMove × ℕ)) (before held : Option (List ℕ)) (game : GameWriter)
    (h : HasWritten head es before held game)
    → IsGameText head.event.now head.black.now head.white.now head.start head.end es
    (text_up_to head es h.at ++ last_of game)
unfolding lines_text
whole head es before held game h =
    record {
      at = h.at;
      shown = h.shown;
      written = ap (λ l. text_up_to head es h.at ++ l) (ap₂ end_text h.end (ap (λ p. p.turn) h.position));
    }

-- the end was written
pub adds-end : (game : GameWriter) (held now : Option (List ℕ)) → Appends held now (last_of game)
    → Finishes game held now
adds-end game held now added = λ head before es h.
    (_, whole head es before held game h, Appends-trans before held now _ (last_of game) h.written added)

-- a beginning of it was
pub begins-end : (game : GameWriter) (held now : Option (List ℕ)) → AppendsSome held now (last_of game)
    → BeginsEnd game held now
begins-end game held now some = λ head before es h.
    (_, whole head es before held game h, begun-next before held now _ (last_of game) h.written some)

-- ---- beginnings of the whole

pub moves-begin : MovesBeginGames
unfolding lines_text
moves-begin = λ head es more before now h.
    let all : List (SMove × ℕ) = es ++ more in
    let lines : List ℕ = lines_text head h.at in
    let front : List ℕ = entries_text opening es in
    let next : List ℕ = entries_text (last_position opening (moves_of es)) more in
    let last : List ℕ = end_text head.end (last_position opening (moves_of all)).turn in
    let goes_on : (lines ++ front) ++ (next ++ last) ≡ (lines ++ entries_text opening all) ++ last =
    simp (entries-append, append_assoc) in (
      (lines ++ entries_text opening all) ++ last,
      record { at = h.at; shown = h.shown; written = refl },
      subst (AppendsSome before now) goes_on (begun-longer before now (lines ++ front) (next ++ last) h.begun),
    )

pub lines-begin : LinesBeginGames
lines-begin = λ head es before now h.
    moves-begin head [] es before now
    (record {
      at = h.at;
      shown = h.shown;
      begun =
          subst (AppendsSome before now) (sym (append-nil (lines_text head h.at))) h.begun;
    })

-- ---- a whole game

-- the first moves and the next one
pub taken-next : (es : List (SMove × ℕ)) (i : ℕ) (e : SMove × ℕ) → i < length es → e ≡ get_or es i e
    → take (i + 1) es ≡ take i es ++ e ∷ []
taken-next es i e h is = take_more es i e h ∙ ap (λ x. take i es ++ x ∷ []) (sym is)

-- a beginning of the text up to a move of a game begins the whole text of the game
pub move-begins : (head : CsaHead) (es : List (SMove × ℕ)) (i : ℕ) (e : SMove × ℕ) (before now : Option (List ℕ))
    → i < length es → e ≡ get_or es i e → HasBegun head.start (text_up_to head (take i es ++ e ∷ [])) before now
    → BeginsGame head es before now
move-begins head es i e before now h is some =
    let front : List (SMove × ℕ) = take i es ++ e ∷ [] in
    let rest : List (SMove × ℕ) = drop (i + 1) es in
    let all : front ++ rest ≡ es = ap (λ l. l ++ rest) (sym (taken-next es i e h is)) ∙ take-append-drop (i + 1) es in
    subst (λ l. BeginsGame head l before now) all (moves-begin head front rest before now some)

-- Analyses: the line of a stored game, and what is answered to texts that are tried.
use Rattle.std.proofs.Common.{◌≡◌, ℕ, zero, suc, ◌+◌, ◌<◌, ◌≤◌, List, [], ◌∷◌, length, map, take, pos, refl, ap, sym, ◌∙◌}
use Rattle.std.proofs.Common.{Bool, true, ◌&&◌, Some, None, Result, Ok, Err, inr, arith}
use Rattle.std.specs.List.{list_all}
use Rattle.std.specs.Prelude.{String, nat_le, slice_get, string_bytes}
use Rattle.std.specs.declared.alloc.Global.{Global}
use Rattle.std.proofs.Math.Seq.{take-length}
use Rattle.std.proofs.lemmas.Bool.{and_parts}
use Rattle.std.proofs.lemmas.Bool.Decides.{nat_tests}
use Rattle.std.proofs.lemmas.List.{length-map, take-map}
use Rattle.std.proofs.lemmas.List.Folds.{list_all-map}
use Rattle.squares.specs.declared.draughts.moves.DMove.{DMove}
use Rattle.squares.specs.declared.shogi.moves.SMove.{SMove}
use Rattle.club_rules.specs.GameRules.{GameRules}
use Rattle.club_rules.specs.Laws.{ReadsBack}
use Rattle.club_rules.specs.Line.{IsLegalLine}
use Rattle.club_rules.specs.declared.names.GameKind.{GameKind}
use Rattle.club_rules.specs.declared.names.GameKind.TheVariants.{Draughts, Shogi}
use Rattle.club_rules.specs.declared.refusals.MoveRefusal.{MoveRefusal}
use Rattle.club_requests.specs.Analysis.{in_game}
use Rattle.club_requests.specs.Limits.{most_text_bytes, most_tried_moves}
use Rattle.club_requests.specs.declared.refusals.Refusal.{Refusal}
use Rattle.club_core.specs.Events.{Terms}
use Rattle.club_core.specs.Game.{Entry, Game, moves_of}
use Rattle.club_core.specs.Legal.{IsLegalGame}
use Rattle.club_core.specs.Rulings.{GivenRuling}
use Rattle.club_core.specs.State.{draughts, shogi, place}
use Rattle.club_analysis.specs.Tried.{IsAnalysis, IsRefusedLine, LineShown}
use Rattle.club_analysis.specs.internal.Line.{IsTriedAs, shown_view}
use Rattle.club_analysis.specs.declared.lines.ShownLine.{ShownLine}
use Rattle.club_rows.specs.Club.{both_games, ClubGame, ClubState, IsClub}
use Rattle.club_rows.specs.Tables.{at_start, move_rows}
use Rattle.club_rows.specs.internal.Replay.{WasReplayed, game_from}
use Rattle.club_rows.specs.declared.replay.Replayed.{Replayed}
use Rattle.club_rows.proofs.Proved.{IsLegalLine-take, in_draughts, in_shogi}
use Rattle.store_tables.specs.Cells.{move_cells}
use Rattle.store_tables.specs.declared.rows.MoveRow.{MoveRow}
use Rattle.club_changes.specs.Steps.{HaveSame}
use Rattle.club_changes.specs.internal.Stored.{IsStoredGame}
use Rattle.club_changes.specs.declared.stored.StoredGame.{StoredGame}
use Rattle.club_changes.proofs.Proved.{stored_as}
use Rattle.club_answers.specs.Analyses.{are_few, is_kind, IsRefusedAt, IsRefusedFor, IsRefusedFrom, IsRefusedIn}
use Rattle.club_answers.specs.Analyses.{IsRefusedInGame, IsRefusedUnlessFew, IsShownAt, IsShownFrom, IsShownIn, IsShownInGame}
use Rattle.club_answers.specs.internal.Analyses.{IsFew, same_kind}
use Rattle.club_analysis.specs.Tried.{notation_from}
use Rattle.club_answers.proofs.RunningLemmas.{written-length}
use Rattle.club_answers.proofs.ViewedLemmas.{texts_are, texts_of}

module _ {P M E T : Type 0} (laws : GameRules P M E T) where
  -- ---- moves and their notation

  -- legal moves that are written alike are alike
  written_once : ReadsBack laws → (p : P) (ms ns : List M) → IsLegalLine laws p ms → IsLegalLine laws p ns
      → notation_from laws p ms ≡ notation_from laws p ns → ms ≡ ns
  written_once back p [] [] one other same = refl
  written_once back p [] (n ∷ ns) one other same = cc
  written_once back p (m ∷ ms) [] one other same = cc
  written_once back p (m ∷ ms) (n ∷ ns) one other same =
      let text : laws.write_move p m ≡ laws.write_move p n = cc in
      let read : ◌≡◌ {A = Result M MoveRefusal} (Ok m) (Ok n) = sym (back p m one.0)
      ∙ (ap (laws.read_move p) text ∙ back p n other.0) in
      let made : m ≡ n = cc in
      let rest : notation_from laws (laws.play p m) ms ≡ notation_from laws (laws.play p n) ns = cc in
      let later : ms ≡ ns = written_once back (laws.play p m) ms ns one.1 (rw (sym made) at other.1)
      (rest ∙ ap (λ q. notation_from laws (laws.play p q) ns) (sym made)) in
      λ i. made i ∷ later i

  written_take : (n : ℕ) (p : P) (ms : List M) → notation_from laws p (take n ms) ≡ take n (notation_from laws p ms)
  written_take zero p ms = refl
  written_take (suc n) p [] = refl
  written_take (suc n) p (m ∷ ms) = ap (λ l. laws.write_move p m ∷ l) (written_take n (laws.play p m) ms)

  -- ---- the rows of a game

  module _ (terms : Terms) (id : ℕ) where
    -- rows that were replayed have the notation of the line
    pub replayed_texts : {R : Type 0} (rulings : List GivenRuling) (from : ℕ) (rows : List MoveRow)
        (replayed : Replayed R P M E T) → WasReplayed laws terms id rulings from rows (length rows) replayed
        → map (λ r. string_bytes r.text) rows ≡ notation_from laws laws.start replayed.line.items
    replayed_texts rulings from rows replayed was =
        let all = ap (map move_cells) (sym (take-length rows)) ∙ was.played.moves in
        texts_of laws terms id (at_start (game_from rulings from was.entries)) was.entries rows all
        ∙ ap (notation_from laws laws.start) (sym was.replays.line)

    module _ (game : Game M) (rows : List MoveRow) (same : HaveSame (map move_cells rows) (move_rows laws terms id game))
        (order : (n : ℕ) (row : MoveRow) → slice_get rows n ≡ Some row → row.ply ≡ pos (1 + n)) where
      -- there is one for each ply
      pub rows_count : length rows ≡ length game.entries
      rows_count = sym (length-map rows (λ (r : MoveRow). string_bytes r.text))
          ∙ ap length (texts_are laws terms id game rows same order)
          ∙ written-length laws terms id laws.start (moves_of game) ∙ length-map game.entries (λ (e : Entry M). e.made)

      -- a line with the notation of the first rows has the first moves of the game
      pub line_is : ReadsBack laws → IsLegalGame laws terms game → (ply : ℕ) (line : List M)
          → IsLegalLine laws laws.start line
          → map (λ r. string_bytes r.text) (take ply rows) ≡ notation_from laws laws.start line
          → line ≡ take ply (moves_of game)
      line_is back legal ply line is_legal told =
          let first = sym told ∙ sym (take-map (λ (r : MoveRow). string_bytes r.text) ply rows)
          ∙ ap (take ply) (texts_are laws terms id game rows same order)
          ∙ sym (written_take ply laws.start (moves_of game)) in
          written_once back laws.start line (take ply (moves_of game)) is_legal
          (IsLegalLine-take laws ply laws.start (moves_of game) legal.line.legal) first

-- ---- answers

-- texts that are not too many, by whether they are short
pub few_is : (texts : List (String Global)) (short : Bool) → length texts ≤ most_tried_moves
    → short ≡ list_all (λ t. nat_le (length (string_bytes t)) most_text_bytes) texts
    → short ≡ are_few (map (λ t. string_bytes t) texts)
few_is texts short few is =
    let same = length-map texts (λ t. string_bytes t) in
    let count : nat_le (length (map (λ t. string_bytes t) texts)) most_tried_moves ≡ true = grind (arith, nat_tests) in
    rw (count, list_all-map (λ text. nat_le (length text) most_text_bytes) (λ t. string_bytes t) texts) is

-- the texts are at most so many
pub few_texts : (texts : List (String Global)) → are_few (map (λ t. string_bytes t) texts) ≡ true
    → length texts ≤ most_tried_moves
few_texts texts few =
    let count = (and_parts (nat_le (length (map (λ t. string_bytes t) texts)) most_tried_moves) _ few).0 in
    let same = length-map texts (λ t. string_bytes t) in
    grind (arith, nat_tests)

-- what is shown, or the refusal, tells less
pub tried_weaker : (P Q : LineShown → Type 0) (W V : Refusal → Type 0) (tried : Result ShownLine Refusal)
    → IsTriedAs P W tried → ((shown : LineShown) → P shown → Q shown) → ((refusal : Refusal) → W refusal → V refusal)
    → IsTriedAs Q V tried
tried_weaker P Q W V (Ok shown) is shows refuses = shows (shown_view shown) is
tried_weaker P Q W V (Err refusal) is shows refuses = refuses refusal is

module _ {P M E T : Type 0} (laws : GameRules P M E T) (texts : List (List ℕ)) (start : P) (moves : List M)
    (tried : Result ShownLine Refusal)
    (is : IsTriedAs (IsAnalysis laws start moves texts) (IsRefusedLine laws start moves texts) tried) where
  -- texts that are tried after the first plies of a game
  pub tried_in_game : (game : Game M) (ply : ℕ) → start ≡ laws.start → ply ≤ length game.entries
      → moves ≡ take ply (moves_of game)
      → IsTriedAs (IsShownInGame laws game ply texts) (IsRefusedInGame laws game ply texts) tried
  tried_in_game game ply first enough same =
      let line = take ply (moves_of game) in
      tried_weaker (IsAnalysis laws laws.start line texts) (IsShownInGame laws game ply texts)
      (IsRefusedLine laws laws.start line texts) (IsRefusedInGame laws game ply texts) tried (rw (first, same) at is)
      (λ shown a. (enough, a)) (λ refusal r. inr (enough, r))

-- ---- the kind of a game

-- the kind of a stored game is the game's
pub kind_is : (s : ClubState) → IsClub s → (id : ℕ) (game : ClubGame) (stored : StoredGame) → place s.games id ≡ Some game
    → IsStoredGame s id game stored → (kind : GameKind) → is_kind kind game ≡ same_kind stored.kind kind
kind_is s is_club id game stored at is kind = by stored.kind refl
  where
    of_draughts : (k : GameKind) (g : Game DMove) → is_kind k (draughts g) ≡ same_kind Draughts k
    of_draughts Draughts g = refl
    of_draughts Shogi g = refl

    of_shogi : (k : GameKind) (g : Game SMove) → is_kind k (shogi g) ≡ same_kind Shogi k
    of_shogi Draughts g = refl
    of_shogi Shogi g = refl

    by : (k : GameKind) → stored.kind ≡ k → is_kind kind game ≡ same_kind k kind
    by Draughts e = let (g, of) = stored_as in_draughts s is_club id game stored at is e in
        rw of.same (of_draughts kind g)
    by Shogi e = let (g, of) = stored_as in_shogi s is_club id game stored at is e in rw of.same (of_shogi kind g)

pub same_kinds : (one other : GameKind) → same_kind one other ≡ true → one ≡ other
same_kinds Draughts Draughts same = refl
same_kinds Draughts Shogi same = cc
same_kinds Shogi Draughts same = cc
same_kinds Shogi Shogi same = refl

-- ---- the query

-- few texts
pub tried_few : (P : LineShown → Type 0) (W : Refusal → Type 0) (texts : List (List ℕ))
    (tried : Result ShownLine Refusal) → are_few texts ≡ true → IsTriedAs P W tried
    → IsTriedAs (IsFew texts P) (IsRefusedUnlessFew texts W) tried
tried_few P W texts tried few is =
    tried_weaker P (IsFew texts P) W (IsRefusedUnlessFew texts W) tried is (λ shown a. (few, a))
    (λ refusal r. inr (few, r))

-- few texts in a game of this kind
pub tried_for : (one kind : GameKind) (game : ClubGame) (ply : ℕ) (texts : List (List ℕ))
    (tried : Result ShownLine Refusal) → one ≡ kind → is_kind kind game ≡ true → are_few texts ≡ true
    → IsTriedAs (IsShownIn one game ply texts) (IsRefusedIn one game ply texts) tried
    → IsTriedAs (IsFew texts (IsShownIn kind game ply texts)) (IsRefusedFor kind game ply texts) tried
tried_for one kind game ply texts tried same own few is =
    tried_weaker (IsShownIn kind game ply texts) (IsFew texts (IsShownIn kind game ply texts))
    (IsRefusedIn kind game ply texts) (IsRefusedFor kind game ply texts) tried (rw same at is) (λ shown a. (few, a))
    (λ refusal r. inr (own, inr (few, r)))

-- by the kind of the game
pub tried_in_draughts : (kind : GameKind) (game : ClubGame) (g : Game DMove) (ply : ℕ) (texts : List (List ℕ))
    (tried : Result ShownLine Refusal) → game ≡ draughts g → kind ≡ Draughts
    → IsTriedAs (IsShownInGame both_games.draughts g ply texts) (IsRefusedInGame both_games.draughts g ply texts) tried
    → IsTriedAs (IsShownIn kind game ply texts) (IsRefusedIn kind game ply texts) tried
tried_in_draughts kind game g ply texts tried same own is = rw (same, own) is

pub tried_in_shogi : (kind : GameKind) (game : ClubGame) (g : Game SMove) (ply : ℕ) (texts : List (List ℕ))
    (tried : Result ShownLine Refusal) → game ≡ shogi g → kind ≡ Shogi
    → IsTriedAs (IsShownInGame both_games.shogi g ply texts) (IsRefusedInGame both_games.shogi g ply texts) tried
    → IsTriedAs (IsShownIn kind game ply texts) (IsRefusedIn kind game ply texts) tried
tried_in_shogi kind game g ply texts tried same own is = rw (same, own) is

-- the game that was found
pub tried_found : (s : ClubState) (kind : GameKind) (id ply : ℕ) (texts : List (List ℕ))
    (tried : Result ShownLine Refusal) (game : ClubGame) → place s.games id ≡ Some game
    → IsTriedAs (IsFew texts (IsShownIn kind game ply texts)) (IsRefusedFor kind game ply texts) tried
    → IsTriedAs (IsFew texts (IsShownAt s kind (in_game id ply) texts)) (IsRefusedAt s kind (in_game id ply) texts) tried
tried_found s kind id ply texts tried game at is =
    tried_weaker (IsFew texts (IsShownIn kind game ply texts)) (IsFew texts (IsShownAt s kind (in_game id ply) texts))
    (IsRefusedFor kind game ply texts) (IsRefusedAt s kind (in_game id ply) texts) tried is
    (λ shown a. (a.0, (game, at, a.1))) (λ refusal r. inr (game, at, r))

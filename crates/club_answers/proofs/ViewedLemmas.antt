-- The rows of a game's moves, and what they tell of the game and of its record.
use Rattle.std.proofs.Common.{◌≡◌, ℕ, zero, suc, ◌+◌, ◌<◌, List, [], ◌∷◌, ◌++◌, length, map, take, drop, pos}
use Rattle.std.proofs.Common.{Option, Some, None, refl, ap, sym, subst, subst₂, ◌∙◌, arith}
use Rattle.std.specs.Prelude.{slice_get, string_bytes}
use Rattle.std.specs.Option.{option_map}
use Rattle.std.proofs.lemmas.Option.{same_Some, slice_get-map}
use Rattle.std.proofs.lemmas.List.{length-take-le, map-append, take-map}
use Rattle.sqlite.specs.declared.types.Value.TheVariants.{Int}
use Rattle.sqlite.specs.Order.{Row, column}
use Rattle.sqlite.specs.State as connection
use Rattle.club_rules.specs.declared.names.GameKind.{GameKind}
use Rattle.club_rules.specs.GameRules.{GameRules}
use Rattle.club_rules.proofs.Proved.{check-at}
use Rattle.club_requests.specs.Limits.{most_plies}
use Rattle.club_requests.specs.declared.outside_end.OutsideEnd.{OutsideEnd}
use Rattle.club_requests.specs.declared.rulings.Verdict.{Verdict}
use Rattle.club_core.specs.Events.{Terms}
use Rattle.club_core.specs.Game.{Entry, Game, moves_of, last_position, end_with, rule_end}
use Rattle.club_core.specs.Legal.{IsLegalGame}
use Rattle.club_core.specs.Rulings.{verdict_of}
use Rattle.club_core.specs.State.{place, terms_at}
use Rattle.club_core.specs.View.{IsRowOf}
use Rattle.club_core.specs.declared.rows.GameEnd.TheVariants.{Outside}
use Rattle.club_core.specs.declared.rows.GameRow.{GameRow}
use Rattle.club_core.proofs.Proved.{last-played}
use Rattle.club_exports.specs.Title.{Title, timed}
use Rattle.club_exports.specs.internal.Written.{FitsMoves, AddsRecord, BeginsRecord}
use Rattle.club_exports.specs.internal.Exported.{IsNextText}
use Rattle.club_rows.specs.Club.{both_games, ClubGame, ClubState, IsClub, StoresClub, tables}
use Rattle.club_rows.specs.internal.Replay.{terms_given}
use Rattle.club_rows.specs.internal.RowView.{row_at}
use Rattle.club_rows.specs.Tables.{number, entry_rows, move_rows, rows_of_moves, at_start, with_entry}
use Rattle.club_rows.proofs.Proved.{Kind, six-parts, rows-from}
use Rattle.store_tables.specs.Cells.{move_cells}
use Rattle.store_tables.specs.declared.rows.MoveRow.{MoveRow}
use Rattle.club_changes.specs.Steps.{HaveSame, IsRecordOf}
use Rattle.club_changes.specs.internal.Steps.{TellsLine, FindsMoveRows, FindsSeenRows}
use Rattle.club_changes.specs.internal.Stored.{IsStoredGame}
use Rattle.club_changes.specs.declared.stored.StoredGame.{StoredGame}
use Rattle.club_changes.proofs.Proved.{of_game, in_table, id_of, ply_is, ids_agree, ids_same, gathered_had, one_line}
use Rattle.club_changes.proofs.Proved.{moves_had, pos_same, stored_as, take_next, tells_moves, tells-seen}
use Rattle.club_reads.specs.internal.Rulings.{FindsVerdict}
use Rattle.club_reads.proofs.Proved.{tells_verdict}
use Rattle.club_answers.specs.Exported.{IsTitleOf}
use Rattle.club_answers.specs.internal.Exported.{AddsNamed, BeginsNamed, IsTitleBy}
use Rattle.club_analysis.specs.Tried.{notation_from}
use Rattle.club_answers.specs.declared.exported.RecordNames.{RecordNames}

-- ---- the rows of a game's moves

module _ {P M E T : Type 0} {laws : GameRules P M E T} {kind : GameKind} (k : Kind laws kind) (s : ClubState) where
  tells_line : (id : ℕ) (g : Game M) → place s.games id ≡ Some (k.into g)
      → TellsLine laws (terms_at (place s.events g.event)) id g (tables s)
  tells_line id g here found those = record {
    there = λ z has.
        let those_z = those.sound z has in
        let (n, x, stands, in_rows) = gathered_had (rows_of_moves both_games s.events) 1 s.games z those_z.0 in
        let first = moves_had both_games s.events (1 + n) x z in_rows in
        of_game k s id g here z those_z.0 (first
        ∙ ap number (ids_same z (number id ∷ []) (1 + n) id first refl those_z.1));
    back = λ z has. those.complete z (in_table k s id g here z has)
        (ids_agree z (number id ∷ []) id (id_of k s id g here z has) refl);
  }

  -- a stored game of this kind, and what the tables tell of it
  pub told_as : IsClub s → (id : ℕ) (game : ClubGame) (stored : StoredGame) → place s.games id ≡ Some game
      → IsStoredGame s id game stored → stored.kind ≡ kind → (g : Game M) × (game ≡ k.into g)
      × (terms_given stored.terms ≡ terms_at (place s.events g.event)) × FindsSeenRows laws stored.id g (tables s)
      × FindsMoveRows laws (terms_given stored.terms) stored.id g (tables s)
      × TellsLine laws (terms_given stored.terms) stored.id g (tables s)
      × ((conn : connection.State) → StoresClub s conn → FindsVerdict stored.id g (tables s) conn)
      × IsRecordOf laws (terms_given stored.terms) stored.id stored.row g
  told_as is_club id game stored at is kind_is = let (g, of) = stored_as k s is_club id game stored at is kind_is in (
    g,
    of.same,
    of.terms,
    subst (λ i. FindsSeenRows laws i g (tables s)) (sym is.id_is) (tells-seen k s id g of.here),
    subst₂ (λ t i. FindsMoveRows laws t i g (tables s)) (sym of.terms) (sym is.id_is) (tells_moves k s id g of.here),
    subst₂ (λ t i. TellsLine laws t i g (tables s)) (sym of.terms) (sym is.id_is) (tells_line id g of.here),
    λ conn stores. subst (λ i. FindsVerdict i g (tables s) conn) (sym is.id_is)
        (tells_verdict k s id g of.here is_club conn stores),
    of.is_row,
  )

-- ---- their order and their texts

module _ {P M E T : Type 0} (laws : GameRules P M E T) (terms : Terms) (id : ℕ) where
  -- the texts of rows of entries, one after another
  pub texts_of : (game : Game M) (es : List (Entry M)) (rows : List MoveRow)
      → map move_cells rows ≡ entry_rows laws terms id game es
      → map (λ r. string_bytes r.text) rows ≡ notation_from laws (last_position laws game) (map (λ e. e.made) es)
  texts_of game [] [] same = refl
  texts_of game (e ∷ es) (r ∷ rows) same =
      let text : string_bytes r.text ≡ laws.write_move (last_position laws game) e.made = cc in
      let rest : map move_cells rows ≡ entry_rows laws terms id (with_entry game e) es = cc in
      let later = rw (last-played laws game e.made e.moment) at (texts_of (with_entry game e) es rows rest) in
      λ i. text i ∷ later i
  texts_of game _ _ same = cc

  -- rows that are the game's, and stand in the order of their plies
  pub texts_are : (game : Game M) (rows : List MoveRow) → HaveSame (map move_cells rows) (move_rows laws terms id game)
      → ((n : ℕ) (row : MoveRow) → slice_get rows n ≡ Some row → row.ply ≡ pos (1 + n))
      → map (λ r. string_bytes r.text) rows ≡ notation_from laws laws.start (moves_of game)
  texts_are game rows same order =
      texts_of (at_start game) game.entries rows
      (one_line 1 (map move_cells rows) (move_rows laws terms id game) (λ n z. at_place n z rows n (order n))
      (λ n z at. let next : suc n ≡ 1 + n = omega arith in ply_is laws terms id game n z at ∙ ap number next) same)
    where
      at_place : (m : ℕ) (z : Row) (rows : List MoveRow) (n : ℕ)
          → ((row : MoveRow) → slice_get rows n ≡ Some row → row.ply ≡ pos (1 + m))
          → slice_get (map move_cells rows) n ≡ Some z → column z 1 ≡ number (1 + m)
      at_place m z [] n order at = cc
      at_place m z (r ∷ rows) zero order at = rw (← same_Some (move_cells r) z at) (ap Int (order r refl))
      at_place m z (r ∷ rows) (suc n) order at = at_place m z rows n order at

-- ---- rows that are read one after another

-- one row more was read: what was read of it is what it tells
pub one_more : {A B C : Type 0} (tells : A → C) (of : B → C) (rows : List A) (i : ℕ) (r : A) (done news : List B)
    (b : B) → map tells (take i rows) ≡ map of done → slice_get rows i ≡ Some r → tells r ≡ of b
    → news ≡ done ++ b ∷ [] → map tells (take (i + 1) rows) ≡ map of news
one_more tells of rows i r done news b so_far here is more =
    rw (more, take_next rows i r here)
    (map-append tells _ _ ∙ ((λ j. so_far j ++ is j ∷ []) ∙ sym (map-append of _ _)))

-- ---- rows as entries of a record

-- a list is what stands before a place, what stands there, and the rest
split-at : {A : Type 0} (xs : List A) (n : ℕ) (x : A) → slice_get xs n ≡ Some x
    → (take n xs ++ x ∷ drop (suc n) xs ≡ xs) × (take n xs ++ x ∷ [] ≡ take (suc n) xs)
split-at [] n x at = cc
split-at (y ∷ ys) zero x at = rw (same_Some y x at) (refl, refl)
split-at (y ∷ ys) (suc n) x at = let (all, more) = split-at ys n x at in (ap (λ l. y ∷ l) all, ap (λ l. y ∷ l) more)

-- a text and a moment are those of the entry of a ply, counted from 0
pub record IsNextEntry {P M E T : Type 0} (rules : GameRules P M E T) (game : Game M) (n : ℕ) (text : List ℕ)
    (moment : ℕ) : Type 0 where
  pub made : M
  pub next : IsNextText rules (take n game.entries) text made
  pub few : length (take n game.entries) < most_plies
  pub whole : take n game.entries ++ record { made = made; moment = moment } ∷ drop (suc n) game.entries ≡ game.entries
  pub more : take n game.entries ++ record { made = made; moment = moment } ∷ [] ≡ take (suc n) game.entries

-- those of its row are
pub entry-row : {P M E T : Type 0} (rules : GameRules P M E T) (terms : Terms) (id : ℕ) (game : Game M)
    → IsLegalGame rules terms game → (n : ℕ) (row : MoveRow) (found : Option MoveRow) (text : List ℕ) (moment : ℕ)
    → n < length game.entries → found ≡ Some row → option_map move_cells found ≡ row_at rules terms id game (suc n)
    → text ≡ string_bytes row.text → pos moment ≡ row.moment → IsNextEntry rules game n text moment
entry-row {M = M} rules terms id game legal n row found text moment low found_is at text_is moment_is =
    let (e, stands, is) = rows-from rules terms id (at_start game) game.entries n (move_cells row)
    (sym at ∙ ap (option_map move_cells) found_is) in
    let parts = six-parts _ _ _ _ _ _ _ _ _ _ _ _ is in
    let made : slice_get (moves_of game) n ≡ Some e.made = rw (slice_get-map, stands) refl in
    let same : moment ≡ e.moment = pos_same _ _ (moment_is ∙ parts.d_is) in
    let count = length-take-le n game.entries (omega (arith, low)) in
    record {
      made = e.made;
      next = record {
        legal = rw (← take-map (λ (x : Entry M). x.made) n game.entries)
            (check-at rules rules.start (moves_of game) n e.made legal.line.legal made);
        written = text_is ∙ parts.c_is;
      };
      few = omega (arith, count, low, legal.plies);
      whole = rw same (split-at game.entries n e stands).0;
      more = rw same (split-at game.entries n e stands).1;
    }

-- ---- what a record says by the row of a game

module _ {P M E T : Type 0} {rules : GameRules P M E T} (IsText : Title E → List (M × ℕ) → List ℕ → Type 0)
    {terms : Terms} {game : Game M} {names : RecordNames} {row : GameRow E} {title : Title E}
    (by : IsTitleBy names row title) (is : IsRowOf rules terms game row) where
  -- it is what it says of the game
  titled : IsTitleOf rules names game title
  titled = record {
    event = by.event;
    first = by.first;
    second = by.second;
    start = by.start ∙ is.start;
    end = by.end ∙ is.end;
    result = by.result ∙ is.result;
  }

  -- the end that it tells of a legal game fits its moves
  pub title-fits : {given : Terms} → IsLegalGame rules given game → FitsMoves rules title (moves_of game)
  title-fits legal declared =
      let may = rw (outside (rule_end rules game) (verdict_of game.rulings) game.outside _
      (sym titled.end ∙ declared)) at legal.outside in
      may.1
    where
      outside : (e : Option E) (v : Option Verdict) (o : Option OutsideEnd) (end : OutsideEnd)
          → end_with e v o ≡ Some (Outside end) → o ≡ Some end
      outside None None (Some o) end told = cc
      outside _ _ _ end told = cc

  -- the seconds of the game's record are counted from its start
  pub begins : (before now : Option (List ℕ)) → BeginsRecord IsText title (timed title.start game.entries) before now
      → BeginsNamed rules IsText names game before now
  begins before now it =
      (title, titled, subst (λ t. BeginsRecord IsText title (timed t game.entries) before now) titled.start it)

  pub adds : (before now : Option (List ℕ)) → AddsRecord IsText title (timed title.start game.entries) before now
      → AddsNamed rules IsText names game before now
  adds before now it =
      (title, titled, subst (λ t. AddsRecord IsText title (timed t game.entries) before now) titled.start it)

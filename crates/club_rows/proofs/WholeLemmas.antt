-- The rows of a game's moves one after another, and what a replay of so many of them shows.
use Rattle.std.proofs.Common.{◌≡◌, ℕ, zero, suc, ◌+◌, ◌-◌, ◌<◌, ◌≤◌, List, [], ◌∷◌, ◌++◌, length, map, take, Some, None}
use Rattle.std.proofs.Common.{Ok}
use Rattle.std.proofs.Common.{refl, ap, sym, ◌∙◌, subst, arith, append_assoc, append-nil, add-one, length-append}
use Rattle.std.specs.Prelude.{slice_get}
use Rattle.std.proofs.lemmas.List.{map-append, length-map, take-map, take_more, length-take-le}
use Rattle.std.proofs.lemmas.Option.{slice_get_within, same_Some, get_or_from_slice_get}
use Rattle.sqlite.specs.Order.{Row}
use Rattle.squares.specs.declared.sides.Side.{Side}
use Rattle.squares.specs.declared.sides.Side.TheVariants.{First}
use Rattle.squares.specs.Sides.{other}
use Rattle.club_rules.specs.GameRules.{GameRules}
use Rattle.club_rules.specs.Line.{IsLegalLine, IsPlayedLine, position_after}
use Rattle.club_rules.proofs.Proved.{check-at}
use Rattle.club_requests.specs.Limits.{last_moment}
use Rattle.club_core.specs.Events.{Terms}
use Rattle.club_core.specs.Game.{Entry, Game, Clocks, spend, spend_all, turns, side_after, clocks_then, moves_of}
use Rattle.club_core.specs.Game.{moments_of, opening_clocks, left_of, last_position, game_at, turn_of, rule_end}
use Rattle.club_core.specs.Game.{after_rulings}
use Rattle.club_core.specs.Legal.{IsTimely}
use Rattle.club_core.specs.Rulings.{GivenRuling}
use Rattle.club_core.proofs.Proved.{AreRules, turn-of-game, IsPlayedLine-append, IsPlayedLine-none}
use Rattle.club_laws.proofs.Proved.{each-append, map-at}
use Rattle.store_tables.specs.Cells.{move_cells}
use Rattle.store_tables.specs.declared.rows.MoveRow.{MoveRow}
use Rattle.club_rows.specs.Tables.{at_start, entry_row, entry_rows, with_entry}
use Rattle.club_rows.specs.Replay.{IsPlayedAs}
use Rattle.club_rows.specs.internal.Replay.{Follows, ReplaysFrom, WasReplayed, game_from}
use Rattle.club_rows.specs.declared.replay.Replayed.{Replayed}
use Rattle.club_rows.proofs.LineLemmas.{IsLegalLine-take, one-text}

-- the moves at those moments being in time, so is each of them
pub timely-at : (increment : ℕ) (rs : List GivenRuling) (plies n : ℕ) (side : Side) (ms : List ℕ) (k m : ℕ) (c : Clocks)
    → n ≡ plies + k → IsTimely increment rs plies side ms c → slice_get ms k ≡ Some m
    → ((after_rulings rs n (spend_all increment rs plies side (take k ms) c)).since ≤ m)
    × (m - (after_rulings rs n (spend_all increment rs plies side (take k ms) c)).since
    ≤ left_of (turns k side) (after_rulings rs n (spend_all increment rs plies side (take k ms) c)))
timely-at increment rs plies n side [] k m c is timely at = cc
timely-at increment rs plies n side (x ∷ ms) zero m c is timely at =
    let e : m ≡ x = sym (same_Some x m at) in
    let here : n ≡ plies = omega (arith, is) in
    rw (e, here) (timely.0, timely.1)
timely-at increment rs plies n side (x ∷ ms) (suc k) m c is timely at =
    timely-at increment rs (suc plies) n (other side) ms k m (spend increment side x (after_rulings rs plies c))
    (omega (arith, is, add-one plies, add-one k)) timely.2 at

-- one more move in time
timely-append : (increment : ℕ) (rs : List GivenRuling) (plies n : ℕ) (side : Side) (ms : List ℕ) (m : ℕ) (c : Clocks)
    → n ≡ plies + length ms → IsTimely increment rs plies side ms c
    → (after_rulings rs n (spend_all increment rs plies side ms c)).since ≤ m
    → m - (after_rulings rs n (spend_all increment rs plies side ms c)).since
    ≤ left_of (turns (length ms) side) (after_rulings rs n (spend_all increment rs plies side ms c))
    → IsTimely increment rs plies side (ms ++ m ∷ []) c
timely-append increment rs plies n side [] m c is timely later in_time =
    let e : n ≡ plies = omega (arith, is) in
    (rw e at later, rw e at in_time, tt)
timely-append increment rs plies n side (x ∷ xs) m c is timely later in_time = (
  timely.0,
  timely.1,
  timely-append increment rs (suc plies) n (other side) xs m (spend increment side x (after_rulings rs plies c))
      (omega (arith, is, add-one plies, add-one (length xs))) timely.2 later in_time,
)

-- the beginning of a list up to an element, and with it
pub take-got : {A : Type 0} (xs : List A) (k : ℕ) (x : A) → slice_get xs k ≡ Some x
    → take (k + 1) xs ≡ take k xs ++ x ∷ []
take-got xs k x at = take_more xs k x (slice_get_within xs k x at)
    ∙ ap (λ y. take k xs ++ y ∷ []) (get_or_from_slice_get xs k x x at)

-- no row is that of a game in which no move was played
pub none-played : {P M E T : Type 0} (rules : GameRules P M E T) (terms : Terms) (id : ℕ) (rulings : List GivenRuling)
    (from : ℕ) → IsPlayedAs rules terms id from [] (game_from rulings from [])
none-played rules terms id rulings from = let line = IsPlayedLine-none rules rules.start in grind (arith, line)

module _ {P M E T : Type 0} (rules : GameRules P M E T) (terms : Terms) (id : ℕ) where
  abbrev pub row_at : List GivenRuling → ℕ → List (Entry M) → Entry M → Row
  row_at rulings start es e = entry_row rules terms id (game_from rulings start es) e

  -- the row at a place is that of the entry there, in the game before it
  pub rows-from : (game : Game M) (es : List (Entry M)) (k : ℕ) (row : Row)
      → slice_get (entry_rows rules terms id game es) k ≡ Some row → (e : Entry M) × (slice_get es k ≡ Some e)
      × (row ≡ row_at game.rulings game.start (game.entries ++ take k es) e)
  rows-from game [] k row at = cc
  rows-from game (e ∷ es) zero row at =
      (e, refl, sym (same_Some _ row at) ∙ ap (λ l. row_at game.rulings game.start l e) (sym (append-nil game.entries)))
  rows-from game (e ∷ es) (suc k) row at =
      let rest = rows-from (with_entry game e) es k row at in
      (rest.0, rest.1, rest.2 ∙ ap (λ l. row_at game.rulings game.start l rest.0) (append_assoc game.entries (e ∷ []) (take k es)))

  -- the rows with one entry more
  pub rows-append : (game : Game M) (es : List (Entry M)) (e : Entry M)
      → entry_rows rules terms id game (es ++ e ∷ []) ≡ entry_rows rules terms id game es
      ++ row_at game.rulings game.start (game.entries ++ es) e ∷ []
  rows-append game [] e = ap (λ l. row_at game.rulings game.start l e ∷ []) (sym (append-nil game.entries))
  rows-append game (x ∷ es) e =
      ap (λ l. entry_row rules terms id game x ∷ l)
      (rows-append (with_entry game x) es e
      ∙ ap (λ l. entry_rows rules terms id (with_entry game x) es ++ row_at game.rulings game.start l e ∷ [])
      (append_assoc game.entries (x ∷ []) es))

  -- two legal entries with one row are one
  entry-only : ((p : P) (m : M) → rules.check p m ≡ Ok tt → rules.read_move p (rules.write_move p m) ≡ Ok m)
      → (game : Game M) (stored : MoveRow) (e f : Entry M) → Follows rules terms id game stored e
      → Follows rules terms id game stored f → e ≡ f
  entry-only reads_back game stored e f one two =
      let made = one-text rules reads_back (last_position rules game) e.made f.made one.legal two.legal in
      grind (arith, made, one.row, two.row)

  module _ (game : Game M) (line : IsPlayedLine rules rules.start (moves_of game)) (k : ℕ) where
    -- the line up to a ply is legal, and so is its move
    pub line-at : IsLegalLine rules rules.start (moves_of (game_at game k))
    line-at = subst (IsLegalLine rules rules.start) (take-map (λ x. x.made) k game.entries)
        (IsLegalLine-take rules k rules.start (moves_of game) line.legal)

    pub legal-at : (m : M) → slice_get (moves_of game) k ≡ Some m
        → rules.check (last_position rules (game_at game k)) m ≡ Ok tt
    legal-at m at = subst (λ l. rules.check (position_after rules rules.start l) m ≡ Ok tt)
        (take-map (λ x. x.made) k game.entries) (check-at rules rules.start (moves_of game) k m line.legal at)

    turn-at : AreRules rules → k < length game.entries → turn_of rules (game_at game k) ≡ side_after k
    turn-at laws inside =
        turn-of-game rules laws.turn_passes laws.first_starts (game_at game k) line-at
        ∙ ap side_after (length-take-le k game.entries (omega arith))

    -- the rules gave no end before the last move
    running-at : k < length game.entries → rule_end rules (game_at game k) ≡ None
    running-at inside =
        let count : length (moves_of game) ≡ length game.entries = simp length-map in
        subst (λ ms. rules.judge rules.start ms ≡ None) (take-map (λ x. x.made) k game.entries)
        (line.unended k (omega (arith, count, inside)))

  module _ (laws : AreRules rules) (rulings : List GivenRuling) (from : ℕ) (rows : List MoveRow) where
    -- nothing was replayed
    pub was-start : {R : Type 0} (replayed : Replayed R P M E T) → ReplaysFrom rules terms rulings from [] replayed
        → WasReplayed rules terms id rulings from rows 0 replayed
    was-start replayed replays =
        record {
          entries = [];
          replays = replays;
          played = none-played rules terms id rulings from;
          count = refl;
          only = λ game same is. refl;
        }

    -- each row of a game's moves is that of an entry that may be played where it stands
    pub played-follows : (game : Game M) (k : ℕ) (row : MoveRow) → game.rulings ≡ rulings
        → IsPlayedAs rules terms id from rows game → slice_get rows k ≡ Some row
        → (e : Entry M) × (slice_get game.entries k ≡ Some e)
        × Follows rules terms id (game_from rulings from (take k game.entries)) row e
    played-follows game k row same is at =
        let cells = rw is.moves at (map-at move_cells rows k row at) in
        let got = rows-from (at_start game) game.entries k (move_cells row) cells in
        let e = got.0 in
        let inside = slice_get_within game.entries k e got.1 in
        let made = map-at (λ (x : Entry M). x.made) game.entries k e got.1 in
        let moment = map-at (λ (x : Entry M). x.moment) game.entries k e got.1 in
        let count : length (take k game.entries) ≡ k = length-take-le k game.entries (omega (arith, inside)) in
        let timely = rw (take-map (λ x. x.moment) k game.entries) at
        (timely-at terms.increment game.rulings 0 (length (take k game.entries)) First (moments_of game) k e.moment
        (opening_clocks game terms) (omega (arith, count)) is.timely moment) in
        let running = running-at game is.line k inside in
        let ok = legal-at game is.line k e.made made in
        let turn = turn-at game is.line k laws inside in
        let later = timely.0 in
        let in_time = timely.1 in (
          e,
          got.1,
          rw (← same, ← is.start) (
              record {
                running = running;
                legal = ok;
                later = later;
                in_time = rw (← turn) at in_time;
                moment = is.moments k e got.1;
                row = got.2;
              }),
        )

    module _ {R : Type 0} where
      -- one row more was replayed
      pub was-more : ((p : P) (m : M) → rules.check p m ≡ Ok tt → rules.read_move p (rules.write_move p m) ≡ Ok m)
          → (plies : ℕ) (old new : Replayed R P M E T) (row : MoveRow) (e : Entry M)
          → (was : WasReplayed rules terms id rulings from rows plies old) → plies < 600
          → slice_get rows plies ≡ Some row → Follows rules terms id (game_from rulings from was.entries) row e
          → ReplaysFrom rules terms rulings from (was.entries ++ e ∷ []) new
          → WasReplayed rules terms id rulings from rows (plies + 1) new
      was-more reads_back plies old new row e was room at follows replays =
          let before = game_from rulings from was.entries in
          let moments : map (λ (x : Entry M). x.moment) (was.entries ++ e ∷ []) ≡ moments_of before ++ e.moment ∷ [] =
          map-append (λ (x : Entry M). x.moment) was.entries (e ∷ []) in
          let made : map (λ (x : Entry M). x.made) (was.entries ++ e ∷ []) ≡ moves_of before ++ e.made ∷ [] =
          map-append (λ (x : Entry M). x.made) was.entries (e ∷ []) in
          let count : length (moments_of before) ≡ length was.entries = simp length-map in
          let turn : turn_of rules before ≡ turns (length (moments_of before)) First =
          turn-of-game rules laws.turn_passes laws.first_starts before was.played.line.legal
          ∙ ap (λ n. turns n First) (sym count) in
          let timely = timely-append terms.increment rulings 0 (length was.entries) First (moments_of before) e.moment
          (opening_clocks before terms) (omega (arith, count)) was.played.timely follows.later
          (rw turn at follows.in_time) in
          let all : length (was.entries ++ e ∷ []) ≡ plies + 1 = length-append was.entries (e ∷ [])
          ∙ ap (λ n. n + 1) was.count in
          record {
            entries = was.entries ++ e ∷ [];
            replays = replays;
            played = record {
              line = rw made
                  (IsPlayedLine-append rules rules.start (moves_of before) e.made was.played.line follows.running
                  follows.legal);
              plies = omega (arith, all, room);
              timely = rw moments timely;
              start = refl;
              moments = each-append (λ x. x.moment ≤ last_moment) was.entries e was.played.moments follows.moment;
              moves = rw (take-got rows plies row at, map-append, was.played.moves, follows.row)
                  (sym (rows-append (game_from rulings from []) was.entries e));
            };
            count = all;
            only = λ game same is.
                let got = played-follows game plies row same is at in
                let earlier = was.only game same is in
                let one = subst (λ es. Follows rules terms id (game_from rulings from es) row got.0) earlier got.2 in
                take-got game.entries plies got.0 got.1
                ∙ (ap (λ l. l ++ got.0 ∷ []) earlier ∙ ap (λ x. was.entries ++ x ∷ [])
                (entry-only reads_back before row got.0 e one follows));
          }

      -- where the next row shows no entry, no game has these rows
      pub was-none : (plies : ℕ) (old : Replayed R P M E T) (row : MoveRow)
          → (was : WasReplayed rules terms id rulings from rows plies old) → slice_get rows plies ≡ Some row
          → ((e : Entry M) → Follows rules terms id (game_from rulings from was.entries) row e → ⊥) → (game : Game M)
          → game.rulings ≡ rulings → IsPlayedAs rules terms id from rows game → ⊥
      was-none plies old row was at none game same is =
          let got = played-follows game plies row same is at in
          none got.0
          (subst (λ es. Follows rules terms id (game_from rulings from es) row got.0) (was.only game same is) got.2)

module _ {P M E T : Type 0} (rules : GameRules P M E T) (terms : Terms) (id : ℕ) where
  pub rows-count : (game : Game M) (es : List (Entry M)) → length (entry_rows rules terms id game es) ≡ length es
  rows-count game [] = refl
  rows-count game (e ∷ es) = ap suc (rows-count (with_entry game e) es)

  -- a legal game has as many rows as plies
  pub played-count : (from : ℕ) (rows : List MoveRow) (game : Game M) → IsPlayedAs rules terms id from rows game
      → length rows ≡ length game.entries
  played-count from rows game is =
      sym (length-map rows move_cells) ∙ (ap length is.moves ∙ rows-count (at_start game) game.entries)

  -- the entries up to one, and with it
  pub entry-more : (game : Game M) (k : ℕ) (e : Entry M) → slice_get game.entries k ≡ Some e
      → take k game.entries ++ e ∷ [] ≡ take (suc k) game.entries
  entry-more game k e at = sym (take-got game.entries k e at) ∙ ap (λ n. take n game.entries) (add-one k)

  -- the seconds that the mover of an entry has after it
  pub entry-left : (laws : AreRules rules) (game : Game M) → IsPlayedLine rules rules.start (moves_of game) → (k : ℕ)
      (e : Entry M) → slice_get game.entries k ≡ Some e
      → left_of (turn_of rules (game_from game.rulings game.start (take k game.entries)))
      (clocks_then (game_from game.rulings game.start (take k game.entries ++ e ∷ [])) terms)
      ≡ left_of (side_after k) (clocks_then (game_at game (suc k)) terms)
  entry-left laws game line k e at =
      rw (turn-at rules terms id game line k laws (slice_get_within game.entries k e at), entry-more game k e at)

-- the rows of a game's moves depend on its start, its entries and its rulings alone
pub rows-alike : {P M E T : Type 0} (rules : GameRules P M E T) (terms : Terms) (id : ℕ) (a b : Game M)
    (es : List (Entry M)) → a.start ≡ b.start → a.rulings ≡ b.rulings → a.entries ≡ b.entries
    → entry_rows rules terms id a es ≡ entry_rows rules terms id b es
rows-alike rules terms id a b [] start rulings entries = refl
rows-alike rules terms id a b (e ∷ es) start rulings entries =
    let head : entry_row rules terms id a e ≡ entry_row rules terms id b e = λ i.
    entry_row rules terms id (game_from (rulings i) (start i) (entries i)) e in
    let tail = rows-alike rules terms id (with_entry a e) (with_entry b e) es start rulings
    (ap (λ l. l ++ e ∷ []) entries) in
    λ i. head i ∷ tail i

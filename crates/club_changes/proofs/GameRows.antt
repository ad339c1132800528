-- What the rows of a game tell, where they are those of a club.
use Rattle.std.proofs.Common.{◌≡◌, ℕ, ◌+◌, ◌<◌, ◌≤◌, List, [], ◌∷◌, length, pos, SFits, w64, Option, Some, None}
use Rattle.std.proofs.Common.{refl, ap, sym, subst, subst₂, ◌∙◌, arith, true≢false}
use Rattle.std.specs.Prelude.{IsSome}
use Rattle.std.proofs.lemmas.Option.{slice_get_within}
use Rattle.std.proofs.lemmas.Int.{ints}
use Rattle.sqlite.specs.declared.types.Value.TheVariants.{Null, Text}
use Rattle.sqlite.specs.Values.{or_null}
use Rattle.sqlite.specs.Order.{Row, column}
use Rattle.sqlite_rules.specs.Lists.{Has}
use Rattle.club_rules.specs.declared.names.GameKind.{GameKind}
use Rattle.club_rules.specs.GameRules.{GameRules}
use Rattle.club_core.specs.Events.{Event}
use Rattle.club_core.specs.Members.{Member}
use Rattle.club_core.specs.declared.seats.KeyedGame.{KeyedGame}
use Rattle.club_core.specs.Game.{Game, clocks_of}
use Rattle.club_core.specs.LegalState.{IsLegalIn}
use Rattle.club_core.specs.Step.{GameCommand, game_step}
use Rattle.club_requests.specs.declared.requests.Caller.{Caller}
use Rattle.club_laws.proofs.Proved.{in-place}
use Rattle.club_rows.specs.internal.Replay.{terms_given}
use Rattle.club_requests.specs.Limits.{last_moment}
use Rattle.club_core.specs.State as club
use Rattle.club_core.specs.State.{place, terms_at, key_of, is_key, has_key, at_found, any_under, keyed_at, keyed_game}
use Rattle.club_core.specs.State.{game_under, pairing_of, on_game}
use Rattle.club_rows.proofs.Proved.{Kind, seen-found}
use Rattle.club_rows.specs.Tables.{number}
use Rattle.store_tables.specs.Cells.{game_cells}
use Rattle.store_tables.specs.internal.Contents.{AreThose}
use Rattle.store_tables.specs.declared.rows.GameTableRow.{GameTableRow}
use Rattle.club_rows.specs.Club.{ClubGame, both_games, ClubState, IsClub, tables}
use Rattle.club_changes.specs.declared.decided.CommandEffect.{CommandEffect}
use Rattle.club_changes.specs.declared.stored.StoredGame.{StoredGame}
use Rattle.club_changes.specs.Steps.{IsRecordOf}
use Rattle.club_changes.specs.internal.Steps.{caller_step, game_in, FindsMoveRows, FindsSeenRows, IsDecided}
use Rattle.club_changes.specs.internal.Steps.{IsDecidedIn}
use Rattle.club_changes.specs.internal.Stored.{IsStoredGame}
use Rattle.club_changes.proofs.NextRows.{first_of_game}
use Rattle.club_changes.proofs.FoundMoves.{tells_moves}
use Rattle.club_changes.proofs.FoundPeople.{AreKeyed, one_found, none_found, id_found, id_missing, no_place}
use Rattle.club_changes.proofs.ClubPlayed.{game_is, place_at, no_later, decided_club}

-- ---- the keys of games

key_column : (s : ClubState) (id : ℕ) (g : ClubGame) → column (game_in s id g) 1 ≡ or_null Text (key_of g)
key_column s id (club.draughts g) = refl
key_column s id (club.shogi g) = refl

-- ---- the game under a key

module _ (s : ClubState) (is_club : IsClub s) (key : List ℕ) where
  games_keyed : AreKeyed (game_in s) 1 key_of key (Null ∷ Text key ∷ []) s.games
  games_keyed =
      record { shows = key_column s; wants = refl; only = λ m n x y. is_club.game_keys m n x y key }

  -- the game of a row that is found for the key stands under it
  pub under_stored : (found : List Row) (z : Row) → AreThose (1 ∷ []) (Null ∷ Text key ∷ []) (tables s 10) found
      → Has found z → (id : ℕ) × (g : ClubGame) × (place s.games id ≡ Some g) × (any_under s.games key ≡ Some g)
      × (game_under s.games key ≡ keyed_game (Some g) id) × (z ≡ game_in s id g)
  under_stored found z those has =
      let (id, g, at, is, found_is) = one_found games_keyed found z those has in
      let under = ap (keyed_at s.games) found_is ∙ ap (λ p. keyed_game p id) at in
      (id, g, at, ap (at_found s.games) found_is ∙ at, under, is)

  pub under_some : (found : List Row) (z : Row) (k : KeyedGame)
      → AreThose (1 ∷ []) (Null ∷ Text key ∷ []) (tables s 10) found → Has found z
      → ((id : ℕ) (g : ClubGame) → z ≡ game_in s id g → Some k ≡ keyed_game (Some g) id)
      → Some k ≡ game_under s.games key
  under_some found z k those has tells =
      let (id, g, at, any, under, is) = under_stored found z those has in tells id g is ∙ sym under

  -- where no row is found, no game stands under the key
  pub none_stored : (found : List Row) → AreThose (1 ∷ []) (Null ∷ Text key ∷ []) (tables s 10) found → found ≡ []
      → any_under s.games key ≡ None
  none_stored found those none = ap (at_found s.games) (none_found games_keyed found those none)

  pub under_none : (found : List Row) → AreThose (1 ∷ []) (Null ∷ Text key ∷ []) (tables s 10) found → found ≡ []
      → game_under s.games key ≡ None
  under_none found those none = ap (keyed_at s.games) (none_found games_keyed found those none)

-- ---- the game of an id

module _ (s : ClubState) (is_club : IsClub s) where
  pub id_some : (id : ℕ) (found : List Row) (z : Row) → AreThose (0 ∷ []) (number id ∷ []) (tables s 10) found
      → Has found z → (g : ClubGame) × (place s.games id ≡ Some g) × (z ≡ game_in s id g)
  id_some id found z those has =
      id_found (game_in s) (first_of_game both_games s.events) s.games id found those z has

  pub id_none : (id : ℕ) (found : List Row) → AreThose (0 ∷ []) (number id ∷ []) (tables s 10) found → found ≡ []
      → place s.games id ≡ None
  id_none id found those none =
      id_missing (game_in s) (first_of_game both_games s.events) s.games id found those none

  -- a number that no column holds is no game's
  pub no_such_number : (id : ℕ) → (SFits w64 (pos id) → ⊥) → place s.games id ≡ None
  no_such_number id past = no_place s.games id (λ n g id_is there.
      let within : n < length s.games = slice_get_within s.games n g there in
      let most : id ≤ 5000 = omega (arith, id_is, within, is_club.game_count) in
      past (omega (arith, ints, most)))

  within_place : {A : Type 0} (xs : List A) (id : ℕ) (o : Option A) → place xs id ≡ o → IsSome o → id ≤ length xs
  within_place xs id None at some = absurd (true≢false (sym some))
  within_place xs id (Some x) at some =
      let (n, id_is, there) = place_at xs id x at in
      let within : n < length xs = slice_get_within xs n x there in
      omega (arith, id_is, within)

  pub is_record : {P M E T : Type 0} {laws : GameRules P M E T} {kind : GameKind} (k : Kind laws kind) (id : ℕ)
      (old : Game M) (row : GameTableRow) → place s.games id ≡ Some (k.into old)
      → game_cells row ≡ game_in s id (k.into old) → IsRecordOf laws (terms_at (place s.events old.event)) id row old
  is_record k id old row at cells =
      let game = game_is k s is_club id old at in
      let id_most = within_place s.games id (Some (k.into old)) at refl in
      let event_most = within_place s.events old.event (Some game.of.event) game.of.in_event refl in
      let first_most = within_place s.members old.first (place s.members old.first) refl game.of.first in
      let second_most = within_place s.members old.second (place s.members old.second) refl game.of.second in
      let last : s.last ≤ last_moment = is_club.last in
      record {
        budget = game.budget;
        increment = game.increment;
        legal = game.legal;
        fits = record {
          id = omega (arith, id_most, is_club.game_count);
          event = omega (arith, event_most, is_club.event_count);
          first = omega (arith, first_most, is_club.member_count);
          second = omega (arith, second_most, is_club.member_count);
          key = game.of.key;
          start = omega (arith, game.of.start, last);
          entries = λ n e stands. let before = game.of.entries n e stands in omega (arith, before, last);
          rulings = λ n r stands. let before = game.of.rulings n r stands in omega (arith, before, last);
        };
        row = cells ∙ k.row s.events id old;
      }

-- ---- a game that is known by its key

keyed_is : (k : KeyedGame) (id : ℕ) (g : ClubGame) → Some k ≡ keyed_game (Some g) id
    → k ≡ record { game = id; pairing = pairing_of g }
keyed_is k id g is = cc

pub ids_read : (k : KeyedGame) (id : ℕ) (g : ClubGame) → Some k ≡ keyed_game (Some g) id → (k.game ≡ id)
    × (k.pairing.event ≡ (pairing_of g).event)
ids_read k id g is = (ap (λ x. x.game) (keyed_is k id g is), ap (λ x. x.pairing.event) (keyed_is k id g is))

pub pairing_same : (k : KeyedGame) (id : ℕ) (g : ClubGame) → Some k ≡ keyed_game (Some g) id → k.pairing ≡ pairing_of g
pairing_same k id g is = ap (λ x. x.pairing) (keyed_is k id g is)

some_of : {A : Type 0} (o : Option A) → IsSome o → (x : A) × (o ≡ Some x)
some_of None some = absurd (true≢false (sym some))
some_of (Some x) some = (x, refl)

-- the event of a game of the club stands, and so do its players
pairing_stands : (s : ClubState) (game : ClubGame) → IsLegalIn both_games s game
    → ((known : Event) × (place s.events (pairing_of game).event ≡ Some known))
    × IsSome (place s.members (pairing_of game).first) × IsSome (place s.members (pairing_of game).second)
pairing_stands s (club.draughts g) legal = ((legal.event, legal.in_event), legal.first, legal.second)
pairing_stands s (club.shogi g) legal = ((legal.event, legal.in_event), legal.first, legal.second)

pub event_stands : (s : ClubState) → IsClub s → (id : ℕ) (game : ClubGame) → place s.games id ≡ Some game
    → (known : Event) × (place s.events (pairing_of game).event ≡ Some known)
event_stands s is_club id game at =
    (pairing_stands s game (in-place (IsLegalIn both_games s) s.games id game is_club.games at)).0

pub players_stand : (s : ClubState) → IsClub s → (id : ℕ) (game : ClubGame) → place s.games id ≡ Some game
    → (first : Member) × (second : Member) × (place s.members (pairing_of game).first ≡ Some first)
    × (place s.members (pairing_of game).second ≡ Some second)
players_stand s is_club id game at =
    let (event, one, two) = pairing_stands s game
    (in-place (IsLegalIn both_games s) s.games id game is_club.games at) in
    let (first, first_at) = some_of _ one in
    let (second, second_at) = some_of _ two in
    (first, second, first_at, second_at)

-- ---- a stored game

-- the stored rows are those of this game of one kind
pub record IsStoredOf {P M E T : Type 0} {laws : GameRules P M E T} {kind : GameKind} (k : Kind laws kind)
    (s : ClubState) (id : ℕ) (game : ClubGame) (stored : StoredGame) (g : Game M) : Type 0 where
  pub same : game ≡ k.into g
  pub here : place s.games id ≡ Some (k.into g)
  pub terms : terms_given stored.terms ≡ terms_at (place s.events g.event)
  pub is_row : IsRecordOf laws (terms_given stored.terms) stored.id stored.row g

pub stored_as : {P M E T : Type 0} {laws : GameRules P M E T} {kind : GameKind} (k : Kind laws kind) (s : ClubState)
    → IsClub s → (id : ℕ) (game : ClubGame) (stored : StoredGame) → place s.games id ≡ Some game
    → IsStoredGame s id game stored → stored.kind ≡ kind
    → (g : Game M) × IsStoredOf k s id game stored g
stored_as {laws = laws} k s is_club id game stored at is kind_is =
    let legal = in-place (IsLegalIn both_games s) s.games id game is_club.games at in
    let (g, same) = k.back s game legal (sym is.kind ∙ kind_is) in
    let here : place s.games id ≡ Some (k.into g) = at ∙ ap Some same in
    let event : (pairing_of game).event ≡ g.event = ap (λ x. (pairing_of x).event) same ∙ k.event g in
    let terms = is.terms ∙ ap (λ e. terms_at (place s.events e)) event in
    let cells : game_cells stored.row ≡ game_in s id (k.into g) = is.row ∙ ap (game_in s id) same in
    let stands : IsStoredOf k s id game stored g = record {
      same = same;
      here = here;
      terms = terms;
      is_row = rw (terms, is.id_is) (is_record s is_club k id g stored.row here cells);
    } in
    (g, stands)

-- the table of positions tells what stood in a game of the club
pub tells-seen : {P M E T : Type 0} {laws : GameRules P M E T} {kind : GameKind} (k : Kind laws kind) (s : ClubState)
    (id : ℕ) (g : Game M) → place s.games id ≡ Some (k.into g) → FindsSeenRows laws id g (tables s)
tells-seen {laws = laws} k s id g here =
    let (n, id_is, at) = place_at s.games id (k.into g) here in
    rw id_is
    (λ text found those. seen-found both_games laws s n (k.into g) g text found at (k.seen (1 + n) g) those)

-- what was decided by the rules of its kind was decided in the club
pub stored_decided : {P M E T : Type 0} {laws : GameRules P M E T} {kind : GameKind} (k : Kind laws kind)
    (s : ClubState) → IsClub s → (id : ℕ) (game : ClubGame) (stored : StoredGame) (moment : ℕ) (who : Caller)
    (command : GameCommand) (d : CommandEffect) → s.last ≤ moment → place s.games id ≡ Some game
    → IsStoredGame s id game stored → stored.kind ≡ kind
    → ((old : Game M) → place s.games stored.id ≡ Some (k.into old) → FindsSeenRows laws stored.id old (tables s)
    → FindsMoveRows laws (terms_given stored.terms) stored.id old (tables s)
    → IsRecordOf laws (terms_given stored.terms) stored.id stored.row old
    → (clocks_of old (terms_given stored.terms)).since ≤ moment
    → IsDecidedIn laws (terms_given stored.terms) stored.id moment (tables s 14) old
    (game_step laws (terms_given stored.terms) old moment who command) d)
    → IsDecided s (caller_step s moment who (on_game id command)) d
stored_decided {laws = laws} k s is_club id game stored moment who command d later at is kind_is step =
    let (g, of) = stored_as k s is_club id game stored at is kind_is in
    let since = no_later k s is_club id g (terms_given stored.terms) of.here in
    let tells = subst (λ i. FindsSeenRows laws i g (tables s)) (sym is.id_is) (tells-seen k s id g of.here) in
    let plays = subst₂ (λ t i. FindsMoveRows laws t i g (tables s)) (sym of.terms) (sym is.id_is)
    (tells_moves k s id g of.here) in
    let there = subst (λ i. place s.games i ≡ Some (k.into g)) (sym is.id_is) of.here in
    let decided = step g there tells plays of.is_row (omega (arith, since, later)) in
    decided_club k s id moment who command g d of.here
    (subst₂ (λ t i. IsDecidedIn laws t i moment (tables s 14) g (game_step laws t g moment who command) d) of.terms
    is.id_is decided)

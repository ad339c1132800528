-- A game of the club that its rows show.
use Rattle.std.proofs.Common.{◌≡◌, ℕ, zero, suc, pos, ◌+◌, ◌<◌, ◌≤◌, List, [], ◌∷◌, length, map, Option, Some}
use Rattle.std.proofs.Common.{Bool, true, refl, ap, sym, subst, ◌∙◌, arith}
use Rattle.std.specs.Prelude.{slice_get, IsSome, int_le}
use Rattle.std.proofs.lemmas.Bool.{and_from, and_parts}
use Rattle.std.proofs.lemmas.Bool.Decides.{nat_tests}
use Rattle.std.proofs.lemmas.Grind.{common_steps}
use Rattle.std.proofs.lemmas.Option.{same_Some, slice_get_cases, slice_get_past}
use Rattle.squares.specs.declared.sides.Side.{Side}
use Rattle.squares.specs.declared.sides.Side.TheVariants.{First}
use Rattle.squares.specs.Sides.{other}
use Rattle.club_rules.specs.declared.names.GameKind.{GameKind}
use Rattle.club_rules.specs.GameRules.{GameRules}
use Rattle.club_core.specs.declared.rows.GameView.{GameView}
use Rattle.club_requests.specs.declared.outside_end.OutsideEnd.{OutsideEnd}
use Rattle.club_requests.specs.Rulings.{verdict_in}
use Rattle.club_core.specs.Events.{Event, Terms}
use Rattle.club_core.specs.Game.{Entry, Game, Clocks, after_rulings, clocks_of, clocks_then, left_of, moments_of}
use Rattle.club_core.specs.Game.{opening_clocks, spend, spend_all, turn_of}
use Rattle.club_core.specs.Rulings.{GivenRuling}
use Rattle.club_core.specs.Legal.{IsTimely, IsLegalGame}
use Rattle.club_core.specs.LegalState.{Each, IsGameOf}
use Rattle.club_core.specs.State.{draughts, shogi, place, kind_at, terms_at}
use Rattle.club_core.specs.View.{IsRowOf, Shows, clocks_in, terms_of}
use Rattle.store_tables.specs.Cells.{event_cells, seen_cells, ruling_cells}
use Rattle.store_tables.specs.internal.Cells.{event_rule_cells, member_cells}
use Rattle.store_tables.specs.declared.rows.EventRow.{EventRow}
use Rattle.store_tables.specs.declared.rows.EventRuleRow.{EventRuleRow}
use Rattle.store_tables.specs.declared.rows.GameTableRow.{GameTableRow}
use Rattle.store_tables.specs.declared.rows.MoveRow.{MoveRow}
use Rattle.store_tables.specs.declared.rows.RulingRow.{RulingRow}
use Rattle.store_tables.specs.declared.rows.Rows.{Rows}
use Rattle.club_audit.specs.Audit.{GivesTerms, EndsBy}
use Rattle.club_audit.specs.internal.Audit.{AreAllOf, AreEvents, HasPeople, NamesEvent, IsWithin, AreRulesOf}
use Rattle.club_audit.specs.internal.Audit.{are_given_by}
use Rattle.club_audit.specs.Audit.{HaveGame, terms_told}
use Rattle.club_audit.specs.internal.Audit.{IsGameAt, NamesRule, SaysDeclares}
use Rattle.club_audit.specs.internal.ChallengeAudit.{IsIdAmong}
use Rattle.club_audit.specs.GameAudit.{HaveAll}
use Rattle.club_audit.specs.internal.GameAudit.{StandsAt}
use Rattle.club_core.proofs.Proved.{since-after}
use Rattle.club_laws.proofs.Proved.{map-at, map-got}
use Rattle.club_rows.specs.EachOnce.{AreEachOnce}
use Rattle.store_tables.specs.declared.rows.SeenRow.{SeenRow}
use Rattle.club_rows.specs.Club.{ClubGame, ClubState, both_games}
use Rattle.club_rows.specs.LegalRows.{AreRowsOf}
use Rattle.club_rows.specs.Tables.{rule_row, event_row, member_row, kind_number, game_row, move_rows}
use Rattle.club_rows.specs.Tables.{kept_by, replaced_by, rows_of_seen, ruling_rows, ruling_rows_from}
use Rattle.club_rows.specs.Seen.{seen_rows}
use Rattle.club_rows.proofs.Proved.{Kind, event_in, in_draughts, in_shogi, kinds-alike, IsToldBy, columns-told}
use Rattle.club_rows.proofs.Proved.{cells-ruling, declares-alike, same-pos, since-rises, spend-since}
use Rattle.club_audit.proofs.PeopleLemmas.{EventParts, event-parts, rule-parts}
use Rattle.club_audit.proofs.PlacedLemmas.{head-is, numbered-at, numbered-back, numbered-length}

-- ---- places

some-within : {A : Type 0} (xs : List A) (n : ℕ) → IsSome (slice_get xs n) → n < length xs
some-within xs n some = grind (arith, common_steps, slice_get_past xs n)

within-some : {A : Type 0} (xs : List A) (n : ℕ) → n < length xs → IsSome (slice_get xs n)
within-some xs n within = grind (arith, common_steps, slice_get_cases xs n)

-- an element of one list has its place where another, as long, has an id
module _ {A B : Type 0} (xs : List A) (ys : List B) (same : length ys ≡ length xs) where
  pub placed-some : (id : ℕ) → IsIdAmong ys id → IsSome (place xs id)
  placed-some zero among = absurd (omega (arith, among.0))
  placed-some (suc n) among = within-some xs n (omega (arith, among.1, same))

  pub some-placed : (id : ℕ) → IsSome (place xs id) → IsIdAmong ys id
  some-placed zero some = cc
  some-placed (suc n) some = (omega arith, let within = some-within xs n some in omega (arith, within, same))

-- the event of whose rules the row tells has declarations as it says
pub rule-known : (events : List Event) (rules : List EventRuleRow) → AreRulesOf events rules → (id : ℕ) (e : Event)
    (rule : EventRuleRow) (declares : Bool) → place events id ≡ Some e → place rules id ≡ Some rule
    → SaysDeclares rule declares → e.terms.declares ≡ declares
rule-known events rules are zero e rule declares at there says = cc
rule-known events rules are (suc n) e rule declares at there says =
    let (known, stands, cells) = numbered-at event_rule_cells rule_row 1 rules events are n rule there in
    let told = rule-parts _ known rule cells in
    declares-alike e.terms.declares declares cc

-- and each event has a row of its rules
pub rule-back : (events : List Event) (rules : List EventRuleRow) → AreRulesOf events rules → (id : ℕ) (e : Event)
    → place events id ≡ Some e → (rule : EventRuleRow) × (place rules id ≡ Some rule)
    × SaysDeclares rule e.terms.declares
rule-back events rules are zero e at = cc
rule-back events rules are (suc n) e at =
    let (rule, stands, cells) = numbered-back event_rule_cells rule_row 1 rules events are n e at in
    (rule, stands, (rule-parts _ e rule cells).1)

module _ (events : List Event) (rows : List EventRow) (are : AreEvents events rows) where
  pub event-at : (id : ℕ) (row : EventRow) → place rows id ≡ Some row → (e : Event) × (place events id ≡ Some e)
      × EventParts e row
  event-at zero row at = cc
  event-at (suc n) row at =
      let (e, stands, cells) = numbered-at event_cells event_row 1 rows events are.rows_are n row at in
      (e, stands, event-parts _ e row cells)

  pub event-back : (id : ℕ) (e : Event) → place events id ≡ Some e → (row : EventRow) × (place rows id ≡ Some row)
      × EventParts e row
  event-back zero e at = cc
  event-back (suc n) e at =
      let (row, stands, cells) = numbered-back event_cells event_row 1 rows events are.rows_are n e at in
      (row, stands, event-parts _ e row cells)

-- ---- moments

each-next : {A : Type 0} (P : A → Type 0) (x : A) (xs : List A) → P x → Each P xs → Each P (x ∷ xs)
each-next P x xs here rest zero y at = subst P (same_Some x y at) here
each-next P x xs here rest (suc n) y at = rest n y at

moments-below : (increment : ℕ) (rs : List GivenRuling) (plies : ℕ) (side : Side) (ms : List ℕ) (c : Clocks)
    → IsTimely increment rs plies side ms c → (n m : ℕ) → slice_get ms n ≡ Some m
    → m ≤ (spend_all increment rs plies side ms c).since
moments-below increment rs plies side [] c timely n m at = cc
moments-below increment rs plies side (x ∷ ms) c timely zero m at =
    let now = after_rulings rs plies c in
    let same : x ≡ m = same_Some x m at in
    let rest = since-rises increment rs (suc plies) (other side) ms (spend increment side x now) timely.2 in
    let here = spend-since increment side x now in
    omega (arith, rest, here, same)
moments-below increment rs plies side (x ∷ ms) c timely (suc n) m at =
    moments-below increment rs (suc plies) (other side) ms (spend increment side x (after_rulings rs plies c)) timely.2 n
    m at

since-within : (increment : ℕ) (rs : List GivenRuling) (plies : ℕ) (side : Side) (ms : List ℕ) (c : Clocks) (last : ℕ)
    → c.since ≤ last → ((n m : ℕ) → slice_get ms n ≡ Some m → m ≤ last)
    → (spend_all increment rs plies side ms c).since ≤ last
since-within increment rs plies side [] c last within each = within
since-within increment rs plies side (m ∷ ms) c last within each =
    let now = after_rulings rs plies c in
    let here = spend-since increment side m now in
    let first = each 0 m refl in
    since-within increment rs (suc plies) (other side) ms (spend increment side m now) last (omega (arith, here, first))
    (λ n x at. each (suc n) x at)

-- the timestamps of rulings are those of their rows
given-by : (last id n : ℕ) (o : Option OutsideEnd) (rs : List GivenRuling) (rows : List RulingRow)
    → map ruling_cells rows ≡ ruling_rows_from id n o rs
    → (are_given_by last rows ≡ true → Each (λ r. r.moment ≤ last) rs)
    × (Each (λ r. r.moment ≤ last) rs → are_given_by last rows ≡ true)
given-by last id n o [] [] are = (λ _ k x at. cc, λ _. refl)
given-by last id n o (r ∷ rs) (row ∷ rows) are =
    let (cells, rest) = head-is _ _ _ _ are in
    let moment = (cells-ruling row id n r (replaced_by (verdict_in r.ruling) o) cells).given.moment_is in
    let (on, back) = given-by last id (suc n) (kept_by (verdict_in r.ruling) o) rs rows rest in (
      λ all.
          let both = and_parts (int_le row.moment (pos last)) (are_given_by last rows) all in
          let test : int_le (pos r.moment) (pos last) ≡ true = rw moment at both.0 in
          each-next (λ x. x.moment ≤ last) r rs (grind (arith, nat_tests, test)) (on both.1),
      λ each.
          let low : r.moment ≤ last = each 0 r refl in
          let test : int_le (pos r.moment) (pos last) ≡ true = grind (arith, nat_tests, low) in
          and_from (int_le row.moment (pos last)) (are_given_by last rows) (rw moment test)
          (back (λ k x at. each (suc k) x at)),
    )
given-by last id n o [] (row ∷ rows) are = cc
given-by last id n o (r ∷ rs) [] are = cc

-- ---- one game by its view

module _ {R P M E T : Type 0} (rules : GameRules P M E T) (terms : Terms) (game : Game M) (view : GameView R P M E T)
    (shows : Shows rules game view) (terms_are : terms_of view ≡ terms) (id : ℕ) (rulings : List RulingRow)
    (rulings_are : map ruling_cells rulings ≡ ruling_rows id game) where
  row-of : IsRowOf rules terms game view.row
  row-of = subst (λ t. IsRowOf rules t game view.row) terms_are shows.row

  since-is : view.row.since ≡ (clocks_of game terms).since
  since-is = ap (λ c. c.since) row-of.clocks

  since-then : (clocks_of game terms).since ≡ (clocks_then game terms).since
  since-then = since-after game.rulings (length game.entries) (clocks_then game terms)

  left-is : left_of (rules.turn view.position) (clocks_in view.row)
      ≡ left_of (turn_of rules game) (clocks_of game terms)
  left-is = λ i. left_of (rules.turn (shows.position i)) (row-of.clocks i)

  -- a game whose view is within the last moment ends by it
  pub ends-by : (last : ℕ) → IsLegalGame rules terms game → IsWithin rules view rulings last → EndsBy rules terms last game
  ends-by last legal within = record {
    start =
        let rises = since-rises terms.increment game.rulings 0 First (moments_of game) (opening_clocks game terms) legal.timely in
        omega (arith, rises, since-is, since-then, within.since);
    entries = λ n e at.
        let below = moments-below terms.increment game.rulings 0 First (moments_of game) (opening_clocks game terms)
        legal.timely n e.moment (map-at (λ (x : Entry M). x.moment) game.entries n e at) in
        omega (arith, below, since-is, since-then, within.since);
    rulings = (given-by last id 1 game.outside game.rulings rulings rulings_are).0 within.given;
    lost_by_time = λ lost.
        let late = within.lost_by_time (row-of.outside ∙ lost) in
        subst (λ n. n < last) (λ i. since-is i + left-is i) late;
  }

  pub view-within : (last : ℕ) → EndsBy rules terms last game → IsWithin rules view rulings last
  view-within last ends = record {
    since =
        let most = since-within terms.increment game.rulings 0 First (moments_of game) (opening_clocks game terms) last ends.start
        (λ n m at. let (e, stands, is) = map-got (λ (e : Entry M). e.moment) game.entries n m at in
        subst (λ k. k ≤ last) is (ends.entries n e stands)) in
        omega (arith, most, since-is, since-then);
    given = (given-by last id 1 game.outside game.rulings rulings rulings_are).1 ends.rulings;
    lost_by_time = λ lost. subst (λ n. n < last) (λ i. sym since-is i + sym left-is i)
        (ends.lost_by_time (sym row-of.outside ∙ lost));
  }

-- ---- a game of the club

terms-are : (e : Event) (row : EventRow) (budget increment : ℕ) (declares : Bool) → EventParts e row
    → GivesTerms row budget increment → e.terms.declares ≡ declares → e.terms ≡ terms_told budget increment declares
terms-are e row budget increment declares parts gives rule =
    let b : e.terms.budget ≡ budget = cc in
    let i : e.terms.increment ≡ increment = cc in
    λ j. record { budget = b j; increment = i j; declares = rule j }

-- the row has the number of this kind
abbrev pub HasKind : EventRow → GameKind → Type 0
HasKind row kind = row.game ≡ pos (kind_number kind)

module _ (s : ClubState) (rows : Rows) (people : HasPeople s rows) (index : ℕ) (row : GameTableRow)
    (moves : List MoveRow) (rulings : List RulingRow) where
  count : length rows.members.items ≡ length s.members
  count = numbered-length member_cells member_row 1 rows.members.items s.members people.members.rows_are

  -- the rows of a game of one kind that is played in an event of this kind are those of a game of the club
  module _ {P M E T : Type 0} {rules : GameRules P M E T} {kind : GameKind} (k : Kind rules kind)
      (event : ℕ) (e : EventRow) (budget increment : ℕ) (declares : Bool) (named : NamesEvent rows row event e)
      (ruled : NamesRule rows row event declares) (gives : GivesTerms e budget increment) (has_kind : HasKind e kind)
      (stands_at : StandsAt rows index row) where
    pub game-stands : (have : HaveGame rules (terms_told budget increment declares) s.last row moves rulings)
        → (have.id ≡ index + 1) × IsGameAt s (index + 1) row moves rulings (k.into have.game)
    game-stands have =
        let terms = terms_told budget increment declares in
        let players = stands_at.players in
        let game = have.game in
        let are = have.are in
        let told : IsToldBy rules have.id game row = columns-told rules terms have.id game row are.row in
        let id_same : have.id ≡ index + 1 = same-pos _ _ (sym told.numbers.id ∙ stands_at.id) in
        let event_same : game.event ≡ event = same-pos _ _ (sym told.numbers.event ∙ named.event_is) in
        let first_same : game.first ≡ stands_at.first = same-pos _ _ (sym told.numbers.first ∙ players.first_is) in
        let second_same : game.second ≡ stands_at.second = same-pos _ _ (sym told.numbers.second ∙ players.second_is) in
        let (known, at, parts) = event-at s.events rows.events.items people.events event e named.row_is in
        let stands : place s.events game.event ≡ Some known = ap (place s.events) event_same ∙ at in
        let same : known.terms ≡ terms = terms-are known e budget increment declares parts gives
        (rule-known s.events rows.event_rules.items people.rules event known ruled.rule declares at ruled.rule_is
        ruled.says) in
        let by : terms_at (place s.events game.event) ≡ terms = ap terms_at stands ∙ same in (
          id_same,
          record {
            legal = k.is_legal s game (record {
              event = known;
              in_event = stands;
              of_kind = kinds-alike known.game kind (same-pos _ _ (sym parts.game_is ∙ has_kind));
              legal = rw same are.legal;
              first = placed-some s.members rows.members.items count game.first (omega arith, omega arith);
              second = placed-some s.members rows.members.items count game.second (omega arith, omega arith);
              key = are.fits.key;
              start = have.within.start;
              entries = have.within.entries;
              rulings = have.within.rulings;
              lost_by_time = rw same have.within.lost_by_time;
            });
            row_is = are.row
                ∙ ((λ i. game_row rules (sym by i) (id_same i) game) ∙ sym (k.row s.events (index + 1) game));
            moves_are = are.moves
                ∙ ((λ i. move_rows rules (sym by i) (id_same i) game) ∙ sym (k.moves s.events (index + 1) game));
            rulings_are = are.rulings ∙ ((λ i. ruling_rows (id_same i) game) ∙ sym (k.rulings (index + 1) game));
          },
        )

    -- and so are all its rows
    pub all-shown : (seen : List SeenRow) → HaveAll rules (terms_told budget increment declares) s.last row moves rulings seen
        → (g : ClubGame) × AreAllOf s (index + 1) row moves rulings seen g
    all-shown seen have =
        let all = game-stands
        (record { id = have.id; game = have.game; are = have.are; within = have.within }) in (
          k.into have.game,
          record {
            at = all.1;
            seen_are =
                subst (AreEachOnce (map seen_cells seen))
                (ap (λ n. seen_rows rules n have.game) all.0 ∙ sym (k.seen (index + 1) have.game)) have.seen_are;
          },
        )

  -- what the rows tell of a game of one kind
  module _ {P M E T : Type 0} {rules : GameRules P M E T} {kind : GameKind} (k : Kind rules kind) (g : Game M)
      (is : IsGameAt s (index + 1) row moves rulings (k.into g)) where
    abbrev pub of-game : IsGameOf rules kind s g
    of-game = k.legal s g is.legal

    told-at : IsToldBy rules (index + 1) g row
    told-at = columns-told rules (terms_at (place s.events g.event)) (index + 1) g row
        (is.row_is ∙ k.row s.events (index + 1) g)

    -- the game's event has a row
    pub names-event : (e : EventRow) × NamesEvent rows row g.event e
    names-event =
        let (e, stands, parts) = event-back s.events rows.events.items people.events g.event of-game.event
        of-game.in_event in
        (e, record { event_is = told-at.numbers.event; row_is = stands })

    -- it has its place, and its players exist
    pub game-stands-at : index < 5000 → StandsAt rows index row
    game-stands-at low =
        let one = some-placed s.members rows.members.items count g.first of-game.first in
        let two = some-placed s.members rows.members.items count g.second of-game.second in
        record {
          low = low;
          id = told-at.numbers.id;
          first = g.first;
          second = g.second;
          players = record {
            first_is = told-at.numbers.first;
            second_is = told-at.numbers.second;
            first_low = one.0;
            first_high = one.1;
            second_low = two.0;
            second_high = two.1;
          };
        }

    module _ (event : ℕ) (e : EventRow) (named : NamesEvent rows row event e) where
      same-id : event ≡ g.event
      same-id = same-pos _ _ (sym named.event_is ∙ told-at.numbers.event)

      -- the row that is named is that of the game's event
      named-parts : EventParts of-game.event e
      named-parts =
          let (known, at, parts) = event-at s.events rows.events.items people.events g.event e (cc same-id) in
          subst (λ x. EventParts x e) (cc of-game.in_event) parts

      module _ (budget increment : ℕ) (declares : Bool) (ruled : NamesRule rows row event declares)
          (gives : GivesTerms e budget increment) where
        known-terms : of-game.event.terms ≡ terms_told budget increment declares
        known-terms =
            terms-are of-game.event e budget increment declares named-parts gives
            (rule-known s.events rows.event_rules.items people.rules g.event of-game.event ruled.rule declares
            of-game.in_event (cc same-id) ruled.says)

        by-terms : terms_at (place s.events g.event) ≡ terms_told budget increment declares
        by-terms = ap terms_at of-game.in_event ∙ known-terms

        -- the rows are those of a legal game by these seconds
        pub rows-of : index < 5000 → s.last ≤ 253402300799
            → AreRowsOf rules (terms_told budget increment declares) (index + 1) row moves rulings g
        rows-of low last =
            let one = some-placed s.members s.members refl g.first of-game.first in
            let two = some-placed s.members s.members refl g.second of-game.second in
            let three = some-placed s.events s.events refl g.event (rw of-game.in_event refl) in
            record {
              budget = gives.has_budget;
              increment = gives.has_increment;
              legal = subst (λ t. IsLegalGame rules t g) known-terms of-game.legal;
              fits = record {
                id = omega (arith, low);
                event = omega (arith, three.1, people.events.count);
                first = omega (arith, one.1, people.members.count);
                second = omega (arith, two.1, people.members.count);
                key = of-game.key;
                start = omega (arith, of-game.start, last);
                entries = λ n x at. let most : x.moment ≤ s.last = of-game.entries n x at in omega (arith, most, last);
                rulings = λ n x at. let most : x.moment ≤ s.last = of-game.rulings n x at in omega (arith, most, last);
              };
              row = is.row_is ∙ (k.row s.events (index + 1) g ∙ ap (λ t. game_row rules t (index + 1) g) by-terms);
              moves = is.moves_are
                  ∙ (k.moves s.events (index + 1) g ∙ ap (λ t. move_rows rules t (index + 1) g) by-terms);
              rulings = is.rulings_are ∙ k.rulings (index + 1) g;
            }

        -- the game ends by the club's last moment
        pub in-time : EndsBy rules (terms_told budget increment declares) s.last g
        in-time = record {
          start = of-game.start;
          entries = of-game.entries;
          rulings = of-game.rulings;
          lost_by_time = rw known-terms at of-game.lost_by_time;
        }

  -- ---- a game of either kind

  pub any-names : (g : ClubGame) → IsGameAt s (index + 1) row moves rulings g → (event : ℕ) × (e : EventRow)
      × NamesEvent rows row event e
  any-names (draughts g) is = let (e, named) = names-event in_draughts g is in (g.event, e, named)
  any-names (shogi g) is = let (e, named) = names-event in_shogi g is in (g.event, e, named)

  pub any-stands : (g : ClubGame) → IsGameAt s (index + 1) row moves rulings g → index < 5000 → StandsAt rows index row
  any-stands (draughts g) is low = game-stands-at in_draughts g is low
  any-stands (shogi g) is low = game-stands-at in_shogi g is low

  module _ (event : ℕ) (e : EventRow) (named : NamesEvent rows row event e) where
    any-event : (g : ClubGame) → IsGameAt s (index + 1) row moves rulings g → (known : Event)
        × (place s.events (event_in g) ≡ Some known) × (e.game ≡ pos (kind_number known.game))
    any-event (draughts g) is =
        (is.legal.event, is.legal.in_event, (named-parts in_draughts g is event e named).game_is)
    any-event (shogi g) is =
        (is.legal.event, is.legal.in_event, (named-parts in_shogi g is event e named).game_is)

    -- in an event of this kind the game is of this kind
    pub game-in : {P M E T : Type 0} {rules : GameRules P M E T} {kind : GameKind} (k : Kind rules kind)
        → (g : ClubGame) → IsGameAt s (index + 1) row moves rulings g → HasKind e kind → (game : Game M) × (g ≡ k.into game)
    game-in {kind = kind} k g is has_kind =
        let (known, at, game_is) = any-event g is in
        k.back s g is.legal (ap kind_at at ∙ kinds-alike known.game kind (same-pos _ _ (sym game_is ∙ has_kind)))

    module _ {P M E T : Type 0} {rules : GameRules P M E T} {kind : GameKind} (k : Kind rules kind)
        (budget increment : ℕ) (declares : Bool) (ruled : NamesRule rows row event declares)
        (gives : GivesTerms e budget increment) (has_kind : HasKind e kind) (low : index < 5000)
        (last : s.last ≤ 253402300799) where
      abbrev had : (game : Game M) → IsGameAt s (index + 1) row moves rulings (k.into game)
          → HaveGame rules (terms_told budget increment declares) s.last row moves rulings
      had game is = record {
        id = index + 1;
        game = game;
        are = rows-of k game is event e named budget increment declares ruled gives low last;
        within = in-time k game is event e named budget increment declares ruled gives;
      }

      -- and its rows are those of a game of this kind
      pub game-had : (g : ClubGame) → IsGameAt s (index + 1) row moves rulings g
          → HaveGame rules (terms_told budget increment declares) s.last row moves rulings
      game-had g is =
          let (game, same) = game-in k g is has_kind in had game (subst (IsGameAt s (index + 1) row moves rulings) same is)

      -- all of them
      pub all-had : (seen : List SeenRow) (g : ClubGame) → AreAllOf s (index + 1) row moves rulings seen g
          → HaveAll rules (terms_told budget increment declares) s.last row moves rulings seen
      all-had seen g is =
          let (game, same) = game-in k g is.at has_kind in
          let have = had game (subst (IsGameAt s (index + 1) row moves rulings) same is.at) in
          record {
            id = index + 1;
            game = game;
            are = have.are;
            within = have.within;
            seen_are =
                subst (AreEachOnce (map seen_cells seen))
                (ap (rows_of_seen both_games (index + 1)) same ∙ k.seen (index + 1) game) is.seen_are;
          }

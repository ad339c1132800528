-- From the tables of one schema to those of a later one with the same state.
use Rattle.std.proofs.Common.{◌≡◌, ◌⊎◌, ◌≤◌, ◌<◌, ◌≢◌, ◌+◌, ◌==◌, Bool, ℕ, suc, pos, true, false, List, [], ◌∷◌, ◌++◌}
use Rattle.std.proofs.Common.{None, map, refl, sym, ap, subst, ◌∙◌, subst₂, arith, inl, inr, le_refl, true≢false}
use Rattle.std.specs.Prelude.{slice_get, if◌then◌else◌}
use Rattle.std.proofs.lemmas.Option.{same_Some}
use Rattle.sqlite.specs.Order.{Row, column}
use Rattle.sqlite.specs.Schema.{Schema}
use Rattle.sqlite.specs.State.{State}
use Rattle.sqlite.specs.Tree.{Trees}
use Rattle.store_tables.specs.internal.Cells.{event_rule_cells, meta_cells}
use Rattle.store_tables.specs.internal.Changed.{widened}
use Rattle.store_tables.specs.Changes.{HaveSame}
use Rattle.store_tables.specs.Contents.{Content}
use Rattle.store_tables.specs.internal.Changes.{Alters, put_rows}
use Rattle.store_tables.specs.internal.Content.{put}
use Rattle.store_tables.specs.internal.Contents.{put_each, put_in}
use Rattle.store_tables.specs.Migrations.{HoldsInVersion, LeavesInVersion}
use Rattle.store_tables.specs.Over.{HoldsClubAmong, LeavesBeside, Neighbours}
use Rattle.store_tables.specs.Tables.{IsServed, schema_number}
use Rattle.store_tables.specs.declared.names.Version.{Version}
use Rattle.store_tables.specs.declared.names.Version.TheVariants.{V1, V2, V3}
use Rattle.store_tables.specs.declared.rows.EventRuleRow.{EventRuleRow}
use Rattle.store_tables.specs.declared.rows.MetaRow.{MetaRow}
use Rattle.store_tables.specs.declared.rows.Rows.{Rows}
use Rattle.sqlite.specs.declared.types.Value.TheVariants.{Int}
use Rattle.store_sql.specs.internal.Widened.{HasNoneAdded}
use Rattle.club_check.specs.internal.Places.{IsRegisterOf}
use Rattle.store_tables.proofs.Proved.{altered, each_at, holds_itself, leaves_itself, same_by, same_itself}
use Rattle.club_changes.proofs.Proved.{◌&◌, ids_agree, ids_same, numbered_had}
use Rattle.club_changes.specs.internal.Steps.{AreSame}
use Rattle.club_core.specs.Events.{Event}
use Rattle.club_core.specs.LegalState.{Each, IsLegalChallenge}
use Rattle.club_core.specs.Members.{Member}
use Rattle.club_core.specs.State.{draughts, rulings_of, shogi}
use Rattle.club_core.specs.declared.challenges.Challenge.{Challenge}
use Rattle.club_core.specs.LegalState.{IsLegalIn}
use Rattle.club_rows.specs.Club.{ClubGame, ClubState, IsClub, both_games, tables}
use Rattle.club_rows.specs.FirstSchema.{IsClubOf, first_tables, tables_at, upgraded_to}
use Rattle.club_rows.specs.Tables.{gathered_from, key_row, meta_row, numbered_from, rows_of_closing, rows_of_keys}
use Rattle.club_rows.specs.Tables.{closing_row, rows_of_rulings, rule_row, ruling_rows_from}
use Rattle.club_rows.proofs.Proved.{version-without}
use Rattle.std.specs.Option.{option_map, option_to_list}
use Rattle.store.specs.Histories.{HistoryStep, IsHistory, IsReachableIn, Place, upgraded}
use Rattle.store.specs.Upgrades.{uses_names_of}
use Rattle.store.proofs.HistoryLemmas.{at_state, leads_then, tables_served}

-- ---- the tables

-- the rules of all events are put into a table that has none
rules_put : (events : List Event)
    → Alters (0 ∷ []) (numbered_from rule_row 1 events) [] (numbered_from rule_row 1 events)
rules_put events = record {
  among = λ z h. h;
  from = λ z h. inr h;
  stays = λ z h. absurd h;
  one = λ x y has_x has_y same.
      let (n, a, at_a, x_is) = numbered_had rule_row 1 events x has_x in
      let (m, b, at_b, y_is) = numbered_had rule_row 1 events y has_y in
      let alike : 1 + n ≡ 1 + m = ids_same x y (1 + n) (1 + m) (ap (λ w. column w 0) x_is)
      (ap (λ w. column w 0) y_is) same in
      let here : n ≡ m = omega (arith, alike) in
      let event : a ≡ b = same_Some a b (sym at_a ∙ (ap (slice_get events) here ∙ at_b)) in
      x_is ∙ ((λ i. rule_row (1 + here i) (event i)) ∙ sym y_is);
}

only : {row x : Row} → (x ≡ row) ⊎ ⊥ → x ≡ row
only (inl is) = is
only (inr none) = absurd none

-- the row of `meta` is put for the one that is there
meta_put : (one other last : ℕ)
    → Alters (0 ∷ []) (meta_row other last ∷ []) (meta_row one last ∷ []) (meta_row other last ∷ [])
meta_put one other last = record {
  among = λ z h. h;
  from = λ z h. inr h;
  stays = λ z h.
      inr (meta_row other last, inl refl, ids_agree z (meta_row other last) 1 (ap (λ w. column w 0) (only h)) refl);
  one = λ x y has_x has_y same. only has_x ∙ sym (only has_y);
}

-- These rules and this row of `meta`, put into the tables of one schema, make those of another that has the same rows
-- in its other tables.
all_put : (one other last : ℕ) (rules : List Row) (old new : Content) → old 0 ≡ meta_row one last ∷ []
    → new 0 ≡ meta_row other last ∷ [] → HaveSame (put_rows (0 ∷ []) rules (old 16)) (new 16)
    → ((t : ℕ) → (t == 0) ≡ false → (t == 16) ≡ false → ◌≡◌ {A = List Row} (old t) (new t))
    → AreSame (put_in 0 (0 ∷ []) (meta_row other last) (put_each 16 (0 ∷ []) rules old)) new
all_put one other last rules old new first later ruled stays =
    let at = each_at (0 ∷ []) 16 rules old in
    let meta = altered (0 ∷ []) (meta_row other last ∷ []) (meta_row one last ∷ []) (meta_row other last ∷ [])
    (meta_put one other last) in
    subst₂ (λ l r. HaveSame (put (0 ∷ []) (meta_row other last) l) r) (sym (at 0 ∙ first)) (sym later) meta
    & same_by _ _ (at 1 ∙ stays 1 refl refl)
    & same_by _ _ (at 4 ∙ stays 4 refl refl)
    & same_by _ _ (at 6 ∙ stays 6 refl refl)
    & same_by _ _ (at 8 ∙ stays 8 refl refl)
    & same_by _ _ (at 10 ∙ stays 10 refl refl)
    & same_by _ _ (at 12 ∙ stays 12 refl refl)
    & same_by _ _ (at 14 ∙ stays 14 refl refl)
    & subst (λ l. HaveSame l (new 16)) (sym (at 16)) ruled
    & same_by _ _ (at 17 ∙ stays 17 refl refl)
    & same_by _ _ (at 20 ∙ stays 20 refl refl)
    & same_by _ _ (at 22 ∙ stays 22 refl refl)
    & tt

past : (test : Bool) (one other rows : List Row) → test ≡ false
    → ◌≡◌ {A = List Row} (if test then one else rows) (if test then other else rows)
past true one other rows is = absurd (true≢false is)
past false one other rows is = refl

past_two : (test second : Bool) (one other rows : List Row) → test ≡ false → second ≡ false
    → ◌≡◌ {A = List Row} (if test then one else (if second then [] else if test then other else rows))
    (if test then other else rows)
past_two true second one other rows is both = absurd (true≢false is)
past_two false true one other rows is both = absurd (true≢false both)
past_two false false one other rows is both = refl

-- an arbiter changes only the row of `meta`
arbiter_past : (s : ClubState) (t : ℕ) → (t == 0) ≡ false
    → ◌≡◌ {A = List Row} (tables s t) (tables (record s { has_arbiter = true }) t)
arbiter_past s t is = past (t == 0) _ _ _ is

first_past : (s : ClubState) (t : ℕ) → (t == 0) ≡ false → (t == 16) ≡ false
    → ◌≡◌ {A = List Row} (first_tables s t) (tables s t)
first_past s t is other = past_two (t == 0) (t == 16) _ _ _ is other

meta_of_second : (s : ClubState) → s.has_arbiter ≡ false → tables s 0 ≡ meta_row 2 s.last ∷ []
meta_of_second s none = ap (λ v. meta_row (schema_number v) s.last ∷ []) (version-without s none)

-- the rows that a migration puts
abbrev rules_of : Version → ClubState → List Row
rules_of V1 s = numbered_from rule_row 1 s.events
rules_of version s = []

tables_put : (from to : Version) (s : ClubState) → IsClubOf from s → schema_number from < schema_number to
    → AreSame
    (put_in 0 (0 ∷ []) (meta_row (schema_number to) s.last) (put_each 16 (0 ∷ []) (rules_of from s) (tables_at from s)))
    (tables (upgraded_to to s))
tables_put V1 V2 s own less =
    all_put 1 2 s.last (numbered_from rule_row 1 s.events) (first_tables s) (tables s) refl
    (meta_of_second s own.no_arbiter)
    (altered (0 ∷ []) (numbered_from rule_row 1 s.events) [] (numbered_from rule_row 1 s.events) (rules_put s.events))
    (λ t is other. first_past s t is other)
tables_put V1 V3 s own less =
    all_put 1 3 s.last (numbered_from rule_row 1 s.events) (first_tables s) (tables (record s { has_arbiter = true }))
    refl refl
    (altered (0 ∷ []) (numbered_from rule_row 1 s.events) [] (numbered_from rule_row 1 s.events) (rules_put s.events))
    (λ t is other. first_past s t is other ∙ arbiter_past s t is)
tables_put V2 V3 s own less =
    all_put 2 3 s.last [] (tables s) (tables (record s { has_arbiter = true })) (meta_of_second s own.1) refl
    (same_itself (numbered_from rule_row 1 s.events)) (λ t is other. arbiter_past s t is)
tables_put V1 V1 s own less = absurd (omega (arith, less))
tables_put V2 V1 s own less = absurd (omega (arith, less))
tables_put V2 V2 s own less = absurd (omega (arith, less))
tables_put V3 V1 s own less = absurd (omega (arith, less))
tables_put V3 V2 s own less = absurd (omega (arith, less))
tables_put V3 V3 s own less = absurd (omega (arith, less))

-- those that were read of the club are these
rules_read : (from : Version) (s : ClubState) (found : Rows) (rules : List EventRuleRow) → IsRegisterOf s found
    → (from ≡ V1 → rules ≡ found.event_rules.items) → (from ≢ V1 → rules ≡ [])
    → map event_rule_cells rules ≡ rules_of from s
rules_read V1 s found rules register first later = ap (map event_rule_cells) (first refl) ∙ register.rules
rules_read V2 s found rules register first later = ap (map event_rule_cells) (later (λ is. absurd (let x = is in cc)))
rules_read V3 s found rules register first later = ap (map event_rule_cells) (later (λ is. absurd (let x = is in cc)))

-- A migration makes the tables of the later schema with the rules and the row of `meta` that were read of the club.
pub found_widened : (from to : Version) (s : ClubState) → IsClubOf from s → schema_number from < schema_number to
    → (found : Rows) (rules : List EventRuleRow) (meta : MetaRow) → IsRegisterOf s found
    → (from ≡ V1 → rules ≡ found.event_rules.items) → (from ≢ V1 → rules ≡ [])
    → meta_cells meta ≡ Int (pos 1) ∷ Int (pos (schema_number to)) ∷ Int found.meta.last ∷ []
    → AreSame (widened rules meta (tables_at from s)) (tables (upgraded_to to s))
found_widened from to s own less found rules meta register first later cells =
    let rules_are = rules_read from s found rules register first later in
    let meta_is = cells ∙ ap (λ n. Int (pos 1) ∷ Int (pos (schema_number to)) ∷ Int n ∷ []) register.last in
    subst₂ (λ l r. AreSame (put_in 0 (0 ∷ []) r (put_each 16 (0 ∷ []) l (tables_at from s))) (tables (upgraded_to to s)))
    (sym rules_are) (sym meta_is) (tables_put from to s own less)

-- ---- what an earlier schema does not hold

no_keys : (n : ℕ) (members : List Member) → Each (λ m. m.later ≡ []) members
    → gathered_from rows_of_keys n members ≡ []
no_keys n [] none = refl
no_keys n (m ∷ members) none =
    let here = none 0 m refl in
    λ i. numbered_from (key_row n) 1 (here i) ++ no_keys (suc n) members (λ k x at. none (suc k) x at) i

no_closings : (n : ℕ) (events : List Event) → Each (λ e. e.closed ≡ None) events
    → gathered_from rows_of_closing n events ≡ []
no_closings n [] none = refl
no_closings n (e ∷ events) none =
    let here = none 0 e refl in
    λ i. option_to_list (option_map (closing_row n) (here i))
    ++ no_closings (suc n) events (λ k x at. none (suc k) x at) i

no_rulings : (n : ℕ) (games : List ClubGame) → Each (λ g. rulings_of g ≡ []) games
    → gathered_from rows_of_rulings n games ≡ []
no_rulings n [] none = refl
no_rulings n (draughts g ∷ games) none =
    let here : g.rulings ≡ [] = none 0 (draughts g) refl in
    λ i. ruling_rows_from n 1 g.outside (here i) ++ no_rulings (suc n) games (λ k x at. none (suc k) x at) i
no_rulings n (shogi g ∷ games) none =
    let here : g.rulings ≡ [] = none 0 (shogi g) refl in
    λ i. ruling_rows_from n 1 g.outside (here i) ++ no_rulings (suc n) games (λ k x at. none (suc k) x at) i

pub none_added : (from to : Version) (s : ClubState) → IsClubOf from s → schema_number from < schema_number to
    → HasNoneAdded from to (tables_at from s)
none_added V1 V2 s own less = (refl, tt)
none_added V1 V3 s own less =
    let without = own.club.without_arbiter own.no_arbiter in (
      refl,
      (
        no_keys 1 s.members without.keys,
        (no_rulings 1 s.games without.games, (no_closings 1 s.events without.events, tt)),
      ),
    )
none_added V2 V3 s own less =
    let without = own.0.without_arbiter own.1 in (
      no_keys 1 s.members without.keys,
      (no_rulings 1 s.games without.games, (no_closings 1 s.events without.events, tt)),
    )
none_added V1 V1 s own less = absurd (omega (arith, less))
none_added V2 V1 s own less = absurd (omega (arith, less))
none_added V2 V2 s own less = absurd (omega (arith, less))
none_added V3 V1 s own less = absurd (omega (arith, less))
none_added V3 V2 s own less = absurd (omega (arith, less))
none_added V3 V3 s own less = absurd (omega (arith, less))

-- ---- a club that gets an arbiter

game_kept : (s : ClubState) (g : ClubGame) → IsLegalIn both_games s g
    → IsLegalIn both_games (record s { has_arbiter = true }) g
game_kept s (draughts g) k = record {
  event = k.event;
  in_event = k.in_event;
  of_kind = k.of_kind;
  legal = k.legal;
  first = k.first;
  second = k.second;
  key = k.key;
  start = k.start;
  entries = k.entries;
  rulings = k.rulings;
  lost_by_time = k.lost_by_time;
}
game_kept s (shogi g) k = record {
  event = k.event;
  in_event = k.in_event;
  of_kind = k.of_kind;
  legal = k.legal;
  first = k.first;
  second = k.second;
  key = k.key;
  start = k.start;
  entries = k.entries;
  rulings = k.rulings;
  lost_by_time = k.lost_by_time;
}

challenge_kept : (s : ClubState) (c : Challenge) → IsLegalChallenge s c
    → IsLegalChallenge (record s { has_arbiter = true }) c
challenge_kept s c k = record {
  number = k.number;
  member = k.member;
  other = k.other;
  apart = k.apart;
  event = k.event;
  accepted = k.accepted;
}

arbiter_given : (s : ClubState) → IsClub s → IsClub (record s { has_arbiter = true })
arbiter_given s club = record {
  last = club.last;
  members = club.members;
  member_count = club.member_count;
  member_names = club.member_names;
  member_keys = club.member_keys;
  events = club.events;
  event_count = club.event_count;
  event_names = club.event_names;
  closings = club.closings;
  games = λ n g at. game_kept s g (club.games n g at);
  game_count = club.game_count;
  game_keys = club.game_keys;
  challenges = λ n c at. challenge_kept s c (club.challenges n c at);
  challenge_numbers = club.challenge_numbers;
  without_arbiter = λ none. absurd (true≢false none);
}

-- the upgraded club is one of the later version
pub upgraded_legal : (from to : Version) (s : ClubState) → IsClubOf from s → schema_number from < schema_number to
    → IsClubOf to (upgraded_to to s)
upgraded_legal V1 V2 s own less = (own.club, own.no_arbiter)
upgraded_legal V1 V3 s own less = (arbiter_given s own.club, refl)
upgraded_legal V2 V3 s own less = (arbiter_given s own.0, refl)
upgraded_legal V1 V1 s own less = absurd (omega (arith, less))
upgraded_legal V2 V1 s own less = absurd (omega (arith, less))
upgraded_legal V2 V2 s own less = absurd (omega (arith, less))
upgraded_legal V3 V1 s own less = absurd (omega (arith, less))
upgraded_legal V3 V2 s own less = absurd (omega (arith, less))
upgraded_legal V3 V3 s own less = absurd (omega (arith, less))

-- A club of a version stays as it is where that version is asked for.
pub upgraded_itself : (version : Version) (s : ClubState) → IsClubOf version s → upgraded_to version s ≡ s
upgraded_itself V1 s own = refl
upgraded_itself V2 s own = refl
upgraded_itself V3 s own = λ i. record s { has_arbiter = sym own.1 i }

-- a version that is no later than the requested one, which is served, is not earlier than schema 2
pub serves_from : (to version : Version) → IsServed to → schema_number to ≤ schema_number version → IsServed version
serves_from V1 version serves less = absurd (true≢false (sym serves))
serves_from V2 V1 serves less = absurd (omega (arith, less))
serves_from V3 V1 serves less = absurd (omega (arith, less))
serves_from to V2 serves less = refl
serves_from to V3 serves less = refl

-- A version that needs no migration is no earlier one.
pub not_before : {one other : Version} (to : Version) → one ≡ other → schema_number to ≤ schema_number one
    → schema_number other < schema_number to → ⊥
not_before to is reached less = let same = ap schema_number is in omega (arith, same, reached, less)

-- A version that is earlier than the requested one is the one that was found.
pub sooner : {one other : Version} (to : Version) → one ≡ other → schema_number one < schema_number to
    → schema_number other < schema_number to
sooner to is less = let same = ap schema_number is in omega (arith, same, less)

-- where a name of schema 3 is in the way, the version asked for is the one that was found
pub used_reached : (to found : Version) (schema : Schema) → uses_names_of to schema ≡ true
    → schema_number to ≤ schema_number found → found ≡ to
used_reached V1 found schema used reached = absurd (true≢false (sym used))
used_reached V2 found schema used reached = absurd (true≢false (sym used))
used_reached V3 V1 schema used reached = absurd (omega (arith, reached))
used_reached V3 V2 schema used reached = absurd (omega (arith, reached))
used_reached V3 V3 schema used reached = refl

-- no version is later than schema 3, and none that the program serves is earlier than schema 2
pub last_reached : {found : Version} (to : Version) → found ≡ V3 → schema_number found < schema_number to → ⊥
last_reached V1 is less = let same = ap schema_number is in omega (arith, same, less)
last_reached V2 is less = let same = ap schema_number is in omega (arith, same, less)
last_reached V3 is less = let same = ap schema_number is in omega (arith, same, less)

pub served_before : (found to : Version) → to ≡ V2 → IsServed found → schema_number found < schema_number to → ⊥
served_before V1 to is serves less = true≢false (sym serves)
served_before V2 to is serves less = let same = ap schema_number is in omega (arith, same, less)
served_before V3 to is serves less = let same = ap schema_number is in omega (arith, same, less)

-- the tables of a later schema that a migration made
pub tables_later : (to : Version) → IsServed to → (them : Neighbours) (u : ClubState) (s : State) → them.version ≡ to
    → HoldsClubAmong them (tables u) s → HoldsInVersion to them (tables_at to u) s
tables_later to serves them u s is k =
    holds_itself to them (tables_at to u) s is
    (subst (λ (rows : Content). HoldsClubAmong them rows s) (sym (tables_served to serves u)) k)

pub left_later : (to : Version) → IsServed to → (them : Neighbours) (u : ClubState) (db : Trees) → them.version ≡ to
    → LeavesBeside them (tables u) db → LeavesInVersion to them (tables_at to u) db
left_later to serves them u db is k =
    leaves_itself to them (tables_at to u) db is
    (subst (λ (rows : Content). LeavesBeside them rows db) (sym (tables_served to serves u)) k)

-- ---- histories

-- an upgrade that was answered leads to its version
pub upgraded_stands : {from : Version} (version to : Version) {them : Neighbours} {chapters : List HistoryStep}
    {old new : State} → (at : IsHistory from version them chapters old) → schema_number version < schema_number to
    → HoldsInVersion to them (tables_at to (upgraded_to to at.after)) new
    → IsHistory from to them (chapters ++ upgraded to true ∷ []) new
upgraded_stands version to at less exactly = record {
  after = upgraded_to to at.after;
  legal = upgraded_legal version to at.after at.legal less;
  leads = leads_then _ _ (at_state to (upgraded_to to at.after)) _ (upgraded to true) at.leads
      (record { later = omega (arith, less); place = inl refl });
  exactly = exactly;
}

-- one that found its version, too
pub found_stands : {from version : Version} {them : Neighbours} {chapters : List HistoryStep} {now : State}
    → IsHistory from version them chapters now → IsHistory from version them (chapters ++ upgraded version true ∷ []) now
found_stands {version = version} at = record {
  after = at.after;
  legal = at.legal;
  leads = leads_then _ _ (at_state version at.after) _ (upgraded version true) at.leads (record {
    later = le_refl (schema_number version);
    place = inl (ap (at_state version) (sym (upgraded_itself version at.after at.legal)));
  });
  exactly = at.exactly;
}

-- one that was cut off leads to it, or stays where it was
pub upgrade_stays : {from : Version} (version to : Version) {them : Neighbours} {chapters : List HistoryStep}
    {old : State} {db : Trees} → (at : IsHistory from version them chapters old)
    → schema_number version ≤ schema_number to → LeavesInVersion version them (tables_at version at.after) db
    → IsReachableIn from (version ∷ to ∷ []) them (chapters ++ upgraded to false ∷ []) db
upgrade_stays version to at later before =
    let stays : Place = at_state version at.after in
    record {
      version = version;
      among = inl refl;
      reached = record {
        after = at.after;
        legal = at.legal;
        leads = leads_then _ stays stays _ (upgraded to false) at.leads
            (record { later = later; place = inr (refl, refl) });
        leaves = before;
      };
    }

pub upgraded_cut : {from : Version} (version to : Version) {them : Neighbours} {chapters : List HistoryStep}
    {old : State} {db : Trees} → (at : IsHistory from version them chapters old)
    → schema_number version < schema_number to → LeavesInVersion to them (tables_at to (upgraded_to to at.after)) db
    → IsReachableIn from (version ∷ to ∷ []) them (chapters ++ upgraded to false ∷ []) db
upgraded_cut version to at less after = record {
  version = to;
  among = inr (inl refl);
  reached = record {
    after = upgraded_to to at.after;
    legal = upgraded_legal version to at.after at.legal less;
    leads = leads_then _ _ (at_state to (upgraded_to to at.after)) _ (upgraded to false) at.leads
        (record { later = omega (arith, less); place = inl refl });
    leaves = after;
  };
}

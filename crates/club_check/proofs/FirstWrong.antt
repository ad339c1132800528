-- Of the tables of a file the first wrong one is named.
use Rattle.std.proofs.Common.{◌≡◌, ◌⊎◌, ℕ, List, [], ◌∷◌, inl, inr, refl, subst, sym, ◌∙◌, Some, map}
use Rattle.std.proofs.Common.{suc, ◌<◌, length, arith, ◌≤◌, Option, None}
use Rattle.std.specs.List.{AllByRecursion}
use Rattle.sqlite.specs.Order.{Row}
use Rattle.sqlite.specs.Effect.{Database}
use Rattle.sqlite.specs.Table.{Table as Definition}
use Rattle.sqlite.specs.State.{State}
use Rattle.store_tables.specs.Placed.{HasTablesOf, club_trees}
use Rattle.store_tables.proofs.Proved.{versions_apart, same_by, same_itself}
use Rattle.sqlite_rules.proofs.ListLemmas.{all_has, has_got}
use Rattle.store_tables.specs.Cells.{event_cells}
use Rattle.store_tables.specs.internal.Cells.{member_cells, event_rule_cells}
use Rattle.store_tables.specs.Cells.{IsChallenge, IsEvent, IsEventRule, IsGame, IsMember, IsMove}
use Rattle.store_tables.specs.internal.Cells.{challenge_cells}
use Rattle.store_tables.specs.Cells.{IsSeen}
use Rattle.sqlite_rules.specs.Lists.{Has}
use Rattle.store_tables.specs.Content.{Keeps, AreApart, cells}
use Rattle.store_tables.specs.Contents.{Content, Stores}
use Rattle.std.specs.Prelude.{slice_get}
use Rattle.store_tables.specs.declared.rows.Rows.{Rows}
use Rattle.store_tables.specs.Tables.{schema_of, members, events}
use Rattle.store_tables.specs.internal.Tables.{club_schema, first_schema}
use Rattle.store_tables.specs.Tables.{IsServed, closings, event_rules, challenges, keys, moves, rulings, seen}
use Rattle.store_tables.specs.declared.rows.EventRow.{EventRow}
use Rattle.store_tables.specs.declared.rows.EventRuleRow.{EventRuleRow}
use Rattle.store_tables.specs.declared.names.Version.{Version}
use Rattle.store_tables.specs.declared.names.Version.TheVariants.{V1, V2, V3}
use Rattle.store_tables.specs.declared.names.Table.{Table}
use Rattle.club_check.specs.declared.fault.OpenFault.{OpenFault}
use Rattle.store_sql.specs.internal.Read.{IsReadAs}
use Rattle.club_check.specs.declared.fault.OpenFault.TheVariants.{Damaged}
use Rattle.club_check.specs.ReasonIsRight.{HasTypes}
use Rattle.club_check.specs.internal.ReasonIsRight.{ReasonIsRight}
use Rattle.club_check.specs.ReasonIsRight.{HoldsOnly}
use Rattle.club_check.specs.internal.ReasonIsRight.{AreRulesRead}
use Rattle.club_check.specs.ReasonIsRight.{HoldsNone}
use Rattle.club_check.specs.Places.{NamesRows}
use Rattle.club_check.specs.Versions.{HoldsRows}
use Rattle.club_check.specs.internal.Versions.{HasEvents}
use Rattle.club_check.proofs.StoredLemmas.{club_of_version}
use Rattle.std.proofs.lemmas.Option.{same_Some}
use Rattle.club_core.specs.Events.{Event}
use Rattle.store_tables.specs.declared.names.Table.TheVariants.{Members, Events, EventRules, Challenges, Moves, Games}
use Rattle.store_tables.specs.declared.names.Table.TheVariants.{Seen, Scores, Meta, Keys, Rulings, Closings}
use Rattle.club_rows.specs.Club.{both_games, ClubState, IsClub}
use Rattle.club_rows.specs.FirstSchema.{IsClubOf, tables_at}
use Rattle.club_rows.specs.Tables.{tables_of, challenge_row}
use Rattle.club_rows.proofs.Proved.{seen-typed}
use Rattle.club_check.proofs.NumberedLemmas.{challenges_typed, moved}
use Rattle.club_audit.specs.internal.Audit.{AreEvents, AreMembers, AreRules, HasPeople, AreRulesOf}
use Rattle.club_audit.proofs.Proved.{rules-counted}
use Rattle.store_tables.specs.declared.rows.MemberRow.{MemberRow}
use Rattle.store_tables.specs.Changes.{HaveSame}
use Rattle.store_tables.specs.declared.rows.GameTableRow.{GameTableRow}
use Rattle.club_core.specs.declared.challenges.Challenge.{Challenge}
use Rattle.club_core.specs.declared.seats.Pairing.{Pairing}
use Rattle.club_audit.specs.internal.ChallengeAudit.{AreChallenges, IsGameAmong}
use Rattle.club_check.specs.RightTables.{HasGame, HaveChallenges, AreOfClub, HasTable}
use Rattle.club_check.specs.RightTables.{IsFirstIn, IsRight}
use Rattle.club_check.specs.internal.RightTables.{IsLater, IsOfPlay, IsUnheld, IsUntyped, IsWrongOfPlay}
use Rattle.club_check.specs.RightTables.{NamesFirstDamaged, rows_in}
use Rattle.club_check.specs.internal.RightTables.{NamesPlayed, NamesWrong, TellsEvents}
use Rattle.store_tables.specs.declared.rows.MoveRow.{MoveRow}
use Rattle.store_tables.specs.declared.rows.RulingRow.{RulingRow}
use Rattle.store_tables.specs.declared.rows.SeenRow.{SeenRow}
use Rattle.club_core.specs.Members.{Member}
use Rattle.club_audit.specs.FirstWrong.{order}
use Rattle.club_audit.specs.internal.FirstWrong.{IsFirstWrong}
use Rattle.club_audit.specs.internal.GameAudit.{IsRightAt}
use Rattle.club_check.specs.RightMoves.{HaveMoves, HaveRulings}
use Rattle.club_check.specs.internal.RightMoves.{HaveMovesOf, SeenWrong, moves_in, rulings_at, seen_in}
use Rattle.club_check.proofs.RowLemmas.{shown_same}
use Rattle.club_check.proofs.ClubLemmas.{before, challenges_once, challenges_right, events_kept}
use Rattle.club_check.proofs.ClubLemmas.{events_of, keeps_same, members_kept, members_of}
use Rattle.club_check.proofs.ClubLemmas.{place_in, right_challenges, rules_kept, typed_at}
use Rattle.club_check.proofs.ClubLemmas.{undeclared_rules}

-- ---- tables that a database holds

-- a table of both versions, by its place
pub stores_of : (definition : Definition) (place : ℕ) → slice_get first_schema.tables place ≡ Some definition
    → slice_get club_schema.tables place ≡ Some definition → {version : Version} {db : Database} {content : Content}
    → HoldsRows version content db → Stores definition (club_trees db) content
stores_of definition place first current {version} {db} {content} holds =
    all_has (λ d. Stores d (club_trees db) content) (schema_of version).tables definition holds.tables
    (has_got (schema_of version).tables place definition (place_in definition place first current version))

pub rules_in : (version : Version) (db : Database) (content : Content) → HasTable EventRules version
    → HoldsRows version content db → Stores (event_rules 16) (club_trees db) content
rules_in V1 db content there holds = absurd there
rules_in V2 db content there holds = holds.tables.1.1.1.1.1.1.1.1.0
rules_in V3 db content there holds = holds.tables.1.1.1.1.1.1.1.1.0

-- the rules of events, where the tables are those of a served version
pub rules_at : (version : Version) {db : Database} {content : Content} → HoldsRows version content db
    → (w : Version) → IsServed w → HasTablesOf w db.schema
    → HasTable EventRules version × Stores (event_rules 16) (club_trees db) content
rules_at V1 {db} holds w served has = absurd (versions_apart db.schema w served holds.schema has.0)
rules_at V2 {db} {content} holds w served has = (tt, rules_in V2 db content tt holds)
rules_at V3 {db} {content} holds w served has = (tt, rules_in V3 db content tt holds)

-- the tables of schema 3
pub keys_in : (db : Database) (content : Content) → HoldsRows V3 content db → Stores (keys 17) (club_trees db) content
keys_in db content holds = holds.tables.1.1.1.1.1.1.1.1.1.0

pub rulings_in : (db : Database) (content : Content) → HoldsRows V3 content db
    → Stores (rulings 20) (club_trees db) content
rulings_in db content holds = holds.tables.1.1.1.1.1.1.1.1.1.1.0

pub closings_in : (db : Database) (content : Content) → HoldsRows V3 content db
    → Stores (closings 22) (club_trees db) content
closings_in db content holds = holds.tables.1.1.1.1.1.1.1.1.1.1.1.0

-- what a table is kept by is what it has
pub kept_same : (table : Definition) (db : Database) (one other : List Row) → Keeps table (club_trees db) one
    → Keeps table (club_trees db) other → HaveSame one other
kept_same table db one other first second = record {
  there = moved table (club_trees db) one other first second;
  back = moved table (club_trees db) other one second first;
}

-- the rows that the database is known to have are those of the content
pub held_same : (table : Definition) (place : ℕ) → slice_get first_schema.tables place ≡ Some table
    → slice_get club_schema.tables place ≡ Some table → {version : Version} {db : Database} {content : Content}
    {rows : List Row} → HoldsRows version content db → Keeps table (club_trees db) rows
    → HaveSame (content table.tree) rows
held_same table place first current {db} {content} {rows} holds =
    kept_same table db (content table.tree) rows (stores_of table place first current holds).rows

-- and rows that are those of the content it has
pub keeps_held : (table : Definition) (place : ℕ) → slice_get first_schema.tables place ≡ Some table
    → slice_get club_schema.tables place ≡ Some table → {version : Version} {db : Database} {content : Content}
    {rows : List Row} → HoldsRows version content db → HaveSame (content table.tree) rows
    → Keeps table (club_trees db) rows
keeps_held table place first current {db} {content} {rows} holds same =
    keeps_same table (club_trees db) (content table.tree) rows same (stores_of table place first current holds).rows

-- what is shown of a table is what the content has
pub shown_held : (table : Definition) (place : ℕ) → slice_get first_schema.tables place ≡ Some table
    → slice_get club_schema.tables place ≡ Some table → {version : Version} {db : Database} {content : Content}
    → HoldsRows version content db → HaveSame (map (cells table) (club_trees db table.tree)) (content table.tree)
shown_held table place first current {db} {content} holds =
    shown_same table (club_trees db) (content table.tree) (stores_of table place first current holds).rows

-- ---- the rows of a club

-- the tables of all versions but `meta`
pub rows_at : (version : Version) (s : ClubState) (u : Table) → order u ≤ order Scores → HasTable u version
    → rows_in u (tables_at version s) ≡ rows_in u (tables_of both_games s)
rows_at V2 s u low there = refl
rows_at V3 s u low there = refl
rows_at V1 s EventRules low there = absurd there
rows_at V1 s Keys low there = absurd there
rows_at V1 s Rulings low there = absurd there
rows_at V1 s Closings low there = absurd there
rows_at V1 s Meta low there = absurd (omega (arith, low))
rows_at V1 s u low there = refl

-- the rows that a club has
pub club_rows : {version : Version} {t : Table} {content : Content} (club : AreOfClub version t content) (u : Table)
    → order u ≤ order Scores → order u ≤ order t → HasTable u version
    → HaveSame (rows_in u content) (rows_in u (tables_of both_games club.state))
club_rows {version} {content} club u low upto there =
    subst (HaveSame (rows_in u content)) (rows_at version club.state u low there) (club.same u there upto)

-- a club has those of its own tables
abbrev pub club_has : (version : Version) (s : ClubState) (t : Table) → IsClubOf version s
    → AreOfClub version t (tables_at version s)
club_has version s t own =
    record { state = s; legal = own; same = λ u there low. same_itself (rows_in u (tables_at version s)) }

pub legal_of : {version : Version} {t : Table} {content : Content} (club : AreOfClub version t content)
    → IsClub club.state
legal_of {version} club = club_of_version version club.state club.legal

-- where no club has the rows of a table, none has the tables
pub rows_named : (t : Table) (db : Database) → HoldsNone db (λ version. AreOfClub version t) → NamesRows db (Damaged t)
rows_named t db none =
    (t, refl, λ version s own holds. none version (tables_at version s) holds (club_has version s t own))

-- ---- types

pub types_same : (P : Row → Type 0) (xs ys : List Row) → ((x : Row) → Has xs x → Has ys x) → AllByRecursion P ys
    → AllByRecursion P xs
types_same P [] ys there all = tt
types_same P (x ∷ xs) ys there all = (
  all_has P ys x all (there x (inl refl)),
  types_same P xs ys (λ y h. there y (inr h)) all,
)

-- the rows of a table that a club has have the types of its columns
pub club_types : (t : Table) (P : Row → Type 0) {version : Version} {content : Content} (club : AreOfClub version t content)
    → HasTable t version
    → (HasTypes t (tables_at version club.state) → AllByRecursion P (rows_in t (tables_at version club.state)))
    → AllByRecursion P (rows_in t content)
club_types t P {version} {content} club there typed =
    types_same P (rows_in t content) (rows_in t (tables_at version club.state)) (club.same t there (omega arith)).there
    (typed (typed_at version club.state (legal_of club) t))

pub damaged_same : (t u : Table) → ◌≡◌ {A = OpenFault} (Damaged t) (Damaged u) → t ≡ u
damaged_same t u is = cc

-- a table that is called damaged is this one, and no club has its rows
pub named_wrong : (table : Table) (db : Database) → HoldsNone db (IsRight table) → NamesWrong table db (Damaged table)
named_wrong table db none t is = (sym (damaged_same table t is), none)

-- where rows of other types than those of the columns are blamed, none is held that has them
pub types_none : (table : Table) (definition : Definition) (IsTyped : Row → Type 0) (IsSo : Version → Content → Type 0)
    (old : State) (e : OpenFault)
    → ((version : Version) (content : Content) → HoldsRows version content old.now
    → IsSo version content
    → Stores definition (club_trees old.now) content × AllByRecursion IsTyped (content definition.tree))
    → ReasonIsRight table definition IsTyped old e → (t : Table) → e ≡ Damaged t → (t ≡ table) × HoldsNone old.now IsSo
types_none table definition IsTyped IsSo old e typed (inl store) t is = cc
types_none table definition IsTyped IsSo old e typed (inr (inl memory)) t is = cc
types_none table definition IsTyped IsSo old e typed (inr (inr (named, wrong))) t is = (
  damaged_same t table (sym is ∙ named),
  λ version content holds so.
      let (stored, are) = typed version content holds so in
      wrong (content definition.tree) stored.rows stored.apart are,
)

pub member_types_wrong : (old : State) (e : OpenFault) → ReasonIsRight Members (members 1) IsMember old e
    → NamesWrong Members old.now e
member_types_wrong old e = types_none Members (members 1) IsMember (IsRight Members) old e
    (λ version content holds club.
    (stores_of (members 1) 1 refl refl holds, club_types Members IsMember club tt (λ all. all)))

pub event_types_wrong : (old : State) (e : OpenFault) → ReasonIsRight Events (events 4) IsEvent old e
    → NamesWrong Events old.now e
event_types_wrong old e = types_none Events (events 4) IsEvent (IsRight Events) old e (λ version content holds club.
    (stores_of (events 4) 2 refl refl holds, club_types Events IsEvent club tt (λ all. all)))

pub rule_types_wrong : (old : State) (e : OpenFault) (w : Version) → IsServed w → HasTablesOf w old.now.schema
    → ReasonIsRight EventRules (event_rules 16) IsEventRule old e → NamesWrong EventRules old.now e
rule_types_wrong old e w served has =
    types_none EventRules (event_rules 16) IsEventRule (IsRight EventRules) old e (λ version content holds club.
    let (there, stores) = rules_at version holds w served has in
    (stores, club_types EventRules IsEventRule club there (λ all. all)))

pub challenge_types_wrong : (old : State) (e : OpenFault) → ReasonIsRight Challenges (challenges 6) IsChallenge old e
    → NamesWrong Challenges old.now e
challenge_types_wrong old e = types_none Challenges (challenges 6) IsChallenge (IsRight Challenges) old e
    (λ version content holds have. (
      stores_of (challenges 6) 3 refl refl holds,
      types_same IsChallenge (content 6) (map challenge_row have.challenges) have.same.there
          (challenges_typed have.challenges),
    ))

-- ---- rows

-- rows of events that were read are those of each club that has the rows
events_are : {version : Version} {content : Content} {old new : State} → HoldsRows version content old.now
    → (s : ClubState) → HaveSame (content 4) (tables_of both_games s 4) → (rows : List EventRow)
    → IsReadAs (events 4) 1 (map event_cells rows) old new → map event_cells rows ≡ tables_of both_games s 4
events_are holds s same rows = events_kept s (keeps_held (events 4) 2 refl refl holds same)

pub tells_events : (rows : List EventRow) (old new : State) → IsReadAs (events 4) 1 (map event_cells rows) old new
    → TellsEvents rows new.now
tells_events rows old new read version content holds s same =
    events_are (before (HoldsRows version content) read.same holds) s same rows read

pub has_events : (rows : List EventRow) (old new : State) → IsReadAs (events 4) 1 (map event_cells rows) old new
    → HasEvents rows new.now
has_events rows old new read version s own holds = tells_events rows old new read version (tables_at version s) holds s
    (same_by _ _ (rows_at version s Events (omega arith) tt))

-- the people that were read of a database are those of a club that has its rows
module _ {version : Version} {t : Table} {content : Content} {old new : State}
    (holds : HoldsRows version content old.now) (club : AreOfClub version t content) where
  pub members_told : (rows : List MemberRow) → IsReadAs (members 1) 1 (map member_cells rows) old new
      → AreMembers club.state.members rows
  members_told rows read = members_of club.state (legal_of club) rows (members_kept club.state
      (keeps_held (members 1) 1 refl refl holds (club_rows club Members (omega arith) (omega arith) tt)) read)

  pub events_told : order Events ≤ order t → (rows : List EventRow)
      → IsReadAs (events 4) 1 (map event_cells rows) old new → AreEvents club.state.events rows
  events_told upto rows read = events_of club.state (legal_of club) rows
      (events_are holds club.state (club_rows club Events (omega arith) upto tt) rows read)

-- so are their rules
pub rules_told : (version : Version) {t : Table} {content : Content} (old new : State)
    → HoldsRows version content old.now → (club : AreOfClub version t content) → order EventRules ≤ order t
    → (events_rows : List EventRow) (rules : List EventRuleRow)
    → map event_cells events_rows ≡ tables_of both_games club.state 4 → AreRulesRead version events_rows rules old new
    → AreRulesOf club.state.events rules
rules_told V1 old new holds club upto events_rows rules are read =
    read.1 ∙ undeclared_rules 1 club.state.events events_rows are club.legal.undeclared
rules_told V2 {content} old new holds club upto events_rows rules are read =
    rules_kept club.state (keeps_same (event_rules 16) (club_trees old.now) (content 16)
    (tables_of both_games club.state 16) (club_rows club EventRules (omega arith) upto tt)
    (rules_in V2 old.now content tt holds).rows) read
rules_told V3 {content} old new holds club upto events_rows rules are read =
    rules_kept club.state (keeps_same (event_rules 16) (club_trees old.now) (content 16)
    (tables_of both_games club.state 16) (club_rows club EventRules (omega arith) upto tt)
    (rules_in V3 old.now content tt holds).rows) read

-- rows of rules that were read where the database has a later version than schema 1 were read so in each such version
pub rules_read_as : (v w : Version) → IsServed w → HasTable EventRules v → (events_rows : List EventRow)
    (rules : List EventRuleRow) (old new : State) → IsReadAs (event_rules 16) 1 (map event_rule_cells rules) old new
    → AreRulesRead v events_rows rules old new
rules_read_as V1 w served there events_rows rules old new read = absurd there
rules_read_as V2 w served there events_rows rules old new read = read
rules_read_as V3 w served there events_rows rules old new read = read

-- members that are those of no legal club are no club's, and so are events
pub members_none : (rows : List MemberRow) (old new : State) → IsReadAs (members 1) 1 (map member_cells rows) old new
    → ((ms : List Member) → ¬ AreMembers ms rows) → HoldsNone old.now (λ version. AreOfClub version Members)
members_none rows old new read none version content holds club =
    none club.state.members (members_told holds club rows read)

pub events_none : (rows : List EventRow) (old new : State) → IsReadAs (events 4) 1 (map event_cells rows) old new
    → ((es : List Event) → ¬ AreEvents es rows) → HoldsNone old.now (λ version. AreOfClub version Events)
events_none rows old new read none version content holds club =
    none club.state.events (events_told holds club (omega arith) rows read)

-- and rules of events that are those of no club with these rows of events
pub rules_none : (events_rows : List EventRow) (rows : List EventRuleRow) (old new : State)
    → (w : Version) → IsServed w → HasTablesOf w old.now.schema
    → IsReadAs (event_rules 16) 1 (map event_rule_cells rows) old new → ¬ AreRules rows (length events_rows)
    → (version : Version) (content : Content) → HoldsRows version content old.now
    → (club : AreOfClub version EventRules content)
    → ¬ (map event_cells events_rows ≡ tables_of both_games club.state 4)
rules_none events_rows rows old new w served has read none version content holds club are =
    let (there, stores) = rules_at version holds w served has in
    let told = rules_read_as version w served there events_rows rows old new read in
    none (rules-counted club.state.events events_rows rows (events_of club.state (legal_of club) events_rows are)
    (rules_told version old new holds club (omega arith) events_rows rows are told))

-- ---- which tables are right

-- what holds of the tables of people up to a place
pub upto : (n : ℕ) (P : Table → Type 0) → P Members → (1 ≤ n → P Keys) → (2 ≤ n → P Events) → (3 ≤ n → P EventRules)
    → (4 ≤ n → P Closings) → n ≤ 4 → (u : Table) → order u ≤ n → P u
upto n P m k e r c few Members low = m
upto n P m k e r c few Keys low = k low
upto n P m k e r c few Events low = e low
upto n P m k e r c few EventRules low = r low
upto n P m k e r c few Closings low = c low
upto n P m k e r c few _ low = absurd (omega (arith, few, low))

-- a club with the rows of a table has those of the tables before it
sooner : (version : Version) (t u : Table) (content : Content) → order u ≤ order t → AreOfClub version t content
    → AreOfClub version u content
sooner version t u content low club = record {
  state = club.state;
  legal = club.legal;
  same = λ v there lower. club.same v there (omega (arith, low, lower));
}

pub people_upto : (version : Version) (t : Table) (content : Content) → order t ≤ order Closings
    → AreOfClub version t content
    → (u : Table) → order u ≤ order t → IsRight u version content
people_upto version t content few club =
    upto (order t) (λ u. IsRight u version content) (sooner version t Members content (omega arith) club)
    (λ one. sooner version t Keys content one club) (λ two. sooner version t Events content two club)
    (λ three. sooner version t EventRules content three club) (λ four. sooner version t Closings content four club) few

-- what is right of the tables up to the games
pub right_upto : (version : Version) (content : Content) → AreOfClub version Closings content → (u : Table)
    → order u ≤ order Games → (order Closings < order u → HaveChallenges content)
    → (order Challenges < order u → HaveMoves version content)
    → (order Moves < order u → HaveRulings version content)
    → (order Rulings < order u → AreOfClub version Games content) → IsRight u version content
right_upto version content club Members low cs ms rs gs = sooner version Closings Members content (omega arith) club
right_upto version content club Keys low cs ms rs gs = sooner version Closings Keys content (omega arith) club
right_upto version content club Events low cs ms rs gs = sooner version Closings Events content (omega arith) club
right_upto version content club EventRules low cs ms rs gs =
    sooner version Closings EventRules content (omega arith) club
right_upto version content club Closings low cs ms rs gs = club
right_upto version content club Challenges low cs ms rs gs = cs (omega arith)
right_upto version content club Moves low cs ms rs gs = ms (omega arith)
right_upto version content club Rulings low cs ms rs gs = rs (omega arith)
right_upto version content club Games low cs ms rs gs = gs (omega arith)
right_upto version content club _ low cs ms rs gs = absurd (omega (arith, low))

pub all_upto : (version : Version) (content : Content) (top : Table) → AreOfClub version top content
    → HaveChallenges content → HaveMoves version content → HaveRulings version content → (u : Table)
    → order u ≤ order top → IsRight u version content
all_upto version content top club have play none Challenges low = have
all_upto version content top club have play none Moves low = play
all_upto version content top club have play none Rulings low = none
all_upto version content top club have play none u low = sooner version top u content low club

-- ---- what is named

-- one that names a wrong table, where those before it are right
pub first_wrong : (table : Table) (db : Database) (e : OpenFault) → NamesWrong table db e
    → HoldsOnly db (λ version content. (u : Table) → order u < order table → IsRight u version content)
    → NamesFirstDamaged db e
first_wrong table db e wrong right t is version content holds =
    let (named, none) = wrong t is in
    subst (IsFirstIn version content) (sym named)
    (record { before = right version content holds; named = none version content holds })

-- of the tables of people and of challenges, where those of people before it are right
pub after_people : (last table : Table) → order last ≤ order Closings → order table ≡ suc (order last)
    → (db : Database) (e : OpenFault) → NamesWrong table db e
    → HoldsOnly db (λ version content. AreOfClub version last content) → NamesFirstDamaged db e
after_people last table few next db e wrong right = first_wrong table db e wrong (λ version content holds u low.
    people_upto version last content few (right version content holds) u (omega (arith, low, next)))

-- one that names the games for their types, where the challenges, the moves and the rulings are right by what is known of
-- the games
pub first_games : (db : Database) → HoldsNone db (λ version content. HasTypes Games content)
    → HoldsOnly db (λ version content. AreOfClub version Closings content)
    → HoldsOnly db (λ version content. HaveChallenges content) → HoldsOnly db HaveMoves → HoldsOnly db HaveRulings
    → NamesFirstDamaged db (Damaged Games)
first_games db none right have play unruled t is version content holds =
    let absent = none version content holds in
    subst (IsFirstIn version content) (damaged_same Games t is) (record {
      before = λ u low. right_upto version content (right version content holds) u (omega (arith, low))
          (λ later. have version content holds) (λ later. play version content holds)
          (λ later. unruled version content holds) (λ later. absurd (omega (arith, low, later)));
      named = λ club. absent (club_types Games IsGame club tt (λ all. all));
    })

-- one that names the rulings, where the challenges and the moves are right
pub first_rulings : (db : Database) → HoldsOnly db (λ version content. AreOfClub version Closings content)
    → HoldsOnly db (λ version content. HaveChallenges content) → HoldsOnly db HaveMoves → HoldsNone db HaveRulings
    → NamesFirstDamaged db (Damaged Rulings)
first_rulings db right have play ruled t is version content holds =
    subst (IsFirstIn version content) (damaged_same Rulings t is) (record {
      before = λ u low. right_upto version content (right version content holds) u (omega (arith, low))
          (λ later. have version content holds) (λ later. play version content holds)
          (λ later. absurd (omega (arith, low, later))) (λ later. absurd (omega (arith, low, later)));
      named = ruled version content holds;
    })

-- one that names the moves by the games that were read
pub first_moves : (db : Database) → HoldsOnly db (λ version content. AreOfClub version Closings content)
    → HoldsOnly db (λ version content. HaveChallenges content) → HoldsNone db HaveMoves → NamesFirstDamaged db (Damaged Moves)
first_moves db right have wrong t is version content holds =
    subst (IsFirstIn version content) (damaged_same Moves t is) (record {
      before = λ u low. right_upto version content (right version content holds) u (omega (arith, low))
          (λ later. have version content holds) (λ later. absurd (omega (arith, low, later)))
          (λ later. absurd (omega (arith, low, later))) (λ later. absurd (omega (arith, low, later)));
      named = wrong version content holds;
    })

-- one that names the challenges for what is known of the games
pub first_known : (db : Database) (rows : Rows) → ((cs : List Challenge) → ¬ AreChallenges cs rows)
    → HoldsOnly db (λ version content. AreOfClub version Closings content)
    → HoldsOnly db (λ version content. HaveChallenges content → (cs : List Challenge) × AreChallenges cs rows)
    → NamesFirstDamaged db (Damaged Challenges)
first_known db rows none right pass = after_people Closings Challenges (omega arith) refl db (Damaged Challenges)
    (named_wrong Challenges db (λ version content holds have.
    let (cs, are) = pass version content holds have in none cs are))
    right

-- ---- later tables

-- moves that are blamed for their types are wrong
pub moves_types_wrong : (rows : Rows) (version : Version) (old : State) (e : OpenFault)
    → ReasonIsRight Moves (moves 8) IsMove old e → NamesPlayed rows version old.now e
moves_types_wrong rows version old e blames t is =
    let (named, none) = types_none Moves (moves 8) IsMove
    (λ v content. HaveMovesOf rows (moves_in (club_trees old.now)) (rulings_at version (club_trees old.now)))
    old e
    (λ v content holds have. (
      stores_of (moves 8) 4 refl refl holds,
      types_same IsMove (content 8) (moves_in (club_trees old.now)) (shown_held (moves 8) 4 refl refl holds).back
          have.typed,
    ))
    blames t is in
    subst (IsWrongOfPlay rows version old.now) (sym named) (record {
      play = (omega arith, omega arith);
      moves = λ here. none version;
      rulings = λ here. absurd cc;
      games = λ here. absurd cc;
      seen = λ here. absurd cc;
      before = inr (record {
        moves = λ low. absurd (omega (arith, low));
        rulings = λ low. absurd (omega (arith, low));
        games = λ low. absurd (omega (arith, low));
      });
    })

-- positions whose rowids are not apart are no club's
pub seen_torn_wrong : (rows : Rows) (version : Version) (old : State) (e : OpenFault)
    → ReasonIsRight Seen (seen 12) IsSeen old e
    → ((t : Table) → e ≡ Damaged t → ¬ AreApart (club_trees old.now 12)) → NamesPlayed rows version old.now e
seen_torn_wrong rows version old e blames torn t is =
    let (named, untyped) = types_none Seen (seen 12) IsSeen (λ v content. HasTypes Seen content) old e
    (λ v content holds typed. (stores_of (seen 12) 6 refl refl holds, typed)) blames t is in
    let unheld : IsUnheld old.now =
    λ v content holds any. torn t is (stores_of (seen 12) 6 refl refl holds).apart in
    subst (IsWrongOfPlay rows version old.now) (sym named) (record {
      play = (omega arith, omega arith);
      moves = λ here. absurd cc;
      rulings = λ here. absurd cc;
      games = λ here. absurd cc;
      seen = λ here content holds have. unheld version content holds tt;
      before = inl unheld;
    })

-- positions whose values have other types are those of no legal club
pub untyped_wrong : (rows : Rows) (version : Version) (old : State) → IsUntyped Seen old.now
    → SeenWrong rows version old.now
untyped_wrong rows version old untyped content holds have =
    untyped version content holds
    (types_same IsSeen (content 12) (seen_in (club_trees old.now)) (shown_held (seen 12) 6 refl refl holds).back
    (types_same IsSeen (seen_in (club_trees old.now)) (tables_of both_games have.games.state 12) have.same.there
    (seen-typed have.games.state have.games.legal)))

-- of the tables that the rows of a game may show to be wrong none is one up to the challenges
game_later : (s : ClubState) (rows : Rows) (place : ℕ) (game : GameTableRow) (ms : List MoveRow) (rs : List RulingRow)
    (ss : List SeenRow) (last : Option ℕ) (t : Table) → ¬ IsRightAt s rows place game ms rs ss last t
    → IsOfPlay t ⊎ (t ≡ Meta)
game_later s rows place game ms rs ss last Moves wrong = inl (omega arith, omega arith)
game_later s rows place game ms rs ss last Rulings wrong = inl (omega arith, omega arith)
game_later s rows place game ms rs ss last Games wrong = inl (omega arith, omega arith)
game_later s rows place game ms rs ss last Seen wrong = inl (omega arith, omega arith)
game_later s rows place game ms rs ss last Meta wrong = inr refl
game_later s rows place game ms rs ss last _ wrong = absurd (wrong tt)

pub wrong_later : (s : ClubState) (rows : Rows) (place : ℕ) (game : GameTableRow) (ms : List MoveRow)
    (rs : List RulingRow) (ss : List SeenRow) (last : Option ℕ) (wrong : Option Table)
    → IsFirstWrong (IsRightAt s rows place game ms rs ss last) wrong → IsLater wrong
wrong_later s rows place game ms rs ss last None first t is = cc
wrong_later s rows place game ms rs ss last (Some u) first t is =
    subst (λ (v : Table). IsOfPlay v ⊎ (v ≡ Meta)) (same_Some u t is)
    (game_later s rows place game ms rs ss last u first.named)

-- of two
pub either_later : (w v u : Option Table) → ((t : Table) → u ≡ Some t → (w ≡ Some t) ⊎ (v ≡ Some t)) → IsLater w
    → IsLater v → IsLater u
either_later w v u some one two t is = elim (some t is) [
  | inl here ↦ one t here
  | inr there ↦ two t there
]

pub left_later : (table : Table) (count : ℕ) (o : Option Table) → IsOfPlay table
    → ((t : Table) → o ≡ Some t → (t ≡ table) × (0 < count)) → IsLater o
left_later table count o play some t is = inl (subst IsOfPlay (sym (some t is).0) play)

pub some_later : (table : Table) → IsOfPlay table ⊎ (table ≡ Meta) → IsLater (Some table)
some_later table later t is = subst (λ (u : Table). IsOfPlay u ⊎ (u ≡ Meta)) (same_Some table t is) later

-- ---- challenges that were read

-- the challenges are right in a content exactly where they pass by these rows
abbrev pub JudgesChallenges : Rows → Content → Type 0
JudgesChallenges rows content = ((cs : List Challenge) → AreChallenges cs rows → HaveChallenges content)
    × (HaveChallenges content → (cs : List Challenge) × AreChallenges cs rows)

-- Where it is known which games there are, what the audit lets pass of the challenges that were read is right in
-- whatever content the database may hold, and back.
module _ (rows : Rows) {old new : State} (s : ClubState) (people : HasPeople s rows)
    (kept_ms : Keeps (members 1) (club_trees old.now) (map member_cells rows.members.items))
    (kept_es : Keeps (events 4) (club_trees old.now) (map event_cells rows.events.items))
    (read_cs : IsReadAs (challenges 6) 2 (map challenge_cells rows.challenges.items) old new) (v : Version)
    (content : Content) (holds : HoldsRows v content old.now)
    (there : (id : ℕ) (p : Pairing) → HasGame (content 10) id p → IsGameAmong rows.games.items id p)
    (back : (id : ℕ) (p : Pairing) → IsGameAmong rows.games.items id p → HasGame (content 10) id p) where
  same_ms : HaveSame (content 1) (map member_cells rows.members.items)
  same_ms = held_same (members 1) 1 refl refl holds kept_ms

  same_es : HaveSame (content 4) (map event_cells rows.events.items)
  same_es = held_same (events 4) 2 refl refl holds kept_es

  same_cs : HaveSame (content 6) (map challenge_cells rows.challenges.items)
  same_cs = held_same (challenges 6) 3 refl refl holds read_cs.keeps

  pub judged_among : JudgesChallenges rows content
  judged_among = (
    challenges_right content rows s people same_ms same_es same_cs there back,
    λ have. (
      have.challenges,
      right_challenges content rows s people same_ms same_es same_cs there back have
          (challenges_once v content (map challenge_cells rows.challenges.items) old new holds
          (stores_of (challenges 6) 3 refl refl holds) have.challenges have.same read_cs),
    ),
  )

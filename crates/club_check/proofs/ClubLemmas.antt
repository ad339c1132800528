-- From what was read of the tables to what a fault says of them, and to the club that is stored so.
use Rattle.std.proofs.Common.{◌≡◌, ◌⊎◌, ℕ, List, [], ◌∷◌, inl, inr, refl, subst, sym, ap, ◌∙◌, Some, get_or, map, take, true}
use Rattle.std.proofs.Common.{false, true≢false, ℤ, zero, suc, ◌+◌, ◌<◌, length, arith, ◌≤◌, ◌^◌}
use Rattle.std.specs.List.{AllByRecursion}
use Rattle.std.specs.List.Sorted.{IsPermutation, IsSorted}
use Rattle.sqlite.specs.Order.{Row, column}
use Rattle.sqlite.specs.Effect.{Database}
use Rattle.sqlite.specs.Table.{Table as Definition}
use Rattle.sqlite.specs.State.{State, IsUnchanged}
use Rattle.store_tables.specs.Placed.{HasClubTables, HasTablesOf, club_trees}
use Rattle.store_tables.specs.internal.Reading.{ReturnsRows, AreIds, by_columns}
use Rattle.store_tables.proofs.Proved.{one_shown, ids_of, apart_of, in_order, one_list, places_rise, has_map}
use Rattle.std.proofs.lemmas.List.Sorted.{IsPermutation-sym, length_permutation}
use Rattle.store_tables.proofs.Proved.{has_mapped, has_turned, same_then}
use Rattle.sqlite.proofs.Callers.{unchanged_then}
use Rattle.sqlite_rules.proofs.ListLemmas.{all_has, has_got}
use Rattle.store_tables.specs.Cells.{event_cells, game_cells}
use Rattle.store_tables.specs.internal.Cells.{IsMeta, meta_cells, member_cells, event_rule_cells}
use Rattle.store_tables.specs.Cells.{IsChallenge}
use Rattle.store_tables.specs.internal.Cells.{challenge_cells}
use Rattle.store_tables.specs.declared.rows.MetaRow.{MetaRow}
use Rattle.sqlite_rules.specs.Lists.{Has}
use Rattle.store_tables.specs.Content.{Keeps, AreApart, cells}
use Rattle.store_tables.specs.Contents.{Content, Stores}
use Rattle.sqlite_trees.specs.View.{is_int}
use Rattle.std.specs.Prelude.{pos, slice_get, IsTrue}
use Rattle.store_tables.specs.internal.Rows.{HaveIds}
use Rattle.store_tables.specs.declared.rows.Rows.{Rows}
use Rattle.store_tables.specs.Tables.{schema_of, schema_number, meta, members, events, games}
use Rattle.store_tables.specs.internal.Tables.{club_schema, first_schema}
use Rattle.store_tables.specs.Tables.{tables as all_tables}
use Rattle.store_tables.specs.Tables.{event_rules, challenges}
use Rattle.store_tables.specs.declared.rows.EventRow.{EventRow}
use Rattle.store_tables.specs.declared.rows.EventRuleRow.{EventRuleRow}
use Rattle.store_tables.specs.declared.names.Version.{Version}
use Rattle.store_tables.specs.declared.names.Version.TheVariants.{V1, V2, V3}
use Rattle.store_tables.specs.declared.names.Table.{Table}
use Rattle.club_check.specs.declared.fault.OpenFault.{OpenFault}
use Rattle.store_sql.specs.declared.fault.ReadFault.{ReadFault}
use Rattle.store_sql.specs.internal.Read.{Blames as BlamesRead, IsReadAs, BeginWithPlaces}
use Rattle.club_check.specs.internal.Faults.{told}
use Rattle.club_check.specs.declared.fault.OpenFault.TheVariants.{Foreign, Memory, Store, Schema, Damaged}
use Rattle.club_check.specs.ReasonIsRight.{HasNumber, HasTypes, IsOneMeta, IsRightFault, NamesForeign}
use Rattle.club_check.specs.internal.ReasonIsRight.{AreRead, ReasonIsRight, IsMetaRead}
use Rattle.club_check.specs.ReasonIsRight.{IsNumberFrom, LacksTables, NamesTable}
use Rattle.club_check.specs.internal.ReasonIsRight.{AreRulesRead, undeclared_row}
use Rattle.club_check.specs.Places.{NamesRows}
use Rattle.club_check.specs.Versions.{HoldsRows, HasClub}
use Rattle.club_check.proofs.StoredLemmas.{club_of_version, first_alone, stands, unique_of}
use Rattle.schema_match.specs.Shapes.{is_of_club}
use Rattle.std.proofs.lemmas.Option.{same_Some, slice_get_within}
use Rattle.sqlite_value.specs.declared.value.Value.TheVariants.{Int}
use Rattle.club_core.specs.Events.{Event}
use Rattle.club_core.specs.State.{draughts, shogi}
use Rattle.sqlite_trees.specs.Tree.{rowid}
use Rattle.store_tables.specs.declared.names.Table.TheVariants.{Members, Events, EventRules, Challenges, Moves, Games}
use Rattle.store_tables.specs.declared.names.Table.TheVariants.{Seen, Scores, Meta, Keys, Rulings, Closings}
use Rattle.club_rows.specs.Club.{ClubGame, both_games, ClubState, IsClub}
use Rattle.club_rows.specs.FirstSchema.{IsClubOf, tables_at}
use Rattle.club_rows.specs.Tables.{declares_number, member_row, event_row, rule_row, numbered_from, row_of_game}
use Rattle.club_rows.specs.Tables.{tables_of, challenge_row, meta_row, number, version_of}
use Rattle.club_rows.proofs.Proved.{rules-typed, members-typed, events-typed, moves-typed, games-typed, scores_typed}
use Rattle.club_rows.proofs.Proved.{closings-typed, keys-typed, rulings-typed, version-with, version-without}
use Rattle.club_rows.proofs.Proved.{seen-typed, declares-alike, same-pos}
use Rattle.club_check.proofs.NumberedLemmas.{challenges_typed, moved, numbered_had, numbered_has}
use Rattle.club_audit.specs.internal.Audit.{AreEvents, AreMembers, AreRules, HasPeople}
use Rattle.club_audit.proofs.Proved.{numbered-at, numbered-back, numbered-length}
use Rattle.club_core.specs.LegalState.{Each}
use Rattle.store_tables.specs.declared.rows.MemberRow.{MemberRow}
use Rattle.sqlite.specs.Tree.{Trees}
use Rattle.std.proofs.lemmas.List.{length-map}
use Rattle.store_tables.specs.Changes.{HaveSame}
use Rattle.sqlite_value.specs.declared.value.Value.{Value}
use Rattle.store_tables.specs.declared.rows.GameTableRow.{GameTableRow}
use Rattle.club_core.specs.declared.challenges.Challenge.{Challenge}
use Rattle.club_core.specs.declared.challenges.ChallengeState.{ChallengeState}
use Rattle.club_core.specs.declared.challenges.ChallengeState.TheVariants.{Accepted}
use Rattle.club_core.specs.Challenges.{pairing_for}
use Rattle.club_core.specs.declared.seats.Pairing.{Pairing}
use Rattle.club_rows.specs.internal.ChallengeRows.{HasShortGame}
use Rattle.club_rows.specs.EachOnce.{AreEachOnce}
use Rattle.club_audit.specs.internal.ChallengeAudit.{AreChallenges, IsChallengeAmong, IsGameAmong}
use Rattle.club_check.specs.RightTables.{HasGame, HasId, HaveChallenges, IsChallengeIn}
use Rattle.club_check.proofs.RowLemmas.{challenge_key, each_once, had_place, there_at}
use Rattle.store_sql.specs.declared.fault.ReadFault.TheVariants as read_fault
use Rattle.club_check.specs.declared.fault.OpenFault.TheVariants as open_fault

-- a fault of a table, as it is told
pub blames_told : (t : Table) (definition : Definition) (IsTyped : Row → Type 0) (old : State) (e : ReadFault)
    (fault : OpenFault) → fault ≡ told t e → BlamesRead definition IsTyped old e → ReasonIsRight t definition IsTyped old fault
blames_told t definition IsTyped old e fault is (inl store) = inl (is ∙ ap (told t) store)
blames_told t definition IsTyped old e fault is (inr (inl memory)) = inr (inl (is ∙ ap (told t) memory))
blames_told t definition IsTyped old e fault is (inr (inr (named, wrong))) = inr (inr (is ∙ ap (told t) named, wrong))

-- what is told as damage is a value of another type
pub told_mistyped : (table t : Table) (e : ReadFault) → told table e ≡ open_fault.Damaged t → e ≡ read_fault.WrongType
told_mistyped table t read_fault.Missing is = cc
told_mistyped table t read_fault.WrongType is = refl
told_mistyped table t read_fault.Store is = cc
told_mistyped table t read_fault.Memory is = cc

-- a fault of the store or of memory names no table
pub unnamed : (e : OpenFault) → (e ≡ Store) ⊎ (e ≡ Memory) → (t : Table) → e ≡ open_fault.Damaged t → ⊥
unnamed e (inl store) t is = cc
unnamed e (inr memory) t is = cc

-- ---- the row of meta

pub meta_stored : (version : Version) (db : Database) (content : Content)
    → HoldsRows version content db → Stores (meta 0) (club_trees db) content
meta_stored V1 db content k = k.tables.0
meta_stored V2 db content k = k.tables.0
meta_stored V3 db content k = k.tables.0

pub one_is_meta : (rows : List Row) (row : Row) → row ≡ get_or rows 0 row → IsOneMeta rows → IsMeta row
one_is_meta rows row at one =
    let is : row ≡ Int (pos 1) ∷ Int one.schema ∷ Int one.last ∷ [] = at ∙ ap (λ l. get_or l 0 row) one.is in
    subst IsMeta (sym is)
    (record { width = refl; id = (pos 1, refl); schema = (one.schema, refl); last = (one.last, refl) })

pub shown_one : (db : Database) (version : Version) (content : Content) (slice shown : List Row) (old new : State)
    → slice ≡ shown → db ≡ old.now → ReturnsRows (meta 0) 1 shown (club_trees old.now) old new → HoldsRows version content db
    → IsOneMeta (content 0) → IsOneMeta slice
shown_one db version content slice shown old new is same tells k one =
    let stored : Stores (meta 0) (club_trees db) content = meta_stored version db content k in
    let x : Row = Int (pos 1) ∷ Int one.schema ∷ Int one.last ∷ [] in
    let kept : Keeps (meta 0) (club_trees old.now) (x ∷ []) =
    subst (λ (d : Database). Keeps (meta 0) (club_trees d) (x ∷ [])) same
    (subst (Keeps (meta 0) (club_trees db)) one.is stored.rows) in
    let apart : AreApart (club_trees old.now 0) =
    subst (λ (d : Database). AreApart (club_trees d 0)) same stored.apart in
    record {
      schema = one.schema;
      last = one.last;
      is = is
          ∙ one_shown (meta 0) (club_trees old.now) shown x tells.keeps kept
          (ids_of (meta 0) (club_trees old.now 0) shown (λ r. refl) tells.once apart);
    }

-- rows that are shown in another order, of which there is one, are these
pub turned_one : (slice rows stored : List Row) → slice ≡ rows → IsPermutation stored rows → IsOneMeta stored
    → IsOneMeta slice
turned_one slice rows stored is turned one =
    let x : Row = Int (pos 1) ∷ Int one.schema ∷ Int one.last ∷ [] in
    let shown = subst (λ l. IsPermutation l rows) one.is turned in
    let long : length rows ≡ 1 = length_permutation (x ∷ []) rows shown in
    record { schema = one.schema; last = one.last; is = is ∙ only rows x long shown }
  where
    only : (rows : List Row) (x : Row) → length rows ≡ 1 → IsPermutation (x ∷ []) rows → rows ≡ x ∷ []
    only [] x long shown = absurd (omega (arith, long))
    only (y ∷ []) x long shown = elim (has_turned (y ∷ []) (x ∷ []) y (IsPermutation-sym (x ∷ []) (y ∷ []) shown) (inl refl)) [
      | inl same ↦ ap (λ r. r ∷ []) same
      | inr none ↦ absurd none
    ]
    only (y ∷ z ∷ rows) x long shown = absurd (omega (arith, long))

-- ---- several tables in turn

-- what has a place among the first elements has it among more
take_more_got : {A : Type 0} (xs : List A) (m n k : ℕ) (x : A) → m ≤ n → slice_get (take m xs) k ≡ Some x
    → slice_get (take n xs) k ≡ Some x
take_more_got xs zero n k x less at = cc
take_more_got [] (suc m) n k x less at = cc
take_more_got (y ∷ xs) (suc m) zero k x less at = absurd (omega (arith, less))
take_more_got (y ∷ xs) (suc m) (suc n) zero x less at = at
take_more_got (y ∷ xs) (suc m) (suc n) (suc k) x less at = take_more_got xs m n k x (omega (arith, less)) at

-- a table of all versions, by its place
pub place_in : (definition : Definition) (place : ℕ) → slice_get first_schema.tables place ≡ Some definition
    → slice_get club_schema.tables place ≡ Some definition → (version : Version)
    → slice_get (schema_of version).tables place ≡ Some definition
place_in definition place first current V1 = first
place_in definition place first current V2 = take_more_got all_tables 8 9 place definition (omega arith) first
place_in definition place first current V3 = take_more_got all_tables 8 12 place definition (omega arith) first

-- of a table that the schemas have at this place
pub names : (t : Table) (definition : Definition) (IsTyped : Row → Type 0) (old : State) (e : OpenFault)
    → ((version : Version) (content : Content) → HoldsRows version content old.now
    → HasTypes t content
    → Stores definition (club_trees old.now) content × AllByRecursion IsTyped (content definition.tree))
    → ReasonIsRight t definition IsTyped old e → NamesTable old.now e
names t definition IsTyped old e typed (inl store) = inl store
names t definition IsTyped old e typed (inr (inl memory)) = inr (inl memory)
names t definition IsTyped old e typed (inr (inr (named, wrong))) = inr (inr (
  t,
  named,
  λ version content k all.
      let (stored, are) = typed version content k all in wrong (content definition.tree) stored.rows stored.apart are,
))

-- of a table that both versions have at this place
pub names_both : (t : Table) (definition : Definition) (place : ℕ) (IsTyped : Row
    → Type 0) (old : State) (e : OpenFault)
    → slice_get first_schema.tables place ≡ Some definition → slice_get club_schema.tables place ≡ Some definition
    → ((content : Content) → HasTypes t content → AllByRecursion IsTyped (content definition.tree))
    → ReasonIsRight t definition IsTyped old e → NamesTable old.now e
names_both t definition place IsTyped old e first current typed =
    names t definition IsTyped old e (λ version content k all. (
      all_has (λ d. Stores d (club_trees old.now) content) (schema_of version).tables definition k.tables
          (has_got (schema_of version).tables place definition (place_in definition place first current version)),
      typed content all,
    ))

-- nothing changed, by one call and by the next
pub stays : {old mid new : State} → IsUnchanged old mid → IsUnchanged mid new → IsUnchanged old new
stays one two = unchanged_then _ _ _ one two

-- what is said of a database that did not change
pub before : (Is : Database → Type 0) {old mid : State} → IsUnchanged old mid → Is mid.now → Is old.now
before Is same = subst Is same.0.now_is

pub still : {old mid : State} → IsUnchanged old mid → HasClubTables old.now.schema → HasClubTables mid.now.schema
still same has = subst HasClubTables (sym (ap (λ (d : Database). d.schema) same.0.now_is)) has

pub still_of : {old mid : State} (version : Version) → IsUnchanged old mid → HasTablesOf version old.now.schema
    → HasTablesOf version mid.now.schema
still_of version same has =
    subst (HasTablesOf version) (sym (ap (λ (d : Database). d.schema) same.0.now_is)) has

pub read_after : {table : Definition} {count : ℕ} {rows : List Row} {old mid new : State} → IsUnchanged old mid
    → IsReadAs table count rows mid new → IsReadAs table count rows old new
read_after {table} {rows} same it = record {
  keeps = before (λ d. Keeps table (club_trees d) rows) same it.keeps;
  once = before (λ d. IsPermutation (map (cells table) (club_trees d table.tree)) rows) same it.once;
  apart = before (λ d. AreApart (club_trees d table.tree)) same it.apart;
  sorted = it.sorted;
  same = stays same it.same;
}

pub read_before : {table : Definition} {count : ℕ} {rows : List Row} {old mid new : State}
    → IsReadAs table count rows old mid → IsUnchanged mid new → IsReadAs table count rows old new
read_before it same = record {
  keeps = it.keeps;
  once = it.once;
  apart = it.apart;
  sorted = it.sorted;
  same = stays it.same same;
}

pub meta_before : (version : Version) (row : MetaRow) {old mid new : State} → IsMetaRead version row old mid
    → IsUnchanged mid new → IsMetaRead version row old new
meta_before version row (inl one) same = inl (read_before one.0 same, one.1, one.2)
meta_before version row (inr missing) same = inr missing

-- the rules of events that were read of a database that did not change
pub rules_unchanged : (version : Version) (events : List EventRow) (rules : List EventRuleRow) {old new : State}
    → AreRulesRead version events rules old new → IsUnchanged old new
rules_unchanged V1 events rules it = it.0
rules_unchanged V2 events rules it = it.same
rules_unchanged V3 events rules it = it.same

pub rules_after : (version : Version) (events : List EventRow) (rules : List EventRuleRow) {old mid : State}
    (new : State) → IsUnchanged old mid → AreRulesRead version events rules mid new
    → AreRulesRead version events rules old new
rules_after V1 events rules new same it = (stays same it.0, it.1)
rules_after V2 events rules new same it = read_after same it
rules_after V3 events rules new same it = read_after same it

pub rules_before : (version : Version) (events : List EventRow) (rules : List EventRuleRow) (old : State)
    {mid new : State} → AreRulesRead version events rules old mid → IsUnchanged mid new
    → AreRulesRead version events rules old new
rules_before V1 events rules old it same = (stays it.0 same, it.1)
rules_before V2 events rules old it same = read_before it same
rules_before V3 events rules old it same = read_before it same

-- what is said of rows of a database that did not change
pub rows_blamed_before : (oldest : Version) {old mid : State} (fault : OpenFault) → IsUnchanged old mid
    → NamesTable mid.now fault ⊎ NamesRows mid.now fault → IsRightFault oldest old.now fault
rows_blamed_before oldest fault same (inl table) = inl (before (λ d. NamesTable d fault) same table)
rows_blamed_before oldest fault same (inr rows) = inr (inr (inr (before (λ d. NamesRows d fault) same rows)))

-- the number that the one row of `meta` shows
pub has_number : (found : MetaRow) (old new : State) → IsReadAs (meta 0) 1 (meta_cells found ∷ []) old new
    → found.id ≡ pos 1 → HasNumber old.now found.schema
has_number found old new read id version content k =
    let stored : Stores (meta 0) (club_trees old.now) content = meta_stored version old.now content k in
    let here = read.keeps.stored (meta_cells found) (inl refl) in
    let has : Has (content 0) (meta_cells found) = subst (Has (content 0)) here.2 (stored.rows.only here.0 here.1) in
    (found.last, subst (λ n. Has (content 0) (Int n ∷ Int found.schema ∷ Int found.last ∷ [])) id has)

number_of : (v w : Version) → ◌≡◌ {A = ℤ} (pos (schema_number v)) (pos (schema_number w)) → v ≡ w
number_of V1 V1 is = refl
number_of V2 V2 is = refl
number_of V3 V3 is = refl
number_of _ _ is = cc

-- the number of a row is that of one version
number_row : (v w : Version) (n last other : ℤ)
    → Has ((Int (pos 1) ∷ Int (pos (schema_number v)) ∷ Int other ∷ []) ∷ []) (Int (pos 1) ∷ Int n ∷ Int last ∷ [])
    → n ≡ pos (schema_number w) → v ≡ w
number_row v w n last other (inl h) is = let row : pos (schema_number v) ≡ n = cc in number_of v w (row ∙ is)
number_row v w n last other (inr none) is = absurd none

-- a number beside the tables of another version
pub names_foreign : (found : MetaRow) (old new : State) (version : Version)
    → IsReadAs (meta 0) 1 (meta_cells found ∷ []) old new → found.id ≡ pos 1
    → found.schema ≡ pos (schema_number version) → ¬ HasTablesOf version old.now.schema
    → NamesForeign old.now Foreign
names_foreign found old new version read id number other = (
  refl,
  λ there content k one.
      let (last, has) = has_number found old new read id there content k in
      other (subst (λ v. HasTablesOf v old.now.schema) (number_row there version found.schema last one.1.0
      (subst (λ rows. Has rows (Int (pos 1) ∷ Int found.schema ∷ Int last ∷ [])) one.1.1 has) number) k.schema),
)

-- tables of another version than `meta` tells
pub foreign_named : (version : Version) (row : MetaRow) (old mid : State) → IsMetaRead version row old mid
    → ¬ HasTablesOf version old.now.schema → NamesForeign old.now Foreign
foreign_named version row old mid (inl (read, id, number)) other =
    names_foreign row old mid version read id number other
foreign_named version row old mid (inr (last, never, none, shown)) other = (
  refl,
  λ there content k one.
      none there content k (record { schema = pos (schema_number there); last = one.1.0; is = one.1.1 }),
)

-- The version that `meta` tells is that of whatever the database holds, if its tables exist and can be used as those of
-- the version.
pub one_told : (version v : Version) (row : MetaRow) (old mid : State) (content : Content)
    → IsMetaRead version row old mid → HasTablesOf version old.now.schema
    → is_of_club version old.now.schema ≡ true → HoldsRows v content old.now → version ≡ v
one_told V1 v row old mid content read has shape holds = sym (first_alone v old.now.schema has holds.schema)
one_told V2 V1 row old mid content read has shape holds = first_alone V2 old.now.schema holds.schema has
one_told V3 V1 row old mid content read has shape holds = first_alone V3 old.now.schema holds.schema has
one_told V2 V2 row old mid content read has shape holds = refl
one_told V3 V3 row old mid content read has shape holds = refl
one_told V2 V3 row old mid content (inl (read, id, number)) has shape holds =
    let (last, at) = has_number row old mid read id V3 content holds in
    absurd (holds.told.0 row.schema last at number)
one_told V2 V3 row old mid content (inr (assumed, never, none, shown)) has shape holds = elim assumed [
  | inl third ↦ absurd (let is = third.0 in cc)
  | inr second ↦
      let (n, (last, is)) = holds.told.1 second.1 in
      absurd (none V3 content holds (record { schema = n; last = last; is = is }))
]
one_told V3 V2 row old mid content (inl (read, id, number)) has shape holds =
    let (n, (last, is), other) = holds.told shape in
    let (later, at) = has_number row old mid read id V2 content holds in
    let same : n ≡ row.schema =
    elim (subst (λ rows. Has rows (Int (pos 1) ∷ Int row.schema ∷ Int later ∷ [])) is at) [
      | inl one ↦ cc
      | inr nothing ↦ absurd nothing
    ] in
    absurd (other (same ∙ number))
one_told V3 V2 row old mid content (inr (assumed, never, none, shown)) has shape holds =
    let (n, (last, is), other) = holds.told shape in
    absurd (none V2 content holds (record { schema = n; last = last; is = is }))

-- tables that do not answer as those of a club of their version
pub shape_named : (version : Version) (row : MetaRow) (old mid : State) → IsMetaRead version row old mid
    → is_of_club version old.now.schema ≡ false → NamesForeign old.now Foreign
shape_named version row old mid (inl (read, id, number)) other = (
  refl,
  λ there content k one.
      let (last, has) = has_number row old mid read id there content k in
      let same = number_row there version row.schema last one.1.0
      (subst (λ rows. Has rows (Int (pos 1) ∷ Int row.schema ∷ Int last ∷ [])) one.1.1 has) number in
      true≢false (sym (subst (λ v. is_of_club v old.now.schema ≡ true) same one.0) ∙ other),
)
shape_named version row old mid (inr (assumed, never, none, shown)) other = (
  refl,
  λ there content k one.
      none there content k (record { schema = pos (schema_number there); last = one.1.0; is = one.1.1 }),
)

-- ---- all tables

-- the one row of `meta` that is shown was read
pub read_one : (slice rows : List Row) (row : Row) (id : ℤ) (old new : State) → slice ≡ rows → slice ≡ row ∷ []
    → column row 0 ≡ Int id → ReturnsRows (meta 0) 1 rows (club_trees old.now) old new
    → IsReadAs (meta 0) 1 (row ∷ []) old new
read_one slice rows row id old new whole one first tells =
    let is : rows ≡ row ∷ [] = sym whole ∙ one in
    let ids : AreIds (row ∷ []) =
    record { apart = (tt, tt); ints = (subst (λ v. IsTrue (is_int v)) (sym first) refl, tt) } in
    record {
      keeps = subst (Keeps (meta 0) (club_trees old.now)) is tells.keeps;
      once = subst (IsPermutation (map (cells (meta 0)) (club_trees old.now 0))) is tells.once;
      apart = apart_of (meta 0) (club_trees old.now 0) rows (λ r. refl) tells.once (subst AreIds (sym is) ids);
      sorted = subst (IsSorted (by_columns 1)) is tells.sorted;
      same = tells.same;
    }

-- no two members, events or games have one id
pub have_ids : (version : Version) (rows : Rows) (old new : State) → AreRead version rows old new → HaveIds rows
have_ids version rows old new it = record {
  members = ids_of (members 1) (club_trees old.now 1) (map member_cells rows.members.items) (λ r. refl) it.members.once
      it.members.apart;
  events = ids_of (events 4) (club_trees old.now 4) (map event_cells rows.events.items) (λ r. refl) it.events.once
      it.events.apart;
  games = ids_of (games 10) (club_trees old.now 10) (map game_cells rows.games.items) (λ r. refl) it.games.once
      it.games.apart;
}

-- ---- from the rows that were read to the club that is stored so, and back

-- ---- places

next-is : (n k : ℕ) → suc n + k ≡ n + suc k
next-is n k = omega arith

here-is : (n : ℕ) → n ≡ n + 0
here-is n = omega arith

one-more : (k : ℕ) → 1 + k ≡ k + 1
one-more k = omega arith

heads : {A : Type 0} (x y : A) (xs ys : List A) → x ∷ xs ≡ y ∷ ys → (x ≡ y) × (xs ≡ ys)
heads x y xs ys is = (cc, cc)

pub row_id : (events : List Event) (n : ℕ) (any : ClubGame)
    → column (row_of_game both_games events n any) 0 ≡ Int (pos n)
row_id events n (draughts g) = refl
row_id events n (shogi g) = refl

-- rows that are numbered from 1 begin with their places
numbered_begin : {A : Type 0} (row : ℕ → A → Row) → ((n : ℕ) (x : A) → column (row n x) 0 ≡ Int (pos n))
    → (n : ℕ) (xs : List A) (k : ℕ) → k < length (numbered_from row n xs)
    → column (get_or (numbered_from row n xs) k []) 0 ≡ Int (pos (n + k))
numbered_begin row first n [] k low = absurd (omega arith)
numbered_begin row first n (x ∷ xs) zero low = first n x ∙ ap (λ m. Int (pos m)) (here-is n)
numbered_begin row first n (x ∷ xs) (suc k) low = numbered_begin row first (suc n) xs k (omega (arith, low))
    ∙ ap (λ m. Int (pos m)) (next-is n k)

pub begin_places : {A : Type 0} (row : ℕ → A → Row) → ((n : ℕ) (x : A) → column (row n x) 0 ≡ Int (pos n))
    → (xs : List A)
    → BeginWithPlaces (numbered_from row 1 xs)
begin_places row first xs k low = numbered_begin row first 1 xs k low ∙ ap (λ m. Int (pos m)) (one-more k)

-- ---- types

-- the rows of a legal club have the types of their columns
pub club_typed : (s : ClubState) → IsClub s → (t : Table) → HasTypes t (tables_of both_games s)
club_typed s club Members = members-typed s club
club_typed s club Events = events-typed s club
club_typed s club EventRules = rules-typed s club
club_typed s club Challenges = challenges_typed s.challenges
club_typed s club Moves = moves-typed s club
club_typed s club Games = games-typed s club
club_typed s club Seen = seen-typed s club
club_typed s club Scores = scores_typed both_games s.games
club_typed s club Keys = keys-typed s club
club_typed s club Rulings = rulings-typed s club
club_typed s club Closings = closings-typed s club
club_typed s club Meta =
    record { schema = pos (schema_number (version_of s)); last = pos s.last; is = refl }

pub typed_at : (version : Version) (s : ClubState) → IsClub s → (t : Table) → HasTypes t (tables_at version s)
typed_at V2 s club t = club_typed s club t
typed_at V3 s club t = club_typed s club t
typed_at V1 s club EventRules = tt
typed_at V1 s club Meta = record { schema = pos 1; last = pos s.last; is = refl }
typed_at V1 s club t = club_typed s club t

-- the row of `meta` of a legal club of this version
pub meta_at : (version : Version) (s : ClubState) → IsClubOf version s
    → tables_at version s 0 ≡ meta_row (schema_number version) s.last ∷ []
meta_at V1 s own = refl
meta_at V2 s own = ap (λ v. meta_row (schema_number v) s.last ∷ []) (version-without s own.1)
meta_at V3 s own = ap (λ v. meta_row (schema_number v) s.last ∷ []) (version-with s own.1)

-- what a row of `meta` tells
pub one_row : (version : Version) (s : ClubState) → IsClubOf version s → (id n last : ℤ)
    → Has (tables_at version s 0) (Int id ∷ Int n ∷ Int last ∷ [])
    → (n ≡ pos (schema_number version)) × (last ≡ pos s.last)
one_row version s own id n last has =
    elim (subst (λ rows. Has rows (Int id ∷ Int n ∷ Int last ∷ [])) (meta_at version s own) has) [
      | inl is ↦ (cc, cc)
      | inr none ↦ absurd none
    ]

pub one_meta_row : (version : Version) (s : ClubState) → IsClubOf version s → (last : ℤ)
    × (tables_at version s 0 ≡ (Int (pos 1) ∷ Int (pos (schema_number version)) ∷ Int last ∷ []) ∷ [])
one_meta_row version s own = (pos s.last, meta_at version s own)

-- a database of schema 3 lacks none of its tables
no_lack : (version : Version) (db : Database) → HasTablesOf version db.schema
    → ¬ LacksTables db (pos (schema_number version))
no_lack V1 db has lacks = let is = lacks.0 in cc
no_lack V2 db has lacks = let is = lacks.0 in cc
no_lack V3 db has lacks = lacks.1 has.0

-- A database with the tables of a legal club, which answer as a club's, is blamed for nothing, but for a version that
-- is not taken.
pub good_at : (oldest version : Version) (s : ClubState) → IsClubOf version s → (db : Database)
    → HasClub version db s → is_of_club version db.schema ≡ true → (fault : OpenFault) → IsRightFault oldest db fault
    → (fault ≡ Store)
    ⊎ ((fault ≡ Memory) ⊎ ((fault ≡ Schema (pos (schema_number version)))
    × (¬ IsNumberFrom oldest (pos (schema_number version)))))
good_at oldest version s club db holds shape fault (inl (inl store)) = inl store
good_at oldest version s club db holds shape fault (inl (inr (inl memory))) = inr (inl memory)
good_at oldest version s club db holds shape fault (inl (inr (inr (t, named, wrong)))) =
    absurd (wrong version (tables_at version s) holds (typed_at version s (club_of_version version s club) t))
good_at oldest version s club db holds shape fault (inr (inl (n, named, other, has))) =
    let (last, at) = has version (tables_at version s) holds in
    let is : n ≡ pos (schema_number version) = (one_row version s club (pos 1) n last at).0 in
    inr (inr (
      named ∙ ap Schema is,
      elim (subst (λ k. (¬ IsNumberFrom oldest k) ⊎ LacksTables db k) is other) [
        | inl none ↦ none
        | inr lacks ↦ absurd (no_lack version db holds.schema lacks)
      ],
    ))
good_at oldest version s club db holds shape fault (inr (inr (inl (named, none)))) =
    absurd (none version (tables_at version s) holds (shape, one_meta_row version s club))
good_at oldest version s club db holds shape _ (inr (inr (inr (t, named, none)))) = absurd (none version s club holds)

-- of a version that is taken it is blamed for nothing
pub good_taken : (oldest version : Version) (s : ClubState) → IsClubOf version s → (db : Database)
    → HasClub version db s → is_of_club version db.schema ≡ true → schema_number oldest ≤ schema_number version
    → (fault : OpenFault) → IsRightFault oldest db fault → (fault ≡ Store) ⊎ (fault ≡ Memory)
good_taken oldest version s club db holds shape taken fault blamed =
    elim (good_at oldest version s club db holds shape fault blamed) [
      | inl store ↦ inl store
      | inr (inl memory) ↦ inr memory
      | inr (inr (named, other)) ↦ absurd (other (version, refl, taken))
    ]

-- ---- what was read

-- tables with the same rows are held alike
pub keeps_same : (table : Definition) (db : Trees) (one other : List Row) → HaveSame one other → Keeps table db one
    → Keeps table db other
keeps_same table db one other same keeps = record {
  stored = λ row h. keeps.stored row (same.back row h);
  only = λ r h. same.there _ (keeps.only r h);
}

-- rows that were read where those of a numbered list stand are its own
pub numbered_kept : {A : Type 0} (table : Definition) (row : ℕ → A → Row) (xs : List A)
    → ((r : Row) → column (cells table r) 0 ≡ rowid r) → ((n : ℕ) (x : A) → column (row n x) 0 ≡ Int (pos n))
    → {rows : List Row} {old new : State} → Keeps table (club_trees old.now) (numbered_from row 1 xs)
    → IsReadAs table 1 rows old new → rows ≡ numbered_from row 1 xs
numbered_kept table row xs by_rowid first {rows} {old} keeps read =
    let made = numbered_from row 1 xs in
    let db = club_trees old.now in
    one_list rows made (in_order rows read.sorted (ids_of table (db table.tree) rows by_rowid read.once read.apart))
    (places_rise made (begin_places row first xs)) (moved table db rows made read.keeps keeps)
    (moved table db made rows keeps read.keeps)

-- so are rows of games, where those of a club stand
pub games_kept : (s : ClubState) {rows : List Row} {old new : State}
    → Keeps (games 10) (club_trees old.now) (tables_of both_games s 10) → IsReadAs (games 10) 1 rows old new
    → rows ≡ tables_of both_games s 10
games_kept s = numbered_kept (games 10) (row_of_game both_games s.events) s.games (λ r. refl) (row_id s.events)

-- of members, of events and of their rules
pub members_kept : (s : ClubState) {rows : List Row} {old new : State}
    → Keeps (members 1) (club_trees old.now) (tables_of both_games s 1) → IsReadAs (members 1) 1 rows old new
    → rows ≡ tables_of both_games s 1
members_kept s = numbered_kept (members 1) member_row s.members (λ r. refl) (λ n x. refl)

pub events_kept : (s : ClubState) {rows : List Row} {old new : State}
    → Keeps (events 4) (club_trees old.now) (tables_of both_games s 4) → IsReadAs (events 4) 1 rows old new
    → rows ≡ tables_of both_games s 4
events_kept s = numbered_kept (events 4) event_row s.events (λ r. refl) (λ n x. refl)

pub rules_kept : (s : ClubState) {rows : List Row} {old new : State}
    → Keeps (event_rules 16) (club_trees old.now) (tables_of both_games s 16) → IsReadAs (event_rules 16) 1 rows old new
    → rows ≡ tables_of both_games s 16
rules_kept s = numbered_kept (event_rules 16) rule_row s.events (λ r. refl) (λ n x. refl)

pub members_of : (s : ClubState) → IsClub s → (rows : List MemberRow) → map member_cells rows ≡ tables_of both_games s 1
    → AreMembers s.members rows
members_of s club rows are = record {
  rows_are = are;
  legal = club.members;
  count = club.member_count;
  names = club.member_names;
  keys = λ i j m n one two same. (club.member_keys i j 0 0 m n m.key one two refl (ap Some (sym same))).0;
}

pub events_of : (s : ClubState) → IsClub s → (rows : List EventRow) → map event_cells rows ≡ tables_of both_games s 4
    → AreEvents s.events rows
events_of s club rows are =
    record { rows_are = are; legal = club.events; count = club.event_count; names = club.event_names }

-- lists that are shown alike have at each place what is shown alike
pub mapped_at : {A B C : Type 0} (f : A → C) (g : B → C) (xs : List A) (ys : List B) → map f xs ≡ map g ys → (k : ℕ)
    (x : A) → slice_get xs k ≡ Some x → (y : B) × (slice_get ys k ≡ Some y) × (f x ≡ g y)
mapped_at f g [] ys same k x at = cc
mapped_at f g (a ∷ xs) [] same k x at = cc
mapped_at f g (a ∷ xs) (b ∷ ys) same zero x at =
    (b, refl, ap f (sym (same_Some a x at)) ∙ (heads (f a) (g b) _ _ same).0)
mapped_at f g (a ∷ xs) (b ∷ ys) same (suc k) x at = mapped_at f g xs ys (heads (f a) (g b) _ _ same).1 k x at

-- rows of rules that say 0 are those of events without declarations
pub none_declared : (n : ℕ) (es : List Event) (rows : List EventRow)
    → map undeclared_row rows ≡ numbered_from rule_row n es → Each (λ e. e.terms.declares ≡ false) es
none_declared n es rows are k e at =
    let (row, stands, cells) = numbered-back undeclared_row rule_row n rows es are k e at in
    let says : ◌≡◌ {A = ℤ} (pos (declares_number e.terms.declares)) (pos 0) = cc in
    declares-alike e.terms.declares false (same-pos _ _ says)

-- the rules of a club of schema 1, as rows that say 0
pub undeclared_rules : (n : ℕ) (es : List Event) (rows : List EventRow)
    → map event_cells rows ≡ numbered_from event_row n es
    → Each (λ e. e.terms.declares ≡ false) es → map undeclared_row rows ≡ numbered_from rule_row n es
undeclared_rules n [] [] are none = refl
undeclared_rules n [] (row ∷ rows) are none = cc
undeclared_rules n (e ∷ es) [] are none = cc
undeclared_rules n (e ∷ es) (row ∷ rows) are none =
    let (first, rest) = heads (event_cells row) (event_row n e) _ _ are in
    let id : row.id ≡ pos n = cc in
    let number : declares_number e.terms.declares ≡ 0 = ap declares_number (none 0 e refl) in
    λ i. (Int (id i) ∷ Int (pos (sym number i)) ∷ [])
    ∷ undeclared_rules (suc n) es rows rest (λ k x at. none (suc k) x at) i

-- and they are as many as the events, and have their places
pub undeclared_are : (es : List Event) (rows : List EventRow) (rules : List EventRuleRow) → AreEvents es rows
    → map event_rule_cells rules ≡ map undeclared_row rows → AreRules rules (length rows)
undeclared_are es rows rules are same = record {
  number = sym (length-map rules event_rule_cells) ∙ (ap length same ∙ length-map rows undeclared_row);
  rows_are = λ k rule at.
      let (row, there, alike) = mapped_at event_rule_cells undeclared_row rules rows same k rule at in
      let (e, stands, is) = numbered-at event_cells event_row 1 rows es are.rows_are k row there in
      let id : row.id ≡ pos (1 + k) = cc in
      let event : rule.event ≡ row.id = cc in
      let declares : rule.declares ≡ pos 0 = cc in
      record { event_is = event ∙ (id ∙ ap pos (one-more k)); declares = false; says = declares };
}

-- ---- of the tables of a file the first wrong one is named

-- ---- ids

number_is : (a : ℤ) (n : ℕ) → ◌≡◌ {A = Value} (Int a) (number n) → a ≡ pos n
number_is a n is = cc

number_same : (m n : ℕ) → ◌≡◌ {A = Value} (number m) (number n) → m ≡ n
number_same m n is = cc

next_is : (n : ℕ) → 1 + n ≡ suc n
next_is n = omega arith

module _ {A : Type 0} (row : ℕ → A → Row) (first : (n : ℕ) (x : A) → column (row n x) 0 ≡ number n) (xs : List A)
    (rows : List Row) (same : HaveSame rows (numbered_from row 1 xs)) where
  -- rows that are numbered from 1 have the ids up to their number, and no other
  id_among : (id : ℕ) → HasId rows id → (0 < id) × (id ≤ length xs)
  id_among id (z, has, is) =
      let (n, x, at, z_is) = numbered_had row 1 xs z (same.there z has) in
      let id_is : id ≡ 1 + n = number_same id (1 + n) (sym is ∙ (ap (λ r. column r 0) z_is ∙ first (1 + n) x)) in
      let low = slice_get_within xs n x at in
      (omega (arith, id_is), omega (arith, id_is, low))

  among_id : (id : ℕ) → 0 < id → id ≤ length xs → HasId rows id
  among_id zero low high = absurd (omega (arith, low))
  among_id (suc n) low high =
      let (x, at) = there_at xs n (omega (arith, high)) in (
        row (1 + n) x,
        same.back (row (1 + n) x) (numbered_has row 1 xs n x at),
        first (1 + n) x ∙ ap number (next_is n),
      )

-- ---- games

module _ (games : List GameTableRow) (rows : List Row) (same : HaveSame rows (map game_cells games)) where
  pub game_among : (id : ℕ) (p : Pairing) → HasGame rows id p → IsGameAmong games id p
  game_among id p has =
      let (game, there, is) = has_mapped game_cells games has.row (same.there has.row has.there) in
      let (k, at) = had_place games game there in
      record {
        place = k;
        row = game;
        at = at;
        id_is = number_is game.id id (sym (ap (λ r. column r 0) is) ∙ has.id_is);
        of = record {
          event = number_is game.event p.event (sym (ap (λ r. column r 2) is) ∙ has.event_is);
          first = number_is game.first p.first (sym (ap (λ r. column r 3) is) ∙ has.first_is);
          second = number_is game.second p.second (sym (ap (λ r. column r 4) is) ∙ has.second_is);
        };
      }

  pub among_game : (id : ℕ) (p : Pairing) → IsGameAmong games id p → HasGame rows id p
  among_game id p among = record {
    row = game_cells among.row;
    there = same.back (game_cells among.row)
        (has_map game_cells games among.row (has_got games among.place among.row among.at));
    id_is = ap Int among.id_is;
    event_is = ap Int among.of.event;
    first_is = ap Int among.of.first;
    second_is = ap Int among.of.second;
  }

-- ---- challenges

short_standing : (c : Challenge) (standing : ChallengeState) → c.standing ≡ standing
    → ((id : ℕ) → c.standing ≡ Accepted id → id < 2 ^ 32) → HasShortGame standing
short_standing c (Accepted id) is short = short id is
short_standing c _ is short = tt

module _ (content : Content) (rows : Rows) (s : ClubState) (people : HasPeople s rows)
    (same_ms : HaveSame (content 1) (map member_cells rows.members.items))
    (same_es : HaveSame (content 4) (map event_cells rows.events.items))
    (same_cs : HaveSame (content 6) (map challenge_cells rows.challenges.items))
    (game_there : (id : ℕ) (p : Pairing) → HasGame (content 10) id p → IsGameAmong rows.games.items id p)
    (game_back : (id : ℕ) (p : Pairing) → IsGameAmong rows.games.items id p → HasGame (content 10) id p) where
  member_ids : HaveSame (content 1) (numbered_from member_row 1 s.members)
  member_ids = subst (HaveSame (content 1)) people.members.rows_are same_ms

  event_ids : HaveSame (content 4) (numbered_from event_row 1 s.events)
  event_ids = subst (HaveSame (content 4)) people.events.rows_are same_es

  pub member_count : length rows.members.items ≡ length s.members
  member_count = numbered-length member_cells member_row 1 rows.members.items s.members people.members.rows_are

  pub event_count : length rows.events.items ≡ length s.events
  event_count = numbered-length event_cells event_row 1 rows.events.items s.events people.events.rows_are

  -- the ids of members and of events are those up to their numbers
  member_id : (id : ℕ) → HasId (content 1) id → (0 < id) × (id ≤ length rows.members.items)
  member_id id has =
      let (low, high) = id_among member_row (λ n x. refl) s.members (content 1) member_ids id has in
      (low, omega (arith, high, member_count))

  id_member : (id : ℕ) → (0 < id) × (id ≤ length rows.members.items) → HasId (content 1) id
  id_member id (low, high) = among_id member_row (λ n x. refl) s.members (content 1) member_ids id low
      (omega (arith, high, member_count))

  challenge_among : (c : Challenge) → IsChallengeIn content c → IsChallengeAmong rows c
  challenge_among c it =
      let (low, high) = id_among event_row (λ n x. refl) s.events (content 4) event_ids c.event it.event in
      record {
        number = it.number;
        member = member_id c.member it.member;
        other = member_id c.other it.other;
        apart = it.apart;
        event = (low, omega (arith, high, event_count));
        game = λ id is. game_there id (pairing_for c) (it.game id is).1;
      }

  challenge_in : (c : Challenge) → IsChallengeAmong rows c → HasShortGame c.standing → IsChallengeIn content c
  challenge_in c it short = record {
    number = it.number;
    member = id_member c.member it.member;
    other = id_member c.other it.other;
    apart = it.apart;
    event = let high = it.event.1 in
        among_id event_row (λ n x. refl) s.events (content 4) event_ids c.event it.event.0
        (omega (arith, high, event_count));
    game = λ id is. (subst HasShortGame is short, game_back id (pairing_for c) (it.game id is));
  }

  -- challenges that pass are right
  pub challenges_right : (cs : List Challenge) → AreChallenges cs rows → HaveChallenges content
  challenges_right cs are = record {
    challenges = cs;
    same = same_then (content 6) (map challenge_cells rows.challenges.items) (map challenge_row cs) same_cs
        are.rows_are.same;
    each = λ n c at. challenge_in c (are.legal n c at) (are.short n c at);
    numbers = are.numbers;
  }

  -- and those that are right pass, each of them read once
  pub right_challenges : (have : HaveChallenges content)
      → AreEachOnce (map challenge_cells rows.challenges.items) (map challenge_row have.challenges)
      → AreChallenges have.challenges rows
  right_challenges have once = record {
    rows_are = once;
    legal = λ n c at. challenge_among c (have.each n c at);
    short = λ n c at. short_standing c c.standing refl (λ id is. ((have.each n c at).game id is).0);
    numbers = have.numbers;
  }

-- rows of challenges that were read are those of the content, each once
pub challenges_once : (version : Version) (content : Content) (rows : List Row) (old new : State)
    → HoldsRows version content old.now → Stores (challenges 6) (club_trees old.now) content → (cs : List Challenge)
    → HaveSame (content 6) (map challenge_row cs) → IsReadAs (challenges 6) 2 rows old new
    → AreEachOnce rows (map challenge_row cs)
challenges_once version content rows old new holds stored cs same read =
    let made = map challenge_row cs in
    let keyed = challenge_key (club_trees old.now) (unique_of version old.now content holds)
    (λ r h. all_has IsChallenge made (cells (challenges 6) r) (challenges_typed cs)
    (same.there (cells (challenges 6) r) (stored.rows.only r h))) in
    each_once (challenges 6) 2 (1 ∷ 2 ∷ []) rows made old new keyed
    (keeps_same (challenges 6) (club_trees old.now) (content 6) made same stored.rows) read

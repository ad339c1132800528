-- The schema number tells which version a file has.
use Rattle.std.proofs.Common.{◌≡◌, ◌≢◌, ◌⊎◌, Bool, false, true, [], ◌∷◌, ℤ, inl, inr, refl, subst, sym, ap, ◌∙◌}
use Rattle.std.proofs.Common.{pos, map, true≢false, ◌≤◌, ◌<◌, arith, if◌then◌else◌}
use Rattle.std.proofs.lemmas.Int.{ints}
use Rattle.std.proofs.lemmas.List.Sorted.{IsPermutation-refl}
use Rattle.sqlite.specs.Effect.{Database}
use Rattle.sqlite.specs.Order.{Row}
use Rattle.sqlite.specs.Schema.{Schema}
use Rattle.sqlite.specs.State.{State, IsUnchanged}
use Rattle.sqlite_rules.specs.Lists.{Has}
use Rattle.sqlite_schema.specs.Names.{same_name}
use Rattle.sqlite_value.specs.declared.value.Value.TheVariants.{Int}
use Rattle.schema_match.specs.Shapes.{is_of_club}
use Rattle.store_tables.specs.Content.{Keeps, cells}
use Rattle.store_tables.specs.Contents.{Content, Stores}
use Rattle.store_tables.specs.Placed.{HasTables, HasTablesOf, club_trees}
use Rattle.store_tables.specs.Tables.{IsServed, meta, schema_number, schema_of}
use Rattle.store_tables.specs.declared.names.Version.{Version}
use Rattle.store_tables.specs.declared.names.Version.TheVariants.{V1, V2, V3}
use Rattle.store_tables.specs.declared.rows.MetaRow.{MetaRow}
use Rattle.store_tables.proofs.Proved.{has_map, has_mapped, ids_of, one_shown, versions_apart}
use Rattle.club_rows.specs.Club.{ClubState, IsClub, tables}
use Rattle.club_rows.specs.Tables.{version_of}
use Rattle.club_rows.specs.FirstSchema.{IsClubOf, tables_at}
use Rattle.club_check.specs.Versions.{HasClub, HasOnlyNumber, HasToldTables, HoldsRows, IsTold}
use Rattle.club_check.specs.ReasonIsRight.{HasNumber, HoldsOnly, IsNumberFrom, IsRightFault, NamesSchema}
use Rattle.club_check.specs.internal.ReasonIsRight.{HoldsIn, IsAssumed, IsMetaRead}
use Rattle.club_check.specs.declared.fault.OpenFault.{OpenFault}
use Rattle.club_check.specs.declared.fault.OpenFault.TheVariants.{Memory, Store}
use Rattle.club_check.specs.declared.fault.OpenFault.TheVariants as open_fault
use Rattle.club_check.proofs.StoredLemmas.{alone_of}
use Rattle.club_check.proofs.ClubLemmas.{has_number, meta_stored, one_meta_row, one_row, one_told}

-- ---- a legal club

-- the schema number of a legal club tells its version, whatever tables of schema 3 stand beside it
pub club_told : (version : Version) (s : ClubState) → IsClubOf version s → (schema : Schema)
    → IsTold version schema (tables_at version s)
club_told V1 s own schema = tt
club_told V2 s own schema = λ third. (pos 2, one_meta_row V2 s own, λ is. cc)
club_told V3 s own schema = (
  λ n last has is. let number = (one_row V3 s own (pos 1) n last has).0 in cc (number, is),
  λ other. (pos 3, one_meta_row V3 s own),
)

-- a table that stores one row with the id 1 in `meta` shows it alone
number_shown : (db : Database) (content : Content) (n : ℤ) → Stores (meta 0) (club_trees db) content
    → HasOnlyNumber n content → HasOnlyNumber n (λ tree. map (cells (meta 0)) (club_trees db tree))
number_shown db content n stored (last, is) =
    let row : Row = Int (pos 1) ∷ Int n ∷ Int last ∷ [] in
    let shown = map (cells (meta 0)) (club_trees db 0) in
    let keeps : Keeps (meta 0) (club_trees db) shown = record {
      stored = λ z h.
          let (r, there, same) = has_mapped (cells (meta 0)) (club_trees db 0) z h in (r, there, sym same);
      only = λ r h. has_map (cells (meta 0)) (club_trees db 0) r h;
    } in (
      last,
      one_shown (meta 0) (club_trees db) shown row keeps (subst (Keeps (meta 0) (club_trees db)) is stored.rows)
          (ids_of (meta 0) (club_trees db 0) shown (λ r. refl) (IsPermutation-refl shown) stored.apart),
    )

-- the number of a version that is not schema 3
other_number : (version : Version) (s : ClubState) → IsClubOf version s → (db : Database) → HasClub version db s
    → pos (schema_number version) ≢ pos 3
    → (n : ℤ) × HasOnlyNumber n (λ tree. map (cells (meta 0)) (club_trees db tree)) × (n ≢ pos 3)
other_number version s own db holds other = (
  pos (schema_number version),
  number_shown db (tables_at version s) (pos (schema_number version))
      (meta_stored version db (tables_at version s) holds) (one_meta_row version s own),
  other,
)

-- the tables of a legal club are told by its schema number
pub tables_told : (version : Version) (s : ClubState) → IsClubOf version s → (db : Database) → HasClub version db s
    → HasToldTables db
tables_told V1 s own db holds =
    record { club = (V1, holds.schema); third = λ is. inr (other_number V1 s own db holds (λ same. cc)) }
tables_told V2 s own db holds =
    record { club = (V2, holds.schema); third = λ is. inr (other_number V2 s own db holds (λ same. cc)) }
tables_told V3 s own db holds = record { club = (V3, holds.schema); third = λ is. inl holds.schema.0 }

-- ---- any database

-- where the version is told, and its tables stand and can be used as its own, a content can only be of this version
pub holds_in : (version : Version) (row : MetaRow) (old mid : State) → IsMetaRead version row old mid
    → HasTablesOf version old.now.schema → is_of_club version old.now.schema ≡ true → HoldsIn version old.now
holds_in version row old mid read has shape v content holds =
    sym (one_told version v row old mid content read has shape holds)

-- what holds of each content of the version holds of each that the database may hold
pub in_version : (version : Version) (db : Database) → HoldsIn version db → (IsSo : Version → Content → Type 0)
    → ((content : Content) → HoldsRows version content db → IsSo version content) → HoldsOnly db IsSo
in_version version db one IsSo each v content holds =
    let is : v ≡ version = one v content holds in
    subst (λ w. IsSo w content) (sym is) (each content (subst (λ w. HoldsRows w content db) is holds))

-- a database that did not change holds its contents in the same version, and has the same tables
pub still_in : {old mid : State} (version : Version) → IsUnchanged old mid → HoldsIn version old.now
    → HoldsIn version mid.now
still_in version same one = subst (HoldsIn version) (sym same.0.now_is) one

pub still_third : {old mid : State} → IsUnchanged old mid → HasTables V3 old.now.schema → HasTables V3 mid.now.schema
still_third same has = subst (λ (d : Database). HasTables V3 d.schema) (sym same.0.now_is) has

-- the version that is assumed without a schema number
pub assumed_is : (third : Bool) (version : Version) (old : State) → version ≡ (if third then V3 else V2)
    → is_of_club V3 old.now.schema ≡ third → IsAssumed version old
assumed_is true version old is third = inl (is, third)
assumed_is false version old is third = inr (is, third)

-- tables of schema 3 are missing, though `meta` has its number
pub lacks_named : (row : MetaRow) (old mid : State) (oldest : Version) (e : OpenFault) → HasToldTables old.now
    → IsMetaRead V3 row old mid → e ≡ open_fault.Schema (pos 3) → ¬ HasTables V3 old.now.schema
    → NamesSchema oldest old.now e
lacks_named row old mid oldest e told (inl (read, id, number)) named lacks = (
  pos 3,
  named,
  inr (refl, lacks),
  λ v content holds.
      let (last, at) = has_number row old mid read id v content holds in
      (last, subst (λ n. Has (content 0) (Int (pos 1) ∷ Int n ∷ Int last ∷ [])) number at),
)
lacks_named row old mid oldest e told (inr (inl (is, third), never, none, shown)) named lacks =
    elim (told.third third) [
      | inl has ↦ absurd (lacks has)
      | inr (n, (last, one), other) ↦ absurd (shown (record { schema = n; last = last; is = one }))
    ]
lacks_named row old mid oldest e told (inr (inr (is, third), never, none, shown)) named lacks = absurd (let same = is in cc)

-- the tables of the version that is told stand
pub told_stand : (version : Version) (row : MetaRow) (old mid : State) → HasToldTables old.now
    → IsMetaRead version row old mid → (version ≢ V3 → HasTablesOf version old.now.schema)
    → is_of_club version old.now.schema ≡ true → HasTablesOf version old.now.schema
told_stand V1 row old mid told read has shape = has (λ is. cc)
told_stand V2 row old mid told read has shape = has (λ is. cc)
told_stand V3 row old mid told (inl (read, id, number)) has shape = elim (told.third shape) [
  | inl stand ↦ (stand, tt)
  | inr (n, (last, one), other) ↦
      let (r, there, same) = read.keeps.stored _ (inl refl) in
      let shown = has_map (cells (meta 0)) (club_trees old.now 0) r there in
      absurd
      (elim (subst (λ rows. Has rows (cells (meta 0) r)) one shown) [
        | inl is ↦ other (number_is n last row same is number)
        | inr nothing ↦ nothing
      ])
]
  where
    number_is : (n last : ℤ) (row : MetaRow) {z : Row} → z ≡ Int row.id ∷ Int row.schema ∷ Int row.last ∷ []
        → z ≡ Int (pos 1) ∷ Int n ∷ Int last ∷ [] → row.schema ≡ pos 3 → n ≡ pos 3
    number_is n last row one two number = let both = sym two ∙ one in let same : n ≡ row.schema = cc in same ∙ number
told_stand V3 row old mid told (inr (assumed, never, none, shown)) has shape = elim (told.third shape) [
  | inl stand ↦ (stand, tt)
  | inr (n, (last, one), other) ↦ absurd (shown (record { schema = n; last = last; is = one }))
]

-- ---- the head

pub least_number : (version : Version) → schema_number V1 ≤ schema_number version
least_number V1 = omega arith
least_number V2 = omega arith
least_number V3 = omega arith

-- a number that is of no version is of none from a later one on
no_later : (oldest : Version) (n : ℤ) → ¬ IsNumberFrom V1 n → ¬ IsNumberFrom oldest n
no_later oldest n none = λ is. none (is.0, is.1, least_number is.0)

-- a version from schema 2 on is one that the program serves
pub served_from : (version : Version) → schema_number V2 ≤ schema_number version → IsServed version
served_from V1 from = absurd (omega (arith, from))
served_from V2 from = refl
served_from V3 from = refl

pub told_blamed : (oldest : Version) (db : Database) (e : OpenFault)
    → (e ≡ Store) ⊎ ((e ≡ Memory) ⊎ NamesSchema V1 db e) → IsRightFault oldest db e
told_blamed oldest db e (inl store) = inl (inl store)
told_blamed oldest db e (inr (inl memory)) = inl (inr (inl memory))
told_blamed oldest db e (inr (inr (n, named, inl none, has))) = inr (inl (n, named, inl (no_later oldest n none), has))
told_blamed oldest db e (inr (inr (n, named, inr lacks, has))) = inr (inl (n, named, inr lacks, has))

-- a version before those that are taken is named by its number
pub refused_named : (oldest version : Version) → schema_number oldest ≤ schema_number V2 → (row : MetaRow)
    (old mid : State) (e : OpenFault) → IsMetaRead version row old mid
    → e ≡ open_fault.Schema (pos (schema_number version)) → schema_number version < schema_number oldest
    → NamesSchema oldest old.now e
refused_named oldest version low row old mid e (inl (read, id, number)) named less = (
  pos (schema_number version),
  named,
  inl (λ is. absurd (omega (arith, ints, is.1, is.2, less))),
  subst (HasNumber old.now) number (has_number row old mid read id),
)
refused_named oldest version low row old mid e (inr (assumed, never, none, shown)) named less = elim assumed [
  | inl third ↦ absurd (let high = ap schema_number third.0 in omega (arith, low, high, less))
  | inr second ↦ absurd (let high = ap schema_number second.0 in omega (arith, low, high, less))
]

-- ---- a club of the version that it has

module _ (s : ClubState) where
  pub club_at : IsClub s → IsClubOf (version_of s) s
  club_at club = of s.has_arbiter refl
    where
      of : (arbiter : Bool) → s.has_arbiter ≡ arbiter → IsClubOf (if arbiter then V3 else V2) s
      of true is = (club, is)
      of false is = (club, is)

  pub served_number : schema_number V2 ≤ schema_number (version_of s)
  served_number = of s.has_arbiter
    where
      of : (arbiter : Bool) → schema_number V2 ≤ schema_number (if arbiter then V3 else V2)
      of true = omega arith
      of false = omega arith

  pub tables_same : {db : Database} → HoldsRows (version_of s) (tables s) db
      → HoldsRows (version_of s) (tables_at (version_of s) s) db
  tables_same {db} holds = of s.has_arbiter holds
    where
      of : (arbiter : Bool) → HoldsRows (if arbiter then V3 else V2) (tables s) db
          → HoldsRows (if arbiter then V3 else V2) (tables_at (if arbiter then V3 else V2) s) db
      of true it = it
      of false it = it

-- ---- a club's tables alone

-- the tables of an earlier version cannot be used as those of schema 3
fewer_tables : (version : Version) → version ≢ V3 → is_of_club V3 (schema_of version) ≡ false
unfolding same_name
fewer_tables V1 other = refl
fewer_tables V2 other = refl
fewer_tables V3 other = absurd (other refl)

-- where only the tables of a version stand, the version is told
pub alone_told : (version : Version) (db : Database) → db.schema ≡ schema_of version → HasToldTables db
alone_told version db is = record { club = (version, alone_of version db.schema is); third = of version is }
  where
    of : (v : Version) → db.schema ≡ schema_of v → is_of_club V3 db.schema ≡ true
        → HasTables V3 db.schema
        ⊎ ((n : ℤ) × HasOnlyNumber n (λ tree. map (cells (meta 0)) (club_trees db tree)) × (n ≢ pos 3))
    of V3 is third = inl (alone_of V3 db.schema is).0
    of V1 is third =
        let fits = subst (λ schema. is_of_club V3 schema ≡ true) is third in
        absurd (true≢false (sym fits ∙ fewer_tables V1 (λ same. cc)))
    of V2 is third =
        let fits = subst (λ schema. is_of_club V3 schema ≡ true) is third in
        absurd (true≢false (sym fits ∙ fewer_tables V2 (λ same. cc)))

-- a file with the tables of schema 2 is of no earlier version
pub newer_served : (version : Version) (schema : Schema) → HasTablesOf V2 schema
    → (version ≢ V3 → HasTablesOf version schema) → IsServed version
newer_served V1 schema has own = absurd (versions_apart schema V2 refl (own (λ is. cc)) has.0)
newer_served V2 schema has own = refl
newer_served V3 schema has own = refl

-- A club that is made behind the tables of other programs takes its rows there.
use Rattle.std.proofs.Common.{◌≡◌, ◌≤◌, ℕ, zero, suc, ◌+◌, ◌==◌, ◌&&◌, true, false, Bool, cond, List, [], ◌∷◌, Option}
use Rattle.std.proofs.Common.{Some, None, Ok, refl, sym, ap, subst, ◌∙◌, map, slice_index_or, inl, true≢false, IfSome}
use Rattle.std.proofs.Common.{arith, option_map, find, if◌then◌else◌, nat_lt, option_and_then, ◌^◌, eq-eqb, le_refl}
use Rattle.std.proofs.Common.{bytes_eq}
use Rattle.std.proofs.lemmas.Bool.{and_parts, false_from_ne_true}
use Rattle.std.proofs.lemmas.List.Folds.{find-append}
use Rattle.std.specs.List.{AllByRecursion}
use Rattle.std.specs.Option.{option_or}
use Rattle.store_tables.specs.Sql.{Schema, Table, Has}
use Rattle.sqlite_catalog.proofs.ListFacts.{ascending_push}
use Rattle.sqlite_catalog.proofs.StepLemmas.{table_below}
use Rattle.sqlite_catalog.specs.Change.{automatics, created, next_tree}
use Rattle.sqlite_catalog.specs.Listing.{automatic}
use Rattle.sqlite_resolve.specs.Given.{is_key_at, key_at}
use Rattle.sqlite_resolve.specs.Lowering.{or_else}
use Rattle.sqlite_resolve.specs.declared.error.CompileError.TheVariants.{Misuse}
use Rattle.sqlite_rules.proofs.ListLemmas.{all_from, all_has, has_found, has_left, has_right}
use Rattle.sqlite_schema.specs.Names.{same_name, table_named}
use Rattle.sqlite_schema.specs.Rules.{ParentKey, declared_order, key_in, key_places, parent_key}
use Rattle.sqlite_schema.specs.declared.schema.Index.{Index}
use Rattle.sqlite_schema.specs.declared.schema.Reference.{Reference}
use Rattle.sqlite_value.specs.Keys.{plain}
use Rattle.sqlite_value.specs.declared.keys.Order.{Order}
use Rattle.store_tables.specs.Contents.{Content, nothing}
use Rattle.store_tables.specs.Names.{table_name, tree_of}
use Rattle.store_tables.specs.Placed.{HasTables, IsAlike, IsLeftAlone, IsOfOthers, HasTableAt, TakesClub, only, tables_of}
use Rattle.store_tables.proofs.PlacedCreates.{is_free}
use Rattle.store_tables.specs.Room.{AreUnused, IsNoName, IsUnrelated, made_in}
use Rattle.store_tables.proofs.PlacedSteps.{AreHere, IsEmptyFrom, IsOwned, LeavesRoom, each_from, one_tree}
use Rattle.store_tables.specs.Tables.{indexes_of, made_as}
use Rattle.store_tables.specs.declared.names.Table as of_club
use Rattle.store_tables.specs.declared.names.Table.TheVariants.{Closings, EventRules, Events, Games, Keys, Members, Meta}
use Rattle.store_tables.specs.declared.names.Version.{Version}
use Rattle.store_tables.proofs.PlacedSelects.{name_is, tree_is}
use Rattle.sqlite_trees.proofs.ListLemmas.{all-append, all_both, all_weaker}
use Rattle.store_tables.proofs.PlacedCreated.{apart, find_none, grown, next_rises, same_table, stands_grown}
use Rattle.store_tables.proofs.PlacedCreated.{stands_kept}

-- ---- what a table of a club has not

no_references : (table : of_club.Table) (tree : ℕ) → (made_as table tree).references ≡ []
no_references Meta tree = refl
no_references _ tree = refl

plain_orders : (table : of_club.Table) (tree : ℕ)
    → (made_as table tree).orders ≡ map (λ key. plain) (made_as table tree).uniques
plain_orders Meta tree = refl
plain_orders _ tree = refl

other_name : (version : Version) (table : of_club.Table) → Has (tables_of version) table → (tree : ℕ) (name : List ℕ)
    → IsNoName version name → same_name (made_as table tree).name name ≡ false
other_name version table listed tree name none =
    subst (λ n. same_name n name ≡ false) (sym (name_is table tree))
    (all_has (λ u. same_name (table_name u) name ≡ false) (tables_of version) table none listed)

all_plain : (keys : List (List ℕ)) (at : ℕ) → slice_index_or (map (λ key. plain) keys) at plain ≡ plain
all_plain [] at = refl
all_plain (key ∷ keys) zero = refl
all_plain (key ∷ keys) (suc at) = all_plain keys at

-- the index is of the table, in the plain order
abbrev IsPlainOf : Table → Index → Type 0
IsPlainOf table index = (index.table ≡ table.tree) × (index.order ≡ plain)

automatics_plain : (table : Table) → ((at : ℕ) → slice_index_or table.orders at plain ≡ plain) → (keys : List (List ℕ))
    (from tree : ℕ) → AllByRecursion (IsPlainOf table) (automatics table from tree keys)
automatics_plain table is [] from tree = tt
automatics_plain table is (key ∷ keys) from tree =
    ((refl, is from), automatics_plain table is keys (from + 1) (tree + 1))

-- the key is of another table than this, if there is a key
abbrev IsElsewhere : Table → Option ParentKey → Type 0
IsElsewhere parent key = IfSome key (λ k. AllByRecursion (λ (t : Table). (k.0 == t.tree) ≡ false) (only parent).tables)

-- ---- a table of a club more

module _ (version : Version) (schema : Schema) (room : LeavesRoom version schema) (table : of_club.Table)
    (listed : Has (tables_of version) table) where
  abbrev tree : ℕ
  tree = next_tree schema

  abbrev new : Table
  new = made_as table tree

  abbrev more : Schema
  more = grown schema new

  below : (t : Table) → Has schema.tables t → (t.tree == new.tree) ≡ false
  below t has =
      subst (λ n. (t.tree == n) ≡ false) (sym (tree_is table tree)) (apart t.tree tree (table_below schema t has))

  orders : (at : ℕ) → slice_index_or new.orders at plain ≡ plain
  orders at = ap (λ o. slice_index_or o at plain) (plain_orders table tree) ∙ all_plain new.uniques at

  new_plain : AllByRecursion (IsPlainOf new) (indexes_of new)
  new_plain = automatics_plain new orders new.uniques 0 (new.tree + 1)

  refers_to_none : (P : Reference → Type 0) → AllByRecursion P new.references
  refers_to_none P = subst (AllByRecursion P) (sym (no_references table tree)) tt

  leaves_room : LeavesRoom version more
  leaves_room = record {
    trees = ascending_push (λ (a b : Table). a.tree ≡ b.tree → ⊥) schema.tables new room.trees
        (λ t has same. true≢false (sym (eq-eqb t.tree new.tree same) ∙ below t has));
    owned = all-append (IsOwned more) schema.indexes (indexes_of new)
        (all_weaker (IsOwned schema) (IsOwned more)
        (λ i it. (it.0, has_left schema.tables (new ∷ []) it.0 it.1, it.2)) schema.indexes room.owned)
        (all_weaker (IsPlainOf new) (IsOwned more)
        (λ i it. (new, has_right schema.tables (new ∷ []) new (inl refl), it.0)) (indexes_of new) new_plain);
    unrelated = all-append (IsUnrelated version) schema.tables (new ∷ []) room.unrelated
        (refers_to_none (λ ref. IsNoName version ref.parent), tt);
  }

  -- ---- the parents of FOREIGN KEYs

  abbrev is_parent : Reference → Table → Bool
  is_parent ref t = same_name t.name ref.parent

  abbrev key_of : Reference → Option Table → Option ParentKey
  key_of ref found = option_and_then (λ t. option_and_then (key_in t) (key_places t ref.parent_columns)) found

  no_more : (o : Option Table) → option_or o None ≡ o
  no_more None = refl
  no_more (Some t) = refl

  parent_kept : (ref : Reference) → IsNoName version ref.parent → parent_key more.tables ref ≡ parent_key schema.tables ref
  parent_kept ref unrelated =
      ap (key_of ref)
      (find-append (is_parent ref) schema.tables (new ∷ [])
      ∙ (λ i. option_or (find (is_parent ref) schema.tables)
      (cond (other_name version table listed tree ref.parent unrelated i) (Some new) None))
      ∙ no_more (find (is_parent ref) schema.tables))

  -- no FOREIGN KEY refers to the new table
  no_parent : (ref : Reference) (found : Option Table) → ((t : Table) → found ≡ Some t → (t.tree == new.tree) ≡ false)
      → IsElsewhere new (key_of ref found)
  no_parent ref None other = tt
  no_parent ref (Some t) other = of_places (key_places t ref.parent_columns)
    where
      of_order : (places : List ℕ) (o : Option Order)
          → IsElsewhere new (option_map (λ by. (t.tree, places, by)) o)
      of_order places None = tt
      of_order places (Some by) = (other t refl, tt)

      of_places : (places : Option (List ℕ)) → IsElsewhere new (option_and_then (key_in t) places)
      of_places None = tt
      of_places (Some places) = of_order places (declared_order t places)

  abbrev HasNoChild : List Table → Table → Table → Type 0
  HasNoChild tables parent t = AllByRecursion (IsOfOthers (only parent) tables) t.references

  new_childless : AllByRecursion (HasNoChild more.tables new) more.tables
  new_childless =
      all-append (HasNoChild more.tables new) schema.tables (new ∷ [])
      (all_weaker (IsUnrelated version) (HasNoChild more.tables new)
      (λ t. all_weaker (λ (ref : Reference). IsNoName version ref.parent) (IsOfOthers (only new) more.tables) refers
      t.references) schema.tables room.unrelated) (refers_to_none (IsOfOthers (only new) more.tables), tt)
    where
      refers : (ref : Reference) → IsNoName version ref.parent → IsOfOthers (only new) more.tables ref
      refers ref unrelated =
          subst (IsElsewhere new) (sym (parent_kept ref unrelated))
          (no_parent ref (find (is_parent ref) schema.tables)
          (λ t is. below t (has_found (is_parent ref) schema.tables t is).0))

  -- ---- the new table

  of_others : (i : Index) → Has schema.indexes i → (i.table == new.tree) ≡ false
  of_others i has =
      let it = all_has (IsOwned schema) schema.indexes i room.owned has in
      subst (λ n. (n == new.tree) ≡ false) (sym it.2) (below it.0 it.1)

  new_alike : AllByRecursion (IsAlike new) more.indexes
  new_alike =
      all-append (IsAlike new) schema.indexes (indexes_of new)
      (all_from (IsAlike new) schema.indexes (λ i has h.
      absurd (true≢false (sym (and_parts _ _ (and_parts _ _ h).0).1 ∙ of_others i has))))
      (all_weaker (IsPlainOf new) (IsAlike new) (λ i is h. is.1) (indexes_of new) new_plain)

  abbrev is_key : Index → Bool
  is_key = is_key_at new new.primary

  no_key : (i : Index) → Has schema.indexes i → is_key i ≡ false
  unfolding is_key_at
  no_key i has = false_from_ne_true _ (λ it.
      let parts = and_parts _ _ (and_parts _ _ (and_parts _ _ it).0).0 in
      true≢false (sym (and_parts _ _ parts.0).1 ∙ of_others i has))

  key_by : (index : Index) → find is_key (indexes_of new) ≡ Some index → find is_key more.indexes ≡ Some index
  key_by index own =
      find-append is_key schema.indexes (indexes_of new)
      ∙ (λ i. option_or (find_none is_key schema.indexes no_key i) (find is_key (indexes_of new))) ∙ own

  -- ---- a table that stood

  module _ (old : Table) (clear : IsLeftAlone schema old) where
    key_kept : (is_rowid : Bool) (at key : List ℕ) (found rest : Option Index)
        → (if is_rowid then Ok at else or_else (option_map (λ (i : Index). i.columns) found) Misuse) ≡ Ok key
        → (if is_rowid then Ok at else or_else (option_map (λ (i : Index). i.columns) (option_or found rest)) Misuse)
        ≡ Ok key
    key_kept true at key found rest is = is
    key_kept false at key (Some i) rest is = is
    key_kept false at key None rest is = absurd cc

    old_keyed : key_at more old old.primary ≡ Ok old.primary
    unfolding key_at
    old_keyed =
        (λ i.
        if bytes_eq old.primary (0 ∷ []) then Ok old.primary else
        or_else (option_map (λ (i : Index). i.columns)
        (find-append (is_key_at old old.primary) schema.indexes (indexes_of new) i)) Misuse)
        ∙ key_kept (bytes_eq old.primary (0 ∷ [])) old.primary old.primary
        (find (is_key_at old old.primary) schema.indexes) (find (is_key_at old old.primary) (indexes_of new))
        clear.keyed

    still_others : (ref : Reference) → IsNoName version ref.parent → IsOfOthers (only old) schema.tables ref
        → IsOfOthers (only old) more.tables ref
    still_others ref unrelated = subst (IsElsewhere old) (sym (parent_kept ref unrelated))

    old_left_alone : IsLeftAlone more old
    old_left_alone = record {
      keyed = old_keyed;
      alike = all-append (IsAlike old) schema.indexes (indexes_of new) clear.alike
          (all_weaker (IsPlainOf new) (IsAlike old) (λ i is h. is.1) (indexes_of new) new_plain);
      childless = all-append (HasNoChild more.tables old) schema.tables (new ∷ [])
          (all_both (IsUnrelated version) (HasNoChild schema.tables old) (HasNoChild more.tables old)
          (λ t. all_both (λ (ref : Reference). IsNoName version ref.parent) (IsOfOthers (only old) schema.tables)
          (IsOfOthers (only old) more.tables) still_others t.references)
          schema.tables room.unrelated clear.childless)
          (refers_to_none (IsOfOthers (only old) more.tables), tt);
    }

-- ---- the key of each table

new_keyed : (version : Version) (schema : Schema) (room : LeavesRoom version schema) (table : of_club.Table)
    (listed : Has (tables_of version) table)
    → key_at (more version schema room table listed) (made_as table (next_tree schema))
    (made_as table (next_tree schema)).primary ≡ Ok (made_as table (next_tree schema)).primary
unfolding key_at is_key_at
new_keyed version schema room Meta listed = refl
new_keyed version schema room Members listed = refl
new_keyed version schema room Events listed = refl
new_keyed version schema room Games listed = refl
new_keyed version schema room EventRules listed = refl
new_keyed version schema room Closings listed = refl
new_keyed version schema room Keys listed =
    let new = made_as Keys (next_tree schema) in
    let index = automatic new 1 new.primary (new.tree + 1 + 1) in
    let other = automatic new 0 (3 ∷ []) (new.tree + 1) in
    let own : find (is_key version schema room Keys listed) (indexes_of new) ≡ Some index =
    λ i. cond (((eq-eqb new.tree new.tree refl i && false) && false) && false) (Some other)
    (cond (((eq-eqb new.tree new.tree refl i && true) && true) && true) (Some index) None) in
    λ i. or_else (option_map (λ (j : Index). j.columns) (key_by version schema room Keys listed index own i)) Misuse
new_keyed version schema room table listed =
    let new = made_as table (next_tree schema) in
    let index = automatic new 0 new.primary (new.tree + 1) in
    let own : find (is_key version schema room table listed) (indexes_of new) ≡ Some index =
    λ i. cond (((eq-eqb new.tree new.tree refl i && true) && true) && true) (Some index) None in
    λ i. or_else (option_map (λ (j : Index). j.columns) (key_by version schema room table listed index own i)) Misuse

-- ---- a club that is made

-- the table stands, takes its rows, and was made when this tree was the next
pub record Taken (start : ℕ) (schema : Schema) (table : of_club.Table) : Type 0 where
  pub stands : HasTableAt schema table
  pub clear : IsLeftAlone schema (made_as table stands.tree)
  pub late : start ≤ stands.tree

module _ (version : Version) (start : ℕ) (schema : Schema) (room : LeavesRoom version schema) (table : of_club.Table)
    (listed : Has (tables_of version) table) where
  abbrev after : Schema
  after = created schema (made_as table 0)

  same_schema : more version schema room table listed ≡ after
  same_schema = ap (grown schema) (sym (same_table table (next_tree schema)))

  taken_new : start ≤ next_tree schema → table_named schema (table_name table) ≡ None
      → nat_lt (next_tree schema) (2 ^ 31) ≡ true → Taken start after table
  taken_new late free stored = subst (λ s. Taken start s table) same_schema (record {
    stands = stands_grown schema table free stored;
    clear = record {
      keyed = new_keyed version schema room table listed;
      alike = new_alike version schema room table listed;
      childless = new_childless version schema room table listed;
    };
    late = late;
  })

  taken_on : (old : of_club.Table) → Taken start schema old → Taken start after old
  taken_on old taken = subst (λ s. Taken start s old) same_schema (record {
    stands = stands_kept schema (made_as table (next_tree schema)) old taken.stands;
    clear = old_left_alone version schema room table listed (made_as old taken.stands.tree) taken.clear;
    late = taken.late;
  })

  room_after : LeavesRoom version after
  room_after = subst (LeavesRoom version) same_schema (leaves_room version schema room table listed)

  still_late : start ≤ next_tree schema → start ≤ next_tree after
  still_late late =
      let rises = next_rises schema (made_as table 0) in
      omega (arith, late, rises)

-- each of these tables is one of a club of this version
abbrev AreListed : Version → List of_club.Table → Type 0
AreListed version tables = AllByRecursion (Has (tables_of version)) tables

module _ (version : Version) (start : ℕ) where
  taken_still : (tables : List of_club.Table) → AreListed version tables → (schema : Schema)
      → LeavesRoom version schema → (old : of_club.Table)
      → Taken start schema old → Taken start (made_in schema tables) old
  taken_still [] listed schema room old taken = taken
  taken_still (table ∷ tables) listed schema room old taken =
      taken_still tables listed.1 (created schema (made_as table 0))
      (room_after version start schema room table listed.0) old
      (taken_on version start schema room table listed.0 old taken)

  -- Where there is room each table is taken, and there is room still.
  pub all_taken : (tables : List of_club.Table) → AreListed version tables → (schema : Schema)
      → LeavesRoom version schema → AreUnused schema tables → start ≤ next_tree schema
      → AllByRecursion (Taken start (made_in schema tables)) tables × LeavesRoom version (made_in schema tables)
  all_taken [] listed schema room free late = (tt, room)
  all_taken (table ∷ tables) listed schema room (free, stored, counted, rest) late =
      let next = created schema (made_as table 0) in
      let its = room_after version start schema room table listed.0 in
      let unused = (is_free schema (table_name table) free).table in
      let new = taken_new version start schema room table listed.0 late unused stored in
      let more = all_taken tables listed.1 next its rest (still_late version start schema room table listed.0 late) in
      ((taken_still tables listed.1 next its table new, more.0), more.1)

-- a club of this version that takes its rows, and has none
abbrev pub TakesNone : Version → Content → Schema → Type 0
TakesNone version whole schema =
    (takes : TakesClub version schema) × AreHere version schema takes.club whole nothing

-- A club that is made where there is room takes its rows, and has none at first.
pub made_takes_club : (version : Version) (schema : Schema) → LeavesRoom version schema → AreUnused schema (tables_of version)
    → (whole : Content) → IsEmptyFrom (next_tree schema) whole
    → TakesNone version whole (made_in schema (tables_of version))
made_takes_club version schema room free whole empty =
    let start = next_tree schema in
    let made = made_in schema (tables_of version) in
    let listed = all_from (Has (tables_of version)) (tables_of version) (λ table has. has) in
    let all = all_taken version start (tables_of version) listed schema room free (le_refl start) in
    let taken = all.0 in
    let club : HasTables version made =
    all_weaker (Taken start made) (HasTableAt made) (λ table it. it.stands) (tables_of version) taken in
    let takes : TakesClub version made = record {
      club = club;
      clear = each_from made (λ table s. IsLeftAlone made (made_as table s.tree)) (tables_of version) club
          (λ table has s.
          let it = all_has (Taken start made) (tables_of version) table taken has in
          subst (λ n. IsLeftAlone made (made_as table n)) (one_tree made table it.stands s) it.clear);
      trees = all.1.trees;
    } in (
      takes,
      each_from made (λ table s. whole s.tree ≡ nothing (tree_of table)) (tables_of version) club (λ table has s.
          let it = all_has (Taken start made) (tables_of version) table taken has in
          empty s.tree (subst (λ n. start ≤ n) (one_tree made table it.stands s) it.late)),
    )

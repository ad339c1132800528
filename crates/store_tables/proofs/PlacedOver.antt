-- The rows of a club over those of its neighbours, and what calls make of them.
use Rattle.std.proofs.Common.{◌≡◌, ℕ, ◌==◌, false, IsTrue, List, [], ◌∷◌, ◌++◌, Ok, refl, sym, ap, subst, subst₂, ◌∙◌, inl, inr}
use Rattle.store_tables.specs.Sql.{Database, Row, Schema, State}
use Rattle.sqlite.specs.State.{ExecutesInside}
use Rattle.sqlite_rules.proofs.ListLemmas.{all_from, all_has}
use Rattle.sqlite_catalog.specs.Listing.{IsSound}
use Rattle.store_tables.specs.Content.{Keeps}
use Rattle.store_tables.specs.Contents.{Content, Holds, Stores, nothing}
use Rattle.store_tables.specs.internal.Contents.{opening_meta, put_each, put_in}
use Rattle.store_tables.specs.Names.{tree_of}
use Rattle.store_tables.specs.Over.{Neighbours, is_tree, over}
use Rattle.store_tables.specs.internal.Over.{HoldsBeside, StepsBeside}
use Rattle.store_tables.specs.Placed.{EachStanding, HasTables, TakesClub, tables_of, tree_in}
use Rattle.store_tables.specs.Room.{HasRoom}
use Rattle.store_tables.specs.internal.Room.{Fills, Makes, MakesHere}
use Rattle.store_tables.specs.internal.Tables.{has_table}
use Rattle.store_tables.specs.Tables.{standing}
use Rattle.store_tables.specs.internal.Texts.{put_text}
use Rattle.store_tables.specs.declared.names.Table as of_club
use Rattle.store_tables.specs.declared.names.Table.TheVariants.{Meta}
use Rattle.store_tables.specs.declared.names.Version.{Version}
use Rattle.sqlite_trees.proofs.ListLemmas.{all_weaker}
use Rattle.store_tables.proofs.PlacedMakes.{bare_from}
use Rattle.store_tables.proofs.PlacedPuts.{PutsAnywhere, key_of}
use Rattle.store_tables.proofs.PlacedSteps.{AreHere, LeavesRoom, StepsHere, each_at, each_from, each_has}
use Rattle.store_tables.proofs.PlacedSteps.{put_row_here}
use Rattle.store_tables.proofs.PlacedSound.{sound_owned}
use Rattle.store_tables.proofs.PlacedTaken.{TakesNone, made_takes_club}
use Rattle.store_tables.proofs.PlacedTrees.{among_tables, one_or_none, over_at, over_past, tree_found}
use Rattle.store_tables.proofs.StepLemmas.{put_each-push}

-- What holds of all neighbours of this version holds of those that have it.
pub at_version : (version : Version) (P : Neighbours → Type 0)
    → ((schema : Schema) (rows : Content) → P (record { version = version; schema = schema; rows = rows }))
    → (them : Neighbours) → them.version ≡ version → P them
at_version version P each them is =
    subst (λ v. P (record { version = v; schema = them.schema; rows = them.rows })) (sym is)
    (each them.schema them.rows)

-- ---- the rows of all tables, and those of a club among them

module _ (them : Neighbours) (club : HasTables them.version them.schema) (content : Content) where
  pub here_over : AreHere them.version them.schema club (over them content) content
  here_over =
      each_from them.schema (λ table s. over them content s.tree ≡ content (tree_of table)) (tables_of them.version) club
      (λ table has s. over_at them club content table has s)

  -- A tree that no table of the club has, has the rows of the others.
  pub past_over : (n : ℕ)
      → EachStanding them.schema (λ table s. (n == s.tree) ≡ false) (tables_of them.version) club
      → over them content n ≡ them.rows n
  past_over n none =
      over_past them content n
      (all_from (λ table. is_tree n (tree_in them.schema table) ≡ false) (tables_of them.version) (λ table has.
      let found = each_has them.schema (λ u s. (n == s.tree) ≡ false) (tables_of them.version) club none table has in
      ap (is_tree n) (tree_found them.schema table found.0) ∙ found.1))

  -- Rows of which the club's are these and the rest those of others are these over those.
  module _ (whole : Content) (here : AreHere them.version them.schema club whole content)
      (others : (n : ℕ) → EachStanding them.schema (λ table s. (n == s.tree) ≡ false) (tables_of them.version) club
      → whole n ≡ them.rows n) where
    pub same_over : (n : ℕ) → whole n ≡ over them content n
    same_over n = elim (one_or_none them.schema n (tables_of them.version) club) [
      | inl found ↦
          let (table, s, is, has) = found in
          ap whole is
          ∙ each_at them.schema (λ u m. whole m ≡ content (tree_of u)) (tables_of them.version) club here table has s
          ∙ sym (ap (over them content) is ∙ over_at them club content table has s)
      | inr past ↦
          others n (each_from them.schema (λ table s. (n == s.tree) ≡ false) (tables_of them.version) club
          (λ table has s.
          sym (ap (is_tree n) (tree_found them.schema table s))
          ∙ all_has (λ u. is_tree n (tree_in them.schema u) ≡ false) (tables_of them.version) table past has))
          ∙ sym (over_past them content n past)
    ]

    pub held_over : (db : Database) → Holds them.schema db whole → HoldsBeside them content db
    held_over db k = record {
      schema = k.schema;
      sound = k.sound;
      tables = all_weaker (λ t. Stores t db.trees whole) (λ t. Stores t db.trees (over them content))
          (λ t was. record { rows = subst (Keeps t db.trees) (same_over t.tree) was.rows; apart = was.apart })
          them.schema.tables k.tables;
    }

-- ---- what is put

-- What steps do wherever the tables of a club stand they do beside its neighbours.
pub steps_beside : (version : Version) (change : Content → Content) (old new : State)
    → StepsHere version change old new → StepsBeside version change old new
steps_beside version change old new steps = record {
  holds = at_version version (λ them. TakesClub them.version them.schema → (content : Content)
      → HoldsBeside them content old.now → HoldsBeside them (change content) new.now) (λ schema rows takes content k.
      let them : Neighbours = record { version = version; schema = schema; rows = rows } in
      let did = steps.holds schema takes (over them content) content k (here_over them takes.club content) in
      held_over them takes.club (change content) did.0 did.2
      (λ n none. did.3 n none ∙ past_over them takes.club content n none) new.now did.1);
  committed = steps.committed;
  inside = steps.inside;
}

-- a call that puts the row into a club of a version that has the table
abbrev pub Put : of_club.Table → Row → Type 1
Put table row = (version : Version) → IsTrue (has_table version table) → (sql : List ℕ) (params : Row) (old new : State) (count : ℕ) → sql ≡ put_text (standing table)
    → params ≡ row → ExecutesInside 0 sql params old new (Ok count)
    → StepsBeside version (put_in (tree_of table) (key_of table) row) old new

pub put_row : (table : of_club.Table) (row : Row) → PutsAnywhere table row → Put table row
put_row table row is_put version has sql params old new count text given h =
    steps_beside version (put_in (tree_of table) (key_of table) row) old new
    (put_row_here version table (among_tables version table has) row is_put old new count
    (subst₂ (λ s p. ExecutesInside 0 s p old new (Ok count)) text given h))

pub steps_then : {version : Version} (f g : Content → Content) (a b c : State) → StepsBeside version f a b
    → StepsBeside version g b c → StepsBeside version (λ content. g (f content)) a c
steps_then f g a b c one two = record {
  holds = λ them is takes content k. two.holds them is takes (f content) (one.holds them is takes content k);
  committed = two.committed ∙ one.committed;
  inside = two.inside;
}

-- one more row of the list
pub one_more : {version : Version} (tree : ℕ) (key : List ℕ) (rows : List Row) (row : Row) (a b c : State)
    → StepsBeside version (put_each tree key rows) a b → StepsBeside version (put_in tree key row) b c
    → StepsBeside version (put_each tree key (rows ++ row ∷ [])) a c
one_more tree key rows row a b c one two = record {
  holds = λ them is takes content k.
      subst (λ all. HoldsBeside them all c.now) (sym (put_each-push tree key rows row content))
      (two.holds them is takes (put_each tree key rows content) (one.holds them is takes content k));
  committed = two.committed ∙ one.committed;
  inside = two.inside;
}

-- ---- tables that are made

-- A club that is made where there is room takes its rows, and has none at first.
abbrev room_none : (schema : Schema) (them : Neighbours) → HasRoom schema them → (db : Database)
    → Holds schema db them.rows → TakesNone them.version them.rows them.schema
room_none schema them room db k =
    let sound : IsSound schema db.trees = subst (λ s. IsSound s db.trees) k.schema k.sound in
    let leaves : LeavesRoom them.version schema = record {
      trees = room.trees;
      owned = sound_owned schema db.trees sound;
      unrelated = room.unrelated;
    } in
    subst (TakesNone them.version them.rows) (sym room.is)
    (made_takes_club them.version schema leaves room.unused them.rows room.bare)

pub room_takes : (schema : Schema) (them : Neighbours) → HasRoom schema them → (db : Database)
    → Holds schema db them.rows → TakesClub them.version them.schema
room_takes schema them room db k = (room_none schema them room db k).0

-- A club that has no rows is one over the others.
none_over : (them : Neighbours) → TakesNone them.version them.rows them.schema → (db : Database)
    → Holds them.schema db them.rows → HoldsBeside them nothing db
none_over them none db k = held_over them none.0.club nothing them.rows none.1 (λ n past. refl) db k

pub makes_all : (version : Version) (a b : State) → MakesHere (tables_of version) a b → Makes version a b
makes_all version a b made = record {
  made = λ schema them is room k.
      let here : MakesHere (tables_of them.version) a b = subst (λ v. MakesHere (tables_of v) a b) (sym is) made in
      none_over them (room_none schema them room a.now k) b.now
      (subst (λ s. Holds s b.now them.rows) (sym room.is)
      (here.made schema room.unused them.rows k (bare_from (tables_of them.version) schema them.rows room.bare)));
  committed = made.committed;
  inside = made.inside;
}

-- the tables, and then the row of `meta`
pub fills : (version : Version) (a b c : State) → Makes version a b
    → StepsBeside version (put_in (tree_of Meta) (0 ∷ []) (opening_meta version)) b c → Fills version a c
fills version a b c one two = record {
  holds = λ schema them is room k.
      two.holds them is (room_takes schema them room a.now k) nothing (one.made schema them is room k);
  committed = two.committed ∙ one.committed;
  inside = two.inside;
}

-- The rows of a club that was just made are the tables of the machine's opening state; and which tables were taken.
use Rattle.std.proofs.Common.{◌≡◌, ◌∙◌, ℕ, ◌+◌, Bool, true, false, List, [], ◌∷◌, ◌++◌, inl, inr, refl, sym}
use Rattle.std.proofs.Common.{subst, true≢false}
use Rattle.std.proofs.lemmas.Bool.{and_parts, cases_Bool, or_parts}
use Rattle.std.specs.List.{list_any, position_from}
use Rattle.std.specs.Prelude.{if◌then◌else◌, ◌==◌, ◌&&◌, is_some}
use Rattle.sqlite.specs.Order.{Row}
use Rattle.sqlite.specs.Schema.{Schema}
use Rattle.sqlite.specs.Table.{Table}
use Rattle.club_core.specs.State.{opening_state}
use Rattle.store_tables.specs.Placed.{HasTablesOf, tables_of}
use Rattle.store_tables.specs.Names.{table_name}
use Rattle.store_tables.specs.declared.names.Table as of_club
use Rattle.store_tables.specs.declared.names.Table.TheVariants.{EventRules, Keys, Rulings, Closings}
use Rattle.store_tables.specs.declared.names.Version.{Version}
use Rattle.store_tables.specs.declared.names.Version.TheVariants.{V1, V2, V3}
use Rattle.sqlite_catalog.proofs.SoundLemmas.{lowered}
use Rattle.sqlite_schema.specs.Names.{same_name}
use Rattle.schema_match.specs.Shapes.{answers_as, has_table, have_tables, is_of_club}
use Rattle.club_rows.specs.Club.{tables}
use Rattle.store_tables.specs.Contents.{Content}
use Rattle.store_tables.specs.internal.Contents.{opening}
use Rattle.store_tables.specs.Tables.{IsServed, event_rules, made_as}
use Rattle.club_rows.specs.FirstSchema.{upgraded_to}
use Rattle.store.specs.Clubs.{version_with}
use Rattle.store.proofs.HistoryLemmas.{with_served}

skipped : (test : Bool) {rows : List Row} → rows ≡ [] → (if test then [] else rows) ≡ []
skipped true none = refl
skipped false none = none

-- an empty club has no rows but that of `meta`
no-rows : (t : ℕ)
    → ◌≡◌ {A = List Row} (if t == 1 then [] else (if t == 4 then [] else (if t == 6 then [] else (if t == 8 then []
    else (if t == 10 then [] else (if t == 12 then [] else (if t == 14 then [] else (if t == 16 then []
    else (if t == 17 then [] else (if t == 20 then [] else (if t == 22 then [] else []))))))))))) []
no-rows t = skipped (t == 1) (skipped (t == 4) (skipped (t == 6) (skipped (t == 8) (skipped (t == 10)
    (skipped (t == 12) (skipped (t == 14) (skipped (t == 16) (skipped (t == 17) (skipped (t == 20)
    (skipped (t == 22) refl))))))))))

nothing-else : (test : Bool) (rows : List Row) {others : List Row} → others ≡ []
    → (if test then rows else []) ≡ (if test then rows else others)
nothing-else true rows none = refl
nothing-else false rows none = sym none

opening-at : (version : Version) → IsServed version → (t : ℕ)
    → opening version t ≡ tables (upgraded_to version opening_state) t
opening-at V1 serves t = absurd (true≢false (sym serves))
opening-at V2 serves t = nothing-else (t == 0) _ (no-rows t)
opening-at V3 serves t = nothing-else (t == 0) _ (no-rows t)

-- the rows of a club that was just made are the tables of the opening state
pub opening-is : (version : Version) → IsServed version
    → ◌≡◌ {A = Content} (opening version) (tables (upgraded_to version opening_state))
opening-is version serves = λ i t. opening-at version serves t i

pub served-as : (has : Bool) {version : Version} → version ≡ version_with has → IsServed version
served-as has is = subst IsServed (sym is) (with_served has)

-- what holds of the rows that are put into the new tables holds of the tables of the opening state
pub opening-of : (has : Bool) {version : Version} → version ≡ version_with has → (P : Version → Content → Type 0)
    → (IsServed version → P version (opening version))
    → P (version_with has) (tables (upgraded_to (version_with has) opening_state))
opening-of has {version} is P made =
    let serves = served-as has is in
    subst (λ v. P v (tables (upgraded_to v opening_state))) is
    (subst (P version) (opening-is version serves) (made serves))

-- ---- which tables were taken

named_back : (a b : List ℕ) → same_name a b ≡ true → same_name b a ≡ true
named_back a b is = (lowered b a).1 (sym ((lowered a b).0 is))

-- A table that answers as that of the rules of events has its name.
answers_named : (schema : Schema) (listed : List Table) (n : ℕ)
    → list_any (answers_as schema (event_rules 0)) listed ≡ true
    → is_some (position_from (λ (t : Table). same_name t.name (table_name EventRules)) n listed) ≡ true
answers_named schema [] n answers = absurd (true≢false (sym answers))
answers_named schema (t ∷ listed) n answers = elim (cases_Bool (same_name t.name (table_name EventRules))) [
  | inl named ↦ rw named refl
  | inr other ↦
      elim (cases_Bool (answers_as schema (event_rules 0) t)) [
        | inl is ↦
            let named = (and_parts _ _ (and_parts _ _ (and_parts _ _ is).0).0).0 in
            absurd (true≢false (sym (named_back (table_name EventRules) t.name named) ∙ other))
        | inr past ↦ rw other (answers_named schema listed (n + 1) (rw past at answers))
      ]
]

-- The last of these tables has one that answers as it.
last_has : (schema : Schema) (tables : List of_club.Table) (last : of_club.Table)
    → have_tables schema (tables ++ last ∷ []) ≡ true → has_table schema (made_as last 0) ≡ true
last_has schema [] last all = (and_parts (has_table schema (made_as last 0)) true all).0
last_has schema (t ∷ tables) last all =
    last_has schema tables last
    (and_parts (has_table schema (made_as t 0)) (have_tables schema (tables ++ last ∷ [])) all).1

-- Tables that answer as these and more answer as these.
fewer_have : (schema : Schema) (tables more : List of_club.Table) → have_tables schema (tables ++ more) ≡ true
    → have_tables schema tables ≡ true
fewer_have schema [] more all = refl
fewer_have schema (t ∷ tables) more all =
    let both = and_parts (has_table schema (made_as t 0)) (have_tables schema (tables ++ more)) all in
    λ i. both.0 i && fewer_have schema tables more both.1 i

-- Each served version has the table of the rules of events.
rules_answer : (version : Version) → IsServed version → (schema : Schema) → is_of_club version schema ≡ true
    → has_table schema (event_rules 0) ≡ true
rules_answer V1 serves schema shape = absurd (true≢false (sym serves))
rules_answer V2 serves schema shape = last_has schema (tables_of V1) EventRules shape
rules_answer V3 serves schema shape =
    last_has schema (tables_of V1) EventRules
    (fewer_have schema (tables_of V2) (Keys ∷ Rulings ∷ Closings ∷ []) shape)

-- Tables of schema 1 do not answer as those of a later schema, since the name of the ninth is free.
pub first_answers : (version : Version) → IsServed version → (schema : Schema) → HasTablesOf V1 schema
    → is_of_club version schema ≡ true → ⊥
first_answers version serves schema first shape =
    true≢false
    (sym (answers_named schema schema.tables 0 (rules_answer version serves schema shape))
    ∙ (or_parts _ _ (or_parts _ _ first.1.0).0).0)

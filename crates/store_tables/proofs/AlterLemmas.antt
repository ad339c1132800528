-- Rows put in turn make the new table of the old.
use Rattle.std.proofs.Common.{◌≡◌, ℕ, Bool, true, false, not, List, [], ◌∷◌, refl, ap, sym, subst, ◌∙◌, inl, inr, ◌⊎◌}
use Rattle.std.proofs.Common.{true≢false, Option, Some, None, if◌then◌else◌, ◌==◌, ℤ}
use Rattle.std.specs.List.{AllByRecursion}
use Rattle.std.proofs.lemmas.Bool.{cases_Bool, not-true}
use Rattle.store_tables.specs.Sql.{Has, Row, Table}
use Rattle.sqlite_rules.proofs.ListLemmas.{has_filtered, has_kept}
use Rattle.store_tables.specs.Content.{same_key}
use Rattle.store_tables.specs.internal.Content.{put}
use Rattle.store_tables.specs.Contents.{Content}
use Rattle.store_tables.specs.internal.Contents.{put_in, put_each}
use Rattle.store_tables.specs.Changes.{HaveSame}
use Rattle.store_tables.specs.internal.Changes.{AreSame, Alters, put_rows}
use Rattle.store_tables.specs.internal.Changed.{put_maybe, changed, maybe_row, meta_at, AltersTables}
use Rattle.store_tables.specs.Tables.{standing}
use Rattle.store_tables.specs.internal.Tables.{club_schema}
use Rattle.store_tables.specs.declared.names.Table.TheVariants.{Members, Events, EventRules, Challenges, Moves, Games}
use Rattle.store_tables.specs.declared.names.Table.TheVariants.{Seen, Scores, Meta, Keys, Rulings, Closings}
use Rattle.store_tables.specs.declared.names.Version.{Version}
use Rattle.store_tables.specs.declared.rows.Changes.{Changes}

-- what holds of each table of a club
module _ (P : Table → Type 0) where
  pub each_of_club : P (standing Meta) → P (standing Members) → P (standing Events) → P (standing Challenges)
      → P (standing Moves) → P (standing Games) → P (standing Seen) → P (standing Scores) → P (standing EventRules)
      → P (standing Keys) → P (standing Rulings) → P (standing Closings) → AllByRecursion P club_schema.tables
  each_of_club a b c d e f g h i j k l = (a, (b, (c, (d, (e, (f, (g, (h, (i, (j, (k, (l, tt))))))))))))

pub same_itself : (rows : List Row) → HaveSame rows rows
same_itself rows = record { there = λ z h. h; back = λ z h. h }

pub same_by : (one other : List Row) → one ≡ other → HaveSame one other
same_by one other is = subst (HaveSame one) is (same_itself one)

pub same_then : (a b c : List Row) → HaveSame a b → HaveSame b c → HaveSame a c
same_then a b c p q = record { there = λ z h. q.there z (p.there z h); back = λ z h. p.back z (q.back z h) }

module _ (key : List ℕ) where
  module _ (row : Row) (rows : List Row) (z : Row) where
    pub put_had : Has (put key row rows) z → (z ≡ row) ⊎ (Has rows z × (same_key key z row ≡ false))
    put_had (inl is) = inl is
    put_had (inr h) = let old = has_filtered (λ x. not (same_key key x row)) rows z h in inr (old.0, not-true _ old.1)

    pub put_kept : Has rows z → same_key key z row ≡ false → Has (put key row rows) z
    put_kept h apart = inr (has_kept (λ x. not (same_key key x row)) rows z h (ap not apart))

  -- a row stands afterwards because it was put, or because it stood and no row with its key was put
  rows_had : (changed rows : List Row) (z : Row) → Has (put_rows key changed rows) z
      → Has changed z ⊎ (Has rows z × ((c : Row) → Has changed c → same_key key z c ≡ true → ⊥))
  rows_had [] rows z h = inr (h, λ c none. absurd none)
  rows_had (r ∷ changed) rows z h = elim (rows_had changed (put key r rows) z h) [
    | inl put ↦ inl (inr put)
    | inr (stood, apart) ↦ elim (put_had r rows z stood) [
      | inl is ↦ inl (inl is)
      | inr (was, other) ↦ inr (
        was,
        λ c among same. elim among [
          | inl is ↦ true≢false (sym (subst (λ x. same_key key z x ≡ true) is same) ∙ other)
          | inr more ↦ apart c more same
        ],
      )
    ]
  ]

  -- a row that stood or is put stands where each row that is put over it is itself
  rows_come : (changed rows : List Row) (z : Row) → ((c : Row) → Has changed c → same_key key z c ≡ true → z ≡ c)
      → Has rows z ⊎ Has changed z → Has (put_rows key changed rows) z
  rows_come [] rows z alone (inl h) = h
  rows_come [] rows z alone (inr none) = absurd none
  rows_come (r ∷ changed) rows z alone h =
      rows_come changed (put key r rows) z (λ c among. alone c (inr among)) (elim h [
        | inl stood ↦ inl (elim (cases_Bool (same_key key z r)) [
          | inl same ↦ inl (alone r (inl refl) same)
          | inr other ↦ put_kept r rows z stood other
        ])
        | inr (inl is) ↦ inl (inl is)
        | inr (inr more) ↦ inr more
      ])

  -- The changed rows, put in turn, make the new table of the old.
  pub altered : (changed old new : List Row) → Alters key changed old new → HaveSame (put_rows key changed old) new
  altered changed old new it = record {
    there = λ z h. elim (rows_had changed old z h) [
      | inl put ↦ it.among z put
      | inr (was, apart) ↦ elim (it.stays z was) [
        | inl there ↦ there
        | inr (c, among, same) ↦ absurd (apart c among same)
      ]
    ];
    back = λ z h.
        rows_come changed old z (λ c among same. it.one z c h (it.among c among) same) (it.from z h);
  }

  -- where nothing is changed, the rows are the same
  pub unaltered : (rows : List Row) → ((x y : Row) → Has rows x → Has rows y → same_key key x y ≡ true → x ≡ y)
      → Alters key [] rows rows
  unaltered rows one = record { among = λ z h. absurd h; from = λ z h. inl h; stays = λ z h. inl h; one = one }

  -- the loop over one table, in the table and in the others
  each_step : (b : Bool) (r : Row) (rows x : List Row)
      →
      ◌≡◌ {A = List Row}
      (if b then put_rows key rows (if b then put key r x else x) else (if b then put key r x else x))
      (if b then put_rows key (r ∷ rows) x else x)
  each_step true r rows x = refl
  each_step false r rows x = refl

  none_step : (b : Bool) (x : List Row) → ◌≡◌ {A = List Row} x (if b then x else x)
  none_step true x = refl
  none_step false x = refl

  pub each_at : (tree : ℕ) (rows : List Row) (content : Content) (t : ℕ)
      → ◌≡◌ {A = List Row} (put_each tree key rows content t)
      (if t == tree then put_rows key rows (content t) else content t)
  each_at tree [] content t = none_step (t == tree) (content t)
  each_at tree (r ∷ rows) content t = each_at tree rows (put_in tree key r content) t
      ∙ each_step (t == tree) r rows (content t)

-- what is put into the table, and into another one
module _ (t : ℕ) where
  pub each_past : (tree : ℕ) (key : List ℕ) (puts : List Row) (content : Content) (rows : List Row) → (t == tree)
      ≡ false
      → content t ≡ rows → put_each tree key puts content t ≡ rows
  each_past tree key puts content rows other is =
      each_at key tree puts content t ∙ (λ i. if other i then put_rows key puts (content t) else is i)

  pub maybe_past : (version : Version) (last : Option ℤ) (content : Content) (rows : List Row) → (t == 0) ≡ false
      → content t ≡ rows → put_maybe version last content t ≡ rows
  maybe_past version None content rows other is = is
  maybe_past version (Some last) content rows other is =
      each_past 0 (0 ∷ []) (meta_at version last ∷ []) content rows other is

  each_own : (tree : ℕ) (key : List ℕ) (puts : List Row) (content : Content) (was : List Row) → (t == tree) ≡ true
      → content t ≡ was → put_each tree key puts content t ≡ put_rows key puts was
  each_own tree key puts content was own is =
      each_at key tree puts content t ∙ (λ i. if own i then put_rows key puts (is i) else is i)

  maybe_own : (version : Version) (last : Option ℤ) (content : Content) (was : List Row) → (t == 0) ≡ true
      → content t ≡ was → put_maybe version last content t ≡ put_rows (0 ∷ []) (maybe_row version last) was
  maybe_own version None content was own is = is
  maybe_own version (Some last) content was own is =
      each_own 0 (0 ∷ []) (meta_at version last ∷ []) content was own is

-- What is put of each table makes the new content of the old.
module _ (version : Version) (c : Changes) (old : Content) where
  by : (key : List ℕ) (changed rows was new : List Row) → Alters key changed was new → rows ≡ put_rows key changed was
      → HaveSame rows new
  by key changed rows was new it is = subst (λ l. HaveSame l new) (sym is) (altered key changed was new it)

  pub tables_altered : (new : Content) → AltersTables version c old new
      → AreSame club_schema (changed version c old) new
  tables_altered new it =
      each_of_club (λ table. HaveSame (changed version c old table.tree) (new table.tree))
      (by _ _ _ _ _ it.meta (search (maybe_own, each_past) depth 15))
      (by _ _ _ _ _ it.members (search (maybe_past, each_past, each_own) depth 15))
      (by _ _ _ _ _ it.events (search (maybe_past, each_past, each_own) depth 15))
      (by _ _ _ _ _ it.challenges (search (maybe_past, each_past, each_own) depth 15))
      (by _ _ _ _ _ it.moves (search (maybe_past, each_past, each_own) depth 15))
      (by _ _ _ _ _ it.games (search (maybe_past, each_past, each_own) depth 15))
      (by _ _ _ _ _ it.seen (search (maybe_past, each_past, each_own) depth 15))
      (by _ _ _ _ _ it.scores (search (maybe_past, each_past, each_own) depth 15))
      (by _ _ _ _ _ it.event_rules (search (maybe_past, each_past, each_own) depth 15))
      (by _ _ _ _ _ it.keys (search (maybe_past, each_past, each_own) depth 15))
      (by _ _ _ _ _ it.rulings (search (maybe_past, each_past, each_own) depth 15))
      (by _ _ _ _ _ it.closings (search (maybe_past, each_past, each_own) depth 15))

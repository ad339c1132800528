-- What rows that are put make of the tables.
use Rattle.std.proofs.Common.{◌≡◌, ◌==◌, ℕ, ℤ, pos, List, [], ◌∷◌, Option, Some, refl, ap, sym, subst, ◌∙◌, map}
use Rattle.std.proofs.Common.{Bool, true, false, inl, inr}
use Rattle.std.specs.Prelude.{if◌then◌else◌}
use Rattle.sqlite.specs.Order.{Row}
use Rattle.store_tables.specs.Cells.{ruling_cells}
use Rattle.store_tables.specs.internal.Cells.{closing_cells, key_cells}
use Rattle.store_tables.specs.internal.Changes.{put_rows}
use Rattle.store_tables.specs.Contents.{Content}
use Rattle.store_tables.specs.internal.Contents.{put_in, put_each}
use Rattle.store_tables.specs.Tables.{schema_number}
use Rattle.store_tables.specs.declared.names.Version.{Version}
use Rattle.store_tables.specs.declared.names.Version.TheVariants.{V2, V3}
use Rattle.store_tables.specs.declared.rows.Changes.{Changes}
use Rattle.store_tables.specs.internal.Changed.{FitsVersion, changed, meta_at, put_maybe}
use Rattle.store_tables.proofs.Proved.{each_at}
use Rattle.club_changes.specs.internal.Steps.{AreSame, AreTaken, Makes, Puts, PutRows}
use Rattle.club_rows.specs.Club.{ClubState, tables}
use Rattle.club_rows.specs.Tables.{meta_row, version_of}

-- the content with these rows put into one table, of which there may be none
abbrev pub put_at : ℕ → List ℕ → List Row → Content → Content
put_at tree key rows content t = if t == tree then put_rows key rows (content t) else content t

-- the content with these rows put, and the moment
abbrev pub with_rows : Version → ℕ → PutRows → Content → Content
with_rows version moment rows content =
    put_in 0 (0 ∷ []) (meta_row (schema_number version) moment)
    (put_at 22 (0 ∷ []) rows.closings
    (put_at 20 (0 ∷ 1 ∷ []) rows.rulings
    (put_at 17 (0 ∷ 1 ∷ []) rows.keys
    (put_at 14 (0 ∷ 1 ∷ 2 ∷ []) rows.scores
    (put_at 12 (0 ∷ 1 ∷ []) rows.seen
    (put_at 8 (0 ∷ 1 ∷ []) rows.moves
    (put_at 10 (0 ∷ []) rows.games
    (put_at 6 (0 ∷ 1 ∷ []) rows.challenges
    (put_at 16 (0 ∷ []) rows.rules (put_at 4 (0 ∷ []) rows.events (put_at 1 (0 ∷ []) rows.members content)))))))))))

meta_put : (version : Version) (o : Option ℤ) (last : ℤ) (content : Content) → o ≡ Some last
    → put_maybe version o content ≡ put_in 0 (0 ∷ []) (meta_at version last) content
meta_put version o last content is = ap (λ o. put_maybe version o content) is

put_all : (tree : ℕ) (key : List ℕ) {made rows : List Row} {old new : Content} → made ≡ rows → old ≡ new
    → put_each tree key made old ≡ put_at tree key rows new
put_all tree key {rows = rows} {new = new} is same =
    let each : ◌≡◌ {A = Content} (put_each tree key rows new) (put_at tree key rows new) =
    λ i t. each_at key tree rows new t i in
    (λ i. put_each tree key (is i) (same i)) ∙ each

nothing_mapped : {A B : Type 0} (f : A → B) (xs : List A) → map f xs ≡ [] → xs ≡ []
nothing_mapped f [] none = refl
nothing_mapped f (x ∷ xs) none = cc

-- the rows fit the version of a club that can store them
fits_taken : (s : ClubState) (c : Changes) (moment : ℕ) (rows : PutRows) → Puts c moment rows → AreTaken s rows
    → FitsVersion (version_of s) c
fits_taken s c moment rows are (inl arbiter) =
    subst (λ b. FitsVersion (if b then V3 else V2) c) (sym arbiter) tt
fits_taken s c moment rows are (inr none) = by s.has_arbiter
  where
    by : (b : Bool) → FitsVersion (if b then V3 else V2) c
    by true = tt
    by false = (
      nothing_mapped key_cells c.keys.items (are.keys_are ∙ none.0),
      nothing_mapped ruling_cells c.rulings.items (are.rulings_are ∙ none.1),
      nothing_mapped closing_cells c.closings.items (are.closings_are ∙ none.2),
    )

rows_changed : (version : Version) (c : Changes) (moment : ℕ) (rows : PutRows) (old new : Content)
    → Puts c moment rows → AreSame (with_rows version moment rows old) new → AreSame (changed version c old) new
rows_changed version c moment rows old new are same =
    let start : old ≡ old = refl in
    subst (λ content. AreSame content new)
    (sym
    (meta_put version c.last (pos moment) _ are.last ∙ ap (put_in 0 (0 ∷ []) (meta_at version (pos moment)))
    (put_all 22 (0 ∷ []) are.closings_are
    (put_all 20 (0 ∷ 1 ∷ []) are.rulings_are
    (put_all 17 (0 ∷ 1 ∷ []) are.keys_are
    (put_all 14 (0 ∷ 1 ∷ 2 ∷ []) are.scores_are
    (put_all 12 (0 ∷ 1 ∷ []) are.seen_are
    (put_all 8 (0 ∷ 1 ∷ []) are.moves_are
    (put_all 10 (0 ∷ []) are.games_are
    (put_all 6 (0 ∷ 1 ∷ []) are.challenges_are
    (put_all 16 (0 ∷ []) are.rules_are
    (put_all 4 (0 ∷ []) are.events_are (put_all 1 (0 ∷ []) are.members_are start))))))))))))) same

-- where these rows are put, the tables are those with them
pub all_changed : (s new : ClubState) (c : Changes) (moment : ℕ) (rows : PutRows) → Puts c moment rows
    → AreTaken s rows → AreSame (with_rows (version_of s) moment rows (tables s)) (tables new) → Makes s new (Some c)
all_changed s new c moment rows are taken same = record {
  fits = fits_taken s c moment rows are taken;
  rows = rows_changed (version_of s) c moment rows (tables s) (tables new) are same;
}

-- All rows of a club, put over the tables of one that was just made, are exactly its tables.
use Rattle.std.proofs.Common.{◌≡◌, ℕ, pos, true, List, [], ◌∷◌, Some, refl, sym, ap, subst, inl, inr, arith, map}
use Rattle.std.proofs.Common.{ℤ, true≢false, nat_lt, if◌then◌else◌}
use Rattle.std.specs.Cmp.{tied_itself}
use Rattle.std.proofs.lemmas.Bool.{and_from}
use Rattle.sqlite_value.specs.declared.value.Value.TheVariants.{Int}
use Rattle.sqlite_value.specs.Keys.{first_key}
use Rattle.sqlite_value.proofs.OrderLemmas.{value_cmp_total}
use Rattle.sqlite.specs.Order.{Row, column}
use Rattle.sqlite.specs.State.{State}
use Rattle.sqlite_rules.specs.Lists.{Has}
use Rattle.store_tables.specs.Cells.{ruling_cells}
use Rattle.store_tables.specs.internal.Cells.{closing_cells, key_cells}
use Rattle.store_tables.specs.internal.Changed.{FitsVersion, changed, maybe_row, meta_at}
use Rattle.store_tables.specs.Changes.{HaveSame}
use Rattle.store_tables.specs.internal.Changes.{AreSame, Alters}
use Rattle.store_tables.specs.Content.{same_key}
use Rattle.store_tables.specs.Contents.{Content}
use Rattle.store_tables.specs.internal.Contents.{opening, opening_meta}
use Rattle.store_tables.specs.Over.{HasRowsIn}
use Rattle.store_tables.specs.Names.{table_count, tree_of}
use Rattle.store_tables.specs.Sql.{Table}
use Rattle.store_tables.specs.Tables.{IsServed, schema_of, tables}
use Rattle.store_tables.specs.declared.names.Table.TheVariants.{Keys}
use Rattle.store_tables.specs.declared.names.Version.{Version}
use Rattle.store_tables.specs.declared.names.Version.TheVariants.{V1, V2, V3}
use Rattle.store_tables.specs.declared.rows.Changes.{Changes}
use Rattle.store_tables.proofs.Proved.{equal_from, fewer, tables_altered}
use Rattle.store_sql.specs.internal.Copies.{AreAll, AreNoRulings, AreRulings, arbiter_rows}
use Rattle.store_sql.proofs.KeyLemmas.{HaveKeys, meta_keys, member_keys, event_keys, event_rule_keys, challenge_keys}
use Rattle.store_sql.proofs.KeyLemmas.{closing_keys, game_keys, later_key_keys, move_keys, ruling_keys, score_keys}
use Rattle.store_sql.proofs.KeyLemmas.{seen_keys}

-- rows that are put into an empty table
from_none : (key : List ℕ) (rows new : List Row) → HaveSame rows new → HaveKeys key new → Alters key rows [] new
from_none key rows new same one = record {
  among = same.there;
  from = λ row h. inr (same.back row h);
  stays = λ row none. absurd none;
  one = one;
}

one_id : (row other : Row) → column row 0 ≡ Int (pos 1) → column other 0 ≡ Int (pos 1)
    → same_key (0 ∷ []) row other ≡ true
unfolding first_key
one_id row other p q = rw (p, q)
    (and_from _ _ (equal_from (Int (pos 1)) (Int (pos 1)) refl refl (tied_itself value_cmp_total (Int (pos 1)))) refl)

-- the row of `meta`, put in place of the one with which the tables were made
from_meta : (version : Version) (rows : Changes) (new : List Row) (last : ℤ) → rows.last ≡ Some last
    → HaveSame (maybe_row version rows.last) new → HaveKeys (0 ∷ []) new
    → Alters (0 ∷ []) (maybe_row version rows.last) (opening_meta version ∷ []) new
from_meta version rows new last is same one = record {
  among = same.there;
  from = λ row h. inr (same.back row h);
  stays = λ row old. elim old [
    | inl was ↦ inr (
      meta_at version last,
      subst (λ o. Has (maybe_row version o) (meta_at version last)) (sym is) (inl refl),
      one_id row (meta_at version last) (ap (λ r. column r 0) was) refl,
    )
    | inr none ↦ absurd none
  ];
  one = one;
}

-- no rows are put into an empty table
none_put : (key : List ℕ) (rows : List Row) → rows ≡ [] → Alters key rows [] []
none_put key rows none =
    from_none key rows []
    (subst (λ l. HaveSame l []) (sym none) (record { there = λ row h. h; back = λ row h. h }))
    (λ x y here there same. absurd here)

-- the content of the tables of schema 2, and nothing in those of schema 3
abbrev without_arbiter : Content → Content
without_arbiter content n = if nat_lt n (tree_of Keys) then content n else []

-- what is put is the content that was read
pub copied : (version : Version) → IsServed version → (rows : Changes) (content : Content) (s : State)
    → HasRowsIn version content s → AreAll version rows content
    → AreSame (schema_of version) (changed version rows (opening version)) content
copied V1 served rows content s k all = absurd (true≢false (sym served))
copied V2 served rows content s k all =
    let none : AreNoRulings (arbiter_rows rows) = all.arbiter in
    let same = tables_altered V2 rows (opening V2) (without_arbiter content) (record {
      meta =
          from_meta V2 rows (content 0) all.last all.is_last all.meta (meta_keys V2 content s k refl);
      members = from_none (0 ∷ []) _ (content 1) all.members (member_keys V2 content s k refl);
      events = from_none (0 ∷ []) _ (content 4) all.events (event_keys V2 content s k refl);
      event_rules = from_none (0 ∷ []) _ (content 16) all.event_rules (event_rule_keys V2 content s k refl);
      challenges = from_none (0 ∷ 1 ∷ []) _ (content 6) all.challenges (challenge_keys V2 content s k refl);
      moves = from_none (0 ∷ 1 ∷ []) _ (content 8) all.moves (move_keys V2 content s k refl);
      games = from_none (0 ∷ []) _ (content 10) all.games (game_keys V2 content s k refl);
      seen = from_none (0 ∷ 1 ∷ []) _ (content 12) all.seen (seen_keys V2 content s k refl);
      scores = from_none (0 ∷ 1 ∷ 2 ∷ []) _ (content 14) all.scores (score_keys V2 content s k refl);
      keys = none_put (0 ∷ 1 ∷ []) _ (ap (map key_cells) none.keys);
      rulings = none_put (0 ∷ 1 ∷ []) _ (ap (map ruling_cells) none.rulings);
      closings = none_put (0 ∷ []) _ (ap (map closing_cells) none.closings);
    }) in
    fewer (λ (t : Table). HaveSame (changed V2 rows (opening V2) t.tree) (without_arbiter content t.tree)) tables
    (table_count V2) (table_count V3) (omega arith) same
copied V3 served rows content s k all =
    let arbiter : AreRulings (arbiter_rows rows) content = all.arbiter in
    tables_altered V3 rows (opening V3) content (record {
      meta =
          from_meta V3 rows (content 0) all.last all.is_last all.meta (meta_keys V3 content s k refl);
      members = from_none (0 ∷ []) _ (content 1) all.members (member_keys V3 content s k refl);
      events = from_none (0 ∷ []) _ (content 4) all.events (event_keys V3 content s k refl);
      event_rules = from_none (0 ∷ []) _ (content 16) all.event_rules (event_rule_keys V3 content s k refl);
      challenges = from_none (0 ∷ 1 ∷ []) _ (content 6) all.challenges (challenge_keys V3 content s k refl);
      moves = from_none (0 ∷ 1 ∷ []) _ (content 8) all.moves (move_keys V3 content s k refl);
      games = from_none (0 ∷ []) _ (content 10) all.games (game_keys V3 content s k refl);
      seen = from_none (0 ∷ 1 ∷ []) _ (content 12) all.seen (seen_keys V3 content s k refl);
      scores = from_none (0 ∷ 1 ∷ 2 ∷ []) _ (content 14) all.scores (score_keys V3 content s k refl);
      keys = from_none (0 ∷ 1 ∷ []) _ (content 17) arbiter.keys (later_key_keys V3 content s k refl);
      rulings = from_none (0 ∷ 1 ∷ []) _ (content 20) arbiter.rulings (ruling_keys V3 content s k refl);
      closings = from_none (0 ∷ []) _ (content 22) arbiter.closings (closing_keys V3 content s k refl);
    })

-- all rows of a club fit its version
pub copied_fits : (version : Version) → IsServed version → (rows : Changes) (content : Content)
    → AreAll version rows content → FitsVersion version rows
copied_fits V1 served rows content all = absurd (true≢false (sym served))
copied_fits V2 served rows content all =
    let none : AreNoRulings (arbiter_rows rows) = all.arbiter in
    (none.keys, none.rulings, none.closings)
copied_fits V3 served rows content all = tt

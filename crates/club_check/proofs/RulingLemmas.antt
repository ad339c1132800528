-- The rows of rulings: in their order, those of one game, and those that were read.
use Rattle.std.proofs.Common.{◌≡◌, ℕ, ℤ, suc, ◌≤◌, true, false, List, [], ◌∷◌, ◌++◌, length, map, Option, Some, None}
use Rattle.std.proofs.Common.{IsTrue, refl, ap, sym}
use Rattle.sqlite.proofs.StateLemmas.{unchanged}
use Rattle.std.proofs.Common.{subst, ◌∙◌, arith, inl, inr}
use Rattle.std.specs.Prelude.{String, string_bytes}
use Rattle.std.proofs.Common.{Equal}
use Rattle.std.specs.List.{AllByRecursion}
use Rattle.std.specs.Ordering.{ordering_then}
use Rattle.std.specs.List.Sorted.{IsPermutation}
use Rattle.std.proofs.lemmas.List.{length-map}
use Rattle.std.proofs.lemmas.List.Sorted.{IsPermutation-refl, length_permutation}
use Rattle.std.proofs.lemmas.Str.{IsUtf8-string_bytes}
use Rattle.sqlite.specs.Effect.{Database}
use Rattle.sqlite.specs.Order.{Row, column}
use Rattle.sqlite.specs.State.{State, IsUnchanged}
use Rattle.sqlite.specs.Table.{Table as Definition}
use Rattle.sqlite.specs.Values.{IsInt, or_null}
use Rattle.sqlite_value.specs.declared.value.Value.TheVariants.{Text}
use Rattle.sqlite_rules.specs.Lists.{Has}
use Rattle.sqlite_rules.proofs.ListLemmas.{has_filtered, has_kept}
use Rattle.sqlite_schema.specs.Rules.{clashes}
use Rattle.sqlite_trees.specs.Tree.{IsAscending}
use Rattle.sqlite_trees.proofs.ListLemmas.{all_weaker}
use Rattle.sqlite_value.specs.Keys.{plain}
use Rattle.sqlite_value.specs.Order.{value_cmp}
use Rattle.store_sql.specs.Read.{beginning_with}
use Rattle.store_sql.specs.internal.Read.{AreReadOf}
use Rattle.store_tables.specs.Cells.{IsMove, IsRuling, IsText, OrNull, move_cells, ruling_cells}
use Rattle.store_tables.specs.Changes.{HaveSame}
use Rattle.store_tables.specs.Content.{AreApart, cells}
use Rattle.store_tables.specs.Contents.{Content}
use Rattle.store_tables.specs.Placed.{HasTableAt, club_trees}
use Rattle.store_tables.specs.declared.names.Table.TheVariants.{Rulings}
use Rattle.store_tables.specs.Tables.{moves, rulings}
use Rattle.store_tables.specs.declared.names.Version.{Version}
use Rattle.store_tables.specs.declared.names.Version.TheVariants.{V1, V2, V3}
use Rattle.store_tables.specs.declared.rows.MoveRow.{MoveRow}
use Rattle.store_tables.specs.declared.rows.RulingRow.{RulingRow}
use Rattle.store_tables.proofs.Proved.{has_map, has_mapped, pairs_turned, same_itself, same_then}
use Rattle.club_requests.specs.declared.outside_end.OutsideEnd.{OutsideEnd}
use Rattle.club_requests.specs.Rulings.{verdict_in}
use Rattle.club_core.specs.Rulings.{GivenRuling}
use Rattle.club_core.specs.State.{draughts, shogi}
use Rattle.club_core.specs.LegalState.{Each}
use Rattle.club_core.specs.State.{rulings_of}
use Rattle.club_rows.specs.Club.{both_games, ClubGame, ClubState, IsClub}
use Rattle.club_rows.specs.FirstSchema.{IsClubOf, tables_at}
use Rattle.club_rows.specs.Tables.{gathered_from, kept_by, replaced_by, rows_of_rulings, ruling_row, ruling_rows_from}
use Rattle.club_rows.specs.Tables.{tables_of}
use Rattle.club_check.specs.RightMoves.{stored_rulings}
use Rattle.club_check.specs.Versions.{HasClub, HoldsRows}
use Rattle.club_check.specs.internal.ReasonIsRight.{AreRulingsRead}
use Rattle.club_check.specs.internal.RightMoves.{HasRulingCount, moves_in, rulings_at}
use Rattle.club_check.proofs.ClubLemmas.{before, stays}
use Rattle.club_check.proofs.FirstWrong.{rulings_in, stores_of}
use Rattle.club_check.proofs.RowLemmas.{Apart, Before, IsFrom, apart_back, before_ply, begins, begun_is, by, by_sorted}
use Rattle.club_check.proofs.RowLemmas.{chosen_apart, one_rising, rises, same_back, shown_same, turned_same}
use Rattle.club_check.proofs.StoredLemmas.{rulings_unique, third_stands, unique_of}

-- ---- the rows of rulings rise

rulings_from : (id m n : ℕ) (o : Option OutsideEnd) (rs : List GivenRuling) → m ≤ n
    → AllByRecursion (IsFrom id m) (ruling_rows_from id n o rs)
rulings_from id m n o [] low = tt
rulings_from id m n o (r ∷ rs) low = (
  record { ply = n; later = low; game_is = refl; ply_is = refl },
  rulings_from id m (suc n) (kept_by (verdict_in r.ruling) o) rs (omega (arith, low)),
)

pub rulings_rise : (id n : ℕ) (o : Option OutsideEnd) (rs : List GivenRuling)
    → IsAscending Before (ruling_rows_from id n o rs)
rulings_rise id n o [] = tt
rulings_rise id n o (r ∷ rs) =
    let rest = kept_by (verdict_in r.ruling) o in
    let here = ruling_row id n r (replaced_by (verdict_in r.ruling) o) in (
      all_weaker (IsFrom id (suc n)) (Before here)
          (λ row from. let later = from.later in
          before_ply here row id n from.ply refl from.game_is refl from.ply_is (omega (arith, later)))
          (ruling_rows_from id (suc n) rest rs) (rulings_from id (suc n) (suc n) rest rs (omega arith)),
      rulings_rise id (suc n) rest rs,
    )

pub game_rulings_rise : (id : ℕ) (any : ClubGame) → IsAscending Before (rows_of_rulings id any)
game_rulings_rise id (draughts g) = rulings_rise id 1 g.outside g.rulings
game_rulings_rise id (shogi g) = rulings_rise id 1 g.outside g.rulings

-- ---- the rows with one number that were read

-- a list without elements
pub no_rows : (rows : List Row) → ((z : Row) → Has rows z → ⊥) → rows ≡ []
no_rows [] none = refl
no_rows (z ∷ rows) none = absurd (none z (inl refl))

-- rows that were read of a table whose key is its first two columns, where those with the number are whole numbers
module _ (table : Definition)
    (shown : (r s : Row) → by (cells table r) (cells table s) ≡ ordering_then (value_cmp (column r 1) (column s 1))
    (ordering_then (value_cmp (column r 2) (column s 2)) Equal)) (old : State)
    (no_clash : (r : Row) → Has (club_trees old.now table.tree) r
    → clashes plain (1 ∷ 2 ∷ []) (club_trees old.now table.tree) r ≡ false)
    (apart : AreApart (club_trees old.now table.tree)) (n : ℤ)
    (ints : (r : Row) → Has (club_trees old.now table.tree) r → begins n (cells table r) ≡ true
    → IsInt (column (cells table r) 0) × IsInt (column r 1) × IsInt (column r 2)) where
  -- they rise
  rows_rise : (rows : List Row) (new : State) → AreReadOf table 2 n rows old new → IsAscending Before rows
  rows_rise rows new read =
      let stored = club_trees old.now table.tree in
      let begun = beginning_with n (map (cells table) stored) in
      let sorted = by_sorted rows n
      (λ x h.
      let (in_table, is) = has_filtered (begins n) (map (cells table) stored) x ((turned_same begun rows read.once).back x h)
      in
      let (r, there, same) = has_mapped (cells table) stored x in_table in
      let own = (ints r there (subst (λ (y : Row). begins n y ≡ true) same is)).0 in
      begun_is x n (subst (λ (y : Row). IsInt (column y 0)) (sym same) own) is)
      read.sorted in
      rises rows sorted
      (pairs_turned Apart apart_back begun rows read.once
      (chosen_apart table shown stored no_clash apart (begins n) (λ r h is. let own = ints r h is in (own.1, own.2))))

  -- where the table has others that rise, they are these
  rows_same : (rows made : List Row) (new : State) → AreReadOf table 2 n rows old new
      → HaveSame (beginning_with n (map (cells table) (club_trees old.now table.tree))) made → IsAscending Before made
      → rows ≡ made
  rows_same rows made new read same rise =
      let begun = beginning_with n (map (cells table) (club_trees old.now table.tree)) in
      let both = same_then rows begun made (same_back _ _ (turned_same begun rows read.once)) same in
      one_rising rows made (rows_rise rows new read) rise both.there both.back

-- ---- moves

-- a row of moves has the types of its columns
pub move_typed : (row : MoveRow) → IsMove (move_cells row)
move_typed row = record {
  width = refl;
  game = (row.game, refl);
  ply = (row.ply, refl);
  text = (string_bytes row.text, refl, IsUtf8-string_bytes row.text);
  moment = (row.moment, refl);
  left = (row.left, refl);
  position = (string_bytes row.position, refl, IsUtf8-string_bytes row.position);
}

-- moves that were read are those that the table has, where these rise
pub read_same : (version : Version) (content : Content) (n : ℤ) (ms : List MoveRow) (made : List Row) (old new : State)
    → HoldsRows version content old.now → AreReadOf (moves 8) 2 n (map move_cells ms) old new
    → HaveSame (beginning_with n (moves_in (club_trees old.now))) made → IsAscending Before made
    → map move_cells ms ≡ made
read_same version content n ms made old new holds read same rise =
    rows_same (moves 8) (λ r s. refl) old (unique_of version old.now content holds).moves
    (stores_of (moves 8) 4 refl refl holds).apart n
    (λ r h is. let typed = typed_of r h is in (typed.game, typed.game, typed.ply)) (map move_cells ms) made new read same
    rise
  where
    typed_of : (r : Row) → Has (club_trees old.now 8) r → begins n (cells (moves 8) r) ≡ true
        → IsMove (cells (moves 8) r)
    typed_of r h is =
        let begun = has_kept (begins n) (moves_in (club_trees old.now)) (cells (moves 8) r)
        (has_map (cells (moves 8)) (club_trees old.now 8) r h) is in
        let (row, there, same) = has_mapped move_cells ms (cells (moves 8) r)
        ((turned_same _ (map move_cells ms) read.once).there (cells (moves 8) r) begun) in
        subst IsMove (sym same) (move_typed row)

-- ---- rulings

pub text_typed : {Z : Type 0} (o : Option (String Z)) → OrNull IsText (or_null (λ s. Text (string_bytes s)) o)
text_typed None = inl refl
text_typed (Some s) = inr (string_bytes s, refl, IsUtf8-string_bytes s)

-- a row of rulings has the types of its columns
pub ruling_typed : (row : RulingRow) → IsRuling (ruling_cells row)
ruling_typed row = record {
  width = refl;
  game = (row.game, refl);
  number = (row.number, refl);
  moment = (row.moment, refl);
  ply = (row.ply, refl);
  kind = (row.kind, refl);
  seconds = (row.seconds, refl);
  result = text_typed row.result;
  beneath = text_typed row.beneath;
  beneath_result = text_typed row.beneath_result;
}

module _ (version : Version) (n : ℤ) (rs : List RulingRow) (old new : State) where
  pub ruled_unchanged : AreRulingsRead version n (map ruling_cells rs) old new → IsUnchanged old new
  ruled_unchanged read = of version read
    where
      of : (v : Version) → AreRulingsRead v n (map ruling_cells rs) old new → IsUnchanged old new
      of V1 read = read.0
      of V2 read = read.0
      of V3 read = read.same

  pub ruled_once : AreRulingsRead version n (map ruling_cells rs) old new
      → IsPermutation (beginning_with n (rulings_at version (club_trees old.now))) (map ruling_cells rs)
  ruled_once read = of version read
    where
      of : (v : Version) → AreRulingsRead v n (map ruling_cells rs) old new
          → IsPermutation (beginning_with n (rulings_at v (club_trees old.now))) (map ruling_cells rs)
      of V1 read = subst (IsPermutation []) (sym read.1) (IsPermutation-refl [])
      of V2 read = subst (IsPermutation []) (sym read.1) (IsPermutation-refl [])
      of V3 read = read.once

  -- they are those of the table
  pub ruled_same : AreRulingsRead version n (map ruling_cells rs) old new
      → HaveSame (beginning_with n (rulings_at version (club_trees old.now))) (map ruling_cells rs)
  ruled_same read = turned_same _ (map ruling_cells rs) (ruled_once read)

  pub ruled_number : AreRulingsRead version n (map ruling_cells rs) old new
      → length rs ≡ length (beginning_with n (rulings_at version (club_trees old.now)))
  ruled_number read =
      sym (length-map rs ruling_cells) ∙ length_permutation _ (map ruling_cells rs) (ruled_once read)

nothing : {A B : Type 0} (f : A → B) (xs : List A) → 0 ≡ length (map f xs) → map f xs ≡ []
nothing f [] none = refl
nothing f (x ∷ xs) none = absurd (omega (arith, none))

-- where no ruling was counted there is none to read
pub none_read : (version : Version) (n : ℤ) (count : ℕ) (rs : List RulingRow) (old : State) → count ≡ 0 → rs ≡ []
    → HasRulingCount version count old.now → IsTrue old.is_open
    → AreRulingsRead version n (map ruling_cells rs) old old
none_read V1 n count rs old zero none has is_open = (unchanged old is_open, ap (map ruling_cells) none)
none_read V2 n count rs old zero none has is_open = (unchanged old is_open, ap (map ruling_cells) none)
none_read V3 n count rs old zero none has is_open =
    let shown : rulings_at V3 (club_trees old.now) ≡ [] =
    nothing (cells (rulings 20)) (club_trees old.now 20) (sym zero ∙ has.number) in
    let is : map ruling_cells rs ≡ [] = ap (map ruling_cells) none in
    subst (λ rows. AreReadOf (rulings 20) 2 n rows old old) (sym is) (record {
      once = subst (λ rows. IsPermutation (beginning_with n rows) []) (sym shown) (IsPermutation-refl []);
      sorted = λ k d low high. absurd (omega (arith, low, high));
      same = unchanged old is_open;
    })

module _ (n : ℤ) (count : ℕ) (old new : State) (some : count ≡ 0 → ⊥) where
  -- where some were counted, their table is there
  pub read_at : (version : Version) (rows : List Row) → HasRulingCount version count old.now
      → (HasTableAt old.now.schema Rulings → AreReadOf (rulings 20) 2 n rows old new)
      → AreRulingsRead version n rows old new
  read_at V1 rows has read = absurd (some has.number)
  read_at V2 rows has read = absurd (some has.number)
  read_at V3 rows has read = read (third_stands old.now.schema has.schema.0).2

  pub untyped_at : (version : Version) → HasRulingCount version count old.now
      → (HasTableAt old.now.schema Rulings → IsUnchanged old new)
      → (HasTableAt old.now.schema Rulings
      → ¬ AllByRecursion IsRuling (beginning_with n (rulings_at V3 (club_trees old.now))))
      → IsUnchanged old new × (¬ AllByRecursion IsRuling (beginning_with n (rulings_at version (club_trees old.now))))
  untyped_at V1 has same untyped = absurd (some has.number)
  untyped_at V2 has same untyped = absurd (some has.number)
  untyped_at V3 has same untyped =
      let there = (third_stands old.now.schema has.schema.0).2 in (same there, untyped there)

  pub table_at : (version : Version) → HasRulingCount version count old.now → HasTableAt old.now.schema Rulings
  table_at V1 has = absurd (some has.number)
  table_at V2 has = absurd (some has.number)
  table_at V3 has = (third_stands old.now.schema has.schema.0).2

-- rulings that were read of a database that did not change
pub ruled_after : (version : Version) (n : ℤ) (rs : List RulingRow) {old mid : State} (new : State)
    → IsUnchanged old mid → AreRulingsRead version n (map ruling_cells rs) mid new
    → AreRulingsRead version n (map ruling_cells rs) old new
ruled_after V1 n rs new same read = (stays same read.0, read.1)
ruled_after V2 n rs new same read = (stays same read.0, read.1)
ruled_after V3 n rs new same read = record {
  once = before (λ d. IsPermutation (beginning_with n (rulings_at V3 (club_trees d))) (map ruling_cells rs)) same read.once;
  sorted = read.sorted;
  same = stays same read.same;
}

-- rulings that were read are those that the table has, where these rise
pub read_rulings_same : (version : Version) (content : Content) (n : ℤ) (rs : List RulingRow) (made : List Row)
    (old new : State) → HoldsRows version content old.now
    → AreRulingsRead version n (map ruling_cells rs) old new
    → HaveSame (beginning_with n (rulings_at version (club_trees old.now))) made → IsAscending Before made
    → map ruling_cells rs ≡ made
read_rulings_same V1 content n rs made old new holds read same rise = read.1 ∙ sym (no_rows made (λ z h. same.back z h))
read_rulings_same V2 content n rs made old new holds read same rise = read.1 ∙ sym (no_rows made (λ z h. same.back z h))
read_rulings_same V3 content n rs made old new holds read same rise =
    rows_same (rulings 20) (λ r s. refl) old (rulings_unique old.now content holds)
    (rulings_in old.now content holds).apart n
    (λ r h is. let typed = typed_of r h is in (typed.game, typed.game, typed.number)) (map ruling_cells rs) made new read
    same rise
  where
    typed_of : (r : Row) → Has (club_trees old.now 20) r → begins n (cells (rulings 20) r) ≡ true
        → IsRuling (cells (rulings 20) r)
    typed_of r h is =
        let begun = has_kept (begins n) (rulings_at V3 (club_trees old.now)) (cells (rulings 20) r)
        (has_map (cells (rulings 20)) (club_trees old.now 20) r h) is in
        let (row, there, same) = has_mapped ruling_cells rs (cells (rulings 20) r)
        ((turned_same _ (map ruling_cells rs) read.once).there (cells (rulings 20) r) begun) in
        subst IsRuling (sym same) (ruling_typed row)

-- the rulings that are shown are those of the content
pub rulings_held : (version : Version) (db : Database) (content : Content) → HoldsRows version content db
    → HaveSame (rulings_at version (club_trees db)) (stored_rulings version content)
rulings_held V1 db content holds = same_itself []
rulings_held V2 db content holds = same_itself []
rulings_held V3 db content holds = shown_same (rulings 20) (club_trees db) (content 20) (rulings_in db content holds).rows

-- ---- clubs without an arbiter

none_given : (id n : ℕ) (o : Option OutsideEnd) (rs : List GivenRuling) → ruling_rows_from id n o rs ≡ [] → rs ≡ []
none_given id n o [] is = refl
none_given id n o (r ∷ rs) is = cc

-- a game without rows of rulings has no rulings
pub none_ruled : (id : ℕ) (any : ClubGame) → rows_of_rulings id any ≡ [] → rulings_of any ≡ []
none_ruled id (draughts g) is = none_given id 1 g.outside g.rulings is
none_ruled id (shogi g) is = none_given id 1 g.outside g.rulings is

no_ruled : (id : ℕ) (any : ClubGame) → rulings_of any ≡ [] → rows_of_rulings id any ≡ []
no_ruled id (draughts g) none = ap (ruling_rows_from id 1 g.outside) none
no_ruled id (shogi g) none = ap (ruling_rows_from id 1 g.outside) none

none_of : (id : ℕ) (gs : List ClubGame) → Each (λ g. rulings_of g ≡ []) gs → gathered_from rows_of_rulings id gs ≡ []
none_of id [] each = refl
none_of id (g ∷ gs) each =
    ap (λ l. l ++ gathered_from rows_of_rulings (suc id) gs) (no_ruled id g (each 0 g refl))
    ∙ none_of (suc id) gs (λ k x at. each (suc k) x at)

-- a legal club of an earlier version than schema 3 has none
pub rulings_absent : (s : ClubState) → IsClub s → s.has_arbiter ≡ false → tables_of both_games s 20 ≡ []
rulings_absent s club none = none_of 1 s.games (club.without_arbiter none).games

-- the rulings that are shown of a legal club are its own
pub rulings_shown : (version : Version) (s : ClubState) → IsClubOf version s → (db : Database) → HasClub version db s
    → HaveSame (rulings_at version (club_trees db)) (tables_of both_games s 20)
rulings_shown V1 s own db holds =
    subst (HaveSame []) (sym (rulings_absent s own.club own.no_arbiter)) (same_itself [])
rulings_shown V2 s own db holds = subst (HaveSame []) (sym (rulings_absent s own.0 own.1)) (same_itself [])
rulings_shown V3 s own db holds = rulings_held V3 db (tables_at V3 s) holds

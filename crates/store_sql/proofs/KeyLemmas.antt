-- No two rows of a table of a club have one key, whatever its rows are.
use Rattle.std.proofs.Common.{◌≡◌, ℕ, ℤ, true, false, List, [], ◌∷◌, Some, refl, sym, ap, subst, subst₂, ◌∙◌}
use Rattle.std.proofs.Common.{IsTrue, true≢false, slice_get, slice_index_or}
use Rattle.std.specs.Cmp.{tied_itself}
use Rattle.std.specs.declared.cmp.Ordering.TheVariants.{Equal}
use Rattle.std.proofs.lemmas.Bool.{and_from, and_parts, false_from_ne_true}
use Rattle.sqlite_value.specs.declared.value.Value.{Value}
use Rattle.sqlite_value.specs.declared.value.Value.TheVariants.{Null, Int, Real, Text, Blob}
use Rattle.sqlite_value.specs.Keys.{first_key, plain}
use Rattle.sqlite_value.specs.Order.{value_cmp}
use Rattle.sqlite_value.proofs.OrderLemmas.{value_cmp_total}
use Rattle.sqlite.specs.Order.{Row, column}
use Rattle.sqlite.specs.Table.{Table}
use Rattle.sqlite.specs.Tree.{Trees}
use Rattle.sqlite_schema.specs.Rules.{clashes, differ}
use Rattle.sqlite_trees.specs.Tree.{rowid}
use Rattle.sqlite_trees.specs.View.{is_int}
use Rattle.sqlite_rules.specs.Lists.{Has}
use Rattle.sqlite_rules.proofs.ListLemmas.{all_has, some_from}
use Rattle.store_tables.specs.Content.{AreApart, cells, same_key}
use Rattle.sqlite.specs.State.{State}
use Rattle.store_tables.specs.Contents.{Content, Stores}
use Rattle.store_tables.specs.Names.{tree_of}
use Rattle.store_tables.specs.Over.{HasRowsIn}
use Rattle.store_tables.specs.Placed.{HasTableAt, club_trees}
use Rattle.store_tables.specs.Tables.{challenges, closings, event_rules, events, games, keys, made_as, members, meta}
use Rattle.store_tables.specs.Tables.{moves, rulings, scores, seen, standing}
use Rattle.store_tables.specs.internal.Tables.{has_table}
use Rattle.store_tables.specs.declared.names.Table as of_club
use Rattle.store_tables.specs.declared.names.Table.TheVariants.{Challenges, Closings, EventRules, Events, Games, Keys}
use Rattle.store_tables.specs.declared.names.Table.TheVariants.{Members, Meta, Moves, Rulings, Scores, Seen}
use Rattle.store_tables.specs.declared.names.Version.{Version}
use Rattle.store_tables.proofs.Proved.{equal_cmp, differ_ints, rows_standing, same_rowid}
use Rattle.store_tables.proofs.Proved.{unique_at}
use Rattle.store_sql.proofs.SelectLemmas.{stored_here}

-- a table's rows, of which no two have one key
abbrev pub HaveKeys : List ℕ → List Row → Type 0
HaveKeys key rows = (x y : Row) → Has rows x → Has rows y → same_key key x y ≡ true → x ≡ y

-- a table whose rows with one key have one rowid has each key once
keyed : (table : Table) (key : List ℕ) (trees : Trees) (content : Content) → Stores table trees content
    → ((r s : Row) → Has (trees table.tree) r → Has (trees table.tree) s
    → same_key key (cells table r) (cells table s) ≡ true → value_cmp (rowid r) (rowid s) ≡ Equal)
    → HaveKeys key (content table.tree)
keyed table key trees content stores tied x y here there same =
    let one = stores.rows.stored x here in
    let other = stores.rows.stored y there in
    let known = subst₂ (λ a b. same_key key a b ≡ true) (sym one.2) (sym other.2) same in
    sym one.2
    ∙ ap (cells table) (same_rowid (trees table.tree) one.0 other.0 stores.apart one.1 other.1
    (tied one.0 other.0 one.1 other.1 known))
    ∙ other.2

by_first : (a b : Row) → same_key (0 ∷ []) a b ≡ true → value_cmp (column a 0) (column b 0) ≡ Equal
unfolding first_key
by_first a b same = equal_cmp _ _ (and_parts _ _ same).0

int_of : (v : Value) → IsTrue (is_int v) → (n : ℤ) × (v ≡ Int n)
int_of (Int n) is = (n, refl)
int_of Null is = absurd (true≢false (sym is))
int_of (Real x) is = absurd (true≢false (sym is))
int_of (Text t) is = absurd (true≢false (sym is))
int_of (Blob b) is = absurd (true≢false (sym is))

-- rows that agree in a key in which none of them clashes have one rowid
tied : (key : List ℕ) (rows : List Row) → ((r : Row) → Has rows r → clashes plain key rows r ≡ false) → AreApart rows
    → (r s : Row) → Has rows r → Has rows s → same_key key r s ≡ true → value_cmp (rowid r) (rowid s) ≡ Equal
tied key rows none apart r s here there same =
    let (m, m_is) = int_of (rowid r) (all_has _ rows r apart.ints here) in
    let (n, n_is) = int_of (rowid s) (all_has _ rows s apart.ints there) in
    let one : m ≡ n =
    differ_ints m n
    (subst₂ (λ a b. differ a b ≡ false) m_is n_is
    (false_from_ne_true _
    (λ differs. true≢false (sym (some_from _ rows r here (and_from _ _ same differs)) ∙ none s there)))) in
    subst (λ v. value_cmp (rowid r) v ≡ Equal) (m_is ∙ ap Int one ∙ sym n_is) (tied_itself value_cmp_total (rowid r))

-- No two rows of a table of a club of this version have one key, wherever its tables stand.
module _ (version : Version) (content : Content) (s : State) (k : HasRowsIn version content s) where
  abbrev trees : Trees
  trees = club_trees s.now

  -- the table has its rows
  here : (table : of_club.Table) → IsTrue (has_table version table) → Stores (standing table) trees content
  here table has = stored_here version table has content s k

  -- a unique key of the table is clean
  unique : (table : of_club.Table) → IsTrue (has_table version table) → (at : ℕ) (key : List ℕ)
      → ((tree : ℕ) → slice_get (made_as table tree).uniques at ≡ Some key)
      → ((tree : ℕ) → slice_index_or (made_as table tree).orders at plain ≡ plain) → (r : Row)
      → Has (trees (tree_of table)) r → clashes plain key (trees (tree_of table)) r ≡ false
  unique table has at key is ordered =
      let stands = subst (λ d. HasTableAt d table) (sym k.exactly.now.schema)
      (rows_standing version content s k table has).0 in
      unique_at s.now.schema s.now.trees k.exactly.now.sound table stands at key (is stands.tree) (ordered stands.tree)

  pub meta_keys : IsTrue (has_table version Meta) → HaveKeys (0 ∷ []) (content 0)
  meta_keys has = keyed (meta 0) (0 ∷ []) trees content (here Meta has)
      (λ r s here there same. by_first (cells (meta 0) r) (cells (meta 0) s) same)

  pub member_keys : IsTrue (has_table version Members) → HaveKeys (0 ∷ []) (content 1)
  member_keys has = keyed (members 1) (0 ∷ []) trees content (here Members has)
      (λ r s here there same. by_first (cells (members 1) r) (cells (members 1) s) same)

  pub event_keys : IsTrue (has_table version Events) → HaveKeys (0 ∷ []) (content 4)
  event_keys has = keyed (events 4) (0 ∷ []) trees content (here Events has)
      (λ r s here there same. by_first (cells (events 4) r) (cells (events 4) s) same)

  pub event_rule_keys : IsTrue (has_table version EventRules) → HaveKeys (0 ∷ []) (content 16)
  event_rule_keys has = keyed (event_rules 16) (0 ∷ []) trees content (here EventRules has)
      (λ r s here there same. by_first (cells (event_rules 16) r) (cells (event_rules 16) s) same)

  pub game_keys : IsTrue (has_table version Games) → HaveKeys (0 ∷ []) (content 10)
  game_keys has = keyed (games 10) (0 ∷ []) trees content (here Games has)
      (λ r s here there same. by_first (cells (games 10) r) (cells (games 10) s) same)

  pub closing_keys : IsTrue (has_table version Closings) → HaveKeys (0 ∷ []) (content 22)
  closing_keys has = keyed (closings 22) (0 ∷ []) trees content (here Closings has)
      (λ r s here there same. by_first (cells (closings 22) r) (cells (closings 22) s) same)

  pub challenge_keys : IsTrue (has_table version Challenges) → HaveKeys (0 ∷ 1 ∷ []) (content 6)
  challenge_keys has =
      let stores = here Challenges has in
      keyed (challenges 6) (0 ∷ 1 ∷ []) trees content stores
      (tied (1 ∷ 2 ∷ []) (trees 6) (unique Challenges has 0 (1 ∷ 2 ∷ []) (λ tree. refl) (λ tree. refl)) stores.apart)

  pub move_keys : IsTrue (has_table version Moves) → HaveKeys (0 ∷ 1 ∷ []) (content 8)
  move_keys has =
      let stores = here Moves has in
      keyed (moves 8) (0 ∷ 1 ∷ []) trees content stores
      (tied (1 ∷ 2 ∷ []) (trees 8) (unique Moves has 0 (1 ∷ 2 ∷ []) (λ tree. refl) (λ tree. refl)) stores.apart)

  pub seen_keys : IsTrue (has_table version Seen) → HaveKeys (0 ∷ 1 ∷ []) (content 12)
  seen_keys has =
      let stores = here Seen has in
      keyed (seen 12) (0 ∷ 1 ∷ []) trees content stores
      (tied (1 ∷ 2 ∷ []) (trees 12) (unique Seen has 0 (1 ∷ 2 ∷ []) (λ tree. refl) (λ tree. refl)) stores.apart)

  pub score_keys : IsTrue (has_table version Scores) → HaveKeys (0 ∷ 1 ∷ 2 ∷ []) (content 14)
  score_keys has =
      let stores = here Scores has in
      keyed (scores 14) (0 ∷ 1 ∷ 2 ∷ []) trees content stores
      (tied (1 ∷ 2 ∷ 3 ∷ []) (trees 14) (unique Scores has 0 (1 ∷ 2 ∷ 3 ∷ []) (λ tree. refl) (λ tree. refl)) stores.apart)

  pub later_key_keys : IsTrue (has_table version Keys) → HaveKeys (0 ∷ 1 ∷ []) (content 17)
  later_key_keys has =
      let stores = here Keys has in
      keyed (keys 17) (0 ∷ 1 ∷ []) trees content stores
      (tied (1 ∷ 2 ∷ []) (trees 17) (unique Keys has 1 (1 ∷ 2 ∷ []) (λ tree. refl) (λ tree. refl)) stores.apart)

  pub ruling_keys : IsTrue (has_table version Rulings) → HaveKeys (0 ∷ 1 ∷ []) (content 20)
  ruling_keys has =
      let stores = here Rulings has in
      keyed (rulings 20) (0 ∷ 1 ∷ []) trees content stores
      (tied (1 ∷ 2 ∷ []) (trees 20) (unique Rulings has 0 (1 ∷ 2 ∷ []) (λ tree. refl) (λ tree. refl)) stores.apart)

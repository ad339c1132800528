-- Rows of later keys and of closed events are read as the lists that they are.
use Rattle.std.proofs.Common.{◌≡◌, ℕ, suc, ◌+◌, ◌<◌, List, [], ◌∷◌, ◌++◌, Option, Some, None, refl, ap, arith}
use Rattle.std.proofs.Common.{inl, inr, map, Less, Equal}
use Rattle.std.specs.List.{AllByRecursion}
use Rattle.std.specs.Ordering.{ordering_then}
use Rattle.std.specs.Option.{option_map, option_to_list}
use Rattle.sqlite.specs.Order.{Row, column}
use Rattle.sqlite.specs.State.{State}
use Rattle.sqlite_rules.specs.Lists.{Has}
use Rattle.sqlite_rules.proofs.ListLemmas.{all_from, all_has, has_either}
use Rattle.sqlite_trees.specs.Tree.{IsAscending}
use Rattle.sqlite_value.specs.Order.{value_cmp}
use Rattle.store_sql.specs.internal.Read.{IsReadAs}
use Rattle.store_tables.specs.Cells.{IsKey}
use Rattle.store_tables.specs.Content.{Keeps, cells}
use Rattle.store_tables.specs.Contents.{Content}
use Rattle.store_tables.specs.Placed.{club_trees}
use Rattle.store_tables.specs.Tables.{closings, keys}
use Rattle.store_tables.specs.declared.names.Table.TheVariants.{Keys}
use Rattle.store_tables.specs.declared.names.Version.TheVariants.{V3}
use Rattle.store_tables.proofs.Proved.{ids_of, in_order, one_list, pairs_turned, unique_at}
use Rattle.club_core.specs.Events.{Event}
use Rattle.club_core.specs.Members.{Member}
use Rattle.club_rows.specs.Club.{both_games, ClubState, IsClub}
use Rattle.club_rows.specs.Tables.{closing_row, gathered_from, key_row, number, numbered_from, rows_of_closing}
use Rattle.club_rows.specs.Tables.{rows_of_keys, tables_of}
use Rattle.club_rows.proofs.Proved.{keys-typed}
use Rattle.club_check.specs.Versions.{HoldsRows}
use Rattle.club_check.proofs.NumberedLemmas.{gathered_had, moved, numbered_had}
use Rattle.club_check.proofs.RowLemmas.{Apart, Before, apart_back, before_ply, one_rising, rises, stored_apart}
use Rattle.club_check.proofs.RowLemmas.{value_less}
use Rattle.club_check.proofs.StoredLemmas.{keys_stand}

-- ---- closings

-- the first column of the one row is less than that of the other
abbrev Lower : Row → Row → Type 0
Lower a b = value_cmp (column a 0) (column b 0) ≡ Less

-- the row of a closing, if there is one, and rows behind it
closing_all : (P : Row → Type 0) (row : ℕ → Row) (closed : Option ℕ) (rest : List Row) → ((m : ℕ) → P (row m))
    → AllByRecursion P rest → AllByRecursion P (option_to_list (option_map row closed) ++ rest)
closing_all P row None rest each all = all
closing_all P row (Some m) rest each all = (each m, all)

closing_rise : (row : ℕ → Row) (closed : Option ℕ) (rest : List Row) → ((m : ℕ) → AllByRecursion (Lower (row m)) rest)
    → IsAscending Lower rest → IsAscending Lower (option_to_list (option_map row closed) ++ rest)
closing_rise row None rest each up = up
closing_rise row (Some m) rest each up = (each m, up)

later_closings : (row : Row) (n id : ℕ) → column row 0 ≡ number n → n < id → (es : List Event)
    → AllByRecursion (Lower row) (gathered_from rows_of_closing id es)
later_closings row n id is less [] = tt
later_closings row n id is less (e ∷ es) =
    closing_all (Lower row) (closing_row id) e.closed (gathered_from rows_of_closing (suc id) es)
    (λ m. value_less (column row 0) (number id) n id is refl less)
    (later_closings row n (suc id) is (omega (arith, less)) es)

-- the rows of closed events rise
closings_rise : (id : ℕ) (es : List Event) → IsAscending Lower (gathered_from rows_of_closing id es)
closings_rise id [] = tt
closings_rise id (e ∷ es) =
    closing_rise (closing_row id) e.closed (gathered_from rows_of_closing (suc id) es)
    (λ m. later_closings (closing_row id m) id (suc id) refl (omega arith) es) (closings_rise (suc id) es)

-- rows of closings that were read, where those of a club stand, are its own
pub closings_kept : (s : ClubState) {rows : List Row} {old new : State}
    → Keeps (closings 22) (club_trees old.now) (tables_of both_games s 22) → IsReadAs (closings 22) 1 rows old new
    → rows ≡ tables_of both_games s 22
closings_kept s {rows} {old} keeps read =
    let made = gathered_from rows_of_closing 1 s.events in
    let db = club_trees old.now in
    one_list rows made (in_order rows read.sorted (ids_of (closings 22) (db 22) rows (λ r. refl) read.once read.apart))
    (closings_rise 1 s.events) (moved (closings 22) db rows made read.keeps keeps)
    (moved (closings 22) db made rows keeps read.keeps)

-- ---- keys

before_member : (a b : Row) (g h : ℕ) → column a 0 ≡ number g → column b 0 ≡ number h → g < h → Before a b
before_member a b g h one two less = ap (λ o. ordering_then o (ordering_then (value_cmp (column a 1) (column b 1)) Equal))
    (value_less (column a 0) (column b 0) g h one two less)

-- the rows of keys of a member begin with its id
keys_had : (id : ℕ) (m : Member) (z : Row) → Has (rows_of_keys id m) z → column z 0 ≡ number id
keys_had id m z h = let (n, k, at, is) = numbered_had (key_row id) 1 m.later z h in ap (λ w. column w 0) is

later_keys : (row : Row) (n id : ℕ) → column row 0 ≡ number n → n < id → (ms : List Member)
    → AllByRecursion (Before row) (gathered_from rows_of_keys id ms)
later_keys row n id is less ms = all_from (Before row) (gathered_from rows_of_keys id ms) (λ z h.
    let (k, m, at, has) = gathered_had rows_of_keys id ms z h in
    before_member row z n (id + k) is (keys_had (id + k) m z has) (omega (arith, less)))

-- the rows of keys of one member, and rows behind them
member_rise : (id n : ℕ) (ks : List (List ℕ)) (rest : List Row)
    → ((row : Row) → column row 0 ≡ number id → AllByRecursion (Before row) rest) → IsAscending Before rest
    → IsAscending Before (numbered_from (key_row id) n ks ++ rest)
member_rise id n [] rest later up = up
member_rise id n (k ∷ ks) rest later up = (
  all_from (Before (key_row id n k)) (numbered_from (key_row id) (suc n) ks ++ rest) (λ z h.
      elim (has_either (numbered_from (key_row id) (suc n) ks) rest z h) [
        | inl own ↦
            let (j, x, at, is) = numbered_had (key_row id) (suc n) ks z own in
            before_ply (key_row id n k) z id n (suc n + j) refl (ap (λ w. column w 0) is) refl
            (ap (λ w. column w 1) is) (omega arith)
        | inr behind ↦ all_has (Before (key_row id n k)) rest z (later (key_row id n k) refl) behind
      ]),
  member_rise id (suc n) ks rest later up,
)

-- the rows of the later keys of members rise
keys_rise : (id : ℕ) (ms : List Member) → IsAscending Before (gathered_from rows_of_keys id ms)
keys_rise id [] = tt
keys_rise id (m ∷ ms) =
    member_rise id 1 m.later (gathered_from rows_of_keys (suc id) ms)
    (λ row is. later_keys row id (suc id) is (omega arith) ms) (keys_rise (suc id) ms)

-- rows of keys that were read, where those of a club stand, are its own
pub keys_kept : (s : ClubState) → IsClub s → {content : Content} {rows : List Row} {old new : State}
    → HoldsRows V3 content old.now → Keeps (keys 17) (club_trees old.now) (tables_of both_games s 17)
    → IsReadAs (keys 17) 2 rows old new → rows ≡ tables_of both_games s 17
keys_kept s club {content} {rows} {old} holds keeps read =
    let made = gathered_from rows_of_keys 1 s.members in
    let db = club_trees old.now in
    let apart =
    stored_apart (keys 17) (λ r s. refl) (db 17)
    (unique_at old.now.schema old.now.trees holds.sound Keys (keys_stand old.now.schema holds.schema) 1 (1 ∷ 2 ∷ [])
    refl refl)
    read.apart
    (λ r h.
    let is = all_has IsKey made (cells (keys 17) r) (keys-typed s club) (keeps.only r h) in
    (is.member, is.number)) in
    one_rising rows made
    (rises rows read.sorted (pairs_turned Apart apart_back (map (cells (keys 17)) (db 17)) rows read.once apart))
    (keys_rise 1 s.members) (moved (keys 17) db rows made read.keeps keeps)
    (moved (keys 17) db made rows keeps read.keeps)

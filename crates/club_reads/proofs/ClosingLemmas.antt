-- The closing of an event is that which the club's state has.
use Rattle.std.proofs.Common.{◌≡◌, ◌⊎◌, ℕ, suc, ◌+◌, pos, List, [], ◌∷◌, map, Option, Some, None, refl}
use Rattle.std.proofs.Common.{ap}
use Rattle.std.proofs.Common.{sym, subst, ◌∙◌, arith, inl, inr, Bool, true, false}
use Rattle.std.specs.Prelude.{if◌then◌else◌, slice_get}
use Rattle.std.specs.Option.{option_map, option_to_list}
use Rattle.sqlite.specs.Order.{Row, column}
use Rattle.sqlite_rules.specs.Lists.{Has}
use Rattle.store_tables.specs.Changes.{HaveSame}
use Rattle.store_tables.specs.Cells.{event_cells}
use Rattle.store_tables.specs.internal.Cells.{closing_cells}
use Rattle.store_tables.specs.declared.names.Version.TheVariants.{V2, V3}
use Rattle.store_tables.specs.declared.rows.ClosingRow.{ClosingRow}
use Rattle.store_tables.specs.declared.rows.EventRow.{EventRow}
use Rattle.club_core.specs.Events.{Event}
use Rattle.club_rows.specs.Club.{ClubState, IsClub}
use Rattle.club_rows.specs.Tables.{closing_row, event_row, gathered_from, number, rows_of_closing, version_of}
use Rattle.club_changes.proofs.Proved.{gathered_had, gathered_has, pos_same}
use Rattle.club_reads.specs.internal.Closings.{IsClosing}

-- the row is there, or no row is of the event
pub record IsThere (rows : List ClosingRow) (event moment : ℕ) (closed : Option ℕ) : Type 0 where
  pub is : closed ≡ Some moment
  pub has : Has (map closing_cells rows) (closing_row event moment)

pub record IsMissing (rows : List ClosingRow) (event : ℕ) (closed : Option ℕ) : Type 0 where
  pub is : closed ≡ None
  pub none : (z : Row) → Has (map closing_cells rows) z → column z 0 ≡ number event → ⊥

cells_so : (row : ClosingRow) (event moment : ℕ) → row.event ≡ pos event → pos moment ≡ row.moment
    → closing_row event moment ≡ closing_cells row
cells_so row event moment e m = cc

own_event : (row : ClosingRow) (event : ℕ) (z : Row) → z ≡ closing_cells row → column z 0 ≡ number event
    → row.event ≡ pos event
own_event row event z is begins = let both = sym (ap (λ w. column w 0) is) ∙ begins in cc

found_so : (rows : List ClosingRow) (event : ℕ) (closed : Option ℕ) → IsClosing rows (pos event) closed
    → ((moment : ℕ) × IsThere rows event moment closed) ⊎ IsMissing rows event closed
found_so [] event closed is = inr (record { is = is; none = λ z has begins. absurd has })
found_so (row ∷ rows) event closed is = elim is [
  | inl other ↦ elim (found_so rows event closed other.1) [
    | inl there ↦ inl (there.0, record { is = there.1.is; has = inr there.1.has })
    | inr missing ↦ inr (record {
      is = missing.is;
      none = λ z has begins. elim has [
        | inl here ↦ absurd (other.0 (own_event row event z here begins))
        | inr more ↦ missing.none z more begins
      ];
    })
  ]
  | inr own ↦
      let (event_is, (moment, moment_is, closed_is)) = own in
      inl (moment, record { is = closed_is; has = inl (cells_so row event moment event_is moment_is) })
]

listed : {A : Type 0} (f : A → Row) (o : Option A) (z : Row) → Has (option_to_list (option_map f o)) z
    → (x : A) × (o ≡ Some x) × (z ≡ f x)
listed f None z h = absurd h
listed f (Some x) z h = elim h [ inl is ↦ (x, refl, is) | inr none ↦ absurd none ]

row_told : (a b m t : ℕ) → closing_row a m ≡ closing_row b t → (pos a ≡ pos b) × (m ≡ t)
row_told a b m t is =
    let moments : pos m ≡ pos t = cc in
    (cc, pos_same m t moments)

-- the closing that is read is that of the event in the state
pub closing_is : (all : List Event) (rows : List ClosingRow)
    → HaveSame (map closing_cells rows) (gathered_from rows_of_closing 1 all) → (k : ℕ) (e : Event)
    → slice_get all k ≡ Some e → (closed : Option ℕ) → IsClosing rows (pos (1 + k)) closed → closed ≡ e.closed
closing_is all rows same k e at closed is = elim (found_so rows (1 + k) closed is) [
  | inl there ↦
      let moment = there.0 in
      let row = closing_row (1 + k) moment in
      let (n, x, stands, has) = gathered_had rows_of_closing 1 all row (same.there row there.1.has) in
      let (t, x_closed, row_is) = listed (closing_row (1 + n)) x.closed row has in
      let told = row_told (1 + k) (1 + n) moment t row_is in
      let places = pos_same (1 + k) (1 + n) told.0 in
      let n_is : n ≡ k = omega (arith, places) in
      let here : slice_get all k ≡ Some x = subst (λ j. slice_get all j ≡ Some x) n_is stands in
      let x_is : x ≡ e = cc in
      there.1.is ∙ (ap Some told.1 ∙ (sym x_closed ∙ ap (λ y. y.closed) x_is))
  | inr missing ↦ missing.is ∙ by e.closed refl missing.none
]
  where
    by : (o : Option ℕ) → e.closed ≡ o
        → ((z : Row) → Has (map closing_cells rows) z → column z 0 ≡ number (1 + k) → ⊥) → None ≡ e.closed
    by None open_is none = sym open_is
    by (Some t) closed_is none =
        let row = closing_row (1 + k) t in
        let own : Has (rows_of_closing (1 + k) e) row =
        subst (λ o. Has (option_to_list (option_map (closing_row (1 + k)) o)) row) (sym closed_is) (inl refl) in
        absurd (none row (same.back row (gathered_has rows_of_closing 1 all k e row at own)) refl)

-- a club of schema 2 has no closed events
pub no_closings : (s : ClubState) → IsClub s → V2 ≡ version_of s → gathered_from rows_of_closing 1 s.events ≡ []
no_closings s is_club version =
    none 1 s.events (is_club.without_arbiter (no_arbiter s.has_arbiter version)).events
  where
    none : (id : ℕ) (events : List Event)
        → ((n : ℕ) (e : Event) → slice_get events n ≡ Some e → e.closed ≡ None)
        → gathered_from rows_of_closing id events ≡ []
    none id [] all = refl
    none id (e ∷ es) all =
        let here : e.closed ≡ None = all 0 e refl in
        let rest = none (suc id) es (λ n x at. all (suc n) x at) in
        rw (here, rest) refl

    no_arbiter : (b : Bool) → V2 ≡ (if b then V3 else V2) → b ≡ false
    no_arbiter false is = refl
    no_arbiter true is = cc

-- the same by the row of the event
pub closing_of_row : (all : List Event) (rows : List ClosingRow)
    → HaveSame (map closing_cells rows) (gathered_from rows_of_closing 1 all) → (k : ℕ) (e : Event)
    → slice_get all k ≡ Some e → (row : EventRow) → event_cells row ≡ event_row (1 + k) e → (closed : Option ℕ)
    → IsClosing rows row.id closed → closed ≡ e.closed
closing_of_row all rows same k e at row is closed closing =
    let id : row.id ≡ pos (1 + k) = cc in
    closing_is all rows same k e at closed (subst (λ i. IsClosing rows i closed) id closing)

-- The closings of events that rows show.
use Rattle.std.proofs.Common.{◌≡◌, ℕ, suc, pos, ◌+◌, ◌<◌, ◌≤◌, List, [], ◌∷◌, ◌++◌, length, map, Option, Some, None}
use Rattle.std.proofs.Common.{inl, inr}
use Rattle.std.proofs.Common.{refl, ap, sym, subst, ◌∙◌, arith}
use Rattle.std.specs.Prelude.{slice_get, IfSome}
use Rattle.std.specs.Option.{option_map, option_to_list}
use Rattle.std.proofs.Math.ListN.{drop}
use Rattle.std.proofs.lemmas.Bool.{cases_eq}
use Rattle.sqlite.specs.Order.{Row}
use Rattle.club_core.specs.Events.{Event}
use Rattle.club_core.specs.LegalState.{Each, IsLegalEvent}
use Rattle.club_requests.specs.Limits.{last_moment}
use Rattle.store_tables.specs.Cells.{event_cells}
use Rattle.store_tables.specs.internal.Cells.{closing_cells}
use Rattle.store_tables.specs.declared.rows.ClosingRow.{ClosingRow}
use Rattle.store_tables.specs.declared.rows.EventRow.{EventRow}
use Rattle.store_tables.specs.declared.rows.EventRuleRow.{EventRuleRow}
use Rattle.club_rows.specs.Tables.{closing_row, event_row, gathered_from, numbered_from, rows_of_closing, rule_row}
use Rattle.club_audit.specs.internal.Audit.{AreEvents, AreRulesOf}
use Rattle.club_audit.specs.internal.ClosingAudit.{AreClosingsAfter, AreClosingsOf, IsClosedBy, IsClosingAfter}
use Rattle.club_audit.proofs.LaterKeys.{drop-got, drop-past, parts-apart}
use Rattle.club_audit.proofs.PlacedLemmas.{each-cons, numbered-length}

-- the timestamp of a closing, if there is one, is not after this one
abbrev pub ClosedBy : ℕ → Event → Type 0
ClosedBy last e = IfSome e.closed (λ moment. moment ≤ last)

abbrev with-closed : Event → Option ℕ → Event
with-closed e closed = record e { closed = closed }

-- rows behind an event come also after what is before it
event-before : (count before : ℕ) (rows : List ClosingRow) → AreClosingsAfter count (suc before) rows
    → AreClosingsAfter count before rows
event-before count before [] chain = tt
event-before count before (r ∷ rs) (event, after, rest) = (
  event,
  record {
    event_is = after.event_is;
    later = omega (arith, after.later);
    within = after.within;
    moment = after.moment;
  },
  rest,
)

-- rows are in order exactly if those from the index on may come after this event
abbrev pub IsSoFar : (count : ℕ) → List ClosingRow → (index before : ℕ) → Type 0
IsSoFar count rows index before = (AreClosingsAfter count before (drop index rows) → AreClosingsAfter count 0 rows)
    × (AreClosingsAfter count 0 rows → AreClosingsAfter count before (drop index rows))

pub so-far-more : (count : ℕ) (rows : List ClosingRow) (index before event : ℕ) (r : ClosingRow)
    → slice_get rows index ≡ Some r → IsClosingAfter count before event r → IsSoFar count rows index before
    → IsSoFar count rows (index + 1) event
so-far-more count rows index before event r found after so_far =
    let here = drop-got rows index r found in (
      λ rest. so_far.0 (subst (AreClosingsAfter count before) (sym here) (event, after, rest)),
      λ all.
          let (other, is, rest) = subst (AreClosingsAfter count before) here (so_far.1 all) in
          let same : other ≡ event = cc (is.event_is, after.event_is) in
          subst (λ n. AreClosingsAfter count n (drop (index + 1) rows)) same rest,
    )

-- the row at the index is that of an event after the one before
pub so-far-here : (count : ℕ) (rows : List ClosingRow) (index before : ℕ) (r : ClosingRow)
    → slice_get rows index ≡ Some r → IsSoFar count rows index before → AreClosingsAfter count 0 rows
    → (event : ℕ) × IsClosingAfter count before event r
so-far-here count rows index before r found so_far all =
    let (event, after, rest) = subst (AreClosingsAfter count before) (drop-got rows index r found) (so_far.1 all) in
    (event, after)

pub so-far-all : (count : ℕ) (rows : List ClosingRow) (index before : ℕ) → length rows ≤ index
    → IsSoFar count rows index before → AreClosingsAfter count 0 rows
so-far-all count rows index before past so_far =
    so_far.0 (subst (AreClosingsAfter count before) (sym (drop-past rows index past)) tt)

-- the events with the closings that the rows show
pub record AreClosed (before : ℕ) (events : List Event) (rows : List ClosingRow) : Type 0 where
  pub closed : List Event
  pub cells : map closing_cells rows ≡ gathered_from rows_of_closing (suc before) closed
  pub moments : Each (ClosedBy last_moment) closed
  pub same : numbered_from event_row (suc before) closed ≡ numbered_from event_row (suc before) events
  pub ruled : numbered_from rule_row (suc before) closed ≡ numbered_from rule_row (suc before) events
  pub long : length closed ≡ length events
  pub names : map (λ e. e.name) closed ≡ map (λ e. e.name) events
  pub legal : Each IsLegalEvent events → Each IsLegalEvent closed

-- one event more
closed-more : (before : ℕ) (e : Event) (es : List Event) (rest rows : List ClosingRow) (moment : Option ℕ)
    → IfSome moment (λ m. m ≤ last_moment) → AreClosed (suc before) es rest
    → ((cells : List Row) → map closing_cells rest ≡ cells
    → map closing_cells rows ≡ rows_of_closing (suc before) (with-closed e moment) ++ cells)
    → AreClosed before (e ∷ es) rows
closed-more before e es rest rows moment within more cells =
    let own = with-closed e moment in
    record {
      closed = own ∷ more.closed;
      cells = cells _ more.cells;
      moments = each-cons (ClosedBy last_moment) own more.closed within more.moments;
      same = ap (λ l. event_row (suc before) e ∷ l) more.same;
      ruled = ap (λ l. rule_row (suc before) e ∷ l) more.ruled;
      long = ap suc more.long;
      names = ap (λ l. e.name ∷ l) more.names;
      legal = λ each.
          let one = each 0 e refl in
          each-cons IsLegalEvent own more.closed
          (record { name = one.name; budget = one.budget; increment = one.increment })
          (more.legal (λ k x found. each (suc k) x found));
    }

closed-from : (count before : ℕ) (es : List Event) (rows : List ClosingRow) → AreClosingsAfter count before rows
    → count ≡ before + length es → AreClosed before es rows
closed-from count before [] [] chain all = record {
  closed = [];
  cells = refl;
  moments = λ k x found. cc;
  same = refl;
  ruled = refl;
  long = refl;
  names = refl;
  legal = λ each. each;
}
closed-from count before [] (r ∷ rs) (event, after, rest) all =
    let high : count ≡ before + 0 = all in absurd (omega (arith, high, after.later, after.within))
closed-from count before (e ∷ es) [] chain all =
    let high : count ≡ before + suc (length es) = all in
    let more = closed-from count (suc before) es [] tt (omega (arith, high)) in
    closed-more before e es [] [] None tt more (λ cells is. is)
closed-from count before (e ∷ es) (r ∷ rs) (event, after, rest) all =
    let high : count ≡ before + suc (length es) = all in
    elim (cases_eq event (suc before)) [
      | inl same ↦
          let (moment, moment_is, within) = after.moment in
          let event_is : r.event ≡ pos (suc before) = after.event_is ∙ ap pos same in
          let head : closing_cells r ≡ closing_row (suc before) moment = cc in
          let more = closed-from count (suc before) es rs (subst (λ n. AreClosingsAfter count n rs) same rest)
          (omega (arith, high)) in
          closed-more before e es rs (r ∷ rs) (Some moment) within more (λ cells is i. head i ∷ is i)
      | inr other ↦
          let chain : AreClosingsAfter count (suc before) (r ∷ rs) = (
            event,
            record {
              event_is = after.event_is;
              later = omega (arith, after.later, other);
              within = after.within;
              moment = after.moment;
            },
            rest,
          ) in
          let more = closed-from count (suc before) es (r ∷ rs) chain (omega (arith, high)) in
          closed-more before e es (r ∷ rs) (r ∷ rs) None tt more (λ cells is. is)
    ]

closing-back : (count before : ℕ) (closed : Option ℕ) (tail : List Row)
    → ((rows : List ClosingRow) → map closing_cells rows ≡ tail → AreClosingsAfter count (suc before) rows)
    → before < count → IfSome closed (λ m. m ≤ last_moment) → (rows : List ClosingRow)
    → map closing_cells rows ≡ option_to_list (option_map (closing_row (suc before)) closed) ++ tail
    → AreClosingsAfter count before rows
closing-back count before None tail more low within rows are = event-before count before rows (more rows are)
closing-back count before (Some moment) tail more low within [] are = cc
closing-back count before (Some moment) tail more low within (r ∷ rs) are =
    let at : r.moment ≡ pos moment = cc in (
      suc before,
      record { event_is = cc; later = omega arith; within = omega (arith, low); moment = (moment, at, within) },
      more rs (cc),
    )

closings-back : (count before : ℕ) (es : List Event) → Each (ClosedBy last_moment) es → count ≡ before + length es
    → (rows : List ClosingRow) → map closing_cells rows ≡ gathered_from rows_of_closing (suc before) es
    → AreClosingsAfter count before rows
closings-back count before [] moments all [] are = tt
closings-back count before [] moments all (r ∷ rs) are = cc
closings-back count before (e ∷ es) moments all rows are =
    let high : count ≡ before + suc (length es) = all in
    closing-back count before e.closed (gathered_from rows_of_closing (suc (suc before)) es)
    (closings-back count (suc before) es (λ k x found. moments (suc k) x found) (omega (arith, high)))
    (omega (arith, high)) (moments 0 e refl) rows are

-- ---- the rows of closed events

-- rows in order are those of the closings of events with these rows
pub closed-of : (es : List Event) (events : List EventRow) (rules : List EventRuleRow) (closings : List ClosingRow)
    → AreEvents es events → AreRulesOf es rules → AreClosingsAfter (length events) 0 closings
    → (closed : List Event) × AreEvents closed events × AreRulesOf closed rules × AreClosingsOf closed closings
closed-of es events rules closings are ruled chain =
    let count : length events ≡ length es = numbered-length event_cells event_row 1 events es are.rows_are in
    let made = closed-from (length events) 0 es closings chain (omega (arith, count)) in (
      made.closed,
      record {
        rows_are = are.rows_are ∙ sym made.same;
        legal = made.legal are.legal;
        count = omega (arith, made.long, are.count);
        names = parts-apart (λ e. e.name) es made.closed made.names are.names;
      },
      ruled ∙ sym made.ruled,
      record { rows_are = made.cells; moments = made.moments },
    )

-- the rows of closings are in order
pub closings-in-order : (es : List Event) (events : List EventRow) (closings : List ClosingRow) → AreEvents es events
    → AreClosingsOf es closings → AreClosingsAfter (length events) 0 closings
closings-in-order es events closings are own =
    let count : length events ≡ length es = numbered-length event_cells event_row 1 events es are.rows_are in
    closings-back (length events) 0 es own.moments (omega (arith, count)) closings own.rows_are

-- ---- timestamps

moments-by : (last id : ℕ) (es : List Event) (rows : List ClosingRow)
    → map closing_cells rows ≡ gathered_from rows_of_closing id es → Each (IsClosedBy last) rows
    → Each (ClosedBy last) es
moments-by last id [] rows are each = λ k x found. cc
moments-by last id (e ∷ es) rows are each =
    first (λ rs is all. moments-by last (suc id) es rs is all) e.closed refl rows are each
  where
    first : ((rows : List ClosingRow) → map closing_cells rows ≡ gathered_from rows_of_closing (suc id) es
        → Each (IsClosedBy last) rows → Each (ClosedBy last) es) → (closed : Option ℕ) → e.closed ≡ closed
        → (rows : List ClosingRow)
        → map closing_cells rows ≡ rows_of_closing id e ++ gathered_from rows_of_closing (suc id) es
        → Each (IsClosedBy last) rows → Each (ClosedBy last) (e ∷ es)
    first more None is rows are each = each-cons (ClosedBy last) e es (rw is tt) (more rows (rw is at are) each)
    first more (Some moment) is [] are each = absurd (let cells = rw is at are in cc)
    first more (Some moment) is (r ∷ rs) are each =
        let cells = rw is at are in
        let own : r.moment ≡ pos moment = cc in
        let (m, at_m, low) = each 0 r refl in
        let same : m ≡ moment = cc in
        each-cons (ClosedBy last) e es (rw is (subst (λ n. n ≤ last) same low))
        (more rs (cc) (λ k x found. each (suc k) x found))

moments-of : (last id : ℕ) (es : List Event) (rows : List ClosingRow)
    → map closing_cells rows ≡ gathered_from rows_of_closing id es → Each (ClosedBy last) es
    → Each (IsClosedBy last) rows
moments-of last id [] [] are each = λ k x found. cc
moments-of last id [] (r ∷ rs) are each = cc
moments-of last id (e ∷ es) rows are each =
    first (λ rs is. moments-of last (suc id) es rs is (λ k x found. each (suc k) x found)) (each 0 e refl) e.closed refl
    rows are
  where
    first : ((rows : List ClosingRow) → map closing_cells rows ≡ gathered_from rows_of_closing (suc id) es
        → Each (IsClosedBy last) rows) → ClosedBy last e → (closed : Option ℕ) → e.closed ≡ closed
        → (rows : List ClosingRow)
        → map closing_cells rows ≡ rows_of_closing id e ++ gathered_from rows_of_closing (suc id) es
        → Each (IsClosedBy last) rows
    first more by None is rows are = more rows (rw is at are)
    first more by (Some moment) is [] are = let cells = rw is at are in λ k x found. cc
    first more by (Some moment) is (r ∷ rs) are =
        let cells = rw is at are in
        let own : r.moment ≡ pos moment = cc in
        each-cons (IsClosedBy last) r rs (moment, own, rw is at by) (more rs (cc))

-- closings are not after a moment exactly if their rows are not
pub closed-by : (last : ℕ) (es : List Event) (rows : List ClosingRow) → AreClosingsOf es rows
    → Each (IsClosedBy last) rows → Each (ClosedBy last) es
closed-by last es rows own = moments-by last 1 es rows own.rows_are

pub rows-closed-by : (last : ℕ) (es : List Event) (rows : List ClosingRow) → AreClosingsOf es rows
    → Each (ClosedBy last) es → Each (IsClosedBy last) rows
rows-closed-by last es rows own = moments-of last 1 es rows own.rows_are

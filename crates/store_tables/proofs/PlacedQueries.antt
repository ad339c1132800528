-- What a SELECT of one table means, wherever the table stands in a schema.
use Rattle.std.proofs.Common.{◌≡◌, ℕ, ◌==◌, ◌&&◌, ◌||◌, not, is_some, Bool, true, false, List, [], ◌∷◌, Option, Some}
use Rattle.std.proofs.Common.{None, refl, ◌∙◌, map, length, Ok, Err, take, if◌then◌else◌, unwrap_or}
use Rattle.std.specs.List.{list_all}
use Rattle.sqlite_ast.specs.declared.Expr.TheViews.{out-roll-Core, out-roll-Source, out-roll-Select}
use Rattle.sqlite_ast.specs.declared.Core.{Core, out-Core, roll-Core}
use Rattle.sqlite_ast.specs.declared.Origin.TheVariants as origin
use Rattle.sqlite_ast.specs.declared.Select.{Select, out-Select, roll-Select}
use Rattle.sqlite_ast.specs.declared.Source.{Source, out-Source, roll-Source}
use Rattle.sqlite_ast.specs.declared.Statement.TheVariants as statement
use Rattle.sqlite_syntax.specs.declared.statement.Parsed.{Parsed}
use Rattle.sqlite_sql.specs.Term.{Term}
use Rattle.store_tables.specs.Sql.{Schema, Table}
use Rattle.sqlite_value.specs.declared.keys.Collation.{Collation}
use Rattle.sqlite_value.specs.declared.keys.Key.{Key}
use Rattle.sqlite_schema.specs.Names.{table_named, view_named}
use Rattle.sqlite_draft.specs.declared.join.Step.TheVariants.{Inner}
use Rattle.sqlite_draft.specs.declared.query.Draft.{Draft}
use Rattle.sqlite_resolve.specs.declared.body.Body.{Body}
use Rattle.sqlite_resolve.specs.declared.body.Joined.{Joined}
use Rattle.sqlite_resolve.specs.declared.error.CompileError.TheVariants.{Misuse, NoSuchTable}
use Rattle.sqlite_resolve.specs.declared.scope.Bound.{Bound}
use Rattle.sqlite_resolve.specs.declared.scope.Level.{Level}
use Rattle.sqlite_resolve.specs.declared.scope.Output.{Output}
use Rattle.sqlite_resolve.specs.declared.select.Clauses.{Clauses}
use Rattle.sqlite_resolve.specs.declared.state.State.{State}
use Rattle.sqlite_resolve.specs.Lowering.{Checked, Lowering, and_then, or_else, fresh, max_budget, take_slot, pure}
use Rattle.sqlite_resolve.specs.Lowering.{fail, lift, ◌>>=◌}
use Rattle.sqlite_resolve.specs.Scope.{Context, Name}
use Rattle.sqlite_resolve.specs.Body.{body, bound, bounds, inner_join, join, joins, left_join, matching, outputs}
use Rattle.sqlite_resolve.specs.Body.{outputs_from, result, shared, table_by, table_in, table_or, tests, view_or_none}
use Rattle.sqlite_resolve.specs.Expr.{lower}
use Rattle.sqlite_resolve.specs.Order.{keys, sorts, sorts_from}
use Rattle.sqlite_resolve.specs.Select.{assembled, having, inside, named, outermost, parts}
use Rattle.store_tables.specs.internal.Texts.{parameters}
use Rattle.store_tables.proofs.PlacedTerms.{StandsAt, bound_at, context_at, is_known, level_at, filter_written}
use Rattle.store_tables.proofs.PlacedTerms.{outputs_same, shown_written, sort_written, sorts_same, alone, tests_same}

-- ---- the parts of a text

-- SELECT of columns FROM a table WHERE columns have given values ORDER BY columns, each DESC if it `falls`
pub record Asked : Type 0 where
  pub table : Name
  pub shown : List Name
  pub tested : List Name
  pub sorted : List Name
  pub falls : Bool
  pub size : ℕ

abbrev pub asked_in : Bool → Table → (shown tested sorted : List Name) → (sql : List ℕ) → Asked
asked_in falls table shown tested sorted sql = record {
  table = table.name;
  shown = shown;
  tested = tested;
  sorted = sorted;
  falls = falls;
  size = length sql;
}

-- in this text of SQL, of which the table has the columns
abbrev pub asked_of : Table → (shown tested sorted : List Name) → (sql : List ℕ) → Asked
asked_of = asked_in false

abbrev pub source_in : Asked → Source
source_in a =
    roll-Source (record { is_left = false; origin = origin.Table a.table; alias = None; on = None; using = [] })

abbrev pub core_in : Asked → Core
core_in a = roll-Core (record {
  distinct = false;
  shown = map shown_written a.shown;
  from = source_in a ∷ [];
  filter = filter_written a.tested;
  group = [];
  having = None;
})

abbrev pub select_in : Asked → Select
select_in a = roll-Select (record {
  with = [];
  first = core_in a;
  others = [];
  order = map (sort_written a.falls) a.sorted;
  limit = None;
  offset = None;
})

abbrev pub parsed_in : Asked → Parsed
parsed_in a = record {
  statement = statement.Select (select_in a);
  names = take (length a.tested) parameters;
  formats = [];
  start = 0;
  end = a.size;
  tail = a.size;
}

pub source_out : (a : Asked)
    → out-Source (source_in a)
    ≡ record { is_left = false; origin = origin.Table a.table; alias = None; on = None; using = [] }
source_out a = out-roll-Source _

pub core_out : (a : Asked)
    → out-Core (core_in a)
    ≡ record {
      distinct = false;
      shown = map shown_written a.shown;
      from = source_in a ∷ [];
      filter = filter_written a.tested;
      group = [];
      having = None;
    }
core_out a = out-roll-Core _

pub select_out : (a : Asked)
    → out-Select (select_in a)
    ≡ record {
      with = [];
      first = core_in a;
      others = [];
      order = map (sort_written a.falls) a.sorted;
      limit = None;
      offset = None;
    }
select_out a = out-roll-Select _

and_then_after : {A B C : Type 0} (m : Checked A) (f : A → Checked B) (g : B → Checked C)
    → and_then (and_then m f) g ≡ and_then m (λ a. and_then (f a) g)
and_then_after (Ok a) f g = refl
and_then_after (Err e) f g = refl

-- ---- the parts of what a text means, in whatever schema

abbrev is_grouped : State → Bool
is_grouped s = not (true && length s.aggregates == 0)

abbrev clauses_of : Body → Bool → List (Term × Key) → Clauses
clauses_of whole grouped order =
    record { body = whole; is_grouped = grouped; keys = []; collations = []; having = []; order = order }

abbrev Named : Type 0
Named = Draft × List Name × List (Option Collation)

module _ (s : Schema) (a : Asked) where
  abbrev found_at : ℕ → Checked (Name × ℕ)
  found_at at = Ok (a.table, at)

  -- the table of FROM, where its name finds this view or this table
  abbrev bounds_by : Option ℕ → Option ℕ → Lowering (List Bound)
  bounds_by view at =
      lift (and_then (table_or (view_or_none view) at) found_at)
      >>= (λ f. pure (record { name = f.0; table = f.1; slot = 1; shared = [] })) >>= (λ b. pure (b ∷ []))

  bounds_so : bounds s (source_in a ∷ []) (fresh 1 max_budget)
      ≡ bounds_by (view_named s a.table) (table_named s a.table) (fresh 2 max_budget)
  unfolding bounds bound table_in take_slot
  bounds_so i =
      (lift (table_by s 1 (source_out a i).origin) >>= (λ f.
      pure (record {
        name = unwrap_or (source_out a i).alias f.0;
        table = f.1;
        slot = 1;
        shared = (source_out a i).using;
      })) >>= (λ b. pure (b ∷ []))) (fresh 2 max_budget)

  abbrev level_of_all : List Bound → List Output → Level
  level_of_all tables shown = record { tables = tables; shown = shown }

  abbrev body_from : Checked (List Bound × State) → Checked (Body × State)
  body_from found = and_then found (λ b.
      (result lower (outermost s) (level_of_all b.0 []) (core_in a) >>= (λ columns.
      matching lower (outermost s) (level_of_all b.0 columns) (core_in a) >>= (λ joined.
      pure (record { level = level_of_all b.0 columns; steps = joined.steps; filter = joined.filter })))) b.1)

  body_so : body lower (outermost s) (core_in a) (fresh 1 max_budget)
      ≡ body_from (bounds_by (view_named s a.table) (table_named s a.table) (fresh 2 max_budget))
  unfolding body
  body_so =
      (λ i.
      (bounds s (core_out a i).from >>= (λ tables.
      result lower (outermost s) (level_of_all tables []) (core_in a) >>= (λ columns.
      matching lower (outermost s) (level_of_all tables columns) (core_in a) >>= (λ joined.
      pure (record { level = level_of_all tables columns; steps = joined.steps; filter = joined.filter })))))
      (fresh 1 max_budget))
      ∙ (λ i. body_from (bounds_so i))

  abbrev clauses_after : Body × State → Checked (Clauses × State)
  clauses_after w =
      (sorts lower (inside s w.0.level (is_grouped w.1)) w.0.level.shown (map (sort_written a.falls) a.sorted)
      >>= (λ order. pure (clauses_of w.0 (is_grouped w.1) order))) w.1

  parts_so : parts s (core_in a) (map (sort_written a.falls) a.sorted) (fresh 1 max_budget)
      ≡ and_then (body lower (outermost s) (core_in a) (fresh 1 max_budget)) clauses_after
  unfolding parts keys having tests sorts
  parts_so i =
      and_then (body lower (outermost s) (core_in a) (fresh 1 max_budget)) (λ w.
      let grouped = not (length (core_out a i).group == 0 && length w.1.aggregates == 0) in
      (keys lower (inside s w.0.level false) w.0.level.shown (core_out a i).group >>= (λ by.
      having (inside s w.0.level grouped) (core_out a i).having >>= (λ kept.
      sorts lower (inside s w.0.level grouped) w.0.level.shown (map (sort_written a.falls) a.sorted) >>= (λ order.
      pure (record {
        body = w.0;
        is_grouped = grouped;
        keys = by.0;
        collations = by.1;
        having = kept;
        order = order;
      }))))) w.1)

  abbrev pub named_from : Term × Term → Checked (Clauses × State) → Checked Named
  named_from page found = and_then found (λ r. and_then (assembled false page.0 page.1 r.0 r.1)
      (λ d. Ok (d, map (λ o. o.name) r.0.body.level.shown, map (λ o. o.carried.collation) r.0.body.level.shown)))

  named_so : (page : Term × Term) → named s (core_in a) (map (sort_written a.falls) a.sorted) page
      ≡ named_from page (parts s (core_in a) (map (sort_written a.falls) a.sorted) (fresh 1 max_budget))
  unfolding named
  named_so page i =
      and_then (parts s (core_in a) (map (sort_written a.falls) a.sorted) (fresh 1 max_budget)) (λ r.
      and_then (assembled (core_out a i).distinct page.0 page.1 r.0 r.1)
      (λ d. Ok (d, map (λ o. o.name) r.0.body.level.shown, map (λ o. o.carried.collation) r.0.body.level.shown)))

  -- Where no table or view has the name, the text means nothing.
  pub named_none : table_named s a.table ≡ None → view_named s a.table ≡ None → (page : Term × Term)
      → named s (core_in a) (map (sort_written a.falls) a.sorted) page ≡ Err NoSuchTable
  named_none no_table no_view page =
      named_so page
      ∙ (λ i. named_from page (parts_so i))
      ∙ (λ i. named_from page (and_then (body_so i) clauses_after))
      ∙ (λ i. named_from page
      (and_then (body_from (bounds_by (no_view i) (no_table i) (fresh 2 max_budget))) clauses_after))

-- ---- what the text means

module _ (table : Table) (a : Asked) where
  abbrev columns_by : Checked (List Output × State)
  columns_by =
      outputs_from lower (context_at (alone table) a.table 0 [] true) (bound_at a.table 0 ∷ []) []
      (map shown_written a.shown) (fresh 2 max_budget)

  abbrev filter_by : List Output → State → Checked (List Term × State)
  filter_by shown =
      tests lower (context_at (alone table) a.table 0 shown false) [] (filter_written a.tested)

  abbrev body_of : ℕ → ℕ → List Output → List Term → Body
  body_of place tree shown filter =
      record { level = level_at a.table place shown; steps = Inner tree ∷ []; filter = filter }

  abbrev body_by : ℕ → ℕ → Checked (Body × State)
  body_by place tree =
      and_then columns_by (λ c. and_then (filter_by c.0 c.1) (λ x. Ok (body_of place tree c.0 x.0, x.1)))

  abbrev clauses_by : ℕ → ℕ → List Output → List Term → State → Checked (Clauses × State)
  clauses_by place tree shown filter s =
      and_then (sorts_from lower (context_at (alone table) a.table 0 shown (is_grouped s)) shown []
      (map (sort_written a.falls) a.sorted) s)
      (λ o. Ok (clauses_of (body_of place tree shown filter) (is_grouped s) o.0, o.1))

  abbrev pub named_by : ℕ → ℕ → Term × Term → Checked Named
  named_by place tree page =
      named_from (alone table) a page
      (and_then columns_by (λ c. and_then (filter_by c.0 c.1) (λ x. clauses_by place tree c.0 x.0 x.1)))

  -- the columns that the text names are those of the table
  pub record AreKnown : Type 0 where
    pub shown : list_all (is_known table) a.shown ≡ true
    pub tested : list_all (is_known table) a.tested ≡ true
    pub sorted : list_all (is_known table) a.sorted ≡ true

  module _ (known : AreKnown) (s : Schema) (place : ℕ) (is : StandsAt s place table)
      (found : table_named s a.table ≡ Some place) where
    result_is : result lower (outermost s) (level_at a.table place []) (core_in a) (fresh 2 max_budget) ≡ columns_by
    unfolding result outputs
    result_is =
        (λ i.
        outputs_from lower (context_at s a.table place [] true) (bound_at a.table place ∷ []) [] (core_out a i).shown
        (fresh 2 max_budget))
        ∙ outputs_same s place table is a.table [] true a.shown known.shown [] (fresh 2 max_budget)

    module _ (shown : List Output) where
      abbrev here : Context
      here = context_at s a.table place shown false

      abbrev no_steps : Joined
      no_steps = record { steps = []; filter = [] }

      joined_is : (st : State)
          → joins lower here (bound_at a.table place ∷ []) (source_in a ∷ []) st
          ≡ Ok (record { steps = Inner table.tree ∷ []; filter = [] }, st)
      unfolding joins join shared inner_join tests
      joined_is st i =
          (if is_some (source_out a i).on || not (length (source_out a i).using == 0) then fail Misuse else
          (lift (or_else (is.at i) NoSuchTable) >>= (λ t.
          if (source_out a i).is_left then left_join lower here no_steps t.tree 1 [] (source_out a i).on
          else inner_join lower here no_steps t.tree [] (source_out a i).on)
          >>= (λ longer. pure longer))) st

      abbrev with_filter : Joined → Lowering Joined
      with_filter j =
          tests lower here j.filter (filter_written a.tested)
          >>= (λ filter. pure (record { steps = j.steps; filter = filter }))

      matching_is : (st : State)
          → matching lower (outermost s) (level_at a.table place shown) (core_in a) st
          ≡ (filter_by shown >>= (λ filter. pure (record { steps = Inner table.tree ∷ []; filter = filter }))) st
      unfolding matching
      matching_is st =
          (λ i.
          (joins lower here (bound_at a.table place ∷ []) (core_out a i).from >>= (λ j.
          tests lower here j.filter (core_out a i).filter
          >>= (λ filter. pure (record { steps = j.steps; filter = filter })))) st)
          ∙ (λ i. and_then (joined_is st i) (λ j. with_filter j.0 j.1))
          ∙ (λ i.
          and_then (tests_same s place table is a.table shown false a.tested known.tested [] st i)
          (λ f. pure (record { steps = Inner table.tree ∷ []; filter = f.0 }) f.1))

    body_is : body lower (outermost s) (core_in a) (fresh 1 max_budget) ≡ body_by place table.tree
    body_is =
        body_so s a
        ∙ (λ i. body_from s a (bounds_by s a (view_named s a.table) (found i) (fresh 2 max_budget)))
        ∙ (λ i. and_then (result_is i) (λ c.
        and_then (matching_is c.0 c.1 i) (λ joined.
        pure (record { level = level_at a.table place c.0; steps = joined.0.steps; filter = joined.0.filter })
        joined.1)))
        ∙ (λ i. and_then columns_by (λ c. and_then_after (filter_by c.0 c.1) joined_after (body_after c.0) i))
      where
        joined_after : List Term × State → Checked (Joined × State)
        joined_after f = Ok (record { steps = Inner table.tree ∷ []; filter = f.0 }, f.1)

        body_after : List Output → Joined × State → Checked (Body × State)
        body_after shown j =
            Ok (record { level = level_at a.table place shown; steps = j.0.steps; filter = j.0.filter }, j.1)

    -- what follows the body

    abbrev body_after : List Output → List Term × State → Checked (Body × State)
    body_after shown x = Ok (body_of place table.tree shown x.0, x.1)

    pub named_is : (page : Term × Term)
        → named s (core_in a) (map (sort_written a.falls) a.sorted) page ≡ named_by place table.tree page
    unfolding sorts
    named_is page =
        named_so s a page ∙ (λ i. named_from s a page (parts_so s a i))
        ∙ (λ i. named_from s a page (and_then (body_is i) (clauses_after s a)))
        ∙ (λ i. named_from s a page
        (and_then_after columns_by (λ c. and_then (filter_by c.0 c.1) (body_after c.0)) (clauses_after s a) i))
        ∙ (λ i. named_from s a page
        (and_then columns_by (λ c. and_then_after (filter_by c.0 c.1) (body_after c.0) (clauses_after s a) i)))
        ∙ (λ i. named_from s a page (and_then columns_by (λ c. and_then (filter_by c.0 c.1) (λ x.
        and_then (sorts_same s place table is a.table c.0 (is_grouped x.1) a.falls a.sorted known.sorted c.0 []
        x.1 i)
        (λ o. pure (clauses_of (body_of place table.tree c.0 x.0) (is_grouped x.1) o.0) o.1)))))

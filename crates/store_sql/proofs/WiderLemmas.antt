-- Whether a table stands, by an answer to a SELECT from it.
use Rattle.std.proofs.Common.{◌≡◌, ℕ, ◌||◌, false, true≢false, List, Option, None, refl, sym, ap, ◌∙◌, inl, inr}
use Rattle.std.proofs.Common.{subst}
use Rattle.std.specs.Prelude.{is_ok, is_some}
use Rattle.sqlite.specs.Clock.{timed}
use Rattle.store_tables.specs.Sql.{Row, understood, State, Shown, IsUnchanged}
use Rattle.sqlite.specs.State.{FailsToQuery, FailsToShow, IsNotRun}
use Rattle.sqlite.specs.declared.error.Error.{Error}
use Rattle.sqlite_catalog.specs.Change.{is_used}
use Rattle.sqlite_schema.specs.Names.{table_named}
use Rattle.store_tables.specs.Names.{table_name}
use Rattle.store_tables.specs.internal.Queries.{IsSelect}
use Rattle.store_tables.specs.internal.Reading.{IsNoInput}
use Rattle.store_tables.specs.Tables.{made_as, standing}
use Rattle.store_tables.specs.internal.Tables.{club_schema}
use Rattle.store_tables.specs.internal.Texts.{by_first_text}
use Rattle.store_tables.specs.declared.names.Table as of_club
use Rattle.store_tables.proofs.Proved.{placed_shown, select_plain, table_missing}
use Rattle.store_sql.proofs.RefusedLemmas.{store_known}
use Rattle.store_sql.proofs.SelectLemmas.{moved_to, standing_alone}

-- the text is the same wherever the table stands
pub text_here : (table : of_club.Table) (tree : ℕ)
    → by_first_text (standing table) ≡ by_first_text (made_as table tree)
text_here table tree = ap by_first_text (moved_to table refl tree)

-- the text is a SELECT, whatever the schema
pub table_select : (table : of_club.Table) → IsSelect (by_first_text (standing table))
table_select table =
    let alone = standing_alone table in
    subst IsSelect (sym (text_here table alone.tree)) (placed_shown club_schema table alone).group_is

module _ (table : of_club.Table) (sql : List ℕ) (params : Row) (old new : State)
    (text : sql ≡ by_first_text (standing table)) (unused : is_used old.now.schema (table_name table) ≡ false) where
  none_used : (a b c : Option ℕ) → (is_some a || is_some b || is_some c) ≡ false → (a ≡ None) × (c ≡ None)
  none_used None None None is = (refl, refl)
  none_used _ _ _ is = absurd (true≢false is)

  -- where no table has its name, the text shows nothing
  pub never_shown : (rows : List Row) → ¬ Shown sql params old new rows
  unfolding Shown
  never_shown rows h =
      let free = none_used (table_named old.now.schema (table_name table)) _ _ unused in
      let none : is_ok (understood old.now.schema sql) ≡ false =
      ap (λ t. is_ok (understood old.now.schema t)) text ∙ table_missing table old.now.schema free.0 free.1 in
      true≢false (sym (ap is_ok h.1.is) ∙ none)

-- where a SELECT is refused, whatever the schema, the connection is as it was
pub refused_unchanged : (sql : List ℕ) (params : Row) (old new : State) → IsSelect sql → (e : Error)
    → FailsToQuery sql params old new e → ¬ IsNoInput e → IsUnchanged old new
unfolding FailsToQuery IsNotRun
refused_unchanged sql params old new select e (inl (inl h)) refused = h.1
refused_unchanged sql params old new select e (inl (inr h)) refused =
    absurd (refused (λ why is. store_known h.0 why (sym h.1 ∙ is)))
refused_unchanged sql params old new select e (inr h) refused =
    let it = subst (FailsToShow old new sql h.0 (timed params h.0.formats h.1.now) e)
    (select_plain old.now.schema sql h.0 select h.1.is) h.2 in
    it.3

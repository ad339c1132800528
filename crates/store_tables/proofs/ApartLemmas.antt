-- With no filter a SELECT shows a row for each row of the tree, and what holds of each two rows holds of each two that
-- are shown.
use Rattle.std.proofs.Common.{◌≡◌, ℕ, List, [], ◌∷◌, map, sym, ap, subst₂, ◌∙◌, IsPermutation}
use Rattle.std.proofs.lemmas.List.Sorted.{IsPermutation-refl, IsPermutation-trans, IsPermutation-cons}
use Rattle.std.proofs.lemmas.List.Sorted.{IsPermutation-middle, IsPermutation-map}
use Rattle.sqlite_value.specs.declared.value.Value.TheVariants.{Null}
use Rattle.sqlite_value.specs.declared.keys.Key.{Key}
use Rattle.store_tables.specs.Sql.{Row, Trees, Database}
use Rattle.sqlite.specs.Effect.{Reads}
use Rattle.sqlite.specs.Command.TheVariants.{Select}
use Rattle.sqlite_trees.specs.Tree.{IsAscending}
use Rattle.sqlite_trees.proofs.ListLemmas.{along_permutation, all-permutation, map-map}
use Rattle.sqlite_sql.specs.Term.{Term, eval_all}
use Rattle.sqlite_sql.specs.Query.{IsAnswer, Output, output}
use Rattle.sqlite_sql.specs.Program.{overlay}
use Rattle.store_tables.specs.internal.Put.{selects}
use Rattle.store_tables.proofs.ReadLemmas.{same_shown}
use Rattle.std.proofs.lemmas.List.Concat.{flat_map_single}

module _ {X : Type 0} (P : X → X → Type 0) (back : (a b : X) → P a b → P b a) where
  abbrev Passes : List X → List X → Type 0
  Passes xs ys = IsPermutation xs ys × (IsAscending P xs → IsAscending P ys)

  -- what holds of each two is the same in any order
  pub pairs_turned : (xs ys : List X) → IsPermutation xs ys → IsAscending P xs → IsAscending P ys
  pairs_turned xs ys h = (along_permutation Passes (λ xs. (IsPermutation-refl xs, λ t. t))
      (λ x xs ys it. (IsPermutation-cons x xs ys it.0, λ t. (all-permutation (P x) xs ys it.0 t.0, it.1 t.1)))
      (λ x y xs. (IsPermutation-middle (x ∷ []) y xs, λ t. ((back x y t.0.0, t.1.0), (t.0.1, t.1.1))))
      (λ xs ys zs one two. (IsPermutation-trans xs ys zs one.0 two.0, λ t. two.1 (one.1 t)))
      xs ys h).1

-- with no filter, a row is shown for each row of the tree
pub each_shown : (db : Database) (params : Row) (tree : ℕ) (project : List Term) (order : List (Term × Key))
    (names : List (List ℕ)) (rows : List Row) → ((d : Trees) → overlay d [] tree ≡ d tree)
    → Reads (Select (record { lets = []; body = selects tree [] project order }) names) db params rows
    → IsPermutation (map (λ r. eval_all project (params ∷ r ∷ [])) (db.trees tree)) rows
each_shown db params tree project order names rows plain h =
    let q = selects tree [] project order in
    let a : IsAnswer q (overlay db.trees []) params rows = h.answer Null in
    let env = λ (r : Row). params ∷ r ∷ [] in
    let shown = IsPermutation-map (λ (o : Output). o.1) _ a.ordered
    (same_shown db params tree [] project order plain rows a) in
    subst₂ IsPermutation (ap (λ l. map (λ (o : Output). o.1) (map (output q) l)) (flat_map_single env (db.trees tree))
    ∙ map-map (λ (o : Output). o.1) (output q) (map env (db.trees tree))
    ∙ map-map (λ e. (output q e).1) env (db.trees tree)) (sym a.shown) shown

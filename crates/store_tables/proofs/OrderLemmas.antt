-- In which order a SELECT with ORDER BY shows its rows.
use Rattle.std.proofs.Common.{◌≡◌, ℕ, ◌+◌, ◌<◌, List, [], ◌∷◌, length, map, sym, ap, subst, subst₂, ◌∙◌, arith, get_or}
use Rattle.std.proofs.Common.{Ordering, is_lt, IsSorted}
use Rattle.std.proofs.lemmas.List.{get_or-map, length-map}
use Rattle.sqlite_rules.proofs.ListLemmas.{all_from}
use Rattle.sqlite_trees.proofs.ListLemmas.{all-get_or}
use Rattle.sqlite_value.specs.declared.value.Value.TheVariants.{Null}
use Rattle.sqlite_value.specs.declared.keys.Key.{Key}
use Rattle.store_tables.specs.Sql.{Row, Trees, Database, Has}
use Rattle.sqlite.specs.Effect.{Reads}
use Rattle.sqlite.specs.Command.TheVariants.{Select}
use Rattle.sqlite_sql.specs.Term.{Term, eval_all}
use Rattle.sqlite_sql.specs.Query.{IsAnswer, Output, output, output_cmp}
use Rattle.sqlite_sql.specs.Program.{overlay}
use Rattle.store_tables.specs.internal.Put.{selects}
use Rattle.store_tables.proofs.ReadLemmas.{env_of}

pub got : {A B : Type 0} (f : A → B) (xs : List A) (j : ℕ) (d : B) (e : A) → j < length xs
    → get_or (map f xs) j d ≡ f (get_or xs j e)
got f xs j d e = get_or-map f xs j e d

pub same_length : {A B : Type 0} (f : A → B) (xs : List A) → length (map f xs) ≡ length xs
same_length f xs = length-map xs f

pub has_index : {A : Type 0} (xs : List A) (j : ℕ) (e : A) → j < length xs → Has xs (get_or xs j e)
has_index xs j e h = all-get_or (Has xs) xs j e (all_from (Has xs) xs (λ x has. has)) h

sorted_map : {A B : Type 0} (f : A → B) (R : A → A → Ordering) (S : B → B → Ordering) (xs : List A)
    → ((x y : A) → Has xs x → Has xs y → R x y ≡ S (f x) (f y)) → IsSorted R xs → IsSorted S (map f xs)
sorted_map f R S [] same sorted k d low high = absurd (omega arith)
sorted_map f R S (x ∷ xs) same sorted k d low high =
    let all = x ∷ xs in
    let len = same_length f all in
    let later : k + 1 < length all = omega (arith, len) in
    let here : k < length all = omega arith in
    let one = got f all (k + 1) d x later in
    let two = got f all k d x here in
    ap is_lt (ap (λ v. S v (get_or (map f all) k d)) one ∙ ap (S (f (get_or all (k + 1) x))) two
    ∙ sym (same (get_or all (k + 1) x) (get_or all k x) (has_index all (k + 1) x later) (has_index all k x here)))
    ∙ sorted k x low later

-- The rows rise by the terms of ORDER BY, as far as these can be told from what is shown.
pub sorted_rows : (db : Database) (params : Row) (tree : ℕ) (filter project : List Term) (order : List (Term × Key))
    (names : List (List ℕ)) (rows : List Row) (cmp : Row → Row → Ordering) → ((d : Trees) → overlay d [] tree ≡ d tree)
    →
    ((r s : Row) → output_cmp (selects tree filter project order)
    (output (selects tree filter project order) (params ∷ r ∷ []))
    (output (selects tree filter project order) (params ∷ s ∷ []))
    ≡ cmp (eval_all project (params ∷ r ∷ [])) (eval_all project (params ∷ s ∷ [])))
    → Reads (Select (record { lets = []; body = selects tree filter project order }) names) db params rows
    → IsSorted cmp rows
sorted_rows db params tree filter project order names rows cmp plain keys h =
    let q = selects tree filter project order in
    let a : IsAnswer q (overlay db.trees []) params rows = h.answer Null in
    let from = env_of db params tree filter project order plain rows a in
    subst (IsSorted cmp) (sym a.shown) (sorted_map (λ (o : Output). o.1) (output_cmp q) cmp a.ordered (λ o p there also.
    let r = from o there in
    let s = from p also in
    subst₂ (λ x y. output_cmp q x y ≡ cmp x.1 y.1) (sym r.3) (sym s.3) (keys r.0 s.0)) a.sorted)

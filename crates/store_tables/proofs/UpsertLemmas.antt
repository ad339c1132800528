-- An upsert of one row by its key, over any table.
use Rattle.std.proofs.Common.{◌≡◌, ◌≢◌, ◌⊎◌, Bool, false, List, [], ◌∷◌, ◌++◌, filter, flat_map, Ok, Err, Result}
use Rattle.std.proofs.Common.{Ordering, Less, Equal, Greater, refl, sym, ap, ◌∙◌, inl, inr, append-nil, true≢false}
use Rattle.std.proofs.Common.{IsTrue, is_eq}
use Rattle.std.specs.List.{AllByRecursion}
use Rattle.std.specs.Ordering.{match_ordering}
use Rattle.std.proofs.lemmas.Bool.{or_parts}
use Rattle.std.proofs.lemmas.Cmp.{tied_back}
use Rattle.sqlite_value.specs.Order.{value_cmp}
use Rattle.store_tables.specs.Sql.{Row, rowid, Has}
use Rattle.sqlite_value.proofs.OrderLemmas.{value_cmp_total}
use Rattle.sqlite_rules.proofs.ListLemmas.{all_has}
use Rattle.store_tables.specs.Content.{AreApart}
use Rattle.sqlite_trees.specs.Tree.{put_row, IsAscending}
use Rattle.sqlite_trees.specs.View.{is_int}
use Rattle.sqlite_trees.proofs.TreeLemmas.{all-put_row}
use Rattle.sqlite_trees.proofs.ListLemmas.{ascending-filter, all-filter}
use Rattle.sqlite_rules.specs.Edit.{is_taken}

-- a part that gave a value did not stop on the way
pub went : {B E R : Type 0} {b : B} {Stops : E → Type 0} → ((stop : E) × Stops stop × (Ok b ≡ Err stop)) ⊎ R → R
went (inl stopped) = absurd (let e = stopped.2 in cc)
went (inr on) = on

pub same_value : {B E : Type 0} {a b : B} → ◌≡◌ {A = Result B E} (Ok a) (Ok b) → a ≡ b
same_value e = cc

-- ---- rowids are apart

pub same_rowid : (rows : List Row) (a b : Row) → AreApart rows → Has rows a → Has rows b
    → value_cmp (rowid a) (rowid b) ≡ Equal → a ≡ b
same_rowid rows a b t = go rows t.apart
  where
    go : (rows : List Row) → IsAscending (λ a b. value_cmp (rowid a) (rowid b) ≢ Equal) rows → Has rows a → Has rows b
        → value_cmp (rowid a) (rowid b) ≡ Equal → a ≡ b
    go [] t h k e = absurd h
    go (x ∷ rows) t (inl p) (inl q) e = p ∙ sym q
    go (x ∷ rows) t (inl p) (inr k) e = absurd (all_has _ rows b t.0 k (rw (← p) e))
    go (x ∷ rows) t (inr h) (inl q) e = absurd
        (all_has _ rows a t.0 h (tied_back value_cmp_total (rowid a) (rowid x) (rw (← q) e)))
    go (x ∷ rows) t (inr h) (inr k) e = go rows t.1 h k e

no_other : {A : Type 0} (f : Row → List A) (rows : List Row) → ((r : Row) → Has rows r → f r ≡ [])
    → flat_map f rows ≡ []
no_other f [] none = refl
no_other f (r ∷ rows) none = rw (none r (inl refl)) (no_other f rows (λ s h. none s (inr h)))

-- of a list with one element that counts
pub only_one : {A : Type 0} (f : Row → List A) (rows : List Row) (x : Row)
    → IsAscending (λ a b. value_cmp (rowid a) (rowid b) ≢ Equal) rows → Has rows x
    → ((r : Row) → Has rows r → value_cmp (rowid r) (rowid x) ≢ Equal → f r ≡ []) → flat_map f rows ≡ f x
only_one f [] x t h none = absurd h
only_one f (r ∷ rows) x t (inl p) none =
    rw p
    (ap (λ l. f r ++ l)
    (no_other f rows
    (λ s there.
    none s (inr there)
    (λ e. all_has _ rows s t.0 there (tied_back value_cmp_total (rowid s) (rowid r) (rw p at e)))))
    ∙ append-nil (f r))
only_one f (r ∷ rows) x t (inr h) none =
    rw (none r (inl refl) (all_has _ rows x t.0 h)) (only_one f rows x t.1 h (λ s there. none s (inr there)))

pub apart-filter : (p : Row → Bool) (rows : List Row) → AreApart rows → AreApart (filter p rows)
apart-filter p rows t =
    record {
      apart = ascending-filter (λ a b. value_cmp (rowid a) (rowid b) ≢ Equal) p rows t.apart;
      ints =
          all-filter (λ r. IsTrue (is_int (rowid r))) p rows t.ints;
    }

abbrev Put : Ordering → Row → Row → List Row → List Row
Put o new r rows = match_ordering o (r ∷ put_row new rows) (new ∷ rows) (new ∷ r ∷ rows)

free_of : (new : Row) (rows : List Row) → is_taken rows new ≡ false
    → AllByRecursion (λ x. value_cmp (rowid new) (rowid x) ≢ Equal) rows
free_of new [] free = tt
free_of new (r ∷ rows) free = let parts = or_parts _ _ free in (
  (λ e. true≢false (sym (ap is_eq (tied_back value_cmp_total (rowid new) (rowid r) e)) ∙ parts.0)),
  free_of new rows parts.1,
)

put_apart : (new : Row) (rows : List Row) → is_taken rows new ≡ false
    → IsAscending (λ a b. value_cmp (rowid a) (rowid b) ≢ Equal) rows
    → IsAscending (λ a b. value_cmp (rowid a) (rowid b) ≢ Equal) (put_row new rows)
put_apart new [] free t = (tt, tt)
put_apart new (r ∷ rows) free t = go (value_cmp (rowid r) (rowid new)) refl
    (put_apart new rows (or_parts _ _ free).1 t.1)
  where
    go : (o : Ordering) → value_cmp (rowid r) (rowid new) ≡ o
        → IsAscending (λ a b. value_cmp (rowid a) (rowid b) ≢ Equal) (put_row new rows)
        → IsAscending (λ a b. value_cmp (rowid a) (rowid b) ≢ Equal) (Put o new r rows)
    go Less e more = (
      all-put_row (λ x. value_cmp (rowid r) (rowid x) ≢ Equal) new rows
          (λ same. absurd (let no = sym e ∙ same in cc)) t.0,
      more,
    )
    go Equal e more = absurd (true≢false (sym (ap is_eq e) ∙ (or_parts _ _ free).0))
    go Greater e more = (free_of new (r ∷ rows) free, t)

pub apart-put_row : (new : Row) (rows : List Row) → is_taken rows new ≡ false → IsTrue (is_int (rowid new))
    → AreApart rows → AreApart (put_row new rows)
apart-put_row new rows free int t =
    record {
      apart = put_apart new rows free t.apart;
      ints =
          all-put_row (λ r. IsTrue (is_int (rowid r))) new rows int t.ints;
    }

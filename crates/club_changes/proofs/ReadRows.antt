-- What rows of the tables of a club tell.
use Rattle.std.proofs.Common.{◌≡◌, ℕ, zero, suc, ◌+◌, ◌-◌, ◌<◌, ◌≤◌, List, [], ◌∷◌, ◌++◌, length, map, take, get_or}
use Rattle.std.proofs.Common.{pos, ℤ, Option, Some, None, refl, ap, sym, ◌∙◌, arith, inl}
use Rattle.std.specs.Prelude.{slice_get, string_bytes}
use Rattle.std.proofs.Math.Seq.{take-length}
use Rattle.std.proofs.lemmas.List.{length-map, map-append}
use Rattle.sqlite.specs.Order.{Row}
use Rattle.sqlite.specs.declared.types.Value.TheVariants.{Int}
use Rattle.sqlite_rules.specs.Lists.{Has}
use Rattle.sqlite_rules.proofs.ListLemmas.{has_got}
use Rattle.std.proofs.lemmas.Option.{same_Some}
use Rattle.club_core.specs.declared.members.Member as given_member
use Rattle.club_core.specs.internal.Answer.{member_of}
use Rattle.club_core.specs.Members.{Member}
use Rattle.club_core.specs.State.{place}
use Rattle.club_laws.proofs.Proved.{map-at}
use Rattle.club_rows.specs.Tables.{numbered_from, member_row}
use Rattle.store_tables.specs.internal.Cells.{member_cells, score_cells}
use Rattle.store_tables.specs.internal.Contents.{AreThose}
use Rattle.store_tables.specs.declared.rows.ScoreRow.{ScoreRow}
use Rattle.club_rows.specs.internal.NextScores.{IsFound, pair_of, pair_cells}
use Rattle.club_rows.proofs.Proved.{found_none, found_some}
use Rattle.store_tables.specs.declared.rows.MemberRow.{MemberRow}
use Rattle.club_changes.proofs.PutSame.{numbered_at, numbered_length, at_get, take_next}

-- ---- rows that are read one after another

module _ {A B R : Type 0} (of : B → A) (cells : R → Row) (row : ℕ → A → Row) (rows : List R) (all : List A)
    (same : map cells rows ≡ numbered_from row 1 all) where
  -- one row more was read, by what stands at its place
  pub one_more_of : (k : ℕ) (r : R) (done news : List B) (b : B) → map of done ≡ take k all → k < length rows
      → r ≡ get_or rows k r → news ≡ done ++ b ∷ []
      → ((x : A) → slice_get all k ≡ Some x → cells r ≡ row (1 + k) x → of b ≡ x)
      → map of news ≡ take (k + 1) all
  one_more_of k r done news b so_far within is more reads =
      let (x, at, stands) = numbered_at row cells 1 rows all same k r (at_get rows k r within is) in
      rw (more, map-append, take_next all k x at) (λ j. so_far j ++ reads x at stands j ∷ [])

  -- one row more was read
  pub one_more_read : (k : ℕ) (r : R) (done news : List B) (b : B) → map of done ≡ take k all → k < length rows
      → r ≡ get_or rows k r → news ≡ done ++ b ∷ [] → ((id : ℕ) (x : A) → cells r ≡ row id x → of b ≡ x)
      → map of news ≡ take (k + 1) all
  one_more_read k r done news b so_far within is more reads =
      one_more_of k r done news b so_far within is more (λ x at stands. reads (1 + k) x stands)

  -- all were read
  pub all_read : (k : ℕ) (done : List B) → map of done ≡ take k all → length rows ≤ k → k ≤ length rows
      → map of done ≡ all
  all_read k done so_far least most =
      let rows_count : length (map cells rows) ≡ length rows = simp length-map in
      let count : length (map cells rows) ≡ length all = ap length same ∙ numbered_length row 1 all in
      let k_is : k ≡ length all = omega (arith, count, rows_count, least, most) in
      so_far ∙ (ap (λ n. take n all) k_is ∙ take-length all)

-- the row at a place is that of the element there
pub row_at_place : {A R : Type 0} (cells : R → Row) (row : ℕ → A → Row) (rows : List R) (all : List A)
    → map cells rows ≡ numbered_from row 1 all → (k : ℕ) (r : R) → k < length rows → r ≡ get_or rows k r → (x : A)
    → slice_get all k ≡ Some x → cells r ≡ row (1 + k) x
row_at_place cells row rows all same k r within is x at =
    let (y, there, stands) = numbered_at row cells 1 rows all same k r (at_get rows k r within is) in
    let y_is : y ≡ x = cc in
    stands ∙ ap (row (1 + k)) y_is

pub member_read : (r : MemberRow) (m : given_member.Member) → string_bytes m.name ≡ string_bytes r.name
    → string_bytes m.key ≡ string_bytes r.key → (id : ℕ) (x : Member) → member_cells r ≡ member_row id x
    → map (λ k. string_bytes k) m.later.items ≡ x.later → member_of m ≡ x
member_read r m name key id x same later =
    let name_is : string_bytes r.name ≡ x.name = cc in
    let key_is : string_bytes r.key ≡ x.key = cc in
    let n = name ∙ name_is in
    let k = key ∙ key_is in
    λ i. record { name = n i; key = k i; later = later i }

-- ---- what stands at a place

pub placed : {A B : Type 0} (f : A → B) (xs : List A) (id : ℕ) (x : A) → (id ≡ 0 → ⊥) → id - 1 < length xs
    → x ≡ get_or xs (id - 1) x → place (map f xs) id ≡ Some (f x)
placed f xs zero x some within is = absurd (some refl)
placed f xs (suc k) x some within is =
    let k_is : suc k - 1 ≡ k = omega arith in
    map-at f xs k x (at_get xs k x (omega (arith, within)) (is ∙ ap (λ j. get_or xs j x) k_is))

-- the one row that was pushed
pub one_pushed : {R : Type 0} (cells : R → Row) (old new : List R) (r : R) (row : Row) → map cells old ≡ []
    → new ≡ old ++ r ∷ [] → cells r ≡ row → map cells new ≡ row ∷ []
one_pushed cells [] new r row none more is = ap (map cells) more ∙ ap (λ (w : Row). w ∷ []) is
one_pushed cells (q ∷ old) new r row none more is = cc

-- ---- the first of the rows that were found

pub first_mapped : {R : Type 0} (cells : R → Row) (rows : List R) (r : R) → slice_get rows 0 ≡ Some r
    → Has (map cells rows) (cells r)
first_mapped cells rows r at = has_got (map cells rows) 0 (cells r) (map-at cells rows 0 r at)

pub none_mapped : {R : Type 0} (cells : R → Row) (rows : List R) → slice_get rows 0 ≡ None → map cells rows ≡ []
none_mapped cells [] at = refl
none_mapped cells (q ∷ rows) at = cc

-- the first of rows that are known
pub first_is : {R : Type 0} (cells : R → Row) (rows : List R) (r : R) (z : Row) (zs : List Row)
    → slice_get rows 0 ≡ Some r → map cells rows ≡ z ∷ zs → cells r ≡ z
first_is cells rows r z zs at same = sym (same_Some z (cells r) (rw same at (map-at cells rows 0 r at)))

-- ---- the row of a pair

-- the first of the rows found is the row of the pair
pub score_first : (table : List Row) (event member opponent : ℕ) (e m o : ℤ) (found : List ScoreRow)
    (row : Option ScoreRow) → e ≡ pos event → m ≡ pos member → o ≡ pos opponent
    → AreThose (0 ∷ 1 ∷ 2 ∷ []) (Int e ∷ Int m ∷ Int o ∷ []) table (map score_cells found) → row ≡ slice_get found 0
    → IsFound table (pair_of event member opponent) row
score_first table event member opponent e m o found row e_is m_is o_is those row_is =
    rw row_is (first_of found (rw (e_is, m_is, o_is) at those))
  where
    first_of : (found : List ScoreRow) → AreThose (0 ∷ 1 ∷ 2 ∷ []) (pair_cells (pair_of event member opponent)) table
        (map score_cells found) → IsFound table (pair_of event member opponent) (slice_get found 0)
    first_of [] those = found_none table (pair_of event member opponent) those
    first_of (r ∷ rs) those = found_some table (pair_of event member opponent) r (map score_cells (r ∷ rs)) those
        (inl refl)

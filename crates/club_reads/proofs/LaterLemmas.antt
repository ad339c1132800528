-- The later keys of a member are those that the club's state has.
use Rattle.std.proofs.Common.{◌≡◌, ℕ, zero, suc, ◌+◌, ℤ, pos, List, [], ◌∷◌, map, Some, refl}
use Rattle.std.proofs.Common.{ap}
use Rattle.std.proofs.Common.{sym, subst, ◌∙◌, arith, inl, inr, Bool, true, false, drop, ◌++◌, append_assoc}
use Rattle.std.specs.Prelude.{◌<◌, ◌≤◌, if◌then◌else◌, get_or, length, slice_get, string_bytes}
use Rattle.std.proofs.lemmas.List.{append-nil, drop_all, drop_more}
use Rattle.sqlite.specs.Order.{Row, column}
use Rattle.sqlite_rules.specs.Lists.{Has}
use Rattle.store_tables.specs.Changes.{HaveSame}
use Rattle.store_tables.specs.internal.Contents.{AreThose}
use Rattle.store_tables.specs.internal.Cells.{key_cells, member_cells}
use Rattle.store_tables.specs.declared.names.Version.TheVariants.{V1, V2, V3}
use Rattle.store_tables.specs.declared.rows.KeyRow.{KeyRow}
use Rattle.store_tables.specs.declared.rows.MemberRow.{MemberRow}
use Rattle.club_core.specs.Members.{Member}
use Rattle.club_rows.specs.Club.{ClubState, IsClub}
use Rattle.club_rows.specs.Tables.{gathered_from, key_row, member_row, number, numbered_from, rows_of_keys, version_of}
use Rattle.club_changes.proofs.Proved.{AreAtPlaces, gathered_had, gathered_has, numbered_had, one_line}
use Rattle.club_changes.proofs.Proved.{pos_same}
use Rattle.club_reads.specs.internal.Later.{AreLater}

-- the row of a later key, where it stands among all
row_there : (member : ℕ) (rows : List KeyRow) (n : ℕ) (keys : List (List ℕ)) → AreLater (pos member) rows n keys
    → (z : Row) → Has (numbered_from (key_row member) (suc n) keys) z → Has (map key_cells rows) z
row_there member [] n keys are z has = subst (λ ks. Has (numbered_from (key_row member) (suc n) ks) z) are has
row_there member (row ∷ rows) n keys are z has = elim are [
  | inl other ↦ inr (row_there member rows n keys other.1 z has)
  | inr own ↦
      let (member_is, number_is, (rest, keys_are, later)) = own in
      elim (subst (λ ks. Has (numbered_from (key_row member) (suc n) ks) z) keys_are has) [
        | inl is ↦ inl (is ∙ sym (cells_are member n row member_is number_is))
        | inr more ↦ inr (row_there member rows (suc n) rest later z more)
      ]
]
  where
    cells_are : (member n : ℕ) (row : KeyRow) → row.member ≡ pos member → row.number ≡ pos (suc n)
        → key_cells row ≡ key_row member (suc n) (string_bytes row.key)
    cells_are member n row m k = cc

-- a row of the member is one of a later key
row_back : (member : ℕ) (rows : List KeyRow) (n : ℕ) (keys : List (List ℕ)) → AreLater (pos member) rows n keys
    → (z : Row) → Has (map key_cells rows) z → column z 0 ≡ number member
    → Has (numbered_from (key_row member) (suc n) keys) z
row_back member [] n keys are z has begins = absurd has
row_back member (row ∷ rows) n keys are z has begins = elim are [
  | inl other ↦ elim has [
    | inl is ↦
        let cell : number member ≡ number member = refl in
        absurd (other.0 (own_member member row z is begins))
    | inr more ↦ row_back member rows n keys other.1 z more begins
  ]
  | inr own ↦
      let (member_is, number_is, (rest, keys_are, later)) = own in
      subst (λ ks. Has (numbered_from (key_row member) (suc n) ks) z) (sym keys_are)
      (elim has [
        | inl is ↦ inl (is ∙ cells_so member n row member_is number_is)
        | inr more ↦ inr (row_back member rows (suc n) rest later z more begins)
      ])
]
  where
    own_member : (member : ℕ) (row : KeyRow) (z : Row) → z ≡ key_cells row → column z 0 ≡ number member
        → row.member ≡ pos member
    own_member member row z is begins =
        let both = sym (ap (λ w. column w 0) is) ∙ begins in cc

    cells_so : (member n : ℕ) (row : KeyRow) → row.member ≡ pos member → row.number ≡ pos (suc n)
        → key_cells row ≡ key_row member (suc n) (string_bytes row.key)
    cells_so member n row m k = cc

-- the rows of a member's later keys have their numbers in the second column
keys_placed : (member : ℕ) (keys : List (List ℕ)) → AreAtPlaces 1 (numbered_from (key_row member) 1 keys)
keys_placed member keys n z at = from member 1 keys n z at
  where
    from : (member first : ℕ) (keys : List (List ℕ)) (n : ℕ) (z : Row)
        → slice_get (numbered_from (key_row member) first keys) n ≡ Some z → column z 1 ≡ number (first + n)
    from member first [] n z at = cc
    from member first (k ∷ ks) zero z at =
        let is : key_row member first k ≡ z = cc in
        let here : first ≡ first + 0 = omega arith in
        ap (λ w. column w 1) (sym is) ∙ ap number here
    from member first (k ∷ ks) (suc n) z at =
        let next : suc first + n ≡ first + suc n = omega arith in
        from member (suc first) ks n z at ∙ ap number next

-- keys are told by their rows
keys_told : (member first : ℕ) (ks others : List (List ℕ))
    → numbered_from (key_row member) first ks ≡ numbered_from (key_row member) first others → ks ≡ others
keys_told member first [] [] is = refl
keys_told member first (k ∷ ks) (o ∷ os) is =
    let head : k ≡ o = cc in
    let tail : ks ≡ os = keys_told member (suc first) ks os (cc) in
    cc
keys_told member first _ _ is = cc

-- the later keys that are read are those of the member in the state
pub later_is : (all : List Member) (rows : List KeyRow)
    → HaveSame (map key_cells rows) (gathered_from rows_of_keys 1 all)
    → (k : ℕ) (m : Member) → slice_get all k ≡ Some m → (keys : List (List ℕ)) → AreLater (pos (1 + k)) rows 0 keys
    → keys ≡ m.later
later_is all rows same k m at keys are =
    keys_told (1 + k) 1 keys m.later
    (one_line 1 _ _ (keys_placed (1 + k) keys) (keys_placed (1 + k) m.later) (record {
      there = λ z h.
          let first = begins (1 + k) keys z h in
          let (n, x, stands, has) = gathered_had rows_of_keys 1 all z
          (same.there z (row_there (1 + k) rows 0 keys are z h)) in
          let own = begins (1 + n) x.later z has in
          let e = pos_same (1 + n) (1 + k) (number_is (1 + n) (1 + k) (sym own ∙ first)) in
          let n_is : n ≡ k = omega (arith, e) in
          let there : slice_get all k ≡ Some x = subst (λ j. slice_get all j ≡ Some x) n_is stands in
          let x_is : x ≡ m = cc in
          subst (λ j. Has (rows_of_keys (1 + j) m) z) n_is (subst (λ y. Has (rows_of_keys (1 + n) y) z) x_is has);
      back = λ z h.
          row_back (1 + k) rows 0 keys are z (same.back z (gathered_has rows_of_keys 1 all k m z at h))
          (begins (1 + k) m.later z h);
    }))
  where
    begins : (member : ℕ) (ks : List (List ℕ)) (z : Row) → Has (numbered_from (key_row member) 1 ks) z
        → column z 0 ≡ number member
    begins member ks z h = let (n, x, at, is) = numbered_had (key_row member) 1 ks z h in ap (λ w. column w 0) is

    number_is : (a b : ℕ) → number a ≡ number b → pos a ≡ pos b
    number_is a b is = cc

-- a club of schema 2 has no later keys
pub no_keys : (s : ClubState) → IsClub s → V2 ≡ version_of s → gathered_from rows_of_keys 1 s.members ≡ []
no_keys s is_club version =
    none 1 s.members (is_club.without_arbiter (no_arbiter s.has_arbiter version)).keys
  where
    none : (id : ℕ) (members : List Member)
        → ((n : ℕ) (m : Member) → slice_get members n ≡ Some m → m.later ≡ [])
        → gathered_from rows_of_keys id members ≡ []
    none id [] all = refl
    none id (m ∷ ms) all =
        let here : m.later ≡ [] = all 0 m refl in
        let rest = none (suc id) ms (λ n x at. all (suc n) x at) in
        rw (here, rest) refl

    no_arbiter : (b : Bool) → V2 ≡ (if b then V3 else V2) → b ≡ false
    no_arbiter false is = refl
    no_arbiter true is = cc

-- no club is of schema 1
pub no_first : (s : ClubState) → V1 ≡ version_of s → ⊥
no_first s is = by s.has_arbiter is
  where
    by : (b : Bool) → V1 ≡ (if b then V3 else V2) → ⊥
    by true is = cc
    by false is = cc

-- where no rows are expected, none are read
pub same_none : (rows : List Row) → rows ≡ [] → HaveSame [] rows
same_none rows is = subst (HaveSame []) (sym is) (record { there = λ z h. h; back = λ z h. h })

-- the same by the row of the member
pub later_of_row : (all : List Member) (rows : List KeyRow)
    → HaveSame (map key_cells rows) (gathered_from rows_of_keys 1 all) → (k : ℕ) (m : Member) → slice_get all k ≡ Some m
    → (row : MemberRow) → member_cells row ≡ member_row (1 + k) m → (keys : List (List ℕ))
    → AreLater row.id rows 0 keys → keys ≡ m.later
later_of_row all rows same k m at row is keys are =
    let id : row.id ≡ pos (1 + k) = cc in
    later_is all rows same k m at keys (subst (λ i. AreLater i rows 0 keys) id are)

-- ---- rows one after another

module _ (member : ℤ) (rows : List KeyRow) (k : ℕ) (row : KeyRow) (within : k < length rows)
    (at : row ≡ get_or rows k row) (n : ℕ) (done : List (List ℕ))
    (so_far : (rest : List (List ℕ)) → AreLater member (drop k rows) n rest
    → AreLater member rows 0 (done ++ rest)) where
  begins_here : drop k rows ≡ row ∷ drop (k + 1) rows
  begins_here = drop_more rows k row within ∙ ap (λ y. y ∷ drop (k + 1) rows) (sym at)

  -- a row of another member
  pub past_other : (row.member ≡ member → ⊥) → (rest : List (List ℕ)) → AreLater member (drop (k + 1) rows) n rest
      → AreLater member rows 0 (done ++ rest)
  past_other other rest are =
      so_far rest (subst (λ l. AreLater member l n rest) (sym begins_here) (inl (other, are)))

  -- a row of the member, with the next number
  pub past_own : (new : List (List ℕ)) (m : ℕ) → row.member ≡ member → row.number ≡ pos (suc n)
      → new ≡ done ++ string_bytes row.key ∷ [] → m ≡ n + 1 → (rest : List (List ℕ))
      → AreLater member (drop (k + 1) rows) m rest → AreLater member rows 0 (new ++ rest)
  past_own new m own number new_is next rest are =
      let count : m ≡ suc n = omega (arith, next) in
      let there : AreLater member (drop (k + 1) rows) (suc n) rest =
      subst (λ j. AreLater member (drop (k + 1) rows) j rest) count are in
      let whole = so_far (string_bytes row.key ∷ rest)
      (subst (λ l. AreLater member l n (string_bytes row.key ∷ rest)) (sym begins_here)
      (inr (own, number, (rest, refl, there)))) in
      rw (new_is, append_assoc) whole

-- the keys that were read once no row is left
pub all_later : (member : ℤ) (rows : List KeyRow) (k n : ℕ) (done : List (List ℕ)) → length rows ≤ k
    → ((rest : List (List ℕ)) → AreLater member (drop k rows) n rest → AreLater member rows 0 (done ++ rest))
    → AreLater member rows 0 done
all_later member rows k n done past so_far =
    let none : AreLater member (drop k rows) n [] =
    subst (λ l. AreLater member l n []) (sym (drop_all k rows past)) refl in
    subst (AreLater member rows 0) (append-nil done) (so_far [] none)

pub those_none : (key : List ℕ) (wanted : Row) (rows : List Row) → rows ≡ [] → AreThose key wanted rows []
those_none key wanted rows is = record {
  sound = λ z h. absurd h;
  complete = λ z h same. subst (λ l. Has l z) is h;
}

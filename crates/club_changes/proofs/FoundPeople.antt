-- The member of a key, and the event of an id, by the rows that are found for them.
use Rattle.std.proofs.Common.{◌≡◌, ℕ, suc, ◌+◌, Bool, List, [], ◌∷◌, Option, Some, None, true, false, refl, ap, sym}
use Rattle.std.proofs.Common.{subst}
use Rattle.std.proofs.Common.{arith, true≢false, subst₂, ◌∙◌}
use Rattle.std.specs.Prelude.{slice_get, string_bytes}
use Rattle.std.specs.Cmp.{tied_itself}
use Rattle.std.proofs.lemmas.Bool.{and_parts, and_from}
use Rattle.std.proofs.lemmas.Map.Lookups.{exact_bytes}
use Rattle.sqlite.specs.declared.types.Value.TheVariants.{Null, Text}
use Rattle.sqlite.specs.Order.{Row, column}
use Rattle.sqlite_value.specs.Keys.{first_key}
use Rattle.sqlite_value.proofs.OrderLemmas.{value_cmp_total, value_cmp-Text, value_cmp-Null}
use Rattle.sqlite.specs.Values.{or_null}
use Rattle.sqlite.specs.Collation.TheVariants.{Binary}
use Rattle.sqlite_schema.specs.Rules.{equal}
use Rattle.std.proofs.lemmas.Option.{same_Some}
use Rattle.sqlite_rules.specs.Lists.{Has}
use Rattle.club_core.specs.Events.{Event}
use Rattle.club_core.specs.Members.{Member, find_id}
use Rattle.club_core.specs.State.{place, is_key}
use Rattle.club_laws.proofs.Proved.{bytes_eq-same, same-bytes_eq, find_id-found, find_id-none}
use Rattle.club_rows.specs.Club.{ClubState, tables}
use Rattle.club_rows.specs.Tables.{numbered_from, number, member_row, event_row, rule_row}
use Rattle.store_tables.specs.internal.Cells.{member_cells}
use Rattle.store_tables.specs.declared.rows.MemberRow.{MemberRow}
use Rattle.store_tables.specs.Content.{same_key}
use Rattle.store_tables.specs.internal.Contents.{AreThose}
use Rattle.store_tables.proofs.Proved.{equal_cmp, equal_from}
use Rattle.club_changes.proofs.PutSame.{numbered_had, numbered_has, ids_agree, ids_same}
use Rattle.club_changes.proofs.ClubPlayed.{place_at}

-- ---- places of a list

pub place_next : {A : Type 0} (xs : List A) (n : ℕ) → place xs (1 + n) ≡ slice_get xs n
place_next xs n = let e : 1 + n ≡ suc n = omega arith in ap (place xs) e

-- at a place that is no element's there is none
pub no_place : {A : Type 0} (xs : List A) (id : ℕ)
    → ((n : ℕ) (x : A) → id ≡ 1 + n → slice_get xs n ≡ Some x → ⊥) → place xs id ≡ None
no_place {A} xs id none = here (place xs id) refl
  where
    here : (o : Option A) → place xs id ≡ o → place xs id ≡ None
    here None at = at
    here (Some x) at = let (n, id_is, there) = place_at xs id x at in absurd (none n x id_is there)

-- ---- what is found for an id

module _ {A : Type 0} (row : ℕ → A → Row) (begins : (n : ℕ) (x : A) → column (row n x) 0 ≡ number n) (xs : List A)
    (id : ℕ) (found : List Row) (those : AreThose (0 ∷ []) (number id ∷ []) (numbered_from row 1 xs) found) where
  pub id_found : (z : Row) → Has found z → (x : A) × (place xs id ≡ Some x) × (z ≡ row id x)
  id_found z has =
      let those_z = those.sound z has in
      let (n, x, at, is) = numbered_had row 1 xs z those_z.0 in
      let same = ids_same z (number id ∷ []) (1 + n) id (ap (λ w. column w 0) is ∙ begins (1 + n) x) refl those_z.1 in
      (x, ap (place xs) (sym same) ∙ (place_next xs n ∙ at), is ∙ ap (λ k. row k x) same)

  pub id_missing : found ≡ [] → place xs id ≡ None
  id_missing none = no_place xs id (λ n x id_is there.
      subst (λ l. Has l (row (1 + n) x)) none
      (those.complete (row (1 + n) x) (numbered_has row 1 xs n x there)
      (ids_agree (row (1 + n) x) (number id ∷ []) id (begins (1 + n) x ∙ ap number (sym id_is)) refl)))

-- ---- keys that are texts

pub text_same : (o : Option (List ℕ)) (key : List ℕ) → equal Binary (or_null Text o) (Text key) ≡ true → o ≡ Some key
text_same None key same = let e = sym (value_cmp-Null (Text key)) ∙ equal_cmp Null (Text key) same in cc
text_same (Some k) key same =
    ap Some (exact_bytes k key (sym (value_cmp-Text k key) ∙ equal_cmp (Text k) (Text key) same))

pub text_itself : (o : Option (List ℕ)) (key : List ℕ) → o ≡ Some key → equal Binary (or_null Text o) (Text key) ≡ true
text_itself o key is = subst (λ p. equal Binary (or_null Text p) (Text key) ≡ true) (sym is)
    (equal_from (Text key) (Text key) refl refl (tied_itself value_cmp_total (Text key)))

key_has : (key : List ℕ) (o : Option (List ℕ)) → is_key key o ≡ true → o ≡ Some key
key_has key None is = absurd (true≢false (sym is))
key_has key (Some k) is = ap Some (same-bytes_eq k key is)

-- the rows have the keys of their elements in a column, and no two of these have the one that is wanted
pub record AreKeyed {A : Type 0} (row : ℕ → A → Row) (c : ℕ) (key_of : A → Option (List ℕ)) (key : List ℕ)
    (wanted : Row) (xs : List A) : Type 0 where
  pub shows : (id : ℕ) (x : A) → column (row id x) c ≡ or_null Text (key_of x)
  pub wants : column wanted c ≡ Text key
  pub only : (m n : ℕ) (x y : A) → slice_get xs m ≡ Some x → slice_get xs n ≡ Some y → key_of x ≡ Some key
      → key_of y ≡ Some key → m ≡ n

module _ {A : Type 0} {row : ℕ → A → Row} {c : ℕ} {key_of : A → Option (List ℕ)} {key : List ℕ} {wanted : Row}
    {xs : List A} (keyed : AreKeyed row c key_of key wanted xs) (found : List Row) where
  abbrev test : A → Bool
  test x = is_key key (key_of x)

  told : (id : ℕ) (x : A) → same_key (c ∷ []) (row id x) wanted ≡ true → key_of x ≡ Some key
  unfolding first_key
  told id x same = text_same (key_of x) key
      (subst₂ (λ v w. equal Binary v w ≡ true) (keyed.shows id x) keyed.wants (and_parts _ true same).0)

  shown : (id : ℕ) (x : A) → key_of x ≡ Some key → same_key (c ∷ []) (row id x) wanted ≡ true
  unfolding first_key
  shown id x is = and_from _ true
      (subst₂ (λ v w. equal Binary v w ≡ true) (sym (keyed.shows id x)) (sym keyed.wants)
      (text_itself (key_of x) key is)) refl

  -- the row that is found is that of the one with the key
  pub one_found : (z : Row) → AreThose (c ∷ []) wanted (numbered_from row 1 xs) found → Has found z → (id : ℕ) × (x : A)
      × (place xs id ≡ Some x) × (z ≡ row id x) × (find_id test xs ≡ Some id)
  one_found z those has =
      let those_z = those.sound z has in
      let (n, x, at, is) = numbered_had row 1 xs z those_z.0 in
      let passes = told (1 + n) x (subst (λ w. same_key (c ∷ []) w wanted ≡ true) is those_z.1) in
      (1 + n, x, place_next xs n ∙ at, is, here n x at passes (find_id test xs) refl)
    where
      here : (n : ℕ) (x : A) → slice_get xs n ≡ Some x → key_of x ≡ Some key → (o : Option ℕ) → find_id test xs ≡ o
          → find_id test xs ≡ Some (1 + n)
      here n x at passes None is =
          let fails : is_key key (Some key) ≡ false = rw passes at (find_id-none test xs is n x at) in
          absurd (true≢false (sym (bytes_eq-same key key refl) ∙ fails))
      here n x at passes (Some id) is =
          let (y, stands, y_passes) = find_id-found test xs id is in
          let (m, id_is, there) = place_at xs id y stands in
          let same : m ≡ n = keyed.only m n y x there at (key_has key (key_of y) y_passes) passes in
          let next : id ≡ 1 + n = omega (arith, id_is, same) in
          is ∙ ap Some next

  -- where no row is found, none has it
  pub none_found : AreThose (c ∷ []) wanted (numbered_from row 1 xs) found → found ≡ [] → find_id test xs ≡ None
  none_found those none = here (find_id test xs) refl
    where
      here : (o : Option ℕ) → find_id test xs ≡ o → find_id test xs ≡ None
      here None is = is
      here (Some id) is =
          let (x, stands, passes) = find_id-found test xs id is in
          let (m, id_is, there) = place_at xs id x stands in
          absurd
          (subst (λ l. Has l (row (1 + m) x)) none
          (those.complete (row (1 + m) x) (numbered_has row 1 xs m x there)
          (shown (1 + m) x (key_has key (key_of x) passes))))

-- ---- the member of a key

abbrev asked : List ℕ → Row
asked key = Null ∷ Null ∷ Text key ∷ []

module _ (s : ClubState) (key : List ℕ) where
  -- the row that is found for a key is that of the member whose first key it is
  pub first_key_found : (found : List Row) (z : Row) → AreThose (2 ∷ []) (asked key) (tables s 1) found → Has found z
      → (n : ℕ) × (m : Member) × (slice_get s.members n ≡ Some m) × (m.key ≡ key) × (z ≡ member_row (1 + n) m)
  unfolding first_key
  first_key_found found z those has =
      let those_z = those.sound z has in
      let (n, m, at, is) = numbered_had member_row 1 s.members z those_z.0 in
      let same : same_key (2 ∷ []) (member_row (1 + n) m) (asked key) ≡ true =
      subst (λ w. same_key (2 ∷ []) w (asked key) ≡ true) is those_z.1 in
      (n, m, at, same_Some m.key key (text_same (Some m.key) key (and_parts _ true same).0), is)

  -- where none is found, it is nobody's first key
  pub first_key_missing : (found : List Row) → AreThose (2 ∷ []) (asked key) (tables s 1) found → found ≡ []
      → (n : ℕ) (m : Member) → slice_get s.members n ≡ Some m → m.key ≡ key → ⊥
  unfolding first_key
  first_key_missing found those none n m at is =
      subst (λ l. Has l (member_row (1 + n) m)) none
      (those.complete (member_row (1 + n) m) (numbered_has member_row 1 s.members n m at)
      (and_from _ true (text_itself (Some m.key) key (ap Some is)) refl))

-- what is found for the id of an element is its row
numbered_found : {A : Type 0} (row : ℕ → A → Row) → ((n : ℕ) (x : A) → column (row n x) 0 ≡ number n) → (xs : List A)
    (id : ℕ) (found : List Row) (z : Row) (known : A)
    → AreThose (0 ∷ []) (number id ∷ []) (numbered_from row 1 xs) found → Has found z → place xs id ≡ Some known
    → z ≡ row id known
numbered_found row begins xs id found z known those has at =
    let (x, stands, is) = id_found row begins xs id found those z has in
    let x_is : x ≡ known = let both = sym stands ∙ at in cc in
    is ∙ ap (row id) x_is

pub member_found : (s : ClubState) (id : ℕ) (found : List Row) (z : Row) (known : Member)
    → AreThose (0 ∷ []) (number id ∷ []) (tables s 1) found → Has found z → place s.members id ≡ Some known
    → z ≡ member_row id known
member_found s = numbered_found member_row (λ n x. refl) s.members

pub name_same : (row : MemberRow) (id : ℕ) (known : Member) → member_cells row ≡ member_row id known
    → string_bytes row.name ≡ known.name
name_same row id known is = cc

-- ---- the event of an id

pub event_found : (s : ClubState) (id : ℕ) (found : List Row) (z : Row) (known : Event)
    → AreThose (0 ∷ []) (number id ∷ []) (tables s 4) found → Has found z → place s.events id ≡ Some known
    → z ≡ event_row id known
event_found s = numbered_found event_row (λ n x. refl) s.events

-- and what is found of its rules is theirs
pub rule_found : (s : ClubState) (id : ℕ) (found : List Row) (z : Row) (known : Event)
    → AreThose (0 ∷ []) (number id ∷ []) (tables s 16) found → Has found z → place s.events id ≡ Some known
    → z ≡ rule_row id known
rule_found s = numbered_found rule_row (λ n x. refl) s.events

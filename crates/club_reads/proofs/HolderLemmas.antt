-- The member who has a key now, by the rows that are found for it.
use Rattle.std.proofs.Common.{◌≡◌, ℕ, zero, suc, ◌+◌, ◌<◌, ◌==◌, ℤ, pos, List, [], ◌∷◌, length, map, Option}
use Rattle.std.proofs.Common.{Some, None, refl, ap, sym, subst, subst₂, ◌∙◌, arith, inl, inr, Bool, true, false}
use Rattle.std.specs.Prelude.{if◌then◌else◌, slice_get, ◌<ℤ◌}
use Rattle.std.proofs.lemmas.Bool.{and_parts, and_from, eq-eqb, eqb-true}
use Rattle.std.proofs.lemmas.Bool.Decides.{nat_tests}
use Rattle.std.proofs.lemmas.Int.{ints}
use Rattle.std.proofs.lemmas.Option.{slice_get_within}
use Rattle.sqlite.specs.Order.{Row, column}
use Rattle.sqlite.specs.declared.types.Value.TheVariants.{Int, Null, Text}
use Rattle.sqlite_rules.specs.Lists.{Has}
use Rattle.sqlite_value.specs.Keys.{first_key}
use Rattle.store_tables.specs.Content.{same_key}
use Rattle.store_tables.specs.Names.{tree_of}
use Rattle.store_tables.specs.internal.Cells.{key_cells, member_cells}
use Rattle.store_tables.specs.internal.Contents.{AreThose}
use Rattle.store_tables.specs.declared.names.Table.TheVariants.{Keys, Members}
use Rattle.store_tables.specs.declared.names.Version.TheVariants.{V2, V3}
use Rattle.store_tables.specs.declared.rows.KeyRow.{KeyRow}
use Rattle.store_tables.specs.declared.rows.MemberRow.{MemberRow}
use Rattle.club_requests.specs.declared.requests.Caller.{Caller}
use Rattle.club_requests.specs.declared.requests.Caller.TheVariants as caller
use Rattle.club_core.specs.Members.{Member, find_id, keys_of, present_key}
use Rattle.club_core.specs.State.{caller_found, has_member_key, place}
use Rattle.club_core.proofs.Proved.{last_key-at}
use Rattle.club_laws.proofs.Proved.{find_id-found, key-owner, same-bytes_eq}
use Rattle.club_rows.specs.Club.{ClubState, IsClub, both_games, tables}
use Rattle.club_rows.specs.Tables.{key_row, member_row, number, rows_of_keys, version_of}
use Rattle.club_changes.proofs.Proved.{gathered_had, gathered_has, ids_agree, ids_same, numbered_had, numbered_has}
use Rattle.club_changes.proofs.Proved.{first_mapped, member_found, none_mapped, place_at, text_itself, text_same}
use Rattle.club_reads.specs.internal.Holders.{IsHolder, IsKeyRow, IsLaterAt, IsNoFirstKey}
use Rattle.club_reads.specs.internal.Later.{NoneAfter, SomeAfter}

-- ---- places

pub place_of : {A : Type 0} (xs : List A) (n : ℕ) (x : A) → slice_get xs n ≡ Some x → place xs (1 + n) ≡ Some x
place_of xs n x at = let e : 1 + n ≡ suc n = omega arith in ap (place xs) e ∙ at

last_of : {A : Type 0} (xs : List A) (n : ℕ) → n < length xs → (x : A) × (slice_get xs n ≡ Some x)
last_of [] n within = absurd (omega (arith, within))
last_of (x ∷ xs) zero within = (x, refl)
last_of (x ∷ xs) (suc n) within = last_of xs n (omega (arith, within))

-- a choice by equal numbers, and by others
chosen : (a b : ℕ) (who : Caller) → a ≡ b → (if a == b then Some who else None) ≡ Some who
chosen a b who is = rw (eq-eqb a b is) refl

not_chosen : (a b : ℕ) (who : Caller) → (a ≡ b → ⊥) → ◌≡◌ {A = Option Caller} (if a == b then Some who else None) None
not_chosen a b who apart = by (a == b) refl
  where
    by : (test : Bool) → (a == b) ≡ test → ◌≡◌ {A = Option Caller} (if test then Some who else None) None
    by true is = absurd (apart (eqb-true a b is))
    by false is = refl

module _ (s : ClubState) (is_club : IsClub s) where
  -- a member's newest key is the member's, and an earlier one nobody's
  owned : (n i : ℕ) (m : Member) (key : List ℕ) → slice_get s.members n ≡ Some m → slice_get (keys_of m) i ≡ Some key
      → i ≡ length m.later → caller_found (find_id (has_member_key key) s.members) ≡ Some (caller.Member (1 + n))
  owned n i m key at at_key is =
      key-owner both_games s is_club (1 + n) i m key (place_of s.members n m at) at_key
      ∙ chosen i (length m.later) (caller.Member (1 + n)) is

  disowned : (n i : ℕ) (m : Member) (key : List ℕ) → slice_get s.members n ≡ Some m
      → slice_get (keys_of m) i ≡ Some key → (i ≡ length m.later → ⊥)
      → caller_found (find_id (has_member_key key) s.members) ≡ None
  disowned n i m key at at_key apart =
      key-owner both_games s is_club (1 + n) i m key (place_of s.members n m at) at_key
      ∙ not_chosen i (length m.later) (caller.Member (1 + n)) apart

  -- a key that no member has or had is nobody's
  pub nobodys : (key : List ℕ) → IsNoFirstKey s key → IsKeyRow s key None → IsHolder s key None
  nobodys key not_first not_later = here (find_id (has_member_key key) s.members) refl
    where
      among : (n : ℕ) (m : Member) → slice_get s.members n ≡ Some m → (i : ℕ) → slice_get (keys_of m) i ≡ Some key → ⊥
      among n m at zero at_key = not_first n m at cc
      among n m at (suc j) at_key = not_later n j m at at_key

      here : (o : Option ℕ) → find_id (has_member_key key) s.members ≡ o
          → caller_found (find_id (has_member_key key) s.members) ≡ None
      here None is = ap caller_found is
      here (Some id) is =
          let (m, stands, passes) = find_id-found (has_member_key key) s.members id is in
          let (n, id_is, at) = place_at s.members id m stands in
          absurd (among n m at (length m.later)
          (last_key-at m.key m.later ∙ ap Some (same-bytes_eq (present_key m) key passes)))

  -- ---- rows of `keys`

  -- a later key has its row
  row_has : (n j : ℕ) (m : Member) (key : List ℕ) → slice_get s.members n ≡ Some m → slice_get m.later j ≡ Some key
      → Has (tables s (tree_of Keys)) (key_row (1 + n) (1 + j) key)
  row_has n j m key at at_key =
      gathered_has rows_of_keys 1 s.members n m (key_row (1 + n) (1 + j) key) at
      (numbered_has (key_row (1 + n)) 1 m.later j key at_key)

  -- and a row is that of a later key
  row_had : (z : Row) → Has (tables s (tree_of Keys)) z → (n : ℕ) × (j : ℕ) × (m : Member) × (key : List ℕ)
      × (slice_get s.members n ≡ Some m) × (slice_get m.later j ≡ Some key) × (z ≡ key_row (1 + n) (1 + j) key)
  row_had z has =
      let (n, m, at, own) = gathered_had rows_of_keys 1 s.members z has in
      let (j, key, at_key, is) = numbered_had (key_row (1 + n)) 1 m.later z own in
      (n, j, m, key, at, at_key, is)

  -- the row that is found for a text is that of a later key with it
  text_of : (z : Row) (member number : ℕ) (k key : List ℕ) → z ≡ key_row member number k
      → same_key (2 ∷ []) z (Null ∷ Null ∷ Text key ∷ []) ≡ true → k ≡ key
  unfolding first_key
  text_of z member number k key is same =
      let e : Some k ≡ Some key = text_same (Some k) key (and_parts _ true (rw is at same)).0 in cc

  text_at : (member number : ℕ) (key : List ℕ)
      → same_key (2 ∷ []) (key_row member number key) (Null ∷ Null ∷ Text key ∷ []) ≡ true
  unfolding first_key
  text_at member number key = and_from _ true (text_itself (Some key) key refl) refl

  pub key_found : (key : List ℕ) (rows : List KeyRow) (row : KeyRow)
      → AreThose (2 ∷ []) (Null ∷ Null ∷ Text key ∷ []) (tables s (tree_of Keys)) (map key_cells rows)
      → Has (map key_cells rows) (key_cells row) → IsKeyRow s key (Some row)
  key_found key rows row those has =
      let sound = those.sound (key_cells row) has in
      let (n, j, m, k, at, at_key, is) = row_had (key_cells row) sound.0 in
      let k_is = text_of (key_cells row) (1 + n) (1 + j) k key is sound.1 in
      record {
        n = n;
        j = j;
        m = m;
        stands = at;
        at = at_key ∙ ap Some k_is;
        cells = is ∙ ap (key_row (1 + n) (1 + j)) k_is;
      }

  pub key_missing : (key : List ℕ) (rows : List KeyRow)
      → AreThose (2 ∷ []) (Null ∷ Null ∷ Text key ∷ []) (tables s (tree_of Keys)) (map key_cells rows)
      → map key_cells rows ≡ [] → IsKeyRow s key None
  key_missing key rows those none n j m at at_key =
      let row = key_row (1 + n) (1 + j) key in
      subst (λ l. Has l row) none (those.complete row (row_has n j m key at at_key) (text_at (1 + n) (1 + j) key))

  -- ---- the newest key

  -- the rows of a member are those of the member's later keys
  own_row : (n j : ℕ) (m : Member) (member : ℤ) (key : List ℕ) (found : List Row) → member ≡ pos (1 + n)
      → AreThose (0 ∷ []) (Int member ∷ []) (tables s (tree_of Keys)) found → slice_get s.members n ≡ Some m
      → slice_get m.later j ≡ Some key → Has found (key_row (1 + n) (1 + j) key)
  own_row n j m member key found is those at at_key =
      those.complete (key_row (1 + n) (1 + j) key) (row_has n j m key at at_key)
      (ids_agree (key_row (1 + n) (1 + j) key) (Int member ∷ []) (1 + n) refl (ap Int is))

  own_key : (n : ℕ) (m : Member) (member : ℤ) (found : List Row) (z : Row) → member ≡ pos (1 + n)
      → AreThose (0 ∷ []) (Int member ∷ []) (tables s (tree_of Keys)) found → slice_get s.members n ≡ Some m
      → Has found z → (j : ℕ) × (key : List ℕ) × (slice_get m.later j ≡ Some key) × (z ≡ key_row (1 + n) (1 + j) key)
  own_key n m member found z is those at has =
      let sound = those.sound z has in
      let (k, j, x, key, stands, at_key, row_is) = row_had z sound.0 in
      let e = ids_same z (Int member ∷ []) (1 + k) (1 + n) (ap (λ w. column w 0) row_is) (ap Int is) sound.1 in
      let k_is : k ≡ n = omega (arith, e) in
      let here : slice_get s.members n ≡ Some x = subst (λ i. slice_get s.members i ≡ Some x) k_is stands in
      let x_is : x ≡ m = cc in
      (j, key, ap (λ y. slice_get y.later j) (sym x_is) ∙ at_key, row_is ∙ ap (λ i. key_row (1 + i) (1 + j) key) k_is)

  -- a member without rows has no later key
  none_later : (n : ℕ) (m : Member) (member : ℤ) (found : List Row) → member ≡ pos (1 + n)
      → AreThose (0 ∷ []) (Int member ∷ []) (tables s (tree_of Keys)) found → slice_get s.members n ≡ Some m
      → found ≡ [] → 0 ≡ length m.later
  none_later n m member found is those at none = by m.later refl
    where
      by : (later : List (List ℕ)) → m.later ≡ later → 0 ≡ length m.later
      by [] later_is = sym (ap length later_is)
      by (k ∷ ks) later_is =
          let first : slice_get m.later 0 ≡ Some k = ap (λ l. slice_get l 0) later_is in
          absurd (subst (λ l. Has l (key_row (1 + n) (1 + 0) k)) none (own_row n 0 m member k found is those at first))

  row_id : (row : MemberRow) (n : ℕ) (m : Member) → member_cells row ≡ member_row (1 + n) m → row.id ≡ pos (1 + n)
  row_id row n m is = cc

  -- the first key counts where no key was given later
  pub first_held : (n : ℕ) (m : Member) (row : MemberRow) (keys : List KeyRow) → slice_get s.members n ≡ Some m
      → member_cells row ≡ member_row (1 + n) m
      → AreThose (0 ∷ []) (Int row.id ∷ []) (tables s (tree_of Keys)) (map key_cells keys) → map key_cells keys ≡ []
      → IsHolder s m.key (Some row)
  first_held n m row keys at cells those none = (
    1 + n,
    m,
    place_of s.members n m at,
    cells,
    owned n 0 m m.key at refl (none_later n m row.id (map key_cells keys) (row_id row n m cells) those at none),
  )

  pub first_given_up : (n : ℕ) (m : Member) (row : MemberRow) (keys : List KeyRow) (z : Row)
      → slice_get s.members n ≡ Some m → member_cells row ≡ member_row (1 + n) m
      → AreThose (0 ∷ []) (Int row.id ∷ []) (tables s (tree_of Keys)) (map key_cells keys)
      → Has (map key_cells keys) z → IsHolder s m.key None
  first_given_up n m row keys z at cells those has =
      let (j, key, at_key, is) = own_key n m row.id (map key_cells keys) z (row_id row n m cells) those at has in
      let within = slice_get_within m.later j key at_key in
      disowned n 0 m m.key at refl (λ none. absurd (omega (arith, within, none)))

  -- the row of the member that is found
  member_had : (n : ℕ) (m : Member) (member : ℤ) (found : List Row) (z : Row) → member ≡ pos (1 + n)
      → AreThose (0 ∷ []) (Int member ∷ []) (tables s (tree_of Members)) found → slice_get s.members n ≡ Some m
      → Has found z → z ≡ member_row (1 + n) m
  member_had n m member found z is those at has =
      member_found s (1 + n) found z m (subst (λ i. AreThose (0 ∷ []) (Int i ∷ []) (tables s 1) found) is those) has
      (place_of s.members n m at)

  later_cells : (text : List ℕ) (key : KeyRow) (w : IsLaterAt s text key) → (key.member ≡ pos (1 + w.n))
      × (key.number ≡ pos (1 + w.j))
  later_cells text key w = let cells = w.cells in (cc, cc)

  none_after : (number : ℤ) (rows : List KeyRow) (z : Row) (other : ℤ) → NoneAfter number rows
      → Has (map key_cells rows) z → column z 1 ≡ Int other → number <ℤ other → ⊥
  none_after number [] z other none has is after = absurd has
  none_after number (row ∷ rows) z other none has is after = elim has [
    | inl here ↦
        let same : row.number ≡ other = let e = sym (ap (λ w. column w 1) here) ∙ is in cc in
        none.0 (subst (λ i. number <ℤ i) (sym same) after)
    | inr more ↦ none_after number rows z other none.1 more is after
  ]

  some_after : (number : ℤ) (rows : List KeyRow) → SomeAfter number rows → (row : KeyRow)
      × Has (map key_cells rows) (key_cells row) × (number <ℤ row.number)
  some_after number [] none = absurd none
  some_after number (row ∷ rows) some = elim some [
    | inl here ↦ (row, inl refl, here)
    | inr more ↦ let (r, has, after) = some_after number rows more in (r, inr has, after)
  ]

  -- the newest of the later keys is the member's
  pub newest_held : (text : List ℕ) (key : KeyRow) (w : IsLaterAt s text key) (keys : List KeyRow)
      (found : List MemberRow) (row : MemberRow)
      → AreThose (0 ∷ []) (Int key.member ∷ []) (tables s (tree_of Keys)) (map key_cells keys)
      → NoneAfter key.number keys
      → AreThose (0 ∷ []) (Int key.member ∷ []) (tables s (tree_of Members)) (map member_cells found)
      → Has (map member_cells found) (member_cells row) → IsHolder s text (Some row)
  newest_held text key w keys found row those none these has =
      let (member_is, number_is) = later_cells text key w in
      let within : w.j < length w.m.later = slice_get_within w.m.later w.j text w.at in
      let last : suc w.j ≡ length w.m.later = by (suc w.j == length w.m.later) refl within in (
        1 + w.n,
        w.m,
        place_of s.members w.n w.m w.stands,
        member_had w.n w.m key.member (map member_cells found) (member_cells row) member_is these w.stands has,
        owned w.n (suc w.j) w.m text w.stands w.at last,
      )
    where
      by : (b : Bool) → (suc w.j == length w.m.later) ≡ b → w.j < length w.m.later → suc w.j ≡ length w.m.later
      by true is within = eqb-true (suc w.j) (length w.m.later) is
      by false is within =
          let (member_is, number_is) = later_cells text key w in
          let more : suc w.j < length w.m.later = grind (arith, nat_tests) in
          let (k, there) = last_of w.m.later (suc w.j) more in
          let has_row = own_row w.n (suc w.j) w.m key.member k (map key_cells keys) member_is those w.stands there in
          absurd (none_after key.number keys _ (pos (1 + suc w.j)) none has_row refl
          (subst (λ i. i <ℤ pos (1 + suc w.j)) (sym number_is) (omega (arith, ints))))

  -- and an earlier one is nobody's
  pub older_lost : (text : List ℕ) (key : KeyRow) (w : IsLaterAt s text key) (keys : List KeyRow)
      → AreThose (0 ∷ []) (Int key.member ∷ []) (tables s (tree_of Keys)) (map key_cells keys)
      → SomeAfter key.number keys → IsHolder s text None
  older_lost text key w keys those some =
      let (member_is, number_is) = later_cells text key w in
      let (row, has, after) = some_after key.number keys some in
      let (j, k, at_key, is) = own_key w.n w.m key.member (map key_cells keys) (key_cells row) member_is those w.stands
      has in
      let other : row.number ≡ pos (1 + j) = cc in
      let greater : pos (1 + w.j) <ℤ pos (1 + j) = subst₂ (λ a b. a <ℤ b) number_is other after in
      let within = slice_get_within w.m.later j k at_key in
      disowned w.n (suc w.j) w.m text w.stands w.at (λ last. absurd (omega (arith, ints, greater, within, last)))

  -- the first of the rows that are found for a text
  pub key_by : (key : List ℕ) (rows : List KeyRow) (row : Option KeyRow) → row ≡ slice_get rows 0
      → AreThose (2 ∷ []) (Null ∷ Null ∷ Text key ∷ []) (tables s (tree_of Keys)) (map key_cells rows)
      → IsKeyRow s key row
  key_by key rows None is those = key_missing key rows those (none_mapped key_cells rows (sym is))
  key_by key rows (Some row) is those = key_found key rows row those (first_mapped key_cells rows row (sym is))

  -- a club without rows of later keys
  pub key_of_none : (key : List ℕ) → tables s (tree_of Keys) ≡ [] → IsKeyRow s key None
  key_of_none key none n j m at at_key =
      subst (λ l. Has l (key_row (1 + n) (1 + j) key)) none (row_has n j m key at at_key)

  -- a club in which a key was given later is of schema 3
  pub later_version : (text : List ℕ) (row : KeyRow) → IsLaterAt s text row → V3 ≡ version_of s
  later_version text row w = by s.has_arbiter refl
    where
      by : (b : Bool) → s.has_arbiter ≡ b → V3 ≡ (if s.has_arbiter then V3 else V2)
      by true has = rw has refl
      by false none =
          let no_later : w.m.later ≡ [] = (is_club.without_arbiter none).keys w.n w.m w.stands in
          let both : ◌≡◌ {A = Option (List ℕ)} None (Some text) = ap (λ l. slice_get l w.j) (sym no_later) ∙ w.at in
          cc

-- a list that is not empty has a row
pub some_row : (keys : List KeyRow) → (keys ≡ [] → ⊥) → (z : Row) × Has (map key_cells keys) z
some_row [] some = absurd (some refl)
some_row (row ∷ rows) some = (key_cells row, inl refl)

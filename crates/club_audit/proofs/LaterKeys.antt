-- The later keys that rows show.
use Rattle.std.proofs.Common.{◌≡◌, ℕ, zero, suc, pos, ◌+◌, ◌<◌, ◌≤◌, List, [], ◌∷◌, ◌++◌, length, map, Some, inl, inr}
use Rattle.std.proofs.Common.{◌⊎◌, Bool, Bor, refl, ap, sym, subst, ◌∙◌, arith, length-append}
use Rattle.std.specs.Prelude.{Option, slice_get, string_bytes, IsTrue}
use Rattle.std.proofs.lemmas.Bool.{cases_eq}
use Rattle.std.proofs.lemmas.List.{length-map}
use Rattle.std.proofs.lemmas.Option.{same_Some, slice_get_within}
use Rattle.std.proofs.Math.ListN.{drop}
use Rattle.sqlite.specs.Order.{Row}
use Rattle.sqlite_rules.specs.Lists.{Has}
use Rattle.sqlite_rules.proofs.ListLemmas.{has_got}
use Rattle.club_requests.specs.Limits.{is_member_key}
use Rattle.club_core.specs.LegalState.{Each, HaveUniqueKeys, HaveUniqueMemberKeys, IsLegalMember}
use Rattle.club_core.specs.Members.{Member, keys_of}
use Rattle.club_laws.proofs.Proved.{get-append, map-at, map-got}
use Rattle.store_tables.specs.internal.Cells.{key_cells, member_cells}
use Rattle.store_tables.specs.declared.rows.KeyRow.{KeyRow}
use Rattle.store_tables.specs.declared.rows.MemberRow.{MemberRow}
use Rattle.club_rows.specs.Tables.{gathered_from, key_row, member_row, numbered_from, rows_of_keys}
use Rattle.club_rows.proofs.Proved.{gathered-had, gathered-has}
use Rattle.club_audit.specs.declared.keys.KeyPlace.{KeyPlace}
use Rattle.club_audit.specs.internal.Audit.{AreMembers}
use Rattle.club_audit.specs.internal.KeyAudit.{AreKeysAfter, AreKeysOf, IsKeyAfter, all_keys, no_key}
use Rattle.club_audit.proofs.KeyLemmas.{AreKept, lent}
use Rattle.club_audit.proofs.PlacedLemmas.{each-cons, had-at, numbered-at, numbered-back, numbered-length}

-- the place of a key of this member under this number
abbrev pub at : (member number : ℕ) → KeyPlace
at member number = record { member = member; number = number }

-- ---- lists from an index on

pub drop-got : {A : Type 0} (xs : List A) (i : ℕ) (x : A) → slice_get xs i ≡ Some x
    → drop i xs ≡ x ∷ drop (i + 1) xs
drop-got [] i x found = cc
drop-got (y ∷ xs) zero x found = ap (λ z. z ∷ xs) (same_Some y x found)
drop-got (y ∷ xs) (suc i) x found =
    let next : suc i + 1 ≡ suc (i + 1) = omega arith in
    drop-got xs i x found ∙ ap (λ k. x ∷ drop k (y ∷ xs)) (sym next)

pub drop-past : {A : Type 0} (xs : List A) (i : ℕ) → length xs ≤ i → drop i xs ≡ []
drop-past [] zero past = refl
drop-past [] (suc i) past = refl
drop-past (y ∷ xs) zero past = absurd (omega (arith, past))
drop-past (y ∷ xs) (suc i) past = drop-past xs i (omega (arith, past))

-- ---- rows after one another

-- rows after the keys of a member are rows before the first key of the next one
next-member : (count id n : ℕ) (place : KeyPlace) (r : KeyRow) → IsKeyAfter count (at id n) place r
    → id < place.member → place.number ≡ 1 → IsKeyAfter count (at (suc id) 0) place r
next-member count id n place r after later first = record {
  member_is = after.member_is;
  number_is = after.number_is;
  member = after.member;
  number = after.number;
  valid = after.valid;
  next = elim (cases_eq place.member (suc id)) [
    | inl same ↦ inl (same, first)
    | inr other ↦ inr (omega (arith, other, later), first)
  ];
}

-- and the other way round
member-before : (count id n : ℕ) (rows : List KeyRow) → AreKeysAfter count (at (suc id) 0) rows
    → AreKeysAfter count (at id n) rows
member-before count id n [] chain = tt
member-before count id n (r ∷ rs) (place, after, rest) = (
  place,
  record {
    member_is = after.member_is;
    number_is = after.number_is;
    member = after.member;
    number = after.number;
    valid = after.valid;
    next = elim after.next [
      | inl same ↦ inr (omega (arith, same.0), same.1)
      | inr later ↦ inr (omega (arith, later.0), later.1)
    ];
  },
  rest,
)

-- rows are in order exactly if those from the index on may come after this place
abbrev pub IsSoFar : (count : ℕ) → List KeyRow → (index : ℕ) → KeyPlace → Type 0
IsSoFar count rows index before = (AreKeysAfter count before (drop index rows) → AreKeysAfter count no_key rows)
    × (AreKeysAfter count no_key rows → AreKeysAfter count before (drop index rows))

-- no row has two places
one-place-of : (count : ℕ) (a b c d : KeyPlace) (r : KeyRow) → IsKeyAfter count a c r → IsKeyAfter count b d r → c ≡ d
one-place-of count a b c d r one two =
    let member : c.member ≡ d.member = cc (one.member_is, two.member_is) in
    let number : c.number ≡ d.number = cc (one.number_is, two.number_is) in
    λ i. record { member = member i; number = number i }

pub so-far-more : (count : ℕ) (rows : List KeyRow) (index : ℕ) (before place : KeyPlace) (r : KeyRow)
    → slice_get rows index ≡ Some r → IsKeyAfter count before place r → IsSoFar count rows index before
    → IsSoFar count rows (index + 1) place
so-far-more count rows index before place r found after so_far =
    let here = drop-got rows index r found in (
      λ rest. so_far.0 (subst (AreKeysAfter count before) (sym here) (place, after, rest)),
      λ all.
          let (other, is, rest) = subst (AreKeysAfter count before) here (so_far.1 all) in
          subst (λ p. AreKeysAfter count p (drop (index + 1) rows))
          (one-place-of count before before other place r is after) rest,
    )

-- the row at the index has a place after the one before
pub so-far-here : (count : ℕ) (rows : List KeyRow) (index : ℕ) (before : KeyPlace) (r : KeyRow)
    → slice_get rows index ≡ Some r → IsSoFar count rows index before → AreKeysAfter count no_key rows
    → (place : KeyPlace) × IsKeyAfter count before place r
so-far-here count rows index before r found so_far all =
    let (place, after, rest) = subst (AreKeysAfter count before) (drop-got rows index r found) (so_far.1 all) in
    (place, after)

pub so-far-all : (count : ℕ) (rows : List KeyRow) (index : ℕ) (before : KeyPlace) → length rows ≤ index
    → IsSoFar count rows index before → AreKeysAfter count no_key rows
so-far-all count rows index before past so_far =
    so_far.0 (subst (AreKeysAfter count before) (sym (drop-past rows index past)) tt)

abbrev pub some_text : List ℕ → Option (List ℕ)
some_text t = Some t

-- the keys of one member, which come first among the rows, and the rows behind them
pub record AreSplit (count id n : ℕ) (rows : List KeyRow) : Type 0 where
  pub keys : List (List ℕ)
  pub rest : List KeyRow
  pub cells : map key_cells rows ≡ numbered_from (key_row id) (suc n) keys ++ map key_cells rest
  pub after : AreKeysAfter count (at (suc id) 0) rest
  pub legal : Each (λ k. IsTrue (is_member_key k)) keys
  pub few : n + length keys ≤ 99

split : (count id n : ℕ) (rows : List KeyRow) → AreKeysAfter count (at id n) rows → n ≤ 99
    → AreSplit count id n rows
split count id n [] chain few = record {
  keys = [];
  rest = [];
  cells = refl;
  after = tt;
  legal = λ k x found. cc;
  few = omega (arith, few);
}
split count id n (r ∷ rs) (place, after, rest) few = elim after.next [
  | inl same ↦
      let is : place ≡ at id (suc n) = λ i. record { member = same.0 i; number = same.1 i } in
      let more = split count id (suc n) rs (subst (λ p. AreKeysAfter count p rs) is rest)
      (subst (λ k. k ≤ 99) same.1 after.number) in
      let member : r.member ≡ pos id = after.member_is ∙ ap pos same.0 in
      let number : r.number ≡ pos (suc n) = after.number_is ∙ ap pos same.1 in
      let head : key_cells r ≡ key_row id (suc n) (string_bytes r.key) = cc in
      let tail = more.cells in
      record {
        keys = string_bytes r.key ∷ more.keys;
        rest = more.rest;
        cells = λ i. head i ∷ tail i;
        after = more.after;
        legal = each-cons (λ k. IsTrue (is_member_key k)) (string_bytes r.key) more.keys after.valid more.legal;
        few = omega (arith, more.few);
      }
  | inr later ↦ record {
    keys = [];
    rest = r ∷ rs;
    cells = refl;
    after = (place, next-member count id n place r after later.0 later.1, rest);
    legal = λ k x found. cc;
    few = omega (arith, few);
  }
]

-- the members with the keys that the rows show
pub record AreKeyed (id : ℕ) (members : List Member) (rows : List KeyRow) : Type 0 where
  pub keyed : List Member
  pub cells : map key_cells rows ≡ gathered_from rows_of_keys id keyed
  pub same : numbered_from member_row id keyed ≡ numbered_from member_row id members
  pub long : length keyed ≡ length members
  pub names : map (λ m. m.name) keyed ≡ map (λ m. m.name) members
  pub firsts : map (λ m. m.key) keyed ≡ map (λ m. m.key) members
  pub legal : Each IsLegalMember members → Each IsLegalMember keyed

abbrev with-later : Member → List (List ℕ) → Member
with-later m later = record m { later = later }

keyed-from : (count id : ℕ) (ms : List Member) (rows : List KeyRow) → AreKeysAfter count (at id 0) rows
    → suc count ≡ id + length ms → AreKeyed id ms rows
keyed-from count id [] [] chain all = record {
  keyed = [];
  cells = refl;
  same = refl;
  long = refl;
  names = refl;
  firsts = refl;
  legal = λ each. each;
}
keyed-from count id [] (r ∷ rs) (place, after, rest) all =
    let high : suc count ≡ id + 0 = all in
    absurd
    (elim after.next [
      | inl same ↦ omega (arith, same.0, high, after.member)
      | inr later ↦ omega (arith, later.0, high, after.member)
    ])
keyed-from count id (m ∷ ms) rows chain all =
    let parts = split count id 0 rows chain (omega arith) in
    let high : suc count ≡ id + suc (length ms) = all in
    let more = keyed-from count (suc id) ms parts.rest parts.after (omega (arith, high)) in
    let own = with-later m parts.keys in
    record {
      keyed = own ∷ more.keyed;
      cells = parts.cells ∙ ap (λ l. numbered_from (key_row id) 1 parts.keys ++ l) more.cells;
      same = ap (λ l. member_row id m ∷ l) more.same;
      long = ap suc more.long;
      names = ap (λ l. m.name ∷ l) more.names;
      firsts = ap (λ l. m.key ∷ l) more.firsts;
      legal = λ each.
          let one = each 0 m refl in
          each-cons IsLegalMember own more.keyed (record {
            name = one.name;
            key = one.key;
            later = parts.legal;
            later_count = omega (arith, parts.few);
          }) (more.legal (λ k x found. each (suc k) x found));
    }

-- ---- what rows of members' keys are

keys-back : (count id n : ℕ) (ks : List (List ℕ)) (tail : List Row)
    → ((rows : List KeyRow) → map key_cells rows ≡ tail → AreKeysAfter count (at (suc id) 0) rows) → id ≤ count
    → Each (λ k. IsTrue (is_member_key k)) ks → n + length ks ≤ 99 → (rows : List KeyRow)
    → map key_cells rows ≡ numbered_from (key_row id) (suc n) ks ++ tail → AreKeysAfter count (at id n) rows
keys-back count id n [] tail more low legal few rows are = member-before count id n rows (more rows are)
keys-back count id n (k ∷ ks) tail more low legal few [] are = cc
keys-back count id n (k ∷ ks) tail more low legal few (r ∷ rs) are =
    let long : n + suc (length ks) ≤ 99 = few in
    let key : string_bytes r.key ≡ k = cc in (
      at id (suc n),
      record {
        member_is = cc;
        number_is = cc;
        member = low;
        number = omega (arith, long);
        valid = subst (λ t. IsTrue (is_member_key t)) (sym key) (legal 0 k refl);
        next = inl (refl, refl);
      },
      keys-back count id (suc n) ks tail more low (λ i x found. legal (suc i) x found) (omega (arith, long)) rs (cc),
    )

members-back : (count id : ℕ) (ms : List Member) → Each IsLegalMember ms → suc count ≡ id + length ms
    → (rows : List KeyRow) → map key_cells rows ≡ gathered_from rows_of_keys id ms → AreKeysAfter count (at id 0) rows
members-back count id [] legal all [] are = tt
members-back count id [] legal all (r ∷ rs) are = cc
members-back count id (m ∷ ms) legal all rows are =
    let high : suc count ≡ id + suc (length ms) = all in
    let one = legal 0 m refl in
    keys-back count id 0 m.later (gathered_from rows_of_keys (suc id) ms)
    (members-back count (suc id) ms (λ k x found. legal (suc k) x found) (omega (arith, high))) (omega (arith, high))
    one.later (omega (arith, one.later_count)) rows are

-- ---- rows are in order

-- the place comes after the one before
abbrev Beyond : KeyPlace → KeyPlace → Type 0
Beyond before place =
    ((place.member ≡ before.member) × (before.number < place.number)) ⊎ (before.member < place.member)

beyond-then : (a b c : KeyPlace) → Beyond a b → Beyond b c → Beyond a c
beyond-then a b c (inl one) (inl two) = inl (two.0 ∙ one.0, omega (arith, one.1, two.1))
beyond-then a b c (inl one) (inr two) = inr (omega (arith, one.0, two))
beyond-then a b c (inr one) (inl two) = inr (omega (arith, one, two.0))
beyond-then a b c (inr one) (inr two) = inr (omega (arith, one, two))

after-beyond : (count : ℕ) (before place : KeyPlace) (r : KeyRow) → IsKeyAfter count before place r
    → Beyond before place
after-beyond count before place r after = elim after.next [
  | inl same ↦ inl (same.0, omega (arith, same.1))
  | inr later ↦ inr later.0
]

chain-beyond : (count : ℕ) (before : KeyPlace) (rows : List KeyRow) → AreKeysAfter count before rows → (p : ℕ)
    (r : KeyRow) → slice_get rows p ≡ Some r → (place : KeyPlace) × (r.member ≡ pos place.member)
    × (r.number ≡ pos place.number) × Beyond before place
chain-beyond count before [] chain p r found = cc
chain-beyond count before (s ∷ rs) (place, after, rest) zero r found =
    let is : s ≡ r = cc in (
      place,
      subst (λ x. x.member ≡ pos place.member) is after.member_is,
      subst (λ x. x.number ≡ pos place.number) is after.number_is,
      after-beyond count before place s after,
    )
chain-beyond count before (s ∷ rs) (place, after, rest) (suc p) r found =
    let (there, member, number, beyond) = chain-beyond count place rs rest p r found in
    (there, member, number, beyond-then before place there (after-beyond count before place s after) beyond)

apart-head : (a b : KeyPlace) → Beyond a b → pos a.member ≡ pos b.member → pos a.number ≡ pos b.number → ⊥
apart-head a b beyond member number =
    let one : a.member ≡ b.member = cc in
    let two : a.number ≡ b.number = cc in
    elim beyond [
      | inl same ↦ omega (arith, same.1, two)
      | inr later ↦ omega (arith, later, one)
    ]

-- no two rows have one place
chain-once : (count : ℕ) (before : KeyPlace) (rows : List KeyRow) → AreKeysAfter count before rows → (p q : ℕ)
    (r s : KeyRow) → slice_get rows p ≡ Some r → slice_get rows q ≡ Some s → r.member ≡ s.member
    → r.number ≡ s.number → p ≡ q
chain-once count before [] chain p q r s one two member number = cc
chain-once count before (x ∷ rs) (place, after, rest) zero zero r s one two member number = refl
chain-once count before (x ∷ rs) (place, after, rest) zero (suc q) r s one two member number =
    let (there, its, own, beyond) = chain-beyond count place rs rest q s two in
    let is : x ≡ r = cc in
    absurd
    (apart-head place there beyond (sym after.member_is ∙ (ap (λ y. y.member) is ∙ (member ∙ its)))
    (sym after.number_is ∙ (ap (λ y. y.number) is ∙ (number ∙ own))))
chain-once count before (x ∷ rs) (place, after, rest) (suc p) zero r s one two member number =
    let (there, its, own, beyond) = chain-beyond count place rs rest p r one in
    let is : x ≡ s = cc in
    absurd
    (apart-head place there beyond (sym after.member_is ∙ (ap (λ y. y.member) is ∙ (sym member ∙ its)))
    (sym after.number_is ∙ (ap (λ y. y.number) is ∙ (sym number ∙ own))))
chain-once count before (x ∷ rs) (place, after, rest) (suc p) (suc q) r s one two member number =
    ap suc (chain-once count place rs rest p q r s one two member number)

-- ---- lists in two parts

get-right : {A : Type 0} (xs ys : List A) (p : ℕ) (y : A) → slice_get ys p ≡ Some y
    → slice_get (xs ++ ys) (length xs + p) ≡ Some y
get-right [] ys p y found =
    let same : 0 + p ≡ p = omega arith in subst (λ n. slice_get ys n ≡ Some y) (sym same) found
get-right (x ∷ xs) ys p y found =
    let same : suc (length xs) + p ≡ suc (length xs + p) = omega arith in
    subst (λ n. slice_get (x ∷ (xs ++ ys)) n ≡ Some y) (sym same) (get-right xs ys p y found)

got-either : {A : Type 0} (xs ys : List A) (q : ℕ) (x : A) → slice_get (xs ++ ys) q ≡ Some x
    → ((q < length xs) × (slice_get xs q ≡ Some x)) ⊎ ((p : ℕ) × (q ≡ length xs + p) × (slice_get ys p ≡ Some x))
got-either [] ys q x found = inr (q, omega arith, found)
got-either (z ∷ xs) ys zero x found = inl (omega arith, found)
got-either (z ∷ xs) ys (suc q) x found = elim (got-either xs ys q x found) [
  | inl first ↦ inl (omega (arith, first.0), first.1)
  | inr later ↦ inr (later.0, omega (arith, later.1), later.2)
]

-- the key of a row among all keys
pub first-text : (members : List MemberRow) (keys : List KeyRow) (k : ℕ) (r : MemberRow)
    → slice_get members k ≡ Some r → slice_get (all_keys members keys) k ≡ Some (string_bytes r.key)
first-text members keys k r found =
    get-append (map (λ (x : MemberRow). string_bytes x.key) members) (map (λ (x : KeyRow). string_bytes x.key) keys) k
    (string_bytes r.key) (map-at (λ (x : MemberRow). string_bytes x.key) members k r found)

pub later-text : (members : List MemberRow) (keys : List KeyRow) (k : ℕ) (r : KeyRow) → slice_get keys k ≡ Some r
    → slice_get (all_keys members keys) (length members + k) ≡ Some (string_bytes r.key)
later-text members keys k r found =
    let firsts = map (λ (x : MemberRow). string_bytes x.key) members in
    let long : length firsts ≡ length members = length-map members (λ (x : MemberRow). string_bytes x.key) in
    subst (λ n. slice_get (all_keys members keys) (n + k) ≡ Some (string_bytes r.key)) long
    (get-right firsts (map (λ (x : KeyRow). string_bytes x.key) keys) k (string_bytes r.key)
    (map-at (λ (x : KeyRow). string_bytes x.key) keys k r found))

pub texts-long : (members : List MemberRow) (keys : List KeyRow)
    → length (all_keys members keys) ≡ length members + length keys
texts-long members keys =
    let firsts = map (λ (x : MemberRow). string_bytes x.key) members in
    let laters = map (λ (x : KeyRow). string_bytes x.key) keys in
    let long : length firsts ≡ length members = length-map members (λ (x : MemberRow). string_bytes x.key) in
    let more : length laters ≡ length keys = length-map keys (λ (x : KeyRow). string_bytes x.key) in
    let both : length (firsts ++ laters) ≡ length firsts + length laters = simp length-append in
    omega (arith, both, long, more)

-- as many keys behind the first ones, and one more
pub kept-later : (all : List (List ℕ)) (count k : ℕ) (has : Bor (List ℕ) → Bool)
    → AreKept some_text lent all (count + k + 1) has → AreKept some_text lent all (count + (k + 1)) has
kept-later all count k has =
    let next : count + k + 1 ≡ count + (k + 1) = omega arith in subst (λ i. AreKept some_text lent all i has) next

-- ---- each key among all

numbered-had : (id c : ℕ) (ks : List (List ℕ)) (z : Row) → Has (numbered_from (key_row id) c ks) z → (b : ℕ)
    × (k : List ℕ) × (slice_get ks b ≡ Some k) × (z ≡ key_row id (c + b) k)
numbered-had id c [] z h = absurd h
numbered-had id c (k ∷ ks) z (inl is) =
    let same : c ≡ c + 0 = omega arith in
    (0, k, refl, is ∙ ap (λ n. key_row id n k) same)
numbered-had id c (k ∷ ks) z (inr h) =
    let (b, x, found, is) = numbered-had id (suc c) ks z h in
    let same : suc c + b ≡ c + suc b = omega arith in
    (suc b, x, found, is ∙ ap (λ n. key_row id n x) same)

numbered-has : (id c : ℕ) (ks : List (List ℕ)) (b : ℕ) (k : List ℕ) → slice_get ks b ≡ Some k
    → Has (numbered_from (key_row id) c ks) (key_row id (c + b) k)
numbered-has id c [] b k found = cc
numbered-has id c (x ∷ ks) zero k found =
    let same : c + 0 ≡ c = omega arith in
    let is : x ≡ k = cc in
    inl (λ i. key_row id (same i) (sym is i))
numbered-has id c (x ∷ ks) (suc b) k found =
    let same : suc c + b ≡ c + suc b = omega arith in
    inr (subst (λ n. Has (numbered_from (key_row id) (suc c) ks) (key_row id n k)) same
    (numbered-has id (suc c) ks b k found))

-- the row of a key has the key's place
row-told : (i b : ℕ) (k : List ℕ) (r : KeyRow) → key_cells r ≡ key_row i b k → (r.member ≡ pos i) × (r.number ≡ pos b)
    × (string_bytes r.key ≡ k)
row-told i b k r is = (cc, cc, cc)

module _ (members : List MemberRow) (keys : List KeyRow) (ms : List Member)
    (people : map member_cells members ≡ numbered_from member_row 1 ms)
    (rows_are : map key_cells keys ≡ gathered_from rows_of_keys 1 ms) where
  abbrev texts : List (List ℕ)
  texts = map (λ (r : MemberRow). string_bytes r.key) members

  abbrev later_texts : List (List ℕ)
  later_texts = map (λ (r : KeyRow). string_bytes r.key) keys

  -- the text at a place is the first key of a member, or a later one
  abbrev pub IsTextOf : (i a q : ℕ) → Type 0
  IsTextOf i a q = ((a ≡ 0) × (q ≡ i) × (q < length texts))
      ⊎ ((b p : ℕ) × (r : KeyRow) × (a ≡ suc b) × (q ≡ length texts + p) × (slice_get keys p ≡ Some r)
      × (r.member ≡ pos (1 + i)) × (r.number ≡ pos (1 + b)))

  abbrev IsKeyOf : (i a : ℕ) → List ℕ → Type 0
  IsKeyOf i a k = (m : Member) × (slice_get ms i ≡ Some m) × (slice_get (keys_of m) a ≡ Some k)

  -- each key of a member stands among the texts
  key-place : (i a : ℕ) (k : List ℕ) → IsKeyOf i a k → (q : ℕ) × (slice_get (all_keys members keys) q ≡ Some k)
      × IsTextOf i a q
  key-place i zero k (m, found, is) =
      let (r, there, cells) = numbered-back member_cells member_row 1 members ms people i m found in
      let text : string_bytes r.key ≡ k = cc in
      let own : slice_get texts i ≡ Some k =
      map-at (λ (x : MemberRow). string_bytes x.key) members i r there ∙ ap Some text in
      (i, get-append texts later_texts i k own, inl (refl, refl, slice_get_within texts i k own))
  key-place i (suc b) k (m, found, is) =
      let row = key_row (1 + i) (1 + b) k in
      let has = gathered-has rows_of_keys 1 ms i m row found (numbered-has (1 + i) 1 m.later b k is) in
      let (p, there) = had-at (map key_cells keys) row (subst (λ l. Has l row) (sym rows_are) has) in
      let (r, at_row, cells) = map-got key_cells keys p row there in
      let told = row-told (1 + i) (1 + b) k r cells in
      let own : slice_get later_texts p ≡ Some k =
      map-at (λ (x : KeyRow). string_bytes x.key) keys p r at_row ∙ ap Some told.2 in
      (length texts + p, get-right texts later_texts p k own, inr (b, p, r, refl, refl, at_row, told.0, told.1))

  -- each text is a key of a member
  text-place : (q : ℕ) (k : List ℕ) → slice_get (all_keys members keys) q ≡ Some k → (i a : ℕ) × IsKeyOf i a k
      × IsTextOf i a q
  text-place q k found = elim (got-either texts later_texts q k found) [
    | inl first ↦
        let (r, there, text) = map-got (λ (x : MemberRow). string_bytes x.key) members q k first.1 in
        let (m, stands, cells) = numbered-at member_cells member_row 1 members ms people q r there in
        let key : m.key ≡ k = cc in
        (q, 0, (m, stands, ap Some key), inl (refl, refl, first.0))
    | inr later ↦
        let (p, place, at_text) = later in
        let (r, there, text) = map-got (λ (x : KeyRow). string_bytes x.key) keys p k at_text in
        let at_cells = map-at key_cells keys p r there in
        let has : Has (gathered_from rows_of_keys 1 ms) (key_cells r) =
        subst (λ l. Has l (key_cells r)) rows_are (has_got (map key_cells keys) p (key_cells r) at_cells) in
        let (i, m, stands, own) = gathered-had rows_of_keys 1 ms (key_cells r) has in
        let (b, x, at_key, cells) = numbered-had (1 + i) 1 m.later (key_cells r) own in
        let told = row-told (1 + i) (1 + b) x r cells in
        let key : x ≡ k = sym told.2 ∙ text in
        (i, suc b, (m, stands, at_key ∙ ap Some key), inr (b, p, r, refl, place, there, told.0, told.1))
  ]

  one-key : (i j a b q : ℕ) → IsTextOf i a q → IsTextOf j b q → (i ≡ j) × (a ≡ b)
  one-key i j a b q (inl one) (inl two) = (sym one.1 ∙ two.1, one.0 ∙ sym two.0)
  one-key i j a b q (inl one) (inr (c, p, r, key, place, at_row, member, number)) =
      absurd (omega (arith, one.2, place))
  one-key i j a b q (inr (c, p, r, key, place, at_row, member, number)) (inl two) =
      absurd (omega (arith, two.2, place))
  one-key i j a b q (inr (c, p, r, key, place, at_row, member, number))
      (inr (d, o, s, key_2, place_2, at_row_2, member_2, number_2)) =
      let same : p ≡ o = omega (arith, place, place_2) in
      let rows : r ≡ s = cc in
      let members : 1 + i ≡ 1 + j = cc in
      let numbers : 1 + c ≡ 1 + d = cc in
      (omega (arith, members), omega (arith, numbers, key, key_2))

  pub keys-apart : HaveUniqueKeys (λ k. k) (all_keys members keys) → HaveUniqueMemberKeys ms
  keys-apart apart i j a b m n k found stands one two =
      let (q, there, is) = key-place i a k (m, found, one) in
      let (o, here, other) = key-place j b k (n, stands, two) in
      let same : q ≡ o = apart q o k k there here refl in
      one-key i j a b o (subst (IsTextOf i a) same is) other

  one-text : (count : ℕ) (before : KeyPlace) → AreKeysAfter count before keys → (i j a b q o : ℕ) → IsTextOf i a q
      → IsTextOf j b o → i ≡ j → a ≡ b → q ≡ o
  one-text count before chain i j a b q o (inl one) (inl two) same also = one.1 ∙ (same ∙ sym two.1)
  one-text count before chain i j a b q o (inl one) (inr (c, p, r, key, place, at_row, member, number)) same also =
      absurd (omega (arith, one.0, key, also))
  one-text count before chain i j a b q o (inr (c, p, r, key, place, at_row, member, number)) (inl two) same also =
      absurd (omega (arith, two.0, key, also))
  one-text count before chain i j a b q o (inr (c, p, r, key, place, at_row, member, number))
      (inr (d, e, s, key_2, place_2, at_row_2, member_2, number_2)) same also =
      let numbers : c ≡ d = omega (arith, key, key_2, also) in
      let places : p ≡ e = chain-once count before keys chain p e r s at_row at_row_2
      (member ∙ (ap (λ n. pos (1 + n)) same ∙ sym member_2))
      (number ∙ (ap (λ n. pos (1 + n)) numbers ∙ sym number_2)) in
      place ∙ (ap (λ n. length texts + n) places ∙ sym place_2)

  pub texts-apart : (count : ℕ) (before : KeyPlace) → AreKeysAfter count before keys → HaveUniqueMemberKeys ms
      → HaveUniqueKeys (λ k. k) (all_keys members keys)
  texts-apart count before chain apart q o k l found stands same =
      let (i, a, one, is) = text-place q k found in
      let (j, b, two, other) = text-place o l stands in
      let own = apart i j a b one.0 two.0 k one.1 two.1 one.2 (two.2 ∙ ap Some (sym same)) in
      one-text count before chain i j a b q o is other own.0 own.1

-- ---- the rows of later keys

pub parts-apart : {A B : Type 0} (part : A → B) (xs ys : List A) → map part ys ≡ map part xs → HaveUniqueKeys part xs
    → HaveUniqueKeys part ys
parts-apart part xs ys same apart i j x y one two is =
    let (a, at_a, part_a) = map-got part xs i (part x) (sym (ap (λ l. slice_get l i) same) ∙ map-at part ys i x one) in
    let (b, at_b, part_b) = map-got part xs j (part y) (sym (ap (λ l. slice_get l j) same) ∙ map-at part ys j y two) in
    apart i j a b at_a at_b (part_a ∙ (is ∙ sym part_b))

-- rows in order with different keys are those of the later keys of members with these rows
pub keyed-of : (ms : List Member) (members : List MemberRow) (keys : List KeyRow) → AreMembers ms members
    → AreKeysAfter (length members) no_key keys → HaveUniqueKeys (λ k. k) (all_keys members keys)
    → (keyed : List Member) × AreMembers keyed members × AreKeysOf keyed keys
keyed-of ms members keys are chain apart =
    let count : length members ≡ length ms = numbered-length member_cells member_row 1 members ms are.rows_are in
    let made = keyed-from (length members) 1 ms keys chain (omega (arith, count)) in
    let people = are.rows_are ∙ sym made.same in (
      made.keyed,
      record {
        rows_are = people;
        legal = made.legal are.legal;
        count = omega (arith, made.long, are.count);
        names = parts-apart (λ m. m.name) ms made.keyed made.names are.names;
        keys = parts-apart (λ m. m.key) ms made.keyed made.firsts are.keys;
      },
      record { rows_are = made.cells; apart = keys-apart members keys made.keyed people made.cells apart },
    )

-- the rows of later keys are in order
pub keys-in-order : (ms : List Member) (members : List MemberRow) (keys : List KeyRow) → AreMembers ms members
    → AreKeysOf ms keys → AreKeysAfter (length members) no_key keys
keys-in-order ms members keys are own =
    let count : length members ≡ length ms = numbered-length member_cells member_row 1 members ms are.rows_are in
    members-back (length members) 1 ms are.legal (omega (arith, count)) keys own.rows_are

-- and no two keys are the same
pub keys-differ : (ms : List Member) (members : List MemberRow) (keys : List KeyRow) → AreMembers ms members
    → AreKeysOf ms keys → HaveUniqueKeys (λ k. k) (all_keys members keys)
keys-differ ms members keys are own =
    texts-apart members keys ms are.rows_are own.rows_are (length members) no_key
    (keys-in-order ms members keys are own) own.apart

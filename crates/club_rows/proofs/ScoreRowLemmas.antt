-- The rows of scores: which there are, by what they are told apart, and what one more ended game makes of them.
use Rattle.std.proofs.Common.{◌≡◌, ℕ, zero, suc, List, [], ◌∷◌, ◌++◌, map, true, not, ◌⊎◌, inl, inr, Some, pos, refl}
use Rattle.std.proofs.Common.{ap, sym, subst, ◌∙◌, true≢false, append_assoc}
use Rattle.std.specs.Prelude.{filter, slice_get, slice_set}
use Rattle.std.specs.List.{flat_map, list_any}
use Rattle.std.proofs.lemmas.Bool.{cases_Bool, and_parts, and_from}
use Rattle.std.proofs.lemmas.Bool.Decides.{Decides-int_eq}
use Rattle.std.proofs.lemmas.Grind.{flat_map-append}
use Rattle.std.proofs.lemmas.List.{append-nil, map-append}
use Rattle.std.proofs.lemmas.List.Elements.{filter-append}
use Rattle.sqlite_value.specs.declared.value.Value.TheVariants.{Int}
use Rattle.sqlite.specs.Order.{Row}
use Rattle.sqlite_value.specs.Keys.{first_key}
use Rattle.sqlite_rules.specs.Lists.{Has}
use Rattle.sqlite_rules.proofs.ListLemmas.{has_filtered, has_kept, has_either, has_left, has_right, some_has, some_from}
use Rattle.store_tables.specs.Content.{same_key}
use Rattle.store_tables.specs.internal.Changes.{Alters}
use Rattle.store_tables.proofs.Proved.{equal_ints, has_map, has_mapped}
use Rattle.club_rows.specs.Scores.{Meeting, same_pair, scores_of, once_each, score_row, score_rows, wins, draws, losses}
use Rattle.club_rows.specs.Scores.{points}
use Rattle.club_rows.specs.declared.scores.Pair.{Pair}
use Rattle.club_rows.proofs.KeyPairs.{itself}

abbrev pub pair_key : List ℕ
pair_key = 0 ∷ 1 ∷ 2 ∷ []

-- ---- pairs

pub pair_same : (p q : Pair) → same_pair p q ≡ true → p ≡ q
pair_same p q same =
    let parts = and_parts _ _ same in
    let rest = and_parts _ _ parts.1 in
    λ i. record {
      event = (Decides-int_eq p.event q.event).0 parts.0 i;
      member = (Decides-int_eq p.member q.member).0 rest.0 i;
      opponent = (Decides-int_eq p.opponent q.opponent).0 rest.1 i;
    }

pub pair_itself : (p : Pair) → same_pair p p ≡ true
pair_itself p = and_from _ _ ((Decides-int_eq p.event p.event).1 refl)
    (and_from _ _ ((Decides-int_eq p.member p.member).1 refl) ((Decides-int_eq p.opponent p.opponent).1 refl))

pub once_had : (ps : List Pair) (p : Pair) → Has (once_each ps) p → Has ps p
once_had [] p h = absurd h
once_had (q ∷ ps) p (inl is) = inl is
once_had (q ∷ ps) p (inr h) = inr (once_had ps p (has_filtered (λ other. not (same_pair other q)) (once_each ps) p h).0)

pub once_has : (ps : List Pair) (p : Pair) → Has ps p → Has (once_each ps) p
once_has [] p h = absurd h
once_has (q ∷ ps) p (inl is) = inl is
once_has (q ∷ ps) p (inr h) = elim (cases_Bool (same_pair p q)) [
  | inl same ↦ inl (pair_same p q same)
  | inr other ↦ inr (has_kept (λ other. not (same_pair other q)) (once_each ps) p (once_has ps p h) (ap not other))
]

pub mapped_had : {A B : Type 0} (f : A → B) (xs : List A) (y : B) → Has (map f xs) y → (x : A) × Has xs x × (y ≡ f x)
mapped_had = has_mapped

pub mapped_has : {A B : Type 0} (f : A → B) (xs : List A) (x : A) → Has xs x → Has (map f xs) (f x)
mapped_has = has_map

-- ---- keys

-- rows that begin with pairs have the same key where the pairs are one
pub keys_same : (p q : Pair) (xs ys : Row)
    → same_key pair_key (Int p.event ∷ Int p.member ∷ Int p.opponent ∷ xs)
    (Int q.event ∷ Int q.member ∷ Int q.opponent ∷ ys) ≡ true → p ≡ q
unfolding first_key
keys_same p q xs ys same =
    let parts = and_parts _ _ same in
    let rest = and_parts _ _ parts.1 in
    let last = and_parts _ _ rest.1 in
    λ i. record {
      event = equal_ints p.event q.event parts.0 i;
      member = equal_ints p.member q.member rest.0 i;
      opponent = equal_ints p.opponent q.opponent last.0 i;
    }

pub keys_agree : (p : Pair) (xs ys : Row)
    → same_key pair_key (Int p.event ∷ Int p.member ∷ Int p.opponent ∷ xs)
    (Int p.event ∷ Int p.member ∷ Int p.opponent ∷ ys) ≡ true
unfolding first_key
keys_agree p xs ys = and_from _ _ (itself (Int p.event) (λ e. cc))
    (and_from _ _ (itself (Int p.member) (λ e. cc)) (and_from _ _ (itself (Int p.opponent) (λ e. cc)) refl))

-- ---- the rows of meetings

abbrev pub pairs_of : List Meeting → List Pair
pairs_of ms = map (λ m. m.pair) ms

abbrev pub row_in : List Meeting → Pair → Row
row_in ms pair = score_row pair (scores_of pair ms)

abbrev pub sums_in : List Meeting → Pair → Row
sums_in ms pair = let ss = scores_of pair ms in
    Int (pos (points ss)) ∷ Int (pos (wins ss)) ∷ Int (pos (draws ss)) ∷ Int (pos (losses ss)) ∷ []

pub rows_had : (ms : List Meeting) (z : Row) → Has (score_rows ms) z → (p : Pair) × Has (pairs_of ms) p
    × (z ≡ row_in ms p)
rows_had ms z h =
    let (p, once, is) = mapped_had (row_in ms) (once_each (pairs_of ms)) z h in
    (p, once_had (pairs_of ms) p once, is)

pub rows_has : (ms : List Meeting) (p : Pair) → Has (pairs_of ms) p → Has (score_rows ms) (row_in ms p)
rows_has ms p h = mapped_has (row_in ms) (once_each (pairs_of ms)) p (once_has (pairs_of ms) p h)

-- one row for a key
pub rows_one : (ms : List Meeting) (x y : Row) → Has (score_rows ms) x → Has (score_rows ms) y
    → same_key pair_key x y ≡ true → x ≡ y
rows_one ms x y h k same =
    let (p, met, x_is) = rows_had ms x h in
    let (q, met_too, y_is) = rows_had ms y k in
    let one : p ≡ q = keys_same p q (sums_in ms p) (sums_in ms q) (rw (x_is, y_is) at same) in
    x_is ∙ (ap (row_in ms) one ∙ sym y_is)

-- ---- more meetings

pub scores_append : (p : Pair) (ms ns : List Meeting) → scores_of p (ms ++ ns) ≡ scores_of p ms ++ scores_of p ns
scores_append p ms ns =
    ap (map (λ (m : Meeting). m.score)) (filter-append (λ (m : Meeting). same_pair m.pair p) ms ns)
    ∙ map-append (λ (m : Meeting). m.score) (filter (λ (m : Meeting). same_pair m.pair p) ms)
    (filter (λ (m : Meeting). same_pair m.pair p) ns)

pub scores_between : (p : Pair) (before new after : List Meeting)
    → scores_of p (before ++ (new ++ after)) ≡ scores_of p before ++ (scores_of p new ++ scores_of p after)
scores_between p before new after = scores_append p before (new ++ after)
    ∙ ap (λ ss. scores_of p before ++ ss) (scores_append p new after)

-- the pair has none of the meetings
pub scores_none : (p : Pair) (ms : List Meeting) → (Has (pairs_of ms) p → ⊥) → scores_of p ms ≡ []
scores_none p [] none = refl
scores_none p (m ∷ ms) none = elim (cases_Bool (same_pair m.pair p)) [
  | inl same ↦ absurd (none (inl (sym (pair_same m.pair p same))))
  | inr other ↦ rw other (scores_none p ms (λ h. none (inr h)))
]

-- new meetings change the rows of their own pairs alone
module _ (before new after : List Meeting) where
  abbrev old_ms : List Meeting
  old_ms = before ++ after

  abbrev all : List Meeting
  all = before ++ (new ++ after)

  old_pairs : pairs_of old_ms ≡ pairs_of before ++ pairs_of after
  old_pairs = map-append (λ (m : Meeting). m.pair) before after

  all_pairs : pairs_of all ≡ pairs_of before ++ (pairs_of new ++ pairs_of after)
  all_pairs = map-append (λ (m : Meeting). m.pair) before (new ++ after)
      ∙ ap (λ ps. pairs_of before ++ ps) (map-append (λ (m : Meeting). m.pair) new after)

  pairs_had : (p : Pair) → Has (pairs_of all) p → Has (pairs_of new) p ⊎ Has (pairs_of old_ms) p
  pairs_had p h = elim (has_either (pairs_of before) (pairs_of new ++ pairs_of after) p (rw all_pairs at h)) [
    | inl early ↦ inr (rw old_pairs (has_left (pairs_of before) (pairs_of after) p early))
    | inr later ↦ elim (has_either (pairs_of new) (pairs_of after) p later) [
      | inl now ↦ inl now
      | inr late ↦ inr (rw old_pairs (has_right (pairs_of before) (pairs_of after) p late))
    ]
  ]

  old_among : (p : Pair) → Has (pairs_of old_ms) p → Has (pairs_of all) p
  old_among p h = rw all_pairs (elim (has_either (pairs_of before) (pairs_of after) p (rw old_pairs at h)) [
    | inl early ↦ has_left (pairs_of before) (pairs_of new ++ pairs_of after) p early
    | inr late ↦ has_right (pairs_of before) (pairs_of new ++ pairs_of after) p
        (has_right (pairs_of new) (pairs_of after) p late)
  ])

  row_stays : (p : Pair) → (Has (pairs_of new) p → ⊥) → row_in all p ≡ row_in old_ms p
  row_stays p none =
      ap (score_row p) (scores_between p before new after
      ∙ (ap (λ ss. scores_of p before ++ (ss ++ scores_of p after)) (scores_none p new none)
      ∙ sym (scores_append p before after)))

  among : (p : Pair) (ps : List Pair) → Has ps p ⊎ (Has ps p → ⊥)
  among p ps = elim (cases_Bool (list_any (same_pair p) ps)) [
    | inl has ↦ let (q, there, same) = some_has (same_pair p) ps has in inl (rw (pair_same p q same) there)
    | inr none ↦ inr (λ h. true≢false (sym (some_from (same_pair p) ps p h (pair_itself p)) ∙ none))
  ]

  -- the rows of the new meetings' pairs, put, make the rows of all meetings of the old
  pub rows_alter : Alters pair_key (map (row_in all) (pairs_of new)) (score_rows old_ms) (score_rows all)
  rows_alter = record {
    among = λ z h. let (p, has, is) = mapped_had (row_in all) (pairs_of new) z h in
        rw is
        (rows_has all p (rw all_pairs (has_right (pairs_of before) (pairs_of new ++ pairs_of after) p
        (has_left (pairs_of new) (pairs_of after) p has))));
    from = λ z h.
        let (p, has, is) = rows_had all z h in
        elim (among p (pairs_of new)) [
          | inl now ↦ inr (rw is (mapped_has (row_in all) (pairs_of new) p now))
          | inr none ↦ elim (pairs_had p has) [
            | inl now ↦ absurd (none now)
            | inr was ↦ inl (rw (is ∙ row_stays p none) (rows_has old_ms p was))
          ]
        ];
    stays = λ z h.
        let (p, has, is) = rows_had old_ms z h in
        elim (among p (pairs_of new)) [
          | inl now ↦
              inr (
                row_in all p,
                mapped_has (row_in all) (pairs_of new) p now,
                subst (λ x. same_key pair_key x (row_in all p) ≡ true) (sym is)
                    (keys_agree p (sums_in old_ms p) (sums_in all p)),
              )
          | inr none ↦ inl (rw (is ∙ sym (row_stays p none)) (rows_has all p (old_among p has)))
        ];
    one = rows_one all;
  }

-- other meetings of the same pairs change the rows of these pairs alone
pub rows_instead : (before old new after : List Meeting) → pairs_of old ≡ pairs_of new
    → Alters pair_key (map (row_in (before ++ (new ++ after))) (pairs_of new)) (score_rows (before ++ (old ++ after)))
    (score_rows (before ++ (new ++ after)))
rows_instead before old new after same =
    let was : List Meeting = before ++ (old ++ after) in
    let now : List Meeting = before ++ (new ++ after) in
    let pairs : pairs_of now ≡ pairs_of was =
    all_pairs before new after
    ∙ (ap (λ ps. pairs_of before ++ (ps ++ pairs_of after)) (sym same) ∙ sym (all_pairs before old after)) in
    let stay : (p : Pair) → (Has (pairs_of new) p → ⊥) → row_in now p ≡ row_in was p = λ p none.
    row_stays before new after p none
    ∙ sym (row_stays before old after p (λ h. none (subst (λ ps. Has ps p) same h))) in
    record {
      among = (rows_alter before new after).among;
      from = λ z h.
          let (p, has, is) = rows_had now z h in
          elim (among before new after p (pairs_of new)) [
            | inl there ↦ inr (rw is (mapped_has (row_in now) (pairs_of new) p there))
            | inr none ↦ inl (rw (is ∙ stay p none) (rows_has was p (subst (λ ps. Has ps p) pairs has)))
          ];
      stays = λ z h.
          let (p, has, is) = rows_had was z h in
          elim (among before new after p (pairs_of new)) [
            | inl there ↦
                inr (
                  row_in now p,
                  mapped_has (row_in now) (pairs_of new) p there,
                  subst (λ x. same_key pair_key x (row_in now p) ≡ true) (sym is)
                      (keys_agree p (sums_in was p) (sums_in now p)),
                )
            | inr none ↦ inl (rw (is ∙ sym (stay p none)) (rows_has now p (subst (λ ps. Has ps p) (sym pairs) has)))
          ];
      one = rows_one now;
    }

-- ---- the meetings of lists of games

module _ {A : Type 0} (meetings_in : A → List Meeting) where
  -- where a game with no meeting stands, the new game's come between those before and those after
  pub met_between : (games : List A) (n : ℕ) (old new : A) → slice_get games n ≡ Some old → meetings_in old ≡ []
      → (before : List Meeting) × (after : List Meeting) × (flat_map meetings_in games ≡ before ++ after)
      × (flat_map meetings_in (slice_set games n new) ≡ before ++ (meetings_in new ++ after))
  met_between [] n old new at none = cc
  met_between (g ∷ games) zero old new at none =
      let same : g ≡ old = cc in
      ([], flat_map meetings_in games, ap (λ ms. ms ++ flat_map meetings_in games) (ap meetings_in same ∙ none), refl)
  met_between (g ∷ games) (suc n) old new at none =
      let (before, after, was, is) = met_between games n old new at none in (
        meetings_in g ++ before,
        after,
        ap (λ ms. meetings_in g ++ ms) was ∙ sym (append_assoc (meetings_in g) before after),
        ap (λ ms. meetings_in g ++ ms) is ∙ sym (append_assoc (meetings_in g) before (meetings_in new ++ after)),
      )

  -- where a game stands, the new one's meetings come in the place of its own
  pub met_instead : (games : List A) (n : ℕ) (old new : A) → slice_get games n ≡ Some old
      → (before : List Meeting) × (after : List Meeting)
      × (flat_map meetings_in games ≡ before ++ (meetings_in old ++ after))
      × (flat_map meetings_in (slice_set games n new) ≡ before ++ (meetings_in new ++ after))
  met_instead [] n old new at = cc
  met_instead (g ∷ games) zero old new at =
      let same : g ≡ old = cc in
      ([], flat_map meetings_in games, ap (λ ms. ms ++ flat_map meetings_in games) (ap meetings_in same), refl)
  met_instead (g ∷ games) (suc n) old new at =
      let (before, after, was, is) = met_instead games n old new at in (
        meetings_in g ++ before,
        after,
        ap (λ ms. meetings_in g ++ ms) was ∙ sym (append_assoc (meetings_in g) before (meetings_in old ++ after)),
        ap (λ ms. meetings_in g ++ ms) is ∙ sym (append_assoc (meetings_in g) before (meetings_in new ++ after)),
      )

  pub met_alike : (games : List A) (n : ℕ) (old new : A) → slice_get games n ≡ Some old
      → meetings_in new ≡ meetings_in old → flat_map meetings_in (slice_set games n new) ≡ flat_map meetings_in games
  met_alike [] n old new at same = cc
  met_alike (g ∷ games) zero old new at same = let here : g ≡ old = cc in
      ap (λ ms. ms ++ flat_map meetings_in games) (same ∙ ap meetings_in (sym here))
  met_alike (g ∷ games) (suc n) old new at same = ap (λ ms. meetings_in g ++ ms) (met_alike games n old new at same)

  pub met_last : (games : List A) (new : A)
      → flat_map meetings_in (games ++ new ∷ []) ≡ flat_map meetings_in games ++ meetings_in new
  met_last games new = flat_map-append meetings_in games (new ∷ [])
      ∙ ap (λ ms. flat_map meetings_in games ++ ms) (append-nil (meetings_in new))

-- The cross table of an event, by the rows that are found for it.
use Rattle.std.proofs.Common.{◌≡◌, ℕ, zero, suc, ◌+◌, List, [], ◌∷◌, length, map, Option, Some, None, true, refl}
use Rattle.std.proofs.Common.{ap, sym, ◌∙◌, arith, true≢false, ◌≤◌}
use Rattle.std.proofs.lemmas.Option.{same_Some}
use Rattle.std.specs.Prelude.{filter, slice_get, Result, Ok, Err, IfOk}
use Rattle.std.specs.List.{AllByRecursion}
use Rattle.std.specs.Cmp.{tied_itself}
use Rattle.std.proofs.lemmas.Bool.{and_parts, and_from}
use Rattle.std.proofs.lemmas.Map.Lookups.{exact_bytes}
use Rattle.sqlite.specs.declared.types.Value.TheVariants.{Null, Text}
use Rattle.sqlite.specs.Order.{Row}
use Rattle.sqlite_value.specs.Keys.{first_key}
use Rattle.sqlite_value.proofs.OrderLemmas.{value_cmp_total, value_cmp-Text}
use Rattle.sqlite_trees.specs.Tree.{IsAscending}
use Rattle.sqlite_rules.specs.Lists.{Has}
use Rattle.sqlite_rules.proofs.ListLemmas.{all_has, has_filtered, has_got, has_kept}
use Rattle.sqlite_trees.proofs.ListLemmas.{ascending-filter}
use Rattle.club_core.specs.Events.{Event, has_event_name}
use Rattle.club_core.specs.Members.{find_id}
use Rattle.club_laws.proofs.Proved.{bytes_eq-same, same-bytes_eq, find_id-found, find_id-none}
use Rattle.club_rows.specs.Club.{ClubState, IsClub, tables}
use Rattle.club_rows.specs.Tables.{number, event_row}
use Rattle.club_rows.proofs.Proved.{mapped_had, mapped_has}
use Rattle.cross_tables.specs.declared.sums.OpponentScore.{OpponentScore}
use Rattle.cross_tables.proofs.Proved.{only-one}
use Rattle.store_tables.specs.Content.{same_key}
use Rattle.store_tables.specs.internal.Contents.{AreThose}
use Rattle.store_tables.proofs.Proved.{equal_cmp, equal_from}
use Rattle.club_answers.proofs.OneOrder.{one_order}
use Rattle.club_answers.specs.CrossTable.{scored_row, AreScoresIn, AreTableRows, ComesBefore, IsCrossTable}
use Rattle.club_answers.specs.CrossTable.{has_counted}
use Rattle.club_changes.proofs.Proved.{numbered_had, numbered_has, ids_agree, place_at}

-- ---- the event of a name

abbrev asked : List ℕ → Row
asked name = Null ∷ Text name ∷ []

name_same : (id : ℕ) (e : Event) (name : List ℕ) → same_key (1 ∷ []) (event_row id e) (asked name) ≡ true
    → e.name ≡ name
unfolding first_key
name_same id e name same = exact_bytes e.name name
    (sym (value_cmp-Text e.name name) ∙ equal_cmp (Text e.name) (Text name) (and_parts _ true same).0)

name_alike : (id : ℕ) (e : Event) (name : List ℕ) → e.name ≡ name
    → same_key (1 ∷ []) (event_row id e) (asked name) ≡ true
unfolding first_key
name_alike id e name is = rw (← is)
    (and_from _ true (equal_from (Text e.name) (Text e.name) refl refl (tied_itself value_cmp_total (Text e.name)))
    refl)

module _ (s : ClubState) (is_club : IsClub s) (name : List ℕ) where
  found_with : (n : ℕ) (e : Event) (o : Option ℕ) → slice_get s.events n ≡ Some e → e.name ≡ name
      → find_id (has_event_name name) s.events ≡ o → Some (1 + n) ≡ o
  found_with n e None at named is = absurd
      (true≢false (sym (bytes_eq-same e.name name named) ∙ find_id-none (has_event_name name) s.events is n e at))
  found_with n e (Some id) at named is =
      let (x, stands, passes) = find_id-found (has_event_name name) s.events id is in
      let (k, id_is, there) = place_at s.events id x stands in
      let same : k ≡ n = is_club.event_names k n x e there at (same-bytes_eq x.name name passes ∙ sym named) in
      ap Some (omega (arith, id_is, same))

  -- a row that is found has the event's id
  pub event_some : (found : List Row) (z : Row) (id : ℕ) → AreThose (1 ∷ []) (asked name) (tables s 4) found
      → Has found z → ((n : ℕ) (e : Event) → z ≡ event_row n e → id ≡ n)
      → Some id ≡ find_id (has_event_name name) s.events
  event_some found z id those has tells =
      let those_z = those.sound z has in
      let (n, e, at, is) = numbered_had event_row 1 s.events z those_z.0 in
      let named = name_same (1 + n) e name (rw is at those_z.1) in
      ap Some (tells (1 + n) e is) ∙ found_with n e (find_id (has_event_name name) s.events) at named refl

  -- where none is found, no event has the name
  pub event_none : (found : List Row) (o : Option ℕ) → AreThose (1 ∷ []) (asked name) (tables s 4) found → found ≡ []
      → find_id (has_event_name name) s.events ≡ o → ◌≡◌ {A = Option ℕ} None o
  event_none found None those none is = refl
  event_none found (Some id) those none is =
      let (x, stands, passes) = find_id-found (has_event_name name) s.events id is in
      let (k, id_is, there) = place_at s.events id x stands in
      absurd
      (rw none at (those.complete (event_row (1 + k) x) (numbered_has event_row 1 s.events k x there)
      (name_alike (1 + k) x name (same-bytes_eq x.name name passes))))

-- ---- scores in their order

-- what comes after the last one comes after all
pub after_last : (scores : List OpponentScore) (n : ℕ) (last next : OpponentScore) → length scores ≤ n + 1
    → slice_get scores n ≡ Some last → ComesBefore last next → IsAscending ComesBefore scores
    → AllByRecursion (λ scored. ComesBefore scored next) scores
after_last [] n last next count at before up = tt
after_last (x ∷ []) zero last next count at before up = (rw (same_Some x last at) before, tt)
after_last (x ∷ y ∷ rest) zero last next count at before up = absurd (omega (arith, count))
after_last (x ∷ rest) (suc n) last next count at before up =
    let below = all_has (ComesBefore x) rest last up.0 (has_got rest n last at) in
    (grind (arith, below, before), after_last rest n last next (omega (arith, count)) at before up.1)

one_way : (x y : OpponentScore) → ComesBefore x y → ComesBefore y x → ⊥
one_way x y below above = grind (arith, below, above)

-- ---- the scores of an event

pub scores_are : (s : ClubState) (event : ℕ) (scores : List OpponentScore)
    → AreThose (0 ∷ []) (number event ∷ []) (tables s 14) (map (scored_row event) scores)
    → IsAscending ComesBefore scores → AreScoresIn s event (filter has_counted scores)
scores_are s event scores those up = record {
  there = λ x has.
      let (had, counts) = has_filtered has_counted scores x has in
      ((those.sound (scored_row event x) (mapped_has (scored_row event) scores x had)).0, counts);
  back = λ x has counts.
      let (y, had, is) = mapped_had (scored_row event) scores (scored_row event x)
      (those.complete (scored_row event x) has (ids_agree (scored_row event x) (number event ∷ []) event refl refl)) in
      let same : x ≡ y = grind (arith, is) in
      has_kept has_counted scores x (rw same had) counts;
  order = ascending-filter ComesBefore has_counted scores up;
}

-- what two facts of an answer tell together
pub both_ok : {T E : Type 0} {P Q R : T → Type 0} (r : Result T E) → IfOk r P → IfOk r Q → ((x : T) → P x → Q x → R x)
    → IfOk r R
both_ok (Ok x) p q f = f x p q
both_ok (Err e) p q f = tt

-- there are no others
pub scores_one : (s : ClubState) (event : ℕ) (scores others : List OpponentScore) → AreScoresIn s event scores
    → AreScoresIn s event others → scores ≡ others
scores_one s event scores others one two =
    one_order ComesBefore one_way scores others one.order two.order
    (λ x h. let it = one.there x h in two.back x it.0 it.1) (λ x h. let it = two.there x h in one.back x it.0 it.1)

-- ---- one table

lines_one : (s : ClubState) (event : ℕ) (name : List ℕ) (lines others : List (List ℕ)) → IsCrossTable s event name lines
    → IsCrossTable s event name others → lines ≡ others
lines_one s event name lines others one two =
    let scores : one.scores ≡ two.scores =
    scores_one s event one.scores two.scores one.scores_are two.scores_are in
    let standings : one.standings ≡ two.standings =
    only-one one.standings two.standings two.scores (rw scores at one.totals) two.totals
    one.ranked two.ranked in
    rw (one.lines_are, two.lines_are, scores, standings) refl

-- what is told of the event of a name is all that there is to tell
pub table_one : (s : ClubState) (name : List ℕ) (found : Option (List (List ℕ))) (lines : List (List ℕ))
    → AreTableRows s name found → AreTableRows s name (Some lines) → found ≡ Some lines
table_one s name None lines none (event, at, table) = let e = sym none ∙ at in cc
table_one s name (Some own) lines (first, at, own_table) (event, also, table) =
    ap Some (lines_one s event name own lines (rw (same_Some first event (sym at ∙ also)) at own_table) table)

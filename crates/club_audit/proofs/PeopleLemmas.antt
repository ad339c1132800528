-- The members and the events that rows show.
use Rattle.std.proofs.Common.{◌≡◌, ◌≢◌, ℕ, suc, pos, ◌+◌, ◌≤◌, List, [], ◌∷◌, length, map, Bool, Some, ap, sym, false}
use Rattle.std.proofs.Common.{refl, subst, ◌∙◌, arith, inl, inr}
use Rattle.std.specs.Prelude.{ℤ, None, slice_get, string_bytes}
use Rattle.std.proofs.lemmas.Bool.{cases_eq}
use Rattle.sqlite.specs.Order.{Row}
use Rattle.sqlite_value.specs.declared.value.Value.TheVariants.{Int, Text}
use Rattle.club_rules.specs.declared.names.GameKind.{GameKind}
use Rattle.club_core.specs.Members.{Member}
use Rattle.club_core.specs.Events.{Event}
use Rattle.club_core.specs.LegalState.{HaveUniqueKeys, Each, IsLegalMember, IsLegalEvent}
use Rattle.store_tables.specs.Cells.{event_cells}
use Rattle.store_tables.specs.internal.Cells.{member_cells, event_rule_cells}
use Rattle.store_tables.specs.declared.rows.MemberRow.{MemberRow}
use Rattle.store_tables.specs.declared.rows.EventRow.{EventRow}
use Rattle.store_tables.specs.declared.rows.EventRuleRow.{EventRuleRow}
use Rattle.club_audit.specs.internal.Audit.{IsMemberAt, AreMembers, IsEventAt, AreEvents, AreRules, AreRulesOf}
use Rattle.club_audit.specs.internal.Audit.{SaysDeclares}
use Rattle.club_audit.specs.Audit.{terms_told}
use Rattle.club_rows.specs.Tables.{member_row, event_row, rule_row, kind_number, numbered_from}
use Rattle.club_laws.proofs.Proved.{map-at, map-got}
use Rattle.club_audit.proofs.PlacedLemmas.{each-cons, here-is, numbered-at, numbered-back, numbered-length, numbered-of}
use Rattle.club_audit.proofs.PlacedLemmas.{shifted}

next-is : (k : ℕ) → k + 1 ≡ 1 + k
next-is k = omega arith

-- ---- texts that no two have

-- rows of elements by their places, from 1, whose ids are the places, and a text that a row has of its element
module _ {R A : Type 0} (cells : R → Row) (row : ℕ → A → Row) (id : R → ℤ) (text : R → List ℕ) (part : A → List ℕ)
    (told : (n : ℕ) (x : A) (r : R) → cells r ≡ row n x → (id r ≡ pos n) × (text r ≡ part x)) (rows : List R)
    (xs : List A) (rows_are : map cells rows ≡ numbered_from row 1 xs) where
  -- where no other row has a row's text, no two elements have one
  apart-from : ((i j : ℕ) (r q : R) → slice_get rows i ≡ Some r → slice_get rows j ≡ Some q → id q ≢ id r
      → text q ≢ text r) → HaveUniqueKeys part xs
  apart-from others i j x y one two same =
      let (r, at, r_is) = numbered-back cells row 1 rows xs rows_are i x one in
      let (q, there, q_is) = numbered-back cells row 1 rows xs rows_are j y two in
      let (r_id, r_text) = told (1 + i) x r r_is in
      let (q_id, q_text) = told (1 + j) y q q_is in
      elim (cases_eq i j) [
        | inl alike ↦ alike
        | inr apart ↦
            absurd (others i j r q at there (λ ids. let places : 1 + i ≡ 1 + j = cc in omega arith) (cc))
      ]

  -- and where no two have one, no other row has a row's text
  others-from : HaveUniqueKeys part xs → (i j : ℕ) (r q : R) → slice_get rows i ≡ Some r → slice_get rows j ≡ Some q
      → id q ≢ id r → text q ≢ text r
  others-from apart i j r q at there other same =
      let (x, one, r_is) = numbered-at cells row 1 rows xs rows_are i r at in
      let (y, two, q_is) = numbered-at cells row 1 rows xs rows_are j q there in
      let (r_id, r_text) = told (1 + i) x r r_is in
      let (q_id, q_text) = told (1 + j) y q q_is in
      let alike : part y ≡ part x = sym q_text ∙ (same ∙ r_text) in
      other (q_id ∙ (ap (λ k. pos (1 + k)) (apart j i y x two one alike) ∙ sym r_id))

-- ---- members

-- a member's row has its place and its name
member-name : (n : ℕ) (m : Member) (r : MemberRow) → member_cells r ≡ member_row n m → (r.id ≡ pos n)
    × (string_bytes r.name ≡ m.name)
member-name n m r is = (cc, cc)

-- and its key
member-key : (n : ℕ) (m : Member) (r : MemberRow) → member_cells r ≡ member_row n m → (r.id ≡ pos n)
    × (string_bytes r.key ≡ m.key)
member-key n m r is = (cc, cc)

pub member-cells : (id : ℕ) (r : MemberRow) → r.id ≡ pos id
    → member_cells r ≡ member_row id (record { name = string_bytes r.name; key = string_bytes r.key; later = [] })
member-cells id r is = ap (λ n. Int n ∷ Text (string_bytes r.name) ∷ Text (string_bytes r.key) ∷ []) is

pub members-from : (rows : List MemberRow) → length rows ≤ 200
    → ((k : ℕ) (r : MemberRow) → slice_get rows k ≡ Some r → IsMemberAt rows k r) → (ms : List Member)
    × AreMembers ms rows
members-from rows few each =
    let made = numbered-of member_cells member_row IsLegalMember 1 rows (λ k r at. let is = each k r at in
    (is.member, cc (next-is k), is.legal)) in
    let ms = made.0 in (
      ms,
      record {
        rows_are = made.1;
        legal = made.2;
        count = omega (arith, numbered-length member_cells member_row 1 rows ms made.1, few);
        names = apart-from _ _ _ _ _ member-name rows ms made.1 (λ i j r q at h. ((each i r at).others j q h).name);
        keys = apart-from _ _ _ _ _ member-key rows ms made.1 (λ i j r q at h. ((each i r at).others j q h).key);
      },
    )

pub members-count : (ms : List Member) (rows : List MemberRow) → AreMembers ms rows → length rows ≤ 200
members-count ms rows are = omega (arith, numbered-length member_cells member_row 1 rows ms are.rows_are, are.count)

pub members-at : (ms : List Member) (rows : List MemberRow) → AreMembers ms rows → (k : ℕ) (r : MemberRow)
    → slice_get rows k ≡ Some r → IsMemberAt rows k r
members-at ms rows are k r at =
    let (m, stands, cells) = numbered-at member_cells member_row 1 rows ms are.rows_are k r at in
    record {
      member = m;
      cells = subst (λ n. member_cells r ≡ member_row n m) (sym (next-is k)) cells;
      legal = are.legal k m stands;
      others = λ j o there. record {
        name = others-from _ _ _ _ _ member-name rows ms are.rows_are are.names k j r o at there;
        key = others-from _ _ _ _ _ member-key rows ms are.rows_are are.keys k j r o at there;
      };
    }

-- ---- events

-- the row has the event's kind and seconds
pub record EventParts (e : Event) (r : EventRow) : Type 0 where
  pub game_is : r.game ≡ pos (kind_number e.game)
  pub budget_is : r.budget ≡ pos e.terms.budget
  pub increment_is : r.increment ≡ pos e.terms.increment

pub event-parts : (id : ℕ) (e : Event) (r : EventRow) → event_cells r ≡ event_row id e → EventParts e r
event-parts id e r is = record { game_is = cc; budget_is = cc; increment_is = cc }

-- an event's row has its place and its name
event-name : (n : ℕ) (e : Event) (r : EventRow) → event_cells r ≡ event_row n e → (r.id ≡ pos n)
    × (string_bytes r.name ≡ e.name)
event-name n e r is = (cc, cc)

abbrev pub event_told : EventRow → GameKind → ℕ → ℕ → Event
event_told r kind budget increment =
    record { name = string_bytes r.name; game = kind; terms = terms_told budget increment false; closed = None }

pub event-cells : (id budget increment : ℕ) (kind : GameKind) (r : EventRow) → r.id ≡ pos id
    → r.game ≡ pos (kind_number kind) → r.budget ≡ pos budget → r.increment ≡ pos increment
    → event_cells r ≡ event_row id (event_told r kind budget increment)
event-cells id budget increment kind r id_is game_is budget_is increment_is = cc

pub events-from : (rows : List EventRow) → length rows ≤ 50
    → ((k : ℕ) (r : EventRow) → slice_get rows k ≡ Some r → IsEventAt rows k r) → (es : List Event) × AreEvents es rows
events-from rows few each =
    let made = numbered-of event_cells event_row IsLegalEvent 1 rows (λ k r at. let is = each k r at in
    (is.event, subst (λ n. event_cells r ≡ event_row n is.event) (next-is k) is.cells, is.legal)) in
    let es = made.0 in (
      es,
      record {
        rows_are = made.1;
        legal = made.2;
        count = omega (arith, numbered-length event_cells event_row 1 rows es made.1, few);
        names = apart-from _ _ _ _ _ event-name rows es made.1 (λ i j r q at h. (each i r at).others j q h);
      },
    )

pub events-count : (es : List Event) (rows : List EventRow) → AreEvents es rows → length rows ≤ 50
events-count es rows are = omega (arith, numbered-length event_cells event_row 1 rows es are.rows_are, are.count)

pub events-at : (es : List Event) (rows : List EventRow) → AreEvents es rows → (k : ℕ) (r : EventRow)
    → slice_get rows k ≡ Some r → IsEventAt rows k r
events-at es rows are k r at =
    let (e, stands, cells) = numbered-at event_cells event_row 1 rows es are.rows_are k r at in
    record {
      event = e;
      cells = subst (λ n. event_cells r ≡ event_row n e) (sym (next-is k)) cells;
      legal = are.legal k e stands;
      others = λ j o there. others-from _ _ _ _ _ event-name rows es are.rows_are are.names k j r o at there;
    }

-- ---- rules of events

pub rule-parts : (id : ℕ) (e : Event) (r : EventRuleRow) → event_rule_cells r ≡ rule_row id e
    → (r.event ≡ pos id) × SaysDeclares r e.terms.declares
rule-parts id e r is = (cc, cc)

-- the events with declarations as their rules say
abbrev with-declares : Event → Bool → Event
with-declares e declares = record e { terms = record e.terms { declares = declares } }

pub record AreRuled (events : List Event) (rows : List EventRow) (rules : List EventRuleRow) : Type 0 where
  pub ruled : List Event
  pub events_are : AreEvents ruled rows
  pub rules_are : AreRulesOf ruled rules

-- rows of events and of their rules are those of one list of events
ruled-from : (n : ℕ) (es : List Event) (rules : List EventRuleRow) → length rules ≡ length es
    → ((k : ℕ) (r : EventRuleRow) → slice_get rules k ≡ Some r → (r.event ≡ pos (n + k)) × ((d : Bool)
    × SaysDeclares r d))
    → (fs : List Event) × (numbered_from event_row n fs ≡ numbered_from event_row n es)
    × (map event_rule_cells rules ≡ numbered_from rule_row n fs)
    × (map (λ e. e.name) fs ≡ map (λ e. e.name) es)
    × ((P : Event → Type 0) → ((e : Event) (d : Bool) → P e → P (with-declares e d)) → Each P es → Each P fs)
ruled-from n [] [] long each = ([], refl, refl, refl, λ P keeps all k x at. cc)
ruled-from n [] (r ∷ rules) long each = cc
ruled-from n (e ∷ es) [] long each = cc
ruled-from n (e ∷ es) (r ∷ rules) long each =
    let shorter : length rules ≡ length es = cc in
    let (event_is, (d, says)) = each 0 r refl in
    let (fs, events_are, rules_are, names_are, legal) = ruled-from (suc n) es rules shorter (λ k x at.
    let next = each (suc k) x at in (next.0 ∙ ap pos (shifted n k), next.1)) in
    let f : Event = with-declares e d in
    let here : r.event ≡ pos n = event_is ∙ ap pos (here-is n) in (
      f ∷ fs,
      ap (λ l. event_row n e ∷ l) events_are,
      cc,
      ap (λ l. e.name ∷ l) names_are,
      λ P keeps all. each-cons P f fs (keeps e d (all 0 e refl))
          (legal P keeps (λ k x at. all (suc k) x at)),
    )

named-apart : (es fs : List Event) → map (λ e. e.name) fs ≡ map (λ e. e.name) es → HaveUniqueKeys (λ e. e.name) es
    → HaveUniqueKeys (λ e. e.name) fs
named-apart es fs same apart i j x y one two is =
    let (a, at_a, name_a) = named i x one in
    let (b, at_b, name_b) = named j y two in
    apart i j a b at_a at_b (name_a ∙ (is ∙ sym name_b))
  where
    named : (k : ℕ) (z : Event) → slice_get fs k ≡ Some z → (e : Event) × (slice_get es k ≡ Some e) × (e.name ≡ z.name)
    named k z at = map-got (λ (e : Event). e.name) es k z.name (cc (map-at (λ (e : Event). e.name) fs k z at))

-- where the rules are told, the rows are those of events with declarations as they say
pub ruled-of : (es : List Event) (rows : List EventRow) (rules : List EventRuleRow) → AreEvents es rows
    → AreRules rules (length rows) → AreRuled es rows rules
ruled-of es rows rules are ruled =
    let count : length rows ≡ length es = numbered-length event_cells event_row 1 rows es are.rows_are in
    let long : length rules ≡ length es = ruled.number ∙ count in
    let (fs, events_are, rules_are, names_are, legal) = ruled-from 1 es rules long (λ k r at.
    let is = ruled.rows_are k r at in (is.event_is ∙ ap pos (next-is k), (is.declares, is.says))) in
    let rows_are = are.rows_are ∙ sym events_are in
    record {
      ruled = fs;
      events_are = record {
        rows_are = rows_are;
        legal = legal IsLegalEvent (λ e d is. record { name = is.name; budget = is.budget; increment = is.increment })
            are.legal;
        count = omega (arith, numbered-length event_cells event_row 1 rows fs rows_are, count, are.count);
        names = named-apart es fs names_are are.names;
      };
      rules_are = rules_are;
    }

-- the rules of events that are told are those of as many
pub rules-counted : (es : List Event) (rows : List EventRow) (rules : List EventRuleRow) → AreEvents es rows
    → AreRulesOf es rules → AreRules rules (length rows)
rules-counted es rows rules are ruled = record {
  number = numbered-length event_rule_cells rule_row 1 rules es ruled
      ∙ sym (numbered-length event_cells event_row 1 rows es are.rows_are);
  rows_are = λ k r at.
      let (e, stands, cells) = numbered-at event_rule_cells rule_row 1 rules es ruled k r at in
      let told = rule-parts _ e r cells in
      record { event_is = told.0 ∙ ap pos (sym (next-is k)); declares = e.terms.declares; says = told.1 };
}

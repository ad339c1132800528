-- The club that has the members with their keys, and the events with their rules and closings, that were read.
use Rattle.std.proofs.Common.{◌≡◌, ℕ, zero, suc, ◌≤◌, Bool, false, true, true≢false, List, [], ◌∷◌, ◌++◌, length, map}
use Rattle.std.proofs.Common.{Option, Some, None, pos, refl, subst, sym, ap, ◌∙◌, arith}
use Rattle.std.specs.Prelude.{slice_get, string_bytes}
use Rattle.std.specs.Option.{option_map, option_to_list}
use Rattle.std.proofs.lemmas.List.{append-nil}
use Rattle.sqlite.specs.Effect.{Database}
use Rattle.sqlite.specs.Order.{Row}
use Rattle.sqlite.specs.State.{State}
use Rattle.store_tables.specs.Cells.{event_cells}
use Rattle.store_tables.specs.Changes.{HaveSame}
use Rattle.store_tables.specs.Content.{Keeps}
use Rattle.store_tables.specs.Contents.{Content}
use Rattle.store_tables.specs.Placed.{club_trees}
use Rattle.store_tables.specs.Tables.{closings, event_rules, events, keys, members}
use Rattle.store_tables.specs.declared.names.Table.{Table}
use Rattle.store_tables.specs.declared.names.Table.TheVariants.{Closings, EventRules, Events, Keys, Members}
use Rattle.store_tables.specs.declared.names.Version.{Version}
use Rattle.store_tables.specs.declared.names.Version.TheVariants.{V1, V2, V3}
use Rattle.store_tables.specs.declared.rows.ClosingRow.{ClosingRow}
use Rattle.store_tables.specs.declared.rows.EventRow.{EventRow}
use Rattle.store_tables.specs.declared.rows.EventRuleRow.{EventRuleRow}
use Rattle.store_tables.specs.declared.rows.KeyRow.{KeyRow}
use Rattle.store_tables.specs.declared.rows.MemberRow.{MemberRow}
use Rattle.store_tables.specs.declared.rows.Rows.{Rows}
use Rattle.store_tables.specs.internal.Cells.{closing_cells, event_rule_cells, key_cells, member_cells}
use Rattle.club_core.specs.Events.{Event}
use Rattle.club_core.specs.LegalState.{Each, HaveUniqueKeys, IsWithoutArbiter}
use Rattle.club_core.specs.Members.{Member}
use Rattle.club_core.specs.State.{rulings_of}
use Rattle.club_laws.proofs.Proved.{map-got}
use Rattle.club_rows.specs.Club.{both_games, ClubState, IsClub}
use Rattle.club_rows.specs.FirstSchema.{IsClubOf}
use Rattle.club_rows.specs.Tables.{closing_row, gathered_from, key_row, member_row, numbered_from, rows_of_closing}
use Rattle.club_rows.specs.Tables.{rows_of_keys, rule_row, tables_of}
use Rattle.club_audit.specs.FirstWrong.{order}
use Rattle.club_audit.specs.internal.Audit.{AreEvents, AreMembers, AreRules, AreRulesOf, HasPeople}
use Rattle.club_audit.specs.internal.ClosingAudit.{AreClosingsAfter, AreClosingsOf}
use Rattle.club_audit.specs.internal.KeyAudit.{AreKeysOf, all_keys}
use Rattle.club_audit.proofs.Proved.{numbered-at, ruled-of, closed-of, keyed-of}
use Rattle.club_check.specs.ReasonIsRight.{HoldsOnly}
use Rattle.club_check.specs.RightTables.{AreOfClub, HasTable, rows_in}
use Rattle.club_check.specs.Versions.{HoldsRows}
use Rattle.club_check.specs.internal.Places.{last_moment}
use Rattle.club_check.specs.internal.ReasonIsRight.{AreClosingsRead, AreKeysRead, AreRulesRead, HoldsIn, undeclared_row}
use Rattle.club_check.proofs.ClubLemmas.{none_declared, undeclared_are}
use Rattle.club_check.proofs.FirstWrong.{closings_in, held_same, kept_same, keys_in, rows_at, rules_in, upto}
use Rattle.club_check.proofs.ToldLemmas.{in_version}

-- ---- members without later keys

first_key : (n : ℕ) (m : Member) (r : MemberRow) → member_cells r ≡ member_row n m → string_bytes r.key ≡ m.key
first_key n m r is = cc

-- the first keys alone are apart
firsts_apart : (ms : List Member) (rows : List MemberRow) → AreMembers ms rows
    → HaveUniqueKeys (λ k. k) (all_keys rows [])
firsts_apart ms rows are i j x y one two same =
    let key : MemberRow → List ℕ = λ r. string_bytes r.key in
    let alone = append-nil (map key rows) in
    let (r, at, r_is) = map-got key rows i x (subst (λ l. slice_get l i ≡ Some x) alone one) in
    let (q, there, q_is) = map-got key rows j y (subst (λ l. slice_get l j ≡ Some y) alone two) in
    let (m, own, m_is) = numbered-at member_cells member_row 1 rows ms are.rows_are i r at in
    let (n, other, n_is) = numbered-at member_cells member_row 1 rows ms are.rows_are j q there in
    are.keys i j m n own other (sym (first_key _ m r m_is) ∙ (r_is ∙ (same ∙ (sym q_is ∙ first_key _ n q n_is))))

-- the members with these rows, without later keys
pub without_keys : (ms : List Member) (rows : List MemberRow) → AreMembers ms rows
    → (bare : List Member) × AreMembers bare rows × AreKeysOf bare []
without_keys ms rows are = keyed-of ms rows [] are tt (firsts_apart ms rows are)

none_left : (xs ys : List Row) → [] ≡ xs ++ ys → ([] ≡ xs) × ([] ≡ ys)
none_left [] ys is = (refl, is)
none_left (x ∷ xs) ys is = cc

none_numbered : {A : Type 0} (row : ℕ → A → Row) (n : ℕ) (xs : List A) → [] ≡ numbered_from row n xs → xs ≡ []
none_numbered row n [] is = refl
none_numbered row n (x ∷ xs) is = cc

none_closed : (row : ℕ → Row) (closed : Option ℕ) → [] ≡ option_to_list (option_map row closed) → closed ≡ None
none_closed row None is = refl
none_closed row (Some m) is = cc

-- where there are no rows of later keys, no member has one
no_later : (id : ℕ) (ms : List Member) → [] ≡ gathered_from rows_of_keys id ms → Each (λ m. m.later ≡ []) ms
no_later id [] none k x at = cc
no_later id (m ∷ ms) none zero x at =
    let parts = none_left (rows_of_keys id m) (gathered_from rows_of_keys (suc id) ms) none in
    let is : m ≡ x = cc in
    subst (λ (y : Member). y.later ≡ []) is (none_numbered (key_row id) 1 m.later parts.0)
no_later id (m ∷ ms) none (suc k) x at =
    let parts = none_left (rows_of_keys id m) (gathered_from rows_of_keys (suc id) ms) none in
    no_later (suc id) ms parts.1 k x at

-- and where there are no rows of closings, no event is closed
no_closed : (id : ℕ) (es : List Event) → [] ≡ gathered_from rows_of_closing id es → Each (λ e. e.closed ≡ None) es
no_closed id [] none k x at = cc
no_closed id (e ∷ es) none zero x at =
    let parts = none_left (rows_of_closing id e) (gathered_from rows_of_closing (suc id) es) none in
    let is : e ≡ x = cc in
    subst (λ (y : Event). y.closed ≡ None) is (none_closed (closing_row id) e.closed parts.0)
no_closed id (e ∷ es) none (suc k) x at =
    let parts = none_left (rows_of_closing id e) (gathered_from rows_of_closing (suc id) es) none in
    no_closed (suc id) es parts.1 k x at

-- such members have no rows of later keys, and such events none of closings
none_later : (id : ℕ) (ms : List Member) → Each (λ m. m.later ≡ []) ms → [] ≡ gathered_from rows_of_keys id ms
none_later id [] each = refl
none_later id (m ∷ ms) each =
    none_later (suc id) ms (λ k x at. each (suc k) x at)
    ∙ ap (λ l. numbered_from (key_row id) 1 l ++ gathered_from rows_of_keys (suc id) ms) (sym (each 0 m refl))

none_closing : (id : ℕ) (es : List Event) → Each (λ e. e.closed ≡ None) es → [] ≡ gathered_from rows_of_closing id es
none_closing id [] each = refl
none_closing id (e ∷ es) each =
    none_closing (suc id) es (λ k x at. each (suc k) x at)
    ∙ ap (λ o. option_to_list (option_map (closing_row id) o) ++ gathered_from rows_of_closing (suc id) es)
    (sym (each 0 e refl))

-- ---- versions

-- the version gives the club an arbiter
abbrev pub is_third : Version → Bool
is_third V1 = false
is_third V2 = false
is_third V3 = true

pub of_either : (version : Version) (s : ClubState) → IsClub s → s.has_arbiter ≡ is_third version
    → (version ≡ V1 → Each (λ e. e.terms.declares ≡ false) s.events) → IsClubOf version s
of_either V1 s club arbiter none = record { club = club; undeclared = none refl; no_arbiter = arbiter }
of_either V2 s club arbiter none = (club, arbiter)
of_either V3 s club arbiter none = (club, arbiter)

-- what only schema 3 has, none was read of in another version
pub keys_none : (version : Version) (rows : List KeyRow) (old new : State) → AreKeysRead version rows old new
    → is_third version ≡ false → rows ≡ []
keys_none V1 rows old new read other = read.1
keys_none V2 rows old new read other = read.1
keys_none V3 rows old new read other = absurd (true≢false other)

pub closings_none : (version : Version) (rows : List ClosingRow) (old new : State)
    → AreClosingsRead version rows old new → is_third version ≡ false → rows ≡ []
closings_none V1 rows old new read other = read.1
closings_none V2 rows old new read other = read.1
closings_none V3 rows old new read other = absurd (true≢false other)

-- a club with no rows of them, and with no rulings, does without an arbiter
pub without_arbiter : (s : ClubState) (key_rows : List KeyRow) (closing_rows : List ClosingRow)
    → AreKeysOf s.members key_rows → AreClosingsOf s.events closing_rows → key_rows ≡ [] → closing_rows ≡ []
    → Each (λ g. rulings_of g ≡ []) s.games → IsWithoutArbiter s
without_arbiter s key_rows closing_rows own closed no_keys no_closings no_rulings = record {
  keys = no_later 1 s.members (ap (map key_cells) (sym no_keys) ∙ own.rows_are);
  events = no_closed 1 s.events (ap (map closing_cells) (sym no_closings) ∙ closed.rows_are);
  games = no_rulings;
}

-- a legal club of an earlier version than schema 3 has none of their rows
pub keys_absent : (s : ClubState) → IsClub s → s.has_arbiter ≡ false → {rows : List KeyRow}
    → rows ≡ [] → map key_cells rows ≡ gathered_from rows_of_keys 1 s.members
keys_absent s club arbiter none =
    ap (map key_cells) none ∙ none_later 1 s.members (club.without_arbiter arbiter).keys

pub closings_absent : (s : ClubState) → IsClub s → s.has_arbiter ≡ false → {rows : List ClosingRow}
    → rows ≡ [] → map closing_cells rows ≡ gathered_from rows_of_closing 1 s.events
closings_absent s club arbiter none =
    ap (map closing_cells) none ∙ none_closing 1 s.events (club.without_arbiter arbiter).events

-- ---- clubs with people alone

-- The rows are those of these members with their keys, and of these events with their rules and closings.
pub record ArePeople (member_rows : List MemberRow) (key_rows : List KeyRow) (event_rows : List EventRow)
    (rule_rows : List EventRuleRow) (closing_rows : List ClosingRow) : Type 0 where
  pub members : List Member
  pub members_are : AreMembers members member_rows
  pub keys_are : AreKeysOf members key_rows
  pub events : List Event
  pub events_are : AreEvents events event_rows
  pub rules_are : AreRulesOf events rule_rows
  pub closings_are : AreClosingsOf events closing_rows

-- the members have these rows, and these of later keys
abbrev pub AreKeyed : List MemberRow → List KeyRow → Type 0
AreKeyed member_rows key_rows = (ms : List Member) × AreMembers ms member_rows × AreKeysOf ms key_rows

module _ (member_rows : List MemberRow) (key_rows : List KeyRow) (event_rows : List EventRow)
    (rule_rows : List EventRuleRow) (closing_rows : List ClosingRow) where
  -- rows that pass are those of people
  pub made_of : AreKeyed member_rows key_rows → (es : List Event) → AreEvents es event_rows
      → AreRules rule_rows (length event_rows) → AreClosingsAfter (length event_rows) 0 closing_rows
      → ArePeople member_rows key_rows event_rows rule_rows closing_rows
  made_of (ms, are_ms, own) es are_es are_rules chain =
      let made = ruled-of es event_rows rule_rows are_es are_rules in
      let (closed, are, rules, closings) =
      closed-of made.ruled event_rows rule_rows closing_rows made.events_are made.rules_are chain in
      record {
        members = ms;
        members_are = are_ms;
        keys_are = own;
        events = closed;
        events_are = are;
        rules_are = rules;
        closings_are = closings;
      }

  module _ (version : Version) (p : ArePeople member_rows key_rows event_rows rule_rows closing_rows) where
    abbrev pub club_with : ClubState
    club_with = record {
      has_arbiter = is_third version;
      last = last_moment;
      members = p.members;
      events = p.events;
      games = [];
      challenges = [];
    }

    is_club : (is_third version ≡ false → key_rows ≡ []) → (is_third version ≡ false → closing_rows ≡ [])
        → IsClub club_with
    is_club no_keys no_closings = record {
      last = omega arith;
      members = p.members_are.legal;
      member_count = p.members_are.count;
      member_names = p.members_are.names;
      member_keys = p.keys_are.apart;
      events = p.events_are.legal;
      event_count = p.events_are.count;
      event_names = p.events_are.names;
      closings = p.closings_are.moments;
      games = λ n x at. cc;
      game_count = omega arith;
      game_keys = λ i j x y b one two first second. cc;
      challenges = λ n x at. cc;
      challenge_numbers = λ i j x y one two alike. cc;
      without_arbiter = λ other.
          without_arbiter club_with key_rows closing_rows p.keys_are p.closings_are (no_keys other) (no_closings other)
          (λ n x at. cc);
    }

    -- such a club has the rows of the tables up to one of people
    of_people : {content : Content} {db : Database} → HoldsRows version content db
        → (is_third version ≡ false → key_rows ≡ []) → (is_third version ≡ false → closing_rows ≡ [])
        → (version ≡ V1 → Each (λ e. e.terms.declares ≡ false) p.events) → (t : Table) → order t ≤ order Closings
        → Keeps (members 1) (club_trees db) (map member_cells member_rows)
        → (1 ≤ order t → HasTable Keys version → HaveSame (content 17) (gathered_from rows_of_keys 1 p.members))
        → (2 ≤ order t → Keeps (events 4) (club_trees db) (map event_cells event_rows))
        → (3 ≤ order t → HasTable EventRules version → HaveSame (content 16) (numbered_from rule_row 1 p.events))
        → (4 ≤ order t → HasTable Closings version → HaveSame (content 22) (gathered_from rows_of_closing 1 p.events))
        → AreOfClub version t content
    of_people {content} holds no_keys no_closings undeclared t few kept_ms own kept_es rules closed = record {
      state = club_with;
      legal = of_either version club_with (is_club no_keys no_closings) refl undeclared;
      same = λ u there low.
          subst (HaveSame (rows_in u content)) (sym (rows_at version club_with u (omega (arith, few, low)) there))
          (upto (order t)
          (λ u. HasTable u version → HaveSame (rows_in u content) (rows_in u (tables_of both_games club_with)))
          (λ any. subst (HaveSame (content 1)) p.members_are.rows_are (held_same (members 1) 1 refl refl holds kept_ms))
          own
          (λ two any. subst (HaveSame (content 4)) p.events_are.rows_are
          (held_same (events 4) 2 refl refl holds (kept_es two))) rules closed few u low there);
    }

-- ---- rows that a database has

-- rows of rules that were read
pub none_said : (version : Version) (event_rows : List EventRow) (rule_rows : List EventRuleRow) (old new : State)
    → AreRulesRead version event_rows rule_rows old new → version ≡ V1
    → map event_rule_cells rule_rows ≡ map undeclared_row event_rows
none_said V1 event_rows rule_rows old new read is = read.1
none_said V2 event_rows rule_rows old new read is = cc
none_said V3 event_rows rule_rows old new read is = cc

pub rules_same : (version : Version) {content : Content} (old new : State) → HasTable EventRules version
    → HoldsRows version content old.now → (event_rows : List EventRow) (rule_rows : List EventRuleRow)
    → AreRulesRead version event_rows rule_rows old new → (es : List Event) → AreRulesOf es rule_rows
    → HaveSame (content 16) (numbered_from rule_row 1 es)
rules_same V1 old new there holds event_rows rule_rows read es are = absurd there
rules_same V2 {content} old new there holds event_rows rule_rows read es are =
    subst (HaveSame (content 16)) are
    (kept_same (event_rules 16) old.now (content 16) (map event_rule_cells rule_rows)
    (rules_in V2 old.now content tt holds).rows read.keeps)
rules_same V3 {content} old new there holds event_rows rule_rows read es are =
    subst (HaveSame (content 16)) are
    (kept_same (event_rules 16) old.now (content 16) (map event_rule_cells rule_rows)
    (rules_in V3 old.now content tt holds).rows read.keeps)

-- those of later keys and of closings
pub keys_same : (version : Version) {content : Content} (old new : State) → HasTable Keys version
    → HoldsRows version content old.now → (rows : List KeyRow) → AreKeysRead version rows old new
    → (ms : List Member) → AreKeysOf ms rows → HaveSame (content 17) (gathered_from rows_of_keys 1 ms)
keys_same V1 old new there holds rows read ms are = absurd there
keys_same V2 old new there holds rows read ms are = absurd there
keys_same V3 {content} old new there holds rows read ms are =
    subst (HaveSame (content 17)) are.rows_are
    (kept_same (keys 17) old.now (content 17) (map key_cells rows) (keys_in old.now content holds).rows read.keeps)

pub closings_same : (version : Version) {content : Content} (old new : State) → HasTable Closings version
    → HoldsRows version content old.now → (rows : List ClosingRow) → AreClosingsRead version rows old new
    → (es : List Event) → AreClosingsOf es rows → HaveSame (content 22) (gathered_from rows_of_closing 1 es)
closings_same V1 old new there holds rows read es are = absurd there
closings_same V2 old new there holds rows read es are = absurd there
closings_same V3 {content} old new there holds rows read es are =
    subst (HaveSame (content 22)) are.rows_are
    (kept_same (closings 22) old.now (content 22) (map closing_cells rows) (closings_in old.now content holds).rows
    read.keeps)

abbrev undeclared_rows : List EventRow → List EventRuleRow
undeclared_rows [] = []
undeclared_rows (e ∷ es) = record { event = e.id; declares = pos 0 } ∷ undeclared_rows es

undeclared_shown : (es : List EventRow) → map event_rule_cells (undeclared_rows es) ≡ map undeclared_row es
undeclared_shown [] = refl
undeclared_shown (e ∷ es) = ap (λ l. undeclared_row e ∷ l) (undeclared_shown es)

no_events : AreEvents [] []
no_events = record {
  rows_are = refl;
  legal = λ n x at. cc;
  count = omega arith;
  names = λ i j x y one two alike. cc;
}

no_rules : AreRules [] 0
no_rules = record { number = refl; rows_are = λ n x at. cc }

-- ---- each table of people is right, where the rows that were read of those up to it pass

module _ (version : Version) (old : State) (one : HoldsIn version old.now) (member_rows : List MemberRow)
    (kept_ms : Keeps (members 1) (club_trees old.now) (map member_cells member_rows)) where
  pub members_right : (ms : List Member) → AreMembers ms member_rows
      → HoldsOnly old.now (λ v content. AreOfClub v Members content)
  members_right ms are =
      let people = made_of member_rows [] [] [] [] (without_keys ms member_rows are) [] no_events no_rules tt in
      in_version version old.now one (λ v. AreOfClub v Members) (λ content holds.
      of_people member_rows [] [] [] [] version people holds (λ other. refl) (λ other. refl)
      (λ is. none_declared 1 people.events [] people.rules_are) Members (omega arith) kept_ms
      (λ low. absurd (omega (arith, low))) (λ low. absurd (omega (arith, low))) (λ low. absurd (omega (arith, low)))
      (λ low. absurd (omega (arith, low))))

  module _ (key_rows : List KeyRow) (keys_new : State) (read_keys : AreKeysRead version key_rows old keys_new)
      (keyed : AreKeyed member_rows key_rows) where
    pub keys_right : HoldsOnly old.now (λ v content. AreOfClub v Keys content)
    keys_right =
        let people = made_of member_rows key_rows [] [] [] keyed [] no_events no_rules tt in
        in_version version old.now one (λ v. AreOfClub v Keys) (λ content holds.
        of_people member_rows key_rows [] [] [] version people holds (keys_none version key_rows old keys_new read_keys)
        (λ other. refl) (λ is. none_declared 1 people.events [] people.rules_are) Keys (omega arith) kept_ms
        (λ low there. keys_same version old keys_new there holds key_rows read_keys people.members people.keys_are)
        (λ low. absurd (omega (arith, low))) (λ low. absurd (omega (arith, low)))
        (λ low. absurd (omega (arith, low))))

    module _ (event_rows : List EventRow) (kept_es : Keeps (events 4) (club_trees old.now) (map event_cells event_rows))
        (es : List Event) (are_es : AreEvents es event_rows) where
      pub events_right : HoldsOnly old.now (λ v content. AreOfClub v Events content)
      events_right =
          let rules = undeclared_rows event_rows in
          let shown = undeclared_shown event_rows in
          let people = made_of member_rows key_rows event_rows rules [] keyed es are_es
          (undeclared_are es event_rows rules are_es shown) tt in
          in_version version old.now one (λ v. AreOfClub v Events) (λ content holds.
          of_people member_rows key_rows event_rows rules [] version people holds (keys_none version key_rows old keys_new read_keys)
          (λ other. refl) (λ is. none_declared 1 people.events event_rows (sym shown ∙ people.rules_are)) Events
          (omega arith) kept_ms
          (λ low there. keys_same version old keys_new there holds key_rows read_keys people.members people.keys_are)
          (λ low. kept_es) (λ low. absurd (omega (arith, low))) (λ low. absurd (omega (arith, low))))

      module _ (rule_rows : List EventRuleRow) (rules_new : State)
          (read_rules : AreRulesRead version event_rows rule_rows old rules_new)
          (are_rules : AreRules rule_rows (length event_rows)) where
        pub rules_right : HoldsOnly old.now (λ v content. AreOfClub v EventRules content)
        rules_right =
            let people = made_of member_rows key_rows event_rows rule_rows [] keyed es are_es are_rules tt in
            in_version version old.now one (λ v. AreOfClub v EventRules) (λ content holds.
            of_people member_rows key_rows event_rows rule_rows [] version people holds
            (keys_none version key_rows old keys_new read_keys) (λ other. refl)
            (λ is. none_declared 1 people.events event_rows
            (sym (none_said version event_rows rule_rows old rules_new read_rules is) ∙ people.rules_are)) EventRules
            (omega arith) kept_ms
            (λ low there. keys_same version old keys_new there holds key_rows read_keys people.members people.keys_are)
            (λ low. kept_es)
            (λ low there. rules_same version old rules_new there holds event_rows rule_rows read_rules people.events
            people.rules_are) (λ low. absurd (omega (arith, low))))

        -- what was read tells that the people are right in whatever content the database may hold
        pub people_right : (closing_rows : List ClosingRow) (closings_new : State)
            → AreClosingsRead version closing_rows old closings_new
            → AreClosingsAfter (length event_rows) 0 closing_rows
            → HoldsOnly old.now (λ v content. AreOfClub v Closings content)
        people_right closing_rows closings_new read_closings chain =
            let people = made_of member_rows key_rows event_rows rule_rows closing_rows keyed es are_es are_rules
            chain in
            in_version version old.now one (λ v. AreOfClub v Closings) (λ content holds.
            of_people member_rows key_rows event_rows rule_rows closing_rows version people holds
            (keys_none version key_rows old keys_new read_keys) (closings_none version closing_rows old closings_new read_closings)
            (λ is. none_declared 1 people.events event_rows
            (sym (none_said version event_rows rule_rows old rules_new read_rules is) ∙ people.rules_are)) Closings
            (omega arith) kept_ms
            (λ low there. keys_same version old keys_new there holds key_rows read_keys people.members people.keys_are)
            (λ low. kept_es)
            (λ low there. rules_same version old rules_new there holds event_rows rule_rows read_rules people.events
            people.rules_are)
            (λ low there. closings_same version old closings_new there holds closing_rows read_closings people.events
            people.closings_are))

-- ---- the club of the rows that were read

-- the club has the members with their keys, and the events with their rules and closings, that were read
pub record HasAllPeople (s : ClubState) (rows : Rows) : Type 0 where
  pub people : HasPeople s rows
  pub keys : AreKeysOf s.members rows.keys.items
  pub closings : AreClosingsOf s.events rows.closings.items

pub has_people : (rows : Rows) → AreKeyed rows.members.items rows.keys.items → (es : List Event)
    → AreEvents es rows.events.items → AreRules rows.event_rules.items (length rows.events.items)
    → AreClosingsAfter (length rows.events.items) 0 rows.closings.items → (s : ClubState) × HasAllPeople s rows
has_people rows keyed es are_es are_rules chain =
    let made = made_of rows.members.items rows.keys.items rows.events.items rows.event_rules.items rows.closings.items
    keyed es are_es are_rules chain in (
      club_with rows.members.items rows.keys.items rows.events.items rows.event_rules.items rows.closings.items V3 made,
      record {
        people = record { members = made.members_are; events = made.events_are; rules = made.rules_are };
        keys = made.keys_are;
        closings = made.closings_are;
      },
    )

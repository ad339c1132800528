use Rattle.std.proofs.Common.{◌≡◌, [], ap, length, pos, refl, sym, subst, subst₂, arith, ◌∙◌, true, true≢false}
use Rattle.std.proofs.lemmas.Int.{ints}
use Rattle.club_core.specs.LegalState.{Each}
use Rattle.club_audit.specs.internal.Audit.{AreApartGames, AreEvents, AreMembers, AreRules, IsRightInRegister}
use Rattle.club_audit.specs.internal.ClosingAudit.{AreClosingsAfter, IsClosedBy}
use Rattle.club_audit.specs.internal.KeyAudit.{AreKeysOf}
use Rattle.club_audit.proofs.ClosingLemmas.{closed-by, closed-of, closings-in-order, rows-closed-by}
use Rattle.club_audit.proofs.FirstLemmas.{all-tables, up-to-closings, up-to-meta, up-to-moves, up-to-none, with-next}
use Rattle.club_audit.proofs.PeopleLemmas.{events-count, members-count, ruled-of, rules-counted}
use Rattle.club_rows.proofs.Proved.{same-pos}
use Rattle.club_rows.specs.Club.{ClubState}
use Rattle.store_tables.specs.declared.names.Table.TheVariants.{Closings, Events, Keys, Members, Moves}
use Rattle.store_tables.specs.declared.names.Table.TheVariants.{Meta, Rulings}
use Rattle.club_audit.proofs.audit.wrong_register.Goals as goal

pub returns-then-not-are_events-clause-first : goal.returns-then-not-are_events-clause-first
returns-then-not-are_events-clause-first c =
    let rows = c.args.rows.now in
    let Right = IsRightInRegister rows in
    let (ms, are_ms) = c.are_members.ensures.sound c.if-not-are_members.false in
    let members = subst (AreMembers ms) c.deref.ensures.value are_ms in
    let keys = c.in_ok-keyed.ensures.sound c.if-not-keyed.false ms
    (subst (AreMembers ms) (sym c.deref-3.ensures.value) members) in
    record {
      before = with-next Right Keys (with-next Right Members (up-to-none Right) (ms, members)) (
        keys.0,
        subst (AreMembers keys.0) c.deref-3.ensures.value keys.1,
        subst (AreKeysOf keys.0) c.deref-2.ensures.value keys.2,
      );
      named = λ it.
          let yes = c.are_events.ensures.complete it.0 (subst (AreEvents it.0) (sym c.deref-4.ensures.value) it.1) in
          true≢false (sym yes ∙ c.if-not-are_events.true);
    }

pub returns-then-not-are_rules-clause-first : goal.returns-then-not-are_rules-clause-first
returns-then-not-are_rules-clause-first c =
    let rows = c.args.rows.now in
    let Right = IsRightInRegister rows in
    let (ms, are_ms) = c.are_members.ensures.sound c.if-not-are_members.false in
    let members = subst (AreMembers ms) c.deref.ensures.value are_ms in
    let keys = c.in_ok-keyed.ensures.sound c.if-not-keyed.false ms
    (subst (AreMembers ms) (sym c.deref-3.ensures.value) members) in
    let (es, are_es) = c.are_events.ensures.sound c.if-not-are_events.false in
    record {
      before = with-next Right Events
          (with-next Right Keys (with-next Right Members (up-to-none Right) (ms, members)) (
            keys.0,
            subst (AreMembers keys.0) c.deref-3.ensures.value keys.1,
            subst (AreKeysOf keys.0) c.deref-2.ensures.value keys.2,
          )) (es, subst (AreEvents es) c.deref-4.ensures.value are_es);
      named = λ are.
          let yes = c.are_rules.ensures.complete
          (subst₂ AreRules (sym c.deref-5.ensures.value) (sym (ap length c.as_slice.ensures.value)) are) in
          true≢false (sym yes ∙ c.if-not-are_rules.true);
    }

pub returns-then-not-are_rules-clause-complete : goal.returns-then-not-are_rules-clause-complete
returns-then-not-are_rules-clause-complete c = λ register.
    let first = returns-then-not-are_rules-clause-first c in
    absurd (first.named (rules-counted register.state.events c.args.rows.now.events.items
    c.args.rows.now.event_rules.items register.people.events register.people.rules))

pub returns-then-not-are_closings-clause-first : goal.returns-then-not-are_closings-clause-first
returns-then-not-are_closings-clause-first c =
    let rows = c.args.rows.now in
    let Right = IsRightInRegister rows in
    let (ms, are_ms) = c.are_members.ensures.sound c.if-not-are_members.false in
    let members = subst (AreMembers ms) c.deref.ensures.value are_ms in
    let keys = c.in_ok-keyed.ensures.sound c.if-not-keyed.false ms
    (subst (AreMembers ms) (sym c.deref-3.ensures.value) members) in
    let (es, are_es) = c.are_events.ensures.sound c.if-not-are_events.false in
    record {
      before = up-to-closings Right (ms, members) (
        keys.0,
        subst (AreMembers keys.0) c.deref-3.ensures.value keys.1,
        subst (AreKeysOf keys.0) c.deref-2.ensures.value keys.2,
      ) (es, subst (AreEvents es) c.deref-4.ensures.value are_es)
          (subst₂ AreRules c.deref-5.ensures.value (ap length c.as_slice.ensures.value)
          (c.are_rules.ensures.sound c.if-not-are_rules.false));
      named = λ are.
          let yes = c.are_closings.ensures.complete
          (subst₂ (λ n l. AreClosingsAfter n 0 l) (sym (ap length c.as_slice-2.ensures.value))
          (sym c.deref-6.ensures.value) are) in
          true≢false (sym yes ∙ c.if-not-are_closings.true);
    }

pub returns-then-not-are_closings-clause-complete : goal.returns-then-not-are_closings-clause-complete
returns-then-not-are_closings-clause-complete c = λ register.
    let first = returns-then-not-are_closings-clause-first c in
    absurd (first.named (closings-in-order register.state.events c.args.rows.now.events.items
    c.args.rows.now.closings.items register.people.events register.closings))

pub returns-then-not-branch-clause-first : goal.returns-then-not-branch-clause-first
returns-then-not-branch-clause-first c =
    let rows = c.args.rows.now in
    let Right = IsRightInRegister rows in
    let (ms, are_ms) = c.are_members.ensures.sound c.if-not-are_members.false in
    let members = subst (AreMembers ms) c.deref.ensures.value are_ms in
    let keys = c.in_ok-keyed.ensures.sound c.if-not-keyed.false ms
    (subst (AreMembers ms) (sym c.deref-3.ensures.value) members) in
    let (es, are_es) = c.are_events.ensures.sound c.if-not-are_events.false in
    let events = subst (AreEvents es) c.deref-4.ensures.value are_es in
    let closings = subst₂ (λ n l. AreClosingsAfter n 0 l) (ap length c.as_slice-2.ensures.value)
    c.deref-6.ensures.value (c.are_closings.ensures.sound c.if-not-are_closings.false) in
    record {
      before = with-next Right Closings
          (up-to-closings Right (ms, members) (
            keys.0,
            subst (AreMembers keys.0) c.deref-3.ensures.value keys.1,
            subst (AreKeysOf keys.0) c.deref-2.ensures.value keys.2,
          ) (es, events)
          (subst₂ AreRules c.deref-5.ensures.value (ap length c.as_slice.ensures.value)
          (c.are_rules.ensures.sound c.if-not-are_rules.false)))
          closings;
      named = λ it.
          let yes = c.in_ok-are_challenges.ensures.complete (members-count ms rows.members.items members)
          (events-count es rows.events.items events) it.0 it.1 in
          true≢false (sym yes ∙ c.if-not-branch.true);
    }

pub returns-then-not-branch-clause-complete : goal.returns-then-not-branch-clause-complete
returns-then-not-branch-clause-complete c = λ register.
    let first = returns-then-not-branch-clause-first c in
    absurd (first.named (register.state.challenges, register.challenges))

pub returns-then-not-branch-2-clause-first : goal.returns-then-not-branch-2-clause-first
returns-then-not-branch-2-clause-first c =
    let rows = c.args.rows.now in
    let Right = IsRightInRegister rows in
    let (ms, are_ms) = c.are_members.ensures.sound c.if-not-are_members.false in
    let members = subst (AreMembers ms) c.deref.ensures.value are_ms in
    let keys = c.in_ok-keyed.ensures.sound c.if-not-keyed.false ms
    (subst (AreMembers ms) (sym c.deref-3.ensures.value) members) in
    let (es, are_es) = c.are_events.ensures.sound c.if-not-are_events.false in
    record {
      before = with-next Right Rulings
          (with-next Right Moves
          (up-to-moves Right (ms, members) (
            keys.0,
            subst (AreMembers keys.0) c.deref-3.ensures.value keys.1,
            subst (AreKeysOf keys.0) c.deref-2.ensures.value keys.2,
          ) (es, subst (AreEvents es) c.deref-4.ensures.value are_es)
          (subst₂ AreRules c.deref-5.ensures.value (ap length c.as_slice.ensures.value)
          (c.are_rules.ensures.sound c.if-not-are_rules.false))
          (subst₂ (λ n l. AreClosingsAfter n 0 l) (ap length c.as_slice-2.ensures.value) c.deref-6.ensures.value
          (c.are_closings.ensures.sound c.if-not-are_closings.false))
          (c.in_ok-are_challenges.ensures.sound c.if-not-branch.false))
          tt)
          tt;
      named = λ are.
          let yes = c.in_ok-are_apart.ensures.complete (subst AreApartGames (sym c.deref-7.ensures.value) are) in
          true≢false (sym yes ∙ c.if-not-branch-2.true);
    }

pub returns-in-None-clause-first : goal.returns-in-None-clause-first
returns-in-None-clause-first c =
    let rows = c.args.rows.now in
    let Right = IsRightInRegister rows in
    let (ms, are_ms) = c.are_members.ensures.sound c.if-not-are_members.false in
    let members = subst (AreMembers ms) c.deref.ensures.value are_ms in
    let keys = c.in_ok-keyed.ensures.sound c.if-not-keyed.false ms
    (subst (AreMembers ms) (sym c.deref-3.ensures.value) members) in
    let (es, are_es) = c.are_events.ensures.sound c.if-not-are_events.false in
    record {
      before = up-to-meta Right
          (up-to-moves Right (ms, members) (
            keys.0,
            subst (AreMembers keys.0) c.deref-3.ensures.value keys.1,
            subst (AreKeysOf keys.0) c.deref-2.ensures.value keys.2,
          ) (es, subst (AreEvents es) c.deref-4.ensures.value are_es)
          (subst₂ AreRules c.deref-5.ensures.value (ap length c.as_slice.ensures.value)
          (c.are_rules.ensures.sound c.if-not-are_rules.false))
          (subst₂ (λ n l. AreClosingsAfter n 0 l) (ap length c.as_slice-2.ensures.value) c.deref-6.ensures.value
          (c.are_closings.ensures.sound c.if-not-are_closings.false))
          (c.in_ok-are_challenges.ensures.sound c.if-not-branch.false))
          tt tt (subst AreApartGames c.deref-7.ensures.value
          (c.in_ok-are_apart.ensures.sound c.if-not-branch-2.false)) tt tt;
      named = λ (n, is, low, each). c.to_moment.ensures.none c.in-None.is n low (omega (arith, ints, is));
    }

pub returns-else-are_closed_by-clause-first : goal.returns-else-are_closed_by-clause-first
returns-else-are_closed_by-clause-first c =
    let rows = c.args.rows.now in
    let Right = IsRightInRegister rows in
    let (ms, are_ms) = c.are_members.ensures.sound c.if-not-are_members.false in
    let members = subst (AreMembers ms) c.deref.ensures.value are_ms in
    let keys = c.in_ok-keyed.ensures.sound c.if-not-keyed.false ms
    (subst (AreMembers ms) (sym c.deref-3.ensures.value) members) in
    let (es, are_es) = c.are_events.ensures.sound c.if-not-are_events.false in
    let told = c.in-Some.ensures.some in
    let moment : rows.meta.last ≡ pos c.in-Some.last = omega (arith, ints) in
    record {
      before = up-to-meta Right
          (up-to-moves Right (ms, members) (
            keys.0,
            subst (AreMembers keys.0) c.deref-3.ensures.value keys.1,
            subst (AreKeysOf keys.0) c.deref-2.ensures.value keys.2,
          ) (es, subst (AreEvents es) c.deref-4.ensures.value are_es)
          (subst₂ AreRules c.deref-5.ensures.value (ap length c.as_slice.ensures.value)
          (c.are_rules.ensures.sound c.if-not-are_rules.false))
          (subst₂ (λ n l. AreClosingsAfter n 0 l) (ap length c.as_slice-2.ensures.value) c.deref-6.ensures.value
          (c.are_closings.ensures.sound c.if-not-are_closings.false))
          (c.in_ok-are_challenges.ensures.sound c.if-not-branch.false))
          tt tt (subst AreApartGames c.deref-7.ensures.value
          (c.in_ok-are_apart.ensures.sound c.if-not-branch-2.false)) tt tt;
      named = λ (n, is, low, each).
          let same = same-pos n c.in-Some.last (sym is ∙ moment) in
          let yes = c.are_closed_by.ensures.complete
          (subst₂ (λ k l. Each (IsClosedBy k) l) same (sym c.deref-in-Some.ensures.value) each) in
          true≢false (sym yes ∙ c.if-are_closed_by.false);
    }

pub returns-else-are_closed_by-clause-complete : goal.returns-else-are_closed_by-clause-complete
returns-else-are_closed_by-clause-complete c = λ register.
    let first = returns-else-are_closed_by-clause-first c in
    let s = register.state in
    absurd (first.named (
      s.last,
      register.moment,
      register.within,
      rows-closed-by s.last s.events c.args.rows.now.closings.items register.closings register.closed_by,
    ))

pub returns-then-are_closed_by-clause-sound : goal.returns-then-are_closed_by-clause-sound
returns-then-are_closed_by-clause-sound c = λ _.
    let rows = c.args.rows.now in
    let (ms, are_ms) = c.are_members.ensures.sound c.if-not-are_members.false in
    let members = subst (AreMembers ms) c.deref.ensures.value are_ms in
    let keys = c.in_ok-keyed.ensures.sound c.if-not-keyed.false ms
    (subst (AreMembers ms) (sym c.deref-3.ensures.value) members) in
    let (es, are_es) = c.are_events.ensures.sound c.if-not-are_events.false in
    let made = ruled-of es rows.events.items rows.event_rules.items
    (subst (AreEvents es) c.deref-4.ensures.value are_es)
    (subst₂ AreRules c.deref-5.ensures.value (ap length c.as_slice.ensures.value)
    (c.are_rules.ensures.sound c.if-not-are_rules.false)) in
    let (closed, are_closed, ruled, closings) = closed-of made.ruled rows.events.items rows.event_rules.items
    rows.closings.items made.events_are made.rules_are
    (subst₂ (λ n l. AreClosingsAfter n 0 l) (ap length c.as_slice-2.ensures.value) c.deref-6.ensures.value
    (c.are_closings.ensures.sound c.if-not-are_closings.false)) in
    let (cs, are_challenges) = c.in_ok-are_challenges.ensures.sound c.if-not-branch.false in
    let told = c.in-Some.ensures.some in
    let moment : rows.meta.last ≡ pos c.in-Some.last = omega (arith, ints) in
    let s : ClubState = record {
      has_arbiter = true;
      last = c.in-Some.last;
      members = keys.0;
      events = closed;
      games = [];
      challenges = cs;
    } in
    record {
      state = s;
      moment = moment;
      within = c.in-Some.ensures.range;
      people = record {
        members = subst (AreMembers keys.0) c.deref-3.ensures.value keys.1;
        events = are_closed;
        rules = ruled;
      };
      keys = subst (AreKeysOf keys.0) c.deref-2.ensures.value keys.2;
      closings = closings;
      closed_by = closed-by c.in-Some.last closed rows.closings.items closings
          (subst (Each (IsClosedBy c.in-Some.last)) c.deref-in-Some.ensures.value
          (c.are_closed_by.ensures.sound c.if-are_closed_by.true));
      challenges = are_challenges;
      games = subst AreApartGames c.deref-7.ensures.value (c.in_ok-are_apart.ensures.sound c.if-not-branch-2.false);
    }

pub returns-then-are_closed_by-clause-first : goal.returns-then-are_closed_by-clause-first
returns-then-are_closed_by-clause-first c =
    let rows = c.args.rows.now in
    let Right = IsRightInRegister rows in
    let register = returns-then-are_closed_by-clause-sound c refl in
    let s = register.state in
    record {
      before = λ t low. all-tables Right
          (with-next Right Meta
          (up-to-meta Right
          (up-to-moves Right (s.members, register.people.members) (s.members, register.people.members, register.keys)
          (s.events, register.people.events)
          (rules-counted s.events rows.events.items rows.event_rules.items register.people.events register.people.rules)
          (closings-in-order s.events rows.events.items rows.closings.items register.people.events register.closings)
          (s.challenges, register.challenges))
          tt tt register.games tt tt) (
            s.last,
            register.moment,
            register.within,
            rows-closed-by s.last s.events rows.closings.items register.closings register.closed_by,
          )) t;
      named = tt;
    }

use Rattle.std.proofs.Common.{◌≡◌, ◌++◌, List, [], false, append_assoc, refl, rules, subst, sym}
use Rattle.std.proofs.lemmas.List.{append-nil}
use Rattle.sqlite.specs.Held.{state}
use Rattle.store.specs.Clubs.{version_with}
use Rattle.server.specs.Visits.{listed}
use Rattle.server.specs.declared.connections.Served.{Served}
use Rattle.club_session.proofs.AcknowledgedLemmas.{after_all, after_next}
use Rattle.club_session.proofs.TurnLemmas.{stands_first, stands_led, turn_led, turn_stands}
use Rattle.club_session.proofs.serving.serve_open.Goals as goal

pub loop-init : goal.loop-init
loop-init g c =
    let P : List Served → Type 0 = λ xs. g.V.Connections.HasServed c.args.visits.now xs in
    record {
      ready = c.requires;
      clean = λ is. is;
      stands = λ clean from them sessions at.
          (stands_first from (version_with c.args.club.now.club.has_arbiter) them sessions _ at, refl);
      leads = λ before had. (
        [],
        subst P (sym (append-nil before)) had,
        λ clean s is. (
          s,
          refl,
          record { ready = c.requires; serves = is.serves },
        ),
      );
    }

pub returns-then-is_none-clause-history : goal.returns-then-is_none-clause-history
returns-then-is_none-clause-history g c clean from them sessions at =
    let before = c.loop.invariant in
    turn_led c.requests_keep_clubs.ensures c.args.club.now.club.has_arbiter from them sessions
    c.loop.club.club.has_arbiter c.loop.club.club.needs_reopening
    (state g.S.Store c.loop.club.club.connection) before.ready
    (before.stands (c.serve_next-item.ensures.clean clean) from them sessions at)
    c.serve_next-item.new.club.club.has_arbiter c.serve_next-item.new.club.club.needs_reopening
    (state g.S.Store c.serve_next-item.new.club.club.connection)
    c.serve_next-item.result (c.serve_next-item.ensures.acts clean)

pub returns-then-is_none-clause-stands : goal.returns-then-is_none-clause-stands
returns-then-is_none-clause-stands g c open_still clean from them sessions at =
    let before = c.loop.invariant in
    let is_open : c.serve_next-item.new.club.club.needs_reopening ≡ false = search rules in
    (turn_stands c.requests_keep_clubs.ensures c.args.club.now.club.has_arbiter from them sessions
    c.loop.club.club.has_arbiter c.loop.club.club.needs_reopening
    (state g.S.Store c.loop.club.club.connection) before.ready
    (before.stands (c.serve_next-item.ensures.clean clean) from them sessions at)
    c.serve_next-item.new.club.club.has_arbiter c.serve_next-item.new.club.club.needs_reopening
    (state g.S.Store c.serve_next-item.new.club.club.connection)
    c.serve_next-item.result is_open (c.serve_next-item.ensures.acts clean)).0

pub returns-then-needs_reopening-clause-history : goal.returns-then-needs_reopening-clause-history
returns-then-needs_reopening-clause-history g c clean from them sessions at =
    let before = c.loop.invariant in
    turn_led c.requests_keep_clubs.ensures c.args.club.now.club.has_arbiter from them sessions
    c.loop.club.club.has_arbiter c.loop.club.club.needs_reopening
    (state g.S.Store c.loop.club.club.connection) before.ready
    (before.stands (c.serve_next-item.ensures.clean clean) from them sessions at)
    c.serve_next-item.new.club.club.has_arbiter c.serve_next-item.new.club.club.needs_reopening
    (state g.S.Store c.serve_next-item.new.club.club.connection)
    c.serve_next-item.result (c.serve_next-item.ensures.acts clean)

pub loop-preserved : goal.loop-preserved
loop-preserved g c =
    let before_ = c.loop.invariant in
    let is_open : c.serve_next-item.new.club.club.needs_reopening ≡ false = search rules in
    record {
      ready = is_open;
      clean = λ is. before_.clean (c.serve_next-item.ensures.clean is);
      stands = λ clean from them sessions at.
          turn_stands c.requests_keep_clubs.ensures c.args.club.now.club.has_arbiter from them sessions
          c.loop.club.club.has_arbiter c.loop.club.club.needs_reopening
          (state g.S.Store c.loop.club.club.connection) before_.ready
          (before_.stands (c.serve_next-item.ensures.clean clean) from them sessions at)
          c.serve_next-item.new.club.club.has_arbiter c.serve_next-item.new.club.club.needs_reopening
          (state g.S.Store c.serve_next-item.new.club.club.connection) c.serve_next-item.result is_open
          (c.serve_next-item.ensures.acts clean);
      leads = λ before had.
          let (items, has, leads) = before_.leads before had in
          let next = c.serve_next-item.result in
          let P : List Served → Type 0 = λ xs. g.V.Connections.HasServed c.serve_next-item.new.self xs in (
            items ++ listed next,
            subst P (append_assoc before items (listed next))
                (c.serve_next-item.ensures.acknowledged (before ++ items) has),
            λ clean s is.
                (after_next _ _ _ s items _ _ _ next (leads (c.serve_next-item.ensures.clean clean) s is)
                (c.serve_next-item.ensures.acts clean)).stands is_open,
          );
    }

pub returns-clause-history : goal.returns-clause-history
returns-clause-history g c clean from them sessions at =
    stands_led from (version_with c.args.club.now.club.has_arbiter) them sessions _
    (c.loop.invariant.stands clean from them sessions at).0

pub returns-clause-stands : goal.returns-clause-stands
returns-clause-stands g c open_still clean from them sessions at =
    (c.loop.invariant.stands clean from them sessions at).0

pub returns-then-needs_reopening-clause-acknowledged : goal.returns-then-needs_reopening-clause-acknowledged
returns-then-needs_reopening-clause-acknowledged g c before had =
    let (items, has, leads) = c.loop.invariant.leads before had in
    let next = c.serve_next-item.result in
    let P : List Served → Type 0 = λ xs. g.V.Connections.HasServed c.serve_next-item.new.self xs in (
      items ++ listed next,
      subst P (append_assoc before items (listed next)) (c.serve_next-item.ensures.acknowledged (before ++ items) has),
      λ clean s is.
          after_next _ _ _ s items _ _ _ next (leads (c.serve_next-item.ensures.clean clean) s is)
          (c.serve_next-item.ensures.acts clean),
    )

pub returns-then-is_none-clause-acknowledged : goal.returns-then-is_none-clause-acknowledged
returns-then-is_none-clause-acknowledged g c before had =
    let (items, has, leads) = c.loop.invariant.leads before had in
    let next = c.serve_next-item.result in
    let P : List Served → Type 0 = λ xs. g.V.Connections.HasServed c.serve_next-item.new.self xs in (
      items ++ listed next,
      subst P (append_assoc before items (listed next)) (c.serve_next-item.ensures.acknowledged (before ++ items) has),
      λ clean s is.
          after_next _ _ _ s items _ _ _ next (leads (c.serve_next-item.ensures.clean clean) s is)
          (c.serve_next-item.ensures.acts clean),
    )

pub returns-clause-acknowledged : goal.returns-clause-acknowledged
returns-clause-acknowledged g c before had =
    let (items, has, leads) = c.loop.invariant.leads before had in
    (items, has, λ clean s is. after_all _ _ _ s items (leads clean s is))

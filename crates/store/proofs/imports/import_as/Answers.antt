use Rattle.std.proofs.Common.{ap, sym, ◌∙◌}
use Rattle.club_rules.specs.internal.Records.{recorded_of}
use Rattle.club_core.specs.Answer.{import_of}
use Rattle.club_imports.specs.internal.Importing.{importing_of}
use Rattle.club_changes.proofs.Proved.{by_known, officer_adds, added_in, repeated_in, refused_in}
use Rattle.store_tables.proofs.Proved.{clean_before, reads_on, rows_after}
use Rattle.store.proofs.imports.import_as.Goals as goal

pub returns-in-Adds-clause-step : goal.returns-in-Adds-clause-step
returns-in-Adds-clause-step g c clean content old k of verdict =
    let laws = g.R.Rules.rules in
    let records = g.R.Records.records in
    let known = c.args.known.now in
    let who = c.args.caller in
    let given = import_of c.args.command.now in
    let looked = clean_before c.added.ensures.reads clean in
    let shows = c.in_ok-played.ensures.played looked content old k of verdict in
    let new = c.in-Adds.new in
    let same = ap importing_of (sym c.in-Adds.is) ∙ (c.in_ok-new.ensures.value old shows
    ∙ by_known laws records known who given old _ _ c.as_slice-members.ensures.value c.as_slice-events.ensures.value) in
    let adds = officer_adds laws records given _ _ _ old _ _ new.game who _ _ same in
    let kept = rows_after c.in_ok-played.ensures.reads looked content k in
    let puts = c.in_ok-changes-in-Adds.ensures.puts clean content kept adds.apart in
    added_in laws _ _ _ _ _ _ (record { pairing = new.pairing; recorded = recorded_of new.recorded }) new.game
    c.in_ok-changes-in-Adds.changes same adds.next
    (rw (c.as_slice-events.ensures.value, c.as_str.ensures.value) at puts)

pub returns-in-Repeated-clause-step : goal.returns-in-Repeated-clause-step
returns-in-Repeated-clause-step g c clean content old k of verdict =
    let shows = c.in_ok-played.ensures.played clean content old k of verdict in
    let known = by_known g.R.Rules.rules g.R.Records.records c.args.known.now c.args.caller
    (import_of c.args.command.now) old _ _ c.as_slice-members.ensures.value c.as_slice-events.ensures.value in
    repeated_in _ _ _ _ _ _ c.without_changes.result _ _ c.without_changes.ensures.outcome c.without_changes.ensures.none
    (ap importing_of (sym c.in-Repeated.is) ∙ (c.in_ok-new.ensures.value old shows ∙ known))

pub returns-clause-step : goal.returns-clause-step
returns-clause-step g c clean content old k of verdict =
    let shows = c.in_ok-played.ensures.played clean content old k of verdict in
    let known = by_known g.R.Rules.rules g.R.Records.records c.args.known.now c.args.caller
    (import_of c.args.command.now) old _ _ c.as_slice-members.ensures.value c.as_slice-events.ensures.value in
    refused_in _ _ _ _ _ _ c.without_changes-in-Refused.result _ _ c.without_changes-in-Refused.ensures.outcome
    c.without_changes-in-Refused.ensures.none
    (ap importing_of (sym c.in-Refused.is) ∙ (c.in_ok-new.ensures.value old shows ∙ known))

pub returns-in-Adds-clause-reads : goal.returns-in-Adds-clause-reads
returns-in-Adds-clause-reads g c = reads_on c.in_ok-played.ensures.reads c.in_ok-changes-in-Adds.ensures.reads

use Rattle.std.proofs.Common.{ap, ◌∙◌}
use Rattle.club_rules.specs.internal.Records.{reading_of}
use Rattle.club_core.specs.Answer.{import_of}
use Rattle.club_core.specs.Imports.{read_in, import_between}
use Rattle.club_requests.specs.Outcome.{game_seated}
use Rattle.club_imports.specs.internal.Importing.{importing_of}
use Rattle.club_imports.proofs.ImportStepLemmas.{step-repeats, step-refuses, step-adds}
use Rattle.club_imports.proofs.imports.import_found.Goals as goal

pub returns-in-Some-clause-value : goal.returns-in-Some-clause-value
returns-in-Some-clause-value g c old shows =
    let named = c.args.named in
    let stored = c.args.compared.now.stored in
    step-repeats g.R.Rules.rules g.R.Records.records (import_of c.args.command.now) named.event named.first
    named.second stored.under_key old stored.count c.args.declares
    (game_seated c.in-Some.game) (c.in-Some.ensures old stored.count shows)

pub returns-in-Some-refusal_of_import-clause-value :
    goal.returns-in-Some-refusal_of_import-clause-value
returns-in-Some-refusal_of_import-clause-value g c old shows =
    let named = c.args.named in
    let stored = c.args.compared.now.stored in
    step-refuses g.R.Rules.rules g.R.Records.records (import_of c.args.command.now) named.event named.first
    named.second stored.under_key old stored.count c.args.declares
    c.in-Some-refusal_of_import.refusal (c.in-None.ensures old stored.count shows)
    (c.in-Some-refusal_of_import.ensures.value old)

pub returns-clause-value : goal.returns-clause-value
returns-clause-value g c old shows =
    let named = c.args.named in
    let stored = c.args.compared.now.stored in
    step-adds g.R.Rules.rules g.R.Records.records (import_of c.args.command.now) named.event named.first named.second
    stored.under_key old stored.count c.args.declares
    (importing_of c.import_between.result) (reading_of c.in_ok-reading.reading)
    (c.in-None.ensures old stored.count shows)
    (c.in-None-refusal_of_import.ensures.value old) c.in_ok-reading.ensures.read
    (c.import_between.ensures.value
    ∙ ap (import_between named.event named.first named.second stored.count)
    (c.read_in-reading.ensures.value
    ∙ ap (λ format. read_in format c.args.declares (reading_of c.in_ok-reading.reading)) c.format.ensures))

use Rattle.std.proofs.Common.{◌≡◌, ap, subst, arith}
use Rattle.club_core.proofs.Proved.{are_rules}
use Rattle.club_core.specs.Answer.{game_command_of}
use Rattle.club_core.specs.Game.{clocks_of}
use Rattle.club_core.specs.Step.{game_step}
use Rattle.club_core.specs.View.{terms_of}
use Rattle.club_changes.specs.internal.Steps.{IsDecidedIn}
use Rattle.club_changes.proofs.Proved.{decided_players}
use Rattle.store.proofs.game.decide_in_game.Goals as goal

pub returns-clause-step : goal.returns-clause-step
returns-clause-step g c clean content old k tells budget increment legal shows asked since =
    let d = c.in_ok-put_decision.field-0 in
    let step = c.in_ok-put_decision.ensures.step in
    let laws = g.R.Rules.rules in
    let met = g.met.R.Rules in
    let are = are_rules laws met.first_starts met.turn_passes met.same_is met.ends_at_limit in
    let view = c.args.view.now in
    let terms = terms_of view in
    let command = game_command_of c.args.command.now in
    let shown : view.row.since ≡ (clocks_of old terms).since = ap (λ k. k.since) shows.row.clocks in
    let same : c.later-moment.result ≡ c.args.moment = omega (arith, c.later-moment.ensures, shown, since) in
    let decided = c.in_ok-decision.ensures old shows asked legal in
    let (is, seen, scores) = c.in_ok-concluded.ensures.concluded clean content terms old c.later-moment.result
    c.args.caller command k tells legal shows.row.plies decided in
    let players = decided_players laws are terms c.args.game old c.later-moment.result c.args.caller command budget
    increment legal (content 14) c.in_ok-concluded.concluded.decision is in
    subst
    (λ m. IsDecidedIn laws terms c.args.game m (content 14) old (game_step laws terms old m c.args.caller command)
    d) same
    (step terms old c.args.caller command (content 14) budget increment legal is seen (scores players))

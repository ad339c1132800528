use Rattle.std.proofs.Common.{◌≤◌, sym, subst}
use Rattle.std.specs.Prelude.{IsTrue}
use Rattle.std.proofs.lemmas.Result.{IfOk-weaker}
use Rattle.club_core.specs.Game.{clocks_of}
use Rattle.club_core.specs.Legal.{IsLegalGame}
use Rattle.club_core.specs.Answer.{game_command_of}
use Rattle.club_requests.specs.Limits.{is_budget, is_increment}
use Rattle.club_core.specs.Step.{game_step}
use Rattle.club_core.specs.View.{ShowsPly}
use Rattle.club_rows.specs.internal.Replay.{terms_given}
use Rattle.club_changes.specs.internal.Steps.{IsDecidedIn}
use Rattle.store_tables.proofs.Proved.{clean_before, reads_on, rows_after}
use Rattle.store.proofs.game.act.Goals as goal

pub returns-clause-step : goal.returns-clause-step
returns-clause-step g c clean =
    let looked = clean_before c.decide_in_game.ensures.reads clean in
    IfOk-weaker c.decide_in_game.result _ _ (λ d step content old k tells plays verdict of since.
    let laws = g.R.Rules.rules in
    let terms = terms_given c.args.stored.now.terms in
    let command = game_command_of c.args.command.now in
    let view = c.in_ok-view.view in
    let (shows, asked) = c.in_ok-view.ensures.shows looked content old k tells plays verdict of in
    let is = c.in_ok-view.ensures.terms in
    let kept = rows_after c.in_ok-view.ensures.reads looked content k in
    let asked_for = subst (λ n. ShowsPly laws old n view) c.asked_ply-ply.ensures asked in
    subst
    (λ t. IsDecidedIn laws t c.args.stored.now.id c.args.moment (content 14) old
    (game_step laws t old c.args.moment c.args.caller command) d) is
    (step content old kept tells (subst (λ t. IsTrue (is_budget t.budget)) (sym is) of.budget)
    (subst (λ t. IsTrue (is_increment t.increment)) (sym is) of.increment)
    (subst (λ t. IsLegalGame laws t old) (sym is) of.legal) shows asked_for
    (subst (λ t. (clocks_of old t).since ≤ c.args.moment) (sym is) since))) (c.decide_in_game.ensures.step clean)

pub returns-clause-reads : goal.returns-clause-reads
returns-clause-reads g c = reads_on c.in_ok-view.ensures.reads c.decide_in_game.ensures.reads

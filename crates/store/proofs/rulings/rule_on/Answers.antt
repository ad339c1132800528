use Rattle.std.proofs.Common.{◌≡◌, Result, Ok, Err, false, length, ap, sym, subst, ◌∙◌, arith}
use Rattle.std.proofs.lemmas.List.{length-map}
use Rattle.std.specs.Prelude.{is_ok}
use Rattle.std.specs.Result.{IsErr}
use Rattle.sqlite.specs.State.{State}
use Rattle.club_requests.specs.Outcome.{by_officer}
use Rattle.club_core.specs.Step.{ruling_step}
use Rattle.club_core.specs.Rulings.{ruling_under}
use Rattle.club_core.specs.View.{IsRowOf, terms_of}
use Rattle.club_core.specs.internal.View.{ShowsRulings}
use Rattle.club_core.specs.internal.View.{IsConcluded, concluded}
use Rattle.club_rows.specs.internal.Replay.{terms_given}
use Rattle.club_rows.specs.internal.Rulings.{given_of}
use Rattle.club_changes.proofs.Proved.{ruled_players, ruled_unmoved}
use Rattle.club_reads.specs.internal.Rulings.{FindsRulings}
use Rattle.store_tables.proofs.Proved.{clean_before, ended, reads_on, rows_after}
use Rattle.store_tables.specs.Reading.{Reads}
use Rattle.store.proofs.rulings.rule_on.Goals as goal

-- what a call that failed has read, by the fault that is returned
after_failure : {A E : Type 0} (r : Result A E) {old new : State} → IsErr r → Reads false old new
    → Reads (is_ok r) old new
after_failure (Err fault) failed reads = reads
after_failure (Ok value) failed reads = cc

pub returns-clause-step : goal.returns-clause-step
returns-clause-step g c clean content old k tells finds of =
    let after_rulings = clean_before c.in_ok-scores.ensures.reads clean in
    let after_view = clean_before c.in_ok-rulings.ensures.reads after_rulings in
    let laws = g.R.Rules.rules in
    let terms = terms_given c.args.stored.now.terms in
    let id = c.args.stored.now.id in
    let who = c.args.caller in
    let number = c.args.command.now.number in
    let ruling = c.args.command.now.ruling in
    let moment = c.args.moment in
    let o = by_officer who (ruling_step laws old number ruling moment) in
    let view = c.in_ok-view.view in
    let shows = c.in_ok-view.ensures.shows after_view content old k tells (λ some. finds) of in
    let view_rows = c.in_ok-view.ensures.reads in
    let here : FindsRulings id old content _ = record {
      stored = rows_after view_rows after_view content finds.stored;
      found = finds.found;
      possible = finds.possible;
    } in
    let given = (c.in_ok-rulings.ensures.found after_rulings content old.rulings old.outside here).0 in
    let counted : length c.in_ok-rulings.rulings.given.items ≡ length old.rulings =
    sym (length-map c.in_ok-rulings.rulings.given.items given_of) ∙ ap length given in
    let stored : ShowsRulings old number c.stored_rulings.result = record {
      count = c.stored_rulings.ensures.count (omega (arith, counted, finds.possible.count)) ∙ counted;
      asked = c.stored_rulings.ensures.asked ∙ ap (λ rs. ruling_under rs number) given;
    } in
    let decided = c.in_ok-decision.ensures old moment shows stored in
    let same = c.in_ok-view.ensures.terms in
    let is_row = subst (λ t. IsRowOf laws t old view.row) same shows.row in
    let closed = c.conclude-decision.ensures ∙ ap (concluded laws c.in_ok-decision.decision) c.settle-settled.ensures in
    let is = subst (λ d. IsConcluded laws (terms_of view) old o d) (sym closed)
    (decided.1 0 0
    (ruled_unmoved laws (terms_of view) id old number ruling moment who c.in_ok-decision.decision decided.0)) in
    let is_in = subst (λ t. IsConcluded laws t old o c.conclude-decision.result) same is in
    let has = c.in_ok-ruling.ensures terms old who is_row of.legal is_in in
    let players = ruled_players laws terms id old number ruling moment who c.conclude-decision.result is_in
    of.legal.players in
    let scores = c.in_ok-scores.ensures.scores clean content
    (rows_after c.in_ok-rulings.ensures.reads after_rulings content (rows_after view_rows after_view content k))
    players in
    c.in_ok-put_ruling.ensures.step terms old view.row who number ruling (content 14) of.budget of.increment of.legal is_row
    is_in has scores

pub returns-clause-reads : goal.returns-clause-reads
returns-clause-reads g c =
    reads_on c.in_ok-view.ensures.reads (reads_on c.in_ok-rulings.ensures.reads c.in_ok-scores.ensures.reads)

pub returns-in_err-ruling-clause-reads : goal.returns-in_err-ruling-clause-reads
returns-in_err-ruling-clause-reads g c = ended _ (reads_on c.in_ok-view.ensures.reads c.in_ok-rulings.ensures.reads)

pub returns-in_err-scores-clause-reads : goal.returns-in_err-scores-clause-reads
returns-in_err-scores-clause-reads g c =
    after_failure _ c.from_residual-in_err-scores.ensures.0
    (reads_on c.in_ok-view.ensures.reads (reads_on c.in_ok-rulings.ensures.reads c.in_err-scores.ensures.reads))

pub returns-in_err-put_ruling-clause-reads : goal.returns-in_err-put_ruling-clause-reads
returns-in_err-put_ruling-clause-reads g c =
    ended _
    (reads_on c.in_ok-view.ensures.reads (reads_on c.in_ok-rulings.ensures.reads c.in_ok-scores.ensures.reads))

use Rattle.std.proofs.Common.{◌≡◌, Some, None, true, ap, sym, ◌∙◌}
use Rattle.std.specs.Prelude.{is_some}
use Rattle.club_requests.specs.OutsideEnd.{outside_score}
use Rattle.club_core.specs.Game.{rule_end, side_after, turn_of}
use Rattle.club_core.specs.Rulings.{verdict_of}
use Rattle.club_core.proofs.Proved.{are_rules, not-some, turn-of-game}
use Rattle.club_rows.specs.internal.Columns.{columns_in}
use Rattle.club_rows.proofs.Proved.{columns-are}
use Rattle.club_changes.proofs.StoredLemmas.{outside_result, result-alone, result-outside}
use Rattle.club_changes.proofs.imported.stored_game.result_beneath.Goals as goal

pub returns-then-not-has_verdict : goal.returns-then-not-has_verdict
returns-then-not-has_verdict g c terms id game is beneath cells =
    let laws = g.R.Rules.rules in
    let are = columns-are laws terms id game c.args.row.now is (columns_in c.args.stored.now) cells in
    let told = c.has_verdict.ensures terms id game is in
    let none : verdict_of game.rulings ≡ None =
    not-some (verdict_of game.rulings) (sym told ∙ c.if-not-has_verdict.true) in
    ap (λ x. x.result) are ∙ result-alone laws game none

pub returns-in-Some : goal.returns-in-Some
returns-in-Some g c terms id game is beneath cells =
    let laws = g.R.Rules.rules in
    let met = g.met.R.Rules in
    let law = are_rules laws met.first_starts met.turn_passes met.same_is met.ends_at_limit in
    let are = columns-are laws terms id game c.args.row.now is (columns_in c.args.stored.now) cells in
    let told = c.has_verdict.ensures terms id game is in
    let some : is_some (verdict_of game.rulings) ≡ true =
    sym told ∙ c.if-not-has_verdict.false in
    let none : rule_end laws game ≡ None = is.legal.rulings.verdict_alone some in
    let turn = turn-of-game laws law.turn_passes law.first_starts game is.legal.line.legal in
    let side = c.side_after.ensures ∙ (ap side_after (c.from.ensures ∙ ap (λ x. x.plies) are) ∙ sym turn) in
    ap Some (c.score.ensures ∙ ap (outside_score c.in-Some.end) side)
    ∙ (ap (λ o. outside_result laws o (turn_of laws game)) (sym c.in-Some.is ∙ beneath some)
    ∙ result-outside laws game none)

pub returns-in-None : goal.returns-in-None
returns-in-None g c terms id game is beneath cells =
    let laws = g.R.Rules.rules in
    let told = c.has_verdict.ensures terms id game is in
    let some : is_some (verdict_of game.rulings) ≡ true =
    sym told ∙ c.if-not-has_verdict.false in
    let none : rule_end laws game ≡ None = is.legal.rulings.verdict_alone some in
    ap (λ o. outside_result laws o (turn_of laws game)) (sym c.in-None.is ∙ beneath some)
    ∙ result-outside laws game none

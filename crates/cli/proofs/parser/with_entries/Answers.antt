use Rattle.std.proofs.lemmas.Result.{IfOk-weaker}
use Rattle.std.proofs.Common.{codes, refl}
use Rattle.cli.specs.App.{by_arbiter_app, event_app, game_app, import_app, import_csa_app, member_app}
use Rattle.cli.proofs.parser.with_entries.Goals as goal

pub returns : goal.returns
returns c app before =
    let event = c.in_ok-event.ensures in
    IfOk-weaker c.add_subcommand-6.result _ _ (λ built is. record { games = event.games; names = event.names; is = is })
    (c.add_subcommand-6.ensures _ import_csa_app refl
    (c.in_ok-program-5.ensures _ (import_app (codes "import-pdn")) refl
    (c.in_ok-program-4.ensures _ (game_app (codes "seat")) refl
    (c.in_ok-program-3.ensures _ (event_app event.games) refl
    (c.in_ok-program-2.ensures _ member_app refl
    (c.in_ok-program.ensures _ (by_arbiter_app (codes "init")) refl before c.by_arbiter_words-init.ensures)
    c.member_words.ensures)
    event.is) c.seat_words.ensures) c.import_pdn_words.ensures) c.import_csa_words.ensures)

use Rattle.std.proofs.lemmas.Result.{IfOk-weaker}
use Rattle.std.proofs.Common.{codes, refl}
use Rattle.clap.specs.Words.{new_app}
use Rattle.cli.specs.App.{event_app, game_app, import_app, import_csa_app, key_app, member_app, move_app}
use Rattle.cli.specs.App.{of_event_app, rule_app}
use Rattle.cli.proofs.parser.line_words.Goals as goal

pub returns : goal.returns
returns c =
    let event = c.in_ok-event.ensures in
    IfOk-weaker c.add_subcommand-10.result _ _ (λ built is. record { games = event.games; names = event.names; is = is })
    (c.add_subcommand-10.ensures _ (of_event_app (codes "close")) refl
    (c.in_ok-words-9.ensures _ key_app refl
    (c.in_ok-words-8.ensures _ rule_app refl
    (c.in_ok-words-7.ensures _ import_csa_app refl
    (c.in_ok-words-6.ensures _ (import_app (codes "import-pdn")) refl
    (c.in_ok-words-5.ensures _ (new_app (codes "sweep")) refl
    (c.in_ok-words-4.ensures _ move_app refl
    (c.in_ok-words-3.ensures _ (game_app (codes "seat")) refl
    (c.in_ok-words-2.ensures _ (event_app event.games) refl
    (c.in_ok-words.ensures _ member_app refl c.named_line.ensures c.member_words.ensures) event.is)
    c.seat_words.ensures) c.move_words.ensures) c.sweep_words.ensures) c.import_pdn_words.ensures)
    c.import_csa_words.ensures) c.rule_words.ensures) c.key_words.ensures) c.close_words.ensures)

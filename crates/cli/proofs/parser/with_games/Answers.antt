use Rattle.std.proofs.Common.{codes, refl}
use Rattle.cli.specs.App.{of_event_app, of_game_app, show_app}
use Rattle.cli.proofs.parser.with_games.Goals as goal

pub returns : goal.returns
returns c app before =
    c.add_subcommand-4.ensures _ (of_event_app (codes "export-event")) refl
    (c.in_ok-program-3.ensures _ (of_game_app (codes "export")) refl
    (c.in_ok-program-2.ensures _ show_app refl
    (c.in_ok-program.ensures _ (of_game_app (codes "legal")) refl before c.of_game_words-legal.ensures)
    c.show_words.ensures) c.of_game_words-export.ensures) c.of_event_words-export_event.ensures

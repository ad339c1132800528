-- The grammar of the command line, as the parser's data. No promise of the program rests on these definitions.
use Rattle.std.specs.Prelude.{true, codes}
use Rattle.clap.specs.Words.{App, new_app}
use Rattle.cli.specs.App.{Names, member_app, event_app, game_app, import_app, import_csa_app, key_app, move_app}
use Rattle.cli.specs.App.{of_event_app, rule_app, with_sub}

-- ---- line of a batch

abbrev pub named_line_app : App
named_line_app =
    record (new_app (codes "club")) { top = record (new_app (codes "club")).top { subcommand_required = true } }

abbrev pub line_app : Names → App
line_app games =
    with_sub
    (with_sub
    (with_sub
    (with_sub
    (with_sub
    (with_sub
    (with_sub
    (with_sub
    (with_sub
    (with_sub named_line_app member_app)
    (event_app games))
    (game_app (codes "seat")))
    move_app)
    (new_app (codes "sweep")))
    (import_app (codes "import-pdn")))
    import_csa_app)
    rule_app)
    key_app)
    (of_event_app (codes "close"))

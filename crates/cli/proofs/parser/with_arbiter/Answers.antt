use Rattle.std.proofs.Common.{codes, refl}
use Rattle.cli.specs.App.{extend_app, key_app, of_event_app, of_game_app, retire_app, rule_app}
use Rattle.cli.proofs.parser.with_arbiter.Goals as goal

pub returns : goal.returns
returns c app before =
    c.add_subcommand-6.ensures _ (of_event_app (codes "close")) refl
    (c.in_ok-program-5.ensures _ key_app refl
    (c.in_ok-program-4.ensures _ (of_game_app (codes "rulings")) refl
    (c.in_ok-program-3.ensures _ extend_app refl
    (c.in_ok-program-2.ensures _ retire_app refl
    (c.in_ok-program.ensures _ rule_app refl before c.rule_words.ensures)
    c.retire_words.ensures) c.extend_words.ensures) c.of_game_words-rulings.ensures)
    c.key_words.ensures) c.close_words.ensures

use Rattle.std.proofs.Common.{codes, refl}
use Rattle.clap.specs.Words.{new_app}
use Rattle.cli.specs.App.{games_app, of_event_app}
use Rattle.cli.proofs.parser.with_lists.Goals as goal

pub returns : goal.returns
returns c app before =
    c.add_subcommand-5.ensures _ (new_app (codes "challenges")) refl
    (c.in_ok-program-4.ensures _ games_app refl
    (c.in_ok-program-3.ensures _ (new_app (codes "events")) refl
    (c.in_ok-program-2.ensures _ (new_app (codes "members")) refl
    (c.in_ok-program.ensures _ (of_event_app (codes "table")) refl before c.of_event_words-table.ensures)
    c.subcommand-members.ensures) c.subcommand-events.ensures) c.games_words.ensures) c.subcommand-challenges.ensures

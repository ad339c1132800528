use Rattle.std.proofs.Common.{refl}
use Rattle.cli.specs.App.{batch_app, move_app, round_robin_app, sweep_app}
use Rattle.cli.proofs.parser.with_orders.Goals as goal

pub returns : goal.returns
returns c app before =
    c.add_subcommand-4.ensures _ round_robin_app refl
    (c.in_ok-program-3.ensures _ batch_app refl
    (c.in_ok-program-2.ensures _ sweep_app refl
    (c.in_ok-program.ensures _ move_app refl before c.move_words.ensures) c.limited_sweep_words.ensures) c.batch_words.ensures)
    c.round_robin_words.ensures

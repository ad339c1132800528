use Rattle.std.proofs.Common.{codes, refl}
use Rattle.clap.specs.Words.{new_app}
use Rattle.cli.specs.App.{backup_app, by_arbiter_app, serve_app}
use Rattle.cli.proofs.parser.with_files.Goals as goal

pub returns : goal.returns
returns c app before =
    c.add_subcommand-4.ensures _ serve_app refl
    (c.in_ok-program-3.ensures _ backup_app refl
    (c.in_ok-program-2.ensures _ (by_arbiter_app (codes "upgrade")) refl
    (c.in_ok-program.ensures _ (new_app (codes "verify")) refl before c.subcommand-verify.ensures)
    c.by_arbiter_words-upgrade.ensures) c.backup_words.ensures) c.serve_words.ensures

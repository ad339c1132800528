use Rattle.cli.proofs.parser.dry_words.Goals as goal

pub returns : goal.returns
returns c = c.with_word.ensures _ _ c.subcommand-words.ensures c.flag.ensures

use Rattle.cli.proofs.parser.show_words.Goals as goal

pub returns : goal.returns
returns c =
    c.with_word-2.ensures _ _
    (c.in_ok-words.ensures _ _ c.subcommand-words.ensures c.flag.ensures) c.number.ensures

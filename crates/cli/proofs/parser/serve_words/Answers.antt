use Rattle.cli.proofs.parser.serve_words.Goals as goal

pub returns : goal.returns
returns c =
    c.with_word-4.ensures _ _
    (c.in_ok-words-3.ensures _ _
    (c.in_ok-words-2.ensures _ _
    (c.in_ok-words.ensures _ _ c.subcommand-words.ensures c.flag.ensures) c.number_option.ensures)
    c.repeated_option.ensures) c.port_word.ensures

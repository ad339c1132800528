use Rattle.cli.proofs.parser.games_words.Goals as goal

pub returns : goal.returns
returns c =
    c.with_word-4.ensures _ _
    (c.in_ok-words-3.ensures _ _
    (c.in_ok-words-2.ensures _ _
    (c.in_ok-words.ensures _ _ c.subcommand-words.ensures c.name_option.ensures) c.name_option-2.ensures)
    c.flag.ensures) c.flag-2.ensures

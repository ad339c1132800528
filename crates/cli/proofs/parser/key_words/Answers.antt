use Rattle.cli.proofs.parser.key_words.Goals as goal

pub returns : goal.returns
returns c =
    c.with_word-3.ensures _ _
    (c.in_ok-words-2.ensures _ _
    (c.in_ok-words.ensures _ _ c.subcommand-words.ensures c.word.ensures) c.number.ensures) c.word-2.ensures

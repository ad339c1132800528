use Rattle.cli.proofs.parser.rule_words.Goals as goal

pub returns : goal.returns
returns c =
    c.with_word-3.ensures _ _
    (c.in_ok-words-2.ensures _ _
    (c.in_ok-words.ensures _ _ c.subcommand-words.ensures c.number.ensures) c.number-2.ensures) c.ruling_word.ensures

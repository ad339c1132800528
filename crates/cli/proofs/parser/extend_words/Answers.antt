use Rattle.cli.proofs.parser.extend_words.Goals as goal

pub returns : goal.returns
returns c =
    c.with_word-2.ensures _ _ (c.in_ok-words-2.ensures _ _ c.in_ok-words.ensures c.word.ensures) c.number.ensures

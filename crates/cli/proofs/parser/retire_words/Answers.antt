use Rattle.cli.proofs.parser.retire_words.Goals as goal

pub returns : goal.returns
returns c =
    c.with_word-3.ensures _ _
    (c.in_ok-words-3.ensures _ _
    (c.in_ok-words-2.ensures _ _ c.in_ok-words.ensures c.word.ensures) c.word-2.ensures) c.word-3.ensures

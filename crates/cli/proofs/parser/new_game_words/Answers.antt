use Rattle.cli.proofs.parser.new_game_words.Goals as goal

pub returns : goal.returns
returns c =
    c.with_word-4.ensures _ _
    (c.in_ok-words-3.ensures _ _
    (c.in_ok-words-2.ensures _ _
    (c.in_ok-words.ensures _ _ c.subcommand-words.ensures c.word.ensures) c.word-2.ensures) c.word-3.ensures)
    c.word-4.ensures

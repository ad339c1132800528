use Rattle.cli.proofs.parser.import_words.Goals as goal

pub returns : goal.returns
returns c = c.with_word.ensures _ _ c.in_ok-words.ensures c.word.ensures

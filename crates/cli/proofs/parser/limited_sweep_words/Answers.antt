use Rattle.cli.proofs.parser.limited_sweep_words.Goals as goal

pub returns : goal.returns
returns c = c.with_word.ensures _ _ c.sweep_words.ensures c.number_option.ensures

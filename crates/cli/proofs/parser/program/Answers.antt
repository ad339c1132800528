use Rattle.cli.proofs.parser.program.Goals as goal

pub returns : goal.returns
returns c =
    c.with_word-4.ensures _ _
    (c.in_ok-words-3.ensures _ _
    (c.in_ok-words-2.ensures _ _
    (c.in_ok-words.ensures _ _
    (c.named_program-words.ensures) c.flag.ensures) c.flag-2.ensures) c.now_option.ensures) c.word.ensures

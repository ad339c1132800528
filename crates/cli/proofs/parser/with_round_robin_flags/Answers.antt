use Rattle.cli.proofs.parser.with_round_robin_flags.Goals as goal

pub returns : goal.returns
returns c app before = c.with_word-2.ensures _ _ (c.in_ok-words.ensures _ _ before c.flag.ensures) c.flag-2.ensures

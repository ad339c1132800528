use Rattle.std.proofs.lemmas.Result.{IfOk-weaker}
use Rattle.cli.proofs.parser.event_words.Goals as goal

pub returns : goal.returns
returns c =
    let games = c.game_word.ensures in
    IfOk-weaker c.with_word-4.result _ _ (λ built is. record { games = games.0; names = games.1; is = is })
    (c.with_word-4.ensures _ _
    (c.in_ok-words-3.ensures _ _
    (c.in_ok-words-2.ensures _ _
    (c.in_ok-words.ensures _ _ c.subcommand-words.ensures c.word.ensures) games.2) c.number.ensures) c.number-2.ensures)

use Rattle.std.proofs.Common.{◌≡◌, List, Err, sym, ap, ◌∙◌}
use Rattle.squares.specs.declared.shogi.moves.SMove.{SMove}
use Rattle.squares.specs.ShogiOpening.{opening}
use Rattle.csa.specs.declared.lines.NumberedStatement.{NumberedStatement}
use Rattle.csa.specs.Endings.{ending}
use Rattle.csa.specs.Records.{score_in, end_in}
use Rattle.csa.proofs.EndingLemmas.{end-fails}
use Rattle.csa.proofs.records.game_of.Goals as goal

pub returns-in-Err-clause-fault : goal.returns-in-Err-clause-fault
returns-in-Err-clause-fault c =
    let placed : List NumberedStatement = c.args.placed.now in
    let ms : List SMove = c.args.replay.moves.items in
    let end = c.end-end.result in
    let score : score_in placed ms end ≡ Err c.in-Err.fault =
    ap (λ p. ending (end_in placed) p end) (sym c.requires.stands.position)
    ∙ ap (λ w. ending w c.args.replay.position end) (sym c.end_in-word.ensures) ∙ sym c.ending.ensures ∙ c.in-Err.is in
    end-fails placed ms end c.in-Err.fault
    (record {
      even = c.requires.even;
      moves = record { mean = c.requires.mean; played = c.requires.stands.follows.played };
      ends = c.end-end.ensures opening ms c.requires.stands.follows;
    }) score

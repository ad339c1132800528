use Rattle.std.proofs.Common.{◌≤◌, arith, length}
use Rattle.club_requests.specs.Limits.{most_tried_moves}
use Rattle.club_answers.proofs.AnalysisLemmas.{few_is}
use Rattle.club_answers.proofs.analyses.are_few.Goals as goal

pub returns-then-texts-le-MOST_TRIED_MOVES : goal.returns-then-texts-le-MOST_TRIED_MOVES
returns-then-texts-le-MOST_TRIED_MOVES c =
    let few : length c.args.texts.now ≤ most_tried_moves = omega (arith, c.if-texts-le-MOST_TRIED_MOVES.true) in
    few_is c.args.texts.now c.are_short.result few c.are_short.ensures

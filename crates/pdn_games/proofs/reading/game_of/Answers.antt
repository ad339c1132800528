use Rattle.std.proofs.Common.{◌≡◌, List, Err, sym, ap, ap₂, ◌∙◌}
use Rattle.squares.specs.declared.draughts.moves.DMove.{DMove}
use Rattle.squares.specs.DraughtsOpening.{opening}
use Rattle.draughts_draws.specs.Ends.{end_of}
use Rattle.pdn_games.specs.Tokens.{PlacedToken}
use Rattle.pdn_games.specs.internal.TokenValues.{all_placed}
use Rattle.pdn_games.specs.Reading.{score_of_result, score_by_rules, settled, score_in}
use Rattle.pdn_games.proofs.EndingLemmas.{end-fails}
use Rattle.pdn_games.proofs.reading.game_of.Goals as goal

pub returns-in-Err-clause-fault : goal.returns-in-Err-clause-fault
returns-in-Err-clause-fault c =
    let tokens : List PlacedToken = all_placed c.args.placed.now in
    let ms : List DMove = c.args.replay.moves.items in
    let follows = c.requires.stands.follows in
    let claim = c.score_of_result-claim.ensures ∙ ap score_of_result c.result_in.ensures in
    let end : c.end.result ≡ end_of opening ms = c.end.ensures opening ms follows in
    let turn = c.turn.ensures ∙ ap (λ p. p.turn) c.requires.stands.position in
    let rule = c.score_by_rules-by_rule.ensures ∙ ap₂ score_by_rules end turn in
    let tag = c.tag_score.ensures in
    let score : score_in tokens ms ≡ Err c.in-Err.fault = sym (λ i. settled (claim i) (rule i) (tag i))
    ∙ sym c.in-Err.ensures in
    end-fails tokens ms c.in-Err.fault
    (record { of_club = c.requires.of_club; moves = record { mean = c.requires.mean; played = follows.played } })
    score

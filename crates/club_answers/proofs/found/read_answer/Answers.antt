use Rattle.club_requests.specs.Analysis.{analysis_view}
use Rattle.club_requests.specs.declared.questions.Question.TheVariants as question
use Rattle.club_answers.specs.Analyses.{IsAnalysisText, IsNoAnalysis}
use Rattle.club_answers.specs.AnswerTexts.{IsLegalText, IsNoGame}
use Rattle.club_answers.specs.Boards.{IsBoardText}
use Rattle.club_answers.specs.GameBodies.{IsGameBody, IsMovesBody}
use Rattle.club_answers.proofs.FoundLemmas.{found_in_rows, found_stored}
use Rattle.club_answers.proofs.found.read_answer.Goals as goal

pub returns-in-LegalMoves-clause-found : goal.returns-in-LegalMoves-clause-found
returns-in-LegalMoves-clause-found g c clean =
    found_stored (λ s. IsLegalText s c.in-LegalMoves.game) (λ s. IsNoGame s c.in-LegalMoves.game) c.args.moment
    (question.LegalMoves c.in-LegalMoves.game) (λ s text is. is) (λ s refusal is. is) c.args.version _ _ c.legal_moves.result
    c.in-LegalMoves.is (c.legal_moves.ensures.found clean)

pub returns-in-GameJson-clause-found : goal.returns-in-GameJson-clause-found
returns-in-GameJson-clause-found g c clean =
    found_stored (λ s. IsGameBody s c.in-GameJson.game) (λ s. IsNoGame s c.in-GameJson.game) c.args.moment
    (question.GameJson c.in-GameJson.game) (λ s text is. is) (λ s refusal is. is) c.args.version _ _ c.game_body.result
    c.in-GameJson.is (c.game_body.ensures.found clean)

pub returns-in-LegalMovesJson-clause-found : goal.returns-in-LegalMovesJson-clause-found
returns-in-LegalMovesJson-clause-found g c clean =
    found_stored (λ s. IsMovesBody s c.in-LegalMovesJson.game) (λ s. IsNoGame s c.in-LegalMovesJson.game) c.args.moment
    (question.LegalMovesJson c.in-LegalMovesJson.game) (λ s text is. is) (λ s refusal is. is) c.args.version _ _ c.moves_body.result
    c.in-LegalMovesJson.is (c.moves_body.ensures.found clean)

pub returns-in-Board-clause-found : goal.returns-in-Board-clause-found
returns-in-Board-clause-found g c clean =
    found_stored (λ s. IsBoardText s c.args.moment c.in-Board.game c.in-Board.letters) (λ s. IsNoGame s c.in-Board.game) c.args.moment
    (question.Board c.in-Board.game c.in-Board.letters) (λ s text is. is) (λ s refusal is. is) c.args.version _ _ c.board.result
    c.in-Board.is (c.board.ensures.found clean)

pub returns-in-Analysis-clause-found : goal.returns-in-Analysis-clause-found
returns-in-Analysis-clause-found g c clean =
    found_in_rows (λ s. IsAnalysisText s (analysis_view c.in-Analysis.asked)) (λ s. IsNoAnalysis s (analysis_view c.in-Analysis.asked)) c.args.moment
    (question.Analysis c.in-Analysis.asked) (λ s text is. is) (λ s refusal is. is) c.args.version _ _ c.analysis.result
    c.in-Analysis.is (c.analysis.ensures.found clean)

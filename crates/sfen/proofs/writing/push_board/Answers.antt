use Rattle.std.proofs.Common.{ℕ, List, ◌++◌, ap, ◌∙◌, string_bytes, append_assoc}
use Rattle.sfen.specs.SfenText.{rank_text, more_ranks, board_text}
use Rattle.sfen.proofs.WrittenLemmas.{ranks-end}
use Rattle.sfen.proofs.writing.push_board.Goals as goal

pub returns : goal.returns
unfolding board_text
returns c =
    let board = c.args.board.now in
    let text : List ℕ = string_bytes c.args.text.now in
    ranks-end board c.loop-rank.rank _ (string_bytes c.loop-rank.text) c.loop-rank-test.false c.loop-rank.invariant
    ∙ ap (λ t. t ++ more_ranks board 2 8) c.in_ok-push_rank.ensures
    ∙ append_assoc text (rank_text board 1) (more_ranks board 2 8)

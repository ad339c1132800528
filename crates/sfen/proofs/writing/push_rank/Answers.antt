use Rattle.std.proofs.Common.{ℕ, List, ◌++◌, ◌-◌, ◌+◌, refl, sym, ap, ◌∙◌, arith, string_bytes, Option}
use Rattle.std.specs.FinMap as map
use Rattle.squares.specs.declared.shogi.piece.SPiece.{SPiece}
use Rattle.squares.specs.ShogiGeometry.{shogi_number}
use Rattle.sfen.specs.SfenGrammar.{cells_from}
use Rattle.sfen.specs.SfenText.{cells_text, rank_text}
use Rattle.sfen.proofs.WrittenLemmas.{cells-more, rank-piece, rank-gap}
use Rattle.sfen.proofs.writing.push_rank.Goals as goal
use Rattle.sfen.proofs.writing.push_rank.Goals.{in-Some+in_ok-push_gap-in-Some+in_ok-push_piece-in-Some, in-None}

pub loop-past-init : goal.loop-past-init
unfolding rank_text
loop-past-init c = record { written = refl; few = omega arith }

pub loop-past-preserved : goal.loop-past-preserved
loop-past-preserved c =
    let board = c.args.board.now in
    let rank : ℕ = c.args.rank in
    let k : ℕ = c.loop-past.past in
    let text : List ℕ = string_bytes c.loop-past.text in
    let gap : ℕ = c.loop-past.gap in
    let left : List (Option SPiece) = cells_from board rank (9 - (k + 1)) in
    let cell : Option SPiece = map.get board (shogi_number (9 - k) rank) in
    let whole : List ℕ = string_bytes c.args.text.now ++ rank_text board rank in
    let before =
    sym
    (ap (λ (cs : List (Option SPiece)). text ++ cells_text gap cs) (cells-more board rank k c.loop-past-test.true))
    ∙ c.loop-past.invariant.written in
    elim c.match-piece_at.branch [
      | in-Some+in_ok-push_gap-in-Some+in_ok-push_piece-in-Some w ↦ record {
        written =
            ap (λ t. string_bytes t ++ cells_text c.match-piece_at.gap left) w.text-is
            ∙ ap (λ (g : ℕ). string_bytes w.push_piece.new.text ++ cells_text g left) w.gap-is
            ∙ rank-piece whole text gap left cell before w.in-Some.piece _ _ (sym c.piece_at.ensures ∙ w.in-Some.is)
            w.in_ok-push_gap-in-Some.ensures w.in_ok-push_piece-in-Some.ensures;
        few = omega (arith, w.gap-is);
      }
      | in-None w ↦ record {
        written =
            ap (λ t. string_bytes t ++ cells_text c.match-piece_at.gap left) w.text-is
            ∙ ap (λ (g : ℕ). text ++ cells_text g left) w.gap-is
            ∙ rank-gap whole text gap left cell before (sym c.piece_at.ensures ∙ w.in-None.is);
        few = omega (arith, w.gap-is, c.loop-past.invariant.few);
      }
    ]

use Rattle.std.proofs.Common.{◌≡◌, ℕ, ◌+◌, ◌++◌, List, drop, get_or, sym, ap, subst, ◌∙◌}
use Rattle.std.specs.Prelude.{string_bytes}
use Rattle.squares.specs.declared.draughts.moves.DMove.{DMove}
use Rattle.squares.specs.DraughtsOpening.{opening}
use Rattle.squares.specs.DraughtsBoard.{Position}
use Rattle.draughts_moves.specs.Legal.{Legal, play}
use Rattle.pdn_games.specs.Writing.{plies_text}
use Rattle.pdn_games.proofs.WriterLemmas.{next-legal, next-position, plies-grow}
use Rattle.pdn_games.proofs.game_text.push_plies.Goals as goal

pub push_ply-requires : goal.push_ply-requires
push_ply-requires c =
    let ms : List DMove = c.args.moves.now in
    let i : ℕ = c.loop-i.i in
    let m : DMove = c.index-moves-i.result in
    let is : m ≡ get_or ms i m = c.index-moves-i.is in
    subst (λ p. Legal p m) (sym c.loop-i.invariant.at) (next-legal ms i m c.loop-i-test.true is c.requires)

pub loop-i-preserved : goal.loop-i-preserved
loop-i-preserved c =
    let ms : List DMove = c.args.moves.now in
    let i : ℕ = c.loop-i.i in
    let m : DMove = c.index-moves-i.result in
    let is : m ≡ get_or ms i m = c.index-moves-i.is in
    let p : Position = c.loop-i.position in
    let whole : List ℕ = string_bytes c.args.text.now ++ plies_text opening 0 ms in
    let grown = plies-grow p ms i m (string_bytes c.loop-i.text) (string_bytes c.push_ply.new.text) whole
    c.loop-i-test.true is c.in_ok-push_ply.ensures c.loop-i.invariant.text in
    record {
      at = c.play-position.ensures ∙ ap (λ (q : Position). play q m) c.loop-i.invariant.at
          ∙ sym (next-position ms i m c.loop-i-test.true is);
      text =
          subst (λ (q : Position). string_bytes c.push_ply.new.text ++ plies_text q (i + 1) (drop (i + 1) ms) ≡ whole)
          (sym c.play-position.ensures) grown;
    }

use Rattle.std.proofs.Common.{◌≡◌, List, [], ℕ, ◌++◌, length, append_assoc}
use Rattle.squares.specs.DraughtsOpening.{opening}
use Rattle.pdn_games.specs.Writing.{plies_text, end_text}
use Rattle.pdn_games.specs.internal.Writer.{tags_text}
use Rattle.pdn_games.proofs.game_text.write_game.Goals as goal

joined : (t0 t1 t2 t3 a b c : List ℕ) → t0 ≡ [] → t1 ≡ t0 ++ a → t2 ≡ t1 ++ b → t3 ≡ t2 ++ c → t3 ≡ a ++ (b ++ c)
joined t0 t1 t2 t3 a b c e0 e1 e2 e3 = rw (e3, e2, e1, e0) (append_assoc a b c)

pub returns : goal.returns
unfolding tags_text
returns c =
    let head = c.args.head.now in
    let ms = c.args.moves.now in
    joined _ _ _ _ (tags_text head) (plies_text opening 0 ms) (end_text (length ms) head.score) c.new-text.ensures.bytes
    c.in_ok-push_head.ensures c.in_ok-push_plies.ensures c.in_ok-push_end.ensures

use Rattle.std.proofs.Common.{◌≡◌, ℕ, ◌++◌, List, get_or, sym, ap, ◌∙◌}
use Rattle.std.specs.Prelude.{string_bytes}
use Rattle.std.proofs.lemmas.List.{get_or_default}
use Rattle.squares.specs.declared.shogi.moves.SMove.{SMove}
use Rattle.squares.specs.ShogiOpening.{opening}
use Rattle.squares.specs.ShogiSets.{ShogiPosition}
use Rattle.shogi_moves.specs.Rules.{play}
use Rattle.csa.specs.Writing.{entries_text}
use Rattle.csa.proofs.EntryLemmas.{next-legal, next-position, entries-grow}
use Rattle.csa.proofs.game_text.push_entries.Goals as goal

pub play-position-requires : goal.play-position-requires
play-position-requires c =
    let es : List (SMove × ℕ) = c.args.entries.now in
    let i : ℕ = c.loop-i.i in
    let e : SMove × ℕ = get_or es i c.index-entries-i.result in
    let is : e ≡ get_or es i e = ap (λ x. get_or es i x) c.index-entries-i.is in
    rw c.loop-i.invariant.at (next-legal es i e c.loop-i-test.true is c.requires)

pub loop-i-preserved : goal.loop-i-preserved
loop-i-preserved c =
    let es : List (SMove × ℕ) = c.args.entries.now in
    let i : ℕ = c.loop-i.i in
    let e : SMove × ℕ = get_or es i c.index-entries-i.result in
    let is : e ≡ get_or es i e = ap (λ x. get_or es i x) c.index-entries-i.is in
    let p : ShogiPosition = c.loop-i.position in
    let whole : List ℕ = string_bytes c.args.text.now ++ entries_text opening es in
    let one = get_or_default es i c.index-entries-i-in-loop-i.result c.index-entries-i.result c.loop-i-test.true in
    let grown = entries-grow p es i e (string_bytes c.loop-i.text) (string_bytes c.push_entry.new.text) whole
    c.loop-i-test.true is (rw one at c.in_ok-push_entry.ensures) c.loop-i.invariant.text in
    record {
      at = c.play-position.ensures ∙ ap (λ (q : ShogiPosition). play q e.0) c.loop-i.invariant.at
          ∙ sym (next-position es i e c.loop-i-test.true is);
      text = rw c.play-position.ensures grown;
    }

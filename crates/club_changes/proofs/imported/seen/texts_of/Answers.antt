use Rattle.std.proofs.Common.{[], ◌∷◌, ap, ◌∙◌}
use Rattle.std.specs.Prelude.{string_bytes}
use Rattle.std.proofs.lemmas.List.{map-append}
use Rattle.club_changes.specs.internal.MoveTexts.{bytes_of}
use Rattle.club_changes.proofs.MoveLemmas.{move-legal, position-next}
use Rattle.club_changes.proofs.SeenTexts.{texts-next}
use Rattle.club_changes.proofs.imported.seen.texts_of.Goals as goal

pub play-position-requires : goal.play-position-requires
play-position-requires g c =
    move-legal g.R.Rules.rules c.args.moves.now c.loop-i.i c.index-moves-i.result c.loop-i-test.true c.index-moves-i.is
    c.requires c.loop-i.position c.loop-i.invariant.position

pub loop-i-preserved : goal.loop-i-preserved
loop-i-preserved g c =
    let laws = g.R.Rules.rules in
    let now = c.loop-i.invariant in
    let ms = c.args.moves.now in
    let i = c.loop-i.i in
    let m = c.index-moves-i.result in
    let within = c.loop-i-test.true in
    let is = c.index-moves-i.is in
    let text = c.in_ok-write_position-2.field-0 in
    let stands = position-next laws ms i m within is c.loop-i.position c.play-position.result now.position
    c.play-position.ensures in
    let pushed = ap bytes_of c.in_ok-push-2.ensures.items
    ∙ map-append (λ t. string_bytes t) c.loop-i.texts.items (text ∷ []) in
    record {
      texts = texts-next laws ms i m within is (bytes_of c.loop-i.texts.items)
          (bytes_of c.push-in-loop-i.new.self.items) (string_bytes text) c.play-position.result now.texts pushed
          c.in_ok-write_position-2.ensures stands;
      position = stands;
    }

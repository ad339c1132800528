use Rattle.std.proofs.Common.{◌≡◌, List, ℕ, Some, take, sym, ap, subst, ◌∙◌}
use Rattle.std.proofs.lemmas.List.{take-map}
use Rattle.squares.specs.declared.shogi.moves.SMove.{SMove}
use Rattle.squares.specs.ShogiOpening.{opening}
use Rattle.shogi_moves.specs.Rules.{Legal}
use Rattle.shogi_repetition.specs.Line.{last_position}
use Rattle.csa.specs.declared.head.CsaEnd.TheVariants.{Resigned, Declared}
use Rattle.csa.specs.internal.Writer.{HasWritten}
use Rattle.csa.proofs.Proved.{next-legal, taken-next}
use Rattle.scripts.proofs.rules.csa_written.write_entries.Goals as goal

pub push-requires : goal.push-requires
push-requires g c =
    let es : List (SMove × ℕ) = c.args.entries.now in
    let i : ℕ = c.loop-i.i in
    let e : SMove × ℕ = c.index-entries-i.result in
    let at = c.loop-i.invariant.position ∙ ap (last_position opening) (sym (take-map (λ e. e.0) i es)) in
    subst (λ p. Legal p e.0) (sym at) (next-legal es i e c.loop-i-test.true c.index-entries-i.is c.requires.played)

pub loop-i-preserved : goal.loop-i-preserved
loop-i-preserved g c =
    let es : List (SMove × ℕ) = c.args.entries.now in
    let i : ℕ = c.loop-i.i in
    let e : SMove × ℕ = c.index-entries-i.result in
    let before = g.W.Write.contents c.args.writer.now in
    let now = g.W.Write.contents c.push.new.writer in
    subst (λ l. HasWritten c.args.head.now l before now c.push.new.self)
    (sym (taken-next es i e c.loop-i-test.true c.index-entries-i.is))
    (c.in_ok-push.ensures.written c.args.head.now before (take i es) c.loop-i.invariant)

pub finish-requires : goal.finish-requires
finish-requires g c = λ declared.
    let told : Some Resigned ≡ Some Declared = sym c.requires.end ∙ (sym c.loop-i.invariant.end ∙ declared) in
    absurd (cc)

use Rattle.std.proofs.Common.{◌∙◌, sym}
use Rattle.cross_tables.proofs.FieldLemmas.{entrants-more, entrants-same}
use Rattle.cross_tables.proofs.field.entrants.Goals as goal

pub loop-before-preserved : goal.loop-before-preserved
loop-before-preserved c =
    entrants-more c.args.games.now c.loop-before.before c.loop-before.members.items c.push.new.self.items
    c.loop-before.invariant (sym c.is_entrant.ensures ∙ c.if-not-is_entrant.false) c.in_ok-push.ensures.items

pub loop-before-preserved-then-not-is_entrant : goal.loop-before-preserved-then-not-is_entrant
loop-before-preserved-then-not-is_entrant c =
    entrants-same c.args.games.now c.loop-before.before c.loop-before.members.items c.loop-before.invariant
    (sym c.is_entrant.ensures ∙ c.if-not-is_entrant.true)

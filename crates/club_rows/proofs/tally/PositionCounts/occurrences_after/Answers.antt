use Rattle.std.proofs.Common.{◌∷◌, ◌++◌, [], ap, sym, subst, ◌∙◌, length}
use Rattle.club_rules.specs.Line.{position_after}
use Rattle.club_rows.specs.internal.Tally.{HasStood, seen_at, stood_then}
use Rattle.club_rows.proofs.TallyLemmas.{few-seldom, last-stood, stood-then}
use Rattle.club_rows.proofs.tally.PositionCounts.occurrences_after.Goals as goal

pub returns : goal.returns
returns g c = λ line made is low legal ply text.
    let laws = g.R.Rules.rules in
    let seen = seen_at c.args.self.now c.args.position.now in
    let stood = stood-then laws g.met.R.Rules.same_position_is g.met.R.Rules.texts_tell_positions line made legal
    c.args.self.now is c.args.position.now text in
    let same = c.with.ensures (few-seldom seen (length line) (is.few c.args.position.now) low)
    ∙ ap (stood_then seen) ply in
    last-stood laws (line ++ made ∷ []) c.with.result
    (subst (HasStood laws (line ++ made ∷ []) (position_after laws laws.start (line ++ made ∷ []))) (sym same)
    stood)

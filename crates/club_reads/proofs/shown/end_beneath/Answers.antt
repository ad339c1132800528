use Rattle.std.proofs.Common.{sym, true≢false, ◌∙◌}
use Rattle.club_reads.proofs.shown.end_beneath.Goals as goal

pub returns-then-not-has_verdict-clause-beneath : goal.returns-then-not-has_verdict-clause-beneath
returns-then-not-has_verdict-clause-beneath g c clean content game finds of some =
    absurd (true≢false (sym some ∙ (sym (c.has_verdict.ensures _ _ game of) ∙ c.if-not-has_verdict.true)))

pub returns-clause-beneath : goal.returns-clause-beneath
returns-clause-beneath g c clean content game finds of some =
    (c.in_ok-rulings.ensures.found clean content game.rulings game.outside (finds some)).1 some

use Rattle.std.proofs.Common.{sym, ◌∙◌}
use Rattle.shogi_moves.specs.internal.Layouts.{position_of}
use Rattle.shogi_moves.proofs.PinLemmas.{exposes-nothing}
use Rattle.shogi_moves.proofs.layout.Layout.is_checked_after.Goals as goal

pub returns-then-exposes_nothing : goal.returns-then-exposes_nothing
returns-then-exposes_nothing c =
    let l = c.args.self.now in
    let m = c.args.played.now in
    sym
    (exposes-nothing (position_of l) l.checked l.unpinned m l.is_known l.can_leave
    (sym c.exposes_nothing.ensures ∙ c.if-exposes_nothing.true))

use Rattle.std.proofs.Common.{ap, sym, subst, refl, ◌∙◌, Err, IsOk}
use Rattle.shogi_moves.proofs.Proved.{check_of-refused}
use Rattle.club_rules.specs.MoveRefusal.{refused_by}
use Rattle.club_games.specs.Shogi.{refusal_of}
use Rattle.club_games.specs.internal.ShogiLaws.{legal-check}
use Rattle.club_games.proofs.shogi.ShogiRules.check.Goals as goal

pub returns-in-Ok : goal.returns-in-Ok
returns-in-Ok c = sym (legal-check _ _ (c.check.ensures.legal.0 (subst IsOk (sym c.in-Ok.is) refl)))

pub returns-in-Err : goal.returns-in-Err
returns-in-Err c =
    let refused = (c.check.ensures.refused c.in-Err.illegal).0 c.in-Err.is in
    ap Err c.refusal_of.ensures ∙ sym (ap (refused_by refusal_of) ((check_of-refused _ _ _).1 refused))

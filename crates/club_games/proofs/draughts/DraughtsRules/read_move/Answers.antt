use Rattle.std.proofs.Common.{ap, sym, ◌∙◌, Err}
use Rattle.pdn.specs.declared.faults.MoveFault.TheVariants as fault
use Rattle.pdn.proofs.Proved.{reading-ok}
use Rattle.club_games.specs.Draughts.{move_read}
use Rattle.club_games.proofs.DraughtsFaults.{refused-reading}
use Rattle.club_games.proofs.draughts.DraughtsRules.read_move.Goals as goal

pub returns-in-Ok : goal.returns-in-Ok
returns-in-Ok c =
    sym (ap move_read ((reading-ok c.args.position.now c.args.text.now c.in-Ok.read).1 c.in-Ok.ensures.read))

pub returns-in-Err-BadText : goal.returns-in-Err-BadText
returns-in-Err-BadText c =
    refused-reading _ _ (fault.BadText c.in-Err-BadText.offset)
    (rw c.in-Err-BadText.field-0-is at c.in-Err-BadText.ensures.fault) (λ e. cc)

pub returns-in-Err-Ambiguous : goal.returns-in-Err-Ambiguous
returns-in-Err-Ambiguous c =
    refused-reading _ _ fault.Ambiguous (rw c.in-Err-Ambiguous.field-0-is at c.in-Err-Ambiguous.ensures.fault)
    (λ e. cc)

pub returns-in-Err-Illegal : goal.returns-in-Err-Illegal
returns-in-Err-Illegal c =
    ap Err c.refusal_of.ensures
    ∙ refused-reading _ _ (fault.Illegal c.in-Err-Illegal.cause)
    (rw c.in-Err-Illegal.field-0-is at c.in-Err-Illegal.ensures.fault) (λ e. cc)

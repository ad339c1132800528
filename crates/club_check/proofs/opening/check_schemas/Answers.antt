use Rattle.club_check.proofs.ToldLemmas.{least_number}
use Rattle.club_check.proofs.opening.check_schemas.Goals as goal

pub returns-in-Err-clause-accepts_sound : goal.returns-in-Err-clause-accepts_sound
returns-in-Err-clause-accepts_sound g c clean version s club holds shape =
    c.in-Err.ensures.accepts_sound clean version s club holds shape (least_number version)

use Rattle.club_rows.specs.Tables.{version_of}
use Rattle.club_check.proofs.ToldLemmas.{club_at, served_from, served_number, tables_same}
use Rattle.club_check.proofs.opening.check_database.Goals as goal

pub returns-in-Ok-clause-served : goal.returns-in-Ok-clause-served
returns-in-Ok-clause-served g c = served_from c.in-Ok.register.version c.in-Ok.ensures.taken

pub returns-in-Ok-clause-found : goal.returns-in-Ok-clause-found
returns-in-Ok-clause-found g c clean opened =
    let (s, club, register, exactly) = c.in-Ok.ensures.found clean opened in (s, club, exactly)

pub returns-in-Ok-clause-held : goal.returns-in-Ok-clause-held
returns-in-Ok-clause-held g c clean has sound =
    let (s, club, register, holds) = c.in-Ok.ensures.held clean has sound in (s, club, holds)

pub returns-in-Err-clause-accepts_sound : goal.returns-in-Err-clause-accepts_sound
returns-in-Err-clause-accepts_sound g c clean s club holds shape =
    c.in-Err.ensures.accepts_sound clean (version_of s) s (club_at s club) (tables_same s holds) shape (served_number s)

pub returns-in-Ok-clause-standing : goal.returns-in-Ok-clause-standing
returns-in-Ok-clause-standing g c clean s club holds =
    c.in-Ok.ensures.standing clean (version_of s) s (club_at s club) (tables_same s holds)

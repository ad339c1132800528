use Rattle.std.proofs.Common.{◌≡◌, Some, length, refl, sym, arith}
use Rattle.std.proofs.lemmas.Bool.{ltb-false, ltb-true}
use Rattle.std.proofs.lemmas.Option.{slice_get_past, slice_get_read}
use Rattle.club_rows.proofs.ReadLemmas.{under-none, under-some}
use Rattle.club_rows.proofs.rulings.ruling_under.Goals as goal

pub returns-in-Some : goal.returns-in-Some
returns-in-Some c =
    let given = c.args.given.now in
    let found = c.in-Some.ensures.lookup in
    let within = ltb-true c.in-Ok.place (length given) (sym found.0) in
    let at = slice_get_read given (length given) c.in-Ok.place c.in-Some.ruling.now refl within found.1 in
    under-some given c.args.number c.in-Ok.place c.in-Some.ruling.now (λ zero. c.if-number-eq0.false zero)
    c.in-Ok.ensures.1 at

pub returns-in-None : goal.returns-in-None
returns-in-None c =
    let given = c.args.given.now in
    let past = ltb-false c.in-Ok.place (length given) (sym c.in-None.ensures.lookup.0) in
    under-none given c.args.number c.in-Ok.place (λ zero. c.if-number-eq0.false zero) c.in-Ok.ensures.1
    (slice_get_past given c.in-Ok.place past)

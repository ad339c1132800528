use Rattle.std.proofs.Common.{◌≡◌, pos, refl, sym, arith}
use Rattle.std.proofs.lemmas.Int.{ints}
use Rattle.club_rows.specs.internal.Replay.{terms_given}
use Rattle.club_rows.specs.internal.Rulings.{AreRead}
use Rattle.club_rows.proofs.RightRows.{no-game, read-alone, rulings-possible, rulings-wrong, shown-without-id}
use Rattle.club_rows.proofs.RightRows.{shown-without-start}
use Rattle.club_rows.proofs.view.view_of.Goals as goal

-- ---- an id out of range

pub returns-in-None-clause-sound : goal.returns-in-None-clause-sound
returns-in-None-clause-sound g c =
    (shown-without-id g.R.Rules.rules (terms_given c.args.terms) c.args.row.now c.args.moves.now c.args.rulings.now
    (λ n low is. c.in-None.ensures.none refl n low (omega (arith, ints, is))) c.shown_without_id.result c.shown_without_id.ensures).0

pub returns-in-None-clause-complete : goal.returns-in-None-clause-complete
returns-in-None-clause-complete g c =
    (shown-without-id g.R.Rules.rules (terms_given c.args.terms) c.args.row.now c.args.moves.now c.args.rulings.now
    (λ n low is. c.in-None.ensures.none refl n low (omega (arith, ints, is))) c.shown_without_id.result c.shown_without_id.ensures).1

pub returns-in-None-clause-wrong : goal.returns-in-None-clause-wrong
returns-in-None-clause-wrong g c = λ budget increment.
    (shown-without-id g.R.Rules.rules (terms_given c.args.terms) c.args.row.now c.args.moves.now c.args.rulings.now
    (λ n low is. c.in-None.ensures.none refl n low (omega (arith, ints, is))) c.shown_without_id.result c.shown_without_id.ensures).2

-- ---- rulings that are wrong by themselves

pub returns-in-None-2-clause-complete : goal.returns-in-None-2-clause-complete
returns-in-None-2-clause-complete g c = λ id game is.
    absurd
    (no-game g.R.Rules.rules (terms_given c.args.terms) c.args.row.now c.args.moves.now c.args.rulings.now c.in-Some.id
    (omega (arith, ints, c.in-Some.ensures.some)) (λ rs. c.in_ok-read.ensures.none c.in-None-2.is rs) id game is)

pub returns-in-None-2-clause-wrong : goal.returns-in-None-2-clause-wrong
returns-in-None-2-clause-wrong g c = λ budget increment.
    let wrong = rulings-wrong g.R.Rules.rules (terms_given c.args.terms) c.args.row.now c.args.moves.now
    c.args.rulings.now c.in-Some.id (omega (arith, ints, c.in-Some.ensures.some)) (λ rs. c.in_ok-read.ensures.none c.in-None-2.is rs) in (
      λ possible. absurd (wrong possible),
      λ right. wrong
          (rulings-possible g.R.Rules.rules (terms_given c.args.terms) c.args.row.now c.args.moves.now
          c.args.rulings.now right),
    )

-- ---- a start out of range

pub returns-in-None-to_moment-clause-sound : goal.returns-in-None-to_moment-clause-sound
returns-in-None-to_moment-clause-sound g c =
    (shown-without-start g.R.Rules.rules (terms_given c.args.terms) c.args.row.now c.args.moves.now c.args.rulings.now
    (λ n low is. c.in-None-to_moment.ensures.none refl n low (omega (arith, ints, is)))
    (read-alone g.R.Rules.rules (terms_given c.args.terms) c.args.row.now c.args.moves.now c.args.rulings.now
    c.in-Some.id (omega (arith, ints, c.in-Some.ensures.some)) c.in-Some.ensures.range c.in-Some-2.read
    (rw c.in-Some-2.is at c.in_ok-read.ensures.some)) c.shown_without_start.result c.shown_without_start.ensures).0

pub returns-in-None-to_moment-clause-complete : goal.returns-in-None-to_moment-clause-complete
returns-in-None-to_moment-clause-complete g c =
    (shown-without-start g.R.Rules.rules (terms_given c.args.terms) c.args.row.now c.args.moves.now c.args.rulings.now
    (λ n low is. c.in-None-to_moment.ensures.none refl n low (omega (arith, ints, is)))
    (read-alone g.R.Rules.rules (terms_given c.args.terms) c.args.row.now c.args.moves.now c.args.rulings.now
    c.in-Some.id (omega (arith, ints, c.in-Some.ensures.some)) c.in-Some.ensures.range c.in-Some-2.read
    (rw c.in-Some-2.is at c.in_ok-read.ensures.some)) c.shown_without_start.result c.shown_without_start.ensures).1

pub returns-in-None-to_moment-clause-wrong : goal.returns-in-None-to_moment-clause-wrong
returns-in-None-to_moment-clause-wrong g c = λ budget increment.
    (shown-without-start g.R.Rules.rules (terms_given c.args.terms) c.args.row.now c.args.moves.now c.args.rulings.now
    (λ n low is. c.in-None-to_moment.ensures.none refl n low (omega (arith, ints, is)))
    (read-alone g.R.Rules.rules (terms_given c.args.terms) c.args.row.now c.args.moves.now c.args.rulings.now
    c.in-Some.id (omega (arith, ints, c.in-Some.ensures.some)) c.in-Some.ensures.range c.in-Some-2.read
    (rw c.in-Some-2.is at c.in_ok-read.ensures.some)) c.shown_without_start.result c.shown_without_start.ensures).2

-- ---- what a replay shows

pub view_from-requires-clause-id : goal.view_from-requires-clause-id
view_from-requires-clause-id g c = omega (arith, ints, c.in-Some.ensures.some)

pub view_from-requires-clause-start : goal.view_from-requires-clause-start
view_from-requires-clause-start g c = omega (arith, ints, c.in-Some-to_moment.ensures.some)

pub view_from-requires-clause-possible : goal.view_from-requires-clause-possible
view_from-requires-clause-possible g c = (rw c.in-Some-2.is at c.in_ok-read.ensures.some).possible

pub view_from-requires-clause-verdict : goal.view_from-requires-clause-verdict
view_from-requires-clause-verdict g c = (rw c.in-Some-2.is at c.in_ok-read.ensures.some).verdict_is

pub returns-clause-sound : goal.returns-clause-sound
returns-clause-sound g c =
    c.in_ok-shown.ensures.sound c.args.rulings.now (rw c.in-Some-2.is at c.in_ok-read.ensures.some)

pub returns-clause-complete : goal.returns-clause-complete
returns-clause-complete g c =
    c.in_ok-shown.ensures.complete c.args.rulings.now (rw c.in-Some-2.is at c.in_ok-read.ensures.some)

pub returns-clause-wrong : goal.returns-clause-wrong
returns-clause-wrong g c =
    c.in_ok-shown.ensures.wrong c.args.rulings.now (rw c.in-Some-2.is at c.in_ok-read.ensures.some)

use Rattle.std.proofs.Common.{sym, ◌∙◌}
use Rattle.draughts_moves.proofs.CheckLemmas.{is_positive}
use Rattle.draughts_moves.proofs.MostLemmas.{Capture-by, Capture-own, Capture-Reaches}
use Rattle.draughts_moves.proofs.checking.is_capture.Goals as goal

pub returns-in-None : goal.returns-in-None
returns-in-None c = (
  λ e. cc,
  λ k. let is = Capture-own c.args.position.now k.capture in let none = sym c.own_at.ensures ∙ c.in-None.is in cc,
)

pub returns-in-Some : goal.returns-in-Some
returns-in-Some c =
    let p = c.args.position.now in
    let m = c.args.played.now in
    let q = c.in-Some.piece in
    let own = sym c.own_at.ensures ∙ c.in-Some.is in (
      λ found. let r = rw (c.len-size.ensures, c.new.ensures) at (c.reaches.ensures.0 found) in
          let some = is_positive m.taken c.requires in
          record { landings = r.0; capture = Capture-by p m.from q own r.2; takes = some },
      λ k. c.reaches.ensures.1 (rw (c.len-size.ensures, c.new.ensures) (Capture-Reaches p q own k.capture)),
    )

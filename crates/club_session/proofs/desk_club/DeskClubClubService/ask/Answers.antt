use Rattle.std.proofs.Common.{ap, Err, refl, subst, sym}
use Rattle.sqlite.specs.Held.{state}
use Rattle.club_session.specs.ServedStates.{IsOpenIn}
use Rattle.club_session.proofs.AskLemmas.{asking_left, asking_shown}
use Rattle.club_session.proofs.ServeLemmas.{asked, read_stands}
use Rattle.club_session.proofs.desk_club.DeskClubClubService.ask.Goals as goal

pub returns-in-Ok-clause-serves : goal.returns-in-Ok-clause-serves
returns-in-Ok-clause-serves g c clean s open_in = (
  asking_shown s.state c.args.moment c.args.question.now c.in-Ok.refusal c.new-bytes.result.items c.ask.new.writer.items
      c.text_or_refusal.result c.new-bytes.ensures.items c.text_or_refusal.ensures
      (c.in-Ok.ensures.shown clean s.state (asked open_in)),
  read_stands c.args.self.now.club.has_arbiter c.ask.new.self.has_arbiter
      c.args.self.now.club.needs_reopening c.ask.new.self.needs_reopening
      (state g.S.Store c.args.self.now.club.connection) (state g.S.Store c.ask.new.self.connection) s
      c.in-Ok.ensures.same_schema c.in-Ok.ensures.stays_open (c.in-Ok.ensures.reads.kept refl clean) open_in,
)

pub returns-in-Err-clause-serves : goal.returns-in-Err-clause-serves
returns-in-Err-clause-serves g c clean s open_in =
    asking_left c.args.self.now.club.has_arbiter c.ask.new.self.has_arbiter
    c.args.self.now.club.needs_reopening c.ask.new.self.needs_reopening
    (state g.S.Store c.args.self.now.club.connection) (state g.S.Store c.ask.new.self.connection) s c.args.question.now
    c.in-Err.fault c.fault_of_question.result c.fault_of_question.ensures c.in-Err.ensures.same_schema
    (λ is. c.in-Err.ensures.output (ap Err is)) c.in-Err.ensures.ends
    (c.in-Err.ensures.possible_faults open_in.ready)
    (λ schema.
    let (none, arbiters) = c.in-Err.ensures.only_then (ap Err schema) in
    let (told, same, unwritten) = c.in-Err.ensures.other_schema open_in.ready none arbiters in (
      arbiters,
      subst (λ k. IsOpenIn k.has_arbiter k.needs_reopening (state g.S.Store k.connection) s) (sym same) open_in,
    ))
    c.in-Err.ensures.reads clean open_in

use Rattle.std.proofs.Common.{◌++◌, ℕ, List, Some, Result, Ok, Err, refl, subst}
use Rattle.http_desk.specs.declared.faults.DeskFault.{DeskFault}
use Rattle.server.proofs.ActedLemmas.{answered_acted_on, consumes_on}
use Rattle.server.proofs.ServedLemmas.{lost_answered}
use Rattle.server.proofs.ServingLemmas.{served, stopped, shut_served}
use Rattle.server.specs.declared.serve.Exchange.{Exchange}
use Rattle.server.specs.Serving.{IsReplyTo}
use Rattle.server.proofs.serve.serve_one.Goals as goal

pub returns-in-Ok-write_reply-clause-serves : goal.returns-in-Ok-write_reply-clause-serves
returns-in-Ok-write_reply-clause-serves g c clean s input before stands reader writer =
    let written : Result (Unit {0}) DeskFault = Ok tt in
    served g.C.ClubService.club (g.C.ClubService.Stands c.answer.new.club) (g.C.ClubService.Leaves c.answer.new.club) s
    c.args.moment (c.args.heard.items ++ input) before
    c.in-Ok.bytes.items c.deref.result.now c.in-Ok-answer.replied.reply.items c.deref-2.result.now
    (Some (c.args.heard.items ++ input)) (g.R.Read.remaining c.read_request_bytes.new.reader)
    (g.W.Write.contents c.args.connection.now.writer) (g.W.Write.contents c.write_reply.new.writer) written
    refl writer c.deref.ensures.value c.deref-2.ensures.value
    (consumes_on c.args.heard.items input c.in-Ok.bytes.items c.in-Ok.ensures.taken.0
    (g.R.Read.remaining c.args.connection.now.reader) (g.R.Read.remaining c.read_request_bytes.new.reader) reader c.in-Ok.ensures.taken.1
    c.in-Ok.ensures.taken.2)
    c.in-Ok.ensures.enough
    (c.in-Ok-answer.ensures.replies clean s stands) c.in-Ok-write_reply.ensures.ok tt tt

pub returns-in-Err-write_reply-clause-serves : goal.returns-in-Err-write_reply-clause-serves
returns-in-Err-write_reply-clause-serves g c clean s input before stands reader writer =
    served g.C.ClubService.club (g.C.ClubService.Stands c.answer.new.club) (g.C.ClubService.Leaves c.answer.new.club) s
    c.args.moment (c.args.heard.items ++ input) before
    c.in-Ok.bytes.items c.deref.result.now c.in-Ok-answer.replied.reply.items c.deref-2.result.now
    (Some (c.args.heard.items ++ input)) (g.R.Read.remaining c.read_request_bytes.new.reader)
    (g.W.Write.contents c.args.connection.now.writer) (g.W.Write.contents c.write_reply.new.writer)
    (let failed : Result Exchange DeskFault = Err c.in-Err-write_reply.fault in failed)
    refl writer c.deref.ensures.value c.deref-2.ensures.value
    (consumes_on c.args.heard.items input c.in-Ok.bytes.items c.in-Ok.ensures.taken.0
    (g.R.Read.remaining c.args.connection.now.reader) (g.R.Read.remaining c.read_request_bytes.new.reader) reader c.in-Ok.ensures.taken.1
    c.in-Ok.ensures.taken.2)
    c.in-Ok.ensures.enough
    (c.in-Ok-answer.ensures.replies clean s stands) tt c.in-Err-write_reply.ensures.beginning
    c.in-Err-write_reply.ensures.fault

pub returns-in-Err-clause-serves : goal.returns-in-Err-clause-serves
returns-in-Err-clause-serves g c clean s input before stands reader writer =
    stopped Exchange g.C.ClubService.club (g.C.ClubService.Stands c.answer.new.club) (g.C.ClubService.Leaves
    c.answer.new.club) s
    c.args.moment (c.args.heard.items ++ input) before
    c.in-Ok.bytes.items c.deref.result.now
    (Some (c.args.heard.items ++ input)) (g.R.Read.remaining c.read_request_bytes.new.reader)
    (g.W.Write.contents c.args.connection.now.writer) c.in-Err.fault
    refl writer c.deref.ensures.value
    (consumes_on c.args.heard.items input c.in-Ok.bytes.items c.in-Ok.ensures.taken.0
    (g.R.Read.remaining c.args.connection.now.reader) (g.R.Read.remaining c.read_request_bytes.new.reader) reader c.in-Ok.ensures.taken.1
    c.in-Ok.ensures.taken.2)
    c.in-Ok.ensures.enough c.in-Err.ensures.fault
    (c.in-Err.ensures.replies clean s stands)

pub returns-in-Ok-write_reply-clause-answers : goal.returns-in-Ok-write_reply-clause-answers
returns-in-Ok-write_reply-clause-answers g c clean s stands =
    subst (λ (bytes : List ℕ).
    IsReplyTo g.C.ClubService.club (g.C.ClubService.Stands c.answer.new.club) (g.C.ClubService.Leaves c.answer.new.club) s
    c.args.moment bytes c.in-Ok-answer.replied.reply.items)
    c.deref.ensures.value (c.in-Ok-answer.ensures.replies clean s stands)

pub returns-in-Ok-write_reply-clause-shut : goal.returns-in-Ok-write_reply-clause-shut
returns-in-Ok-write_reply-clause-shut g c fault shut =
    let told = c.in-Ok-answer.ensures.shut fault shut in
    let written : Result (Unit {0}) DeskFault = Ok tt in (
      told.0,
      λ input before reader writer.
          shut_served fault (c.args.heard.items ++ input) before
          c.in-Ok.bytes.items c.deref.result.now c.in-Ok-answer.replied.reply.items c.deref-2.result.now
          (Some (c.args.heard.items ++ input)) (g.R.Read.remaining c.read_request_bytes.new.reader)
          (g.W.Write.contents c.args.connection.now.writer) (g.W.Write.contents c.write_reply.new.writer) written
          refl writer c.deref.ensures.value c.deref-2.ensures.value
          (consumes_on c.args.heard.items input c.in-Ok.bytes.items c.in-Ok.ensures.taken.0
          (g.R.Read.remaining c.args.connection.now.reader) (g.R.Read.remaining c.read_request_bytes.new.reader) reader
          c.in-Ok.ensures.taken.1 c.in-Ok.ensures.taken.2)
          c.in-Ok.ensures.enough
          told.1 c.in-Ok-write_reply.ensures.ok tt tt,
    )

pub returns-in-Err-write_reply-clause-shut : goal.returns-in-Err-write_reply-clause-shut
returns-in-Err-write_reply-clause-shut g c fault shut =
    let told = c.in-Ok-answer.ensures.shut fault shut in (
      told.0,
      λ input before reader writer.
          shut_served fault (c.args.heard.items ++ input) before
          c.in-Ok.bytes.items c.deref.result.now c.in-Ok-answer.replied.reply.items c.deref-2.result.now
          (Some (c.args.heard.items ++ input)) (g.R.Read.remaining c.read_request_bytes.new.reader)
          (g.W.Write.contents c.args.connection.now.writer) (g.W.Write.contents c.write_reply.new.writer)
          (let failed : Result Exchange DeskFault = Err c.in-Err-write_reply.fault in failed)
          refl writer c.deref.ensures.value c.deref-2.ensures.value
          (consumes_on c.args.heard.items input c.in-Ok.bytes.items c.in-Ok.ensures.taken.0
          (g.R.Read.remaining c.args.connection.now.reader) (g.R.Read.remaining c.read_request_bytes.new.reader) reader
          c.in-Ok.ensures.taken.1 c.in-Ok.ensures.taken.2)
          c.in-Ok.ensures.enough
          told.1 tt c.in-Err-write_reply.ensures.beginning c.in-Err-write_reply.ensures.fault,
    )

pub returns-in-Ok-write_reply-clause-acts : goal.returns-in-Ok-write_reply-clause-acts
returns-in-Ok-write_reply-clause-acts g c clean s stands =
    answered_acted_on g.C.ClubService.club (g.C.ClubService.Stands c.answer.new.club)
    (g.C.ClubService.Leaves c.answer.new.club) (λ v. v.reply.items) s c.args.moment c.args.heard.items
    c.in-Ok.ensures.taken.0 c.in-Ok.bytes.items c.deref.result.now c.answer.result c.deref.ensures.value
    c.in-Ok.ensures.taken.1 (c.answer.ensures.replies clean s stands)

pub returns-in-Err-write_reply-clause-acts : goal.returns-in-Err-write_reply-clause-acts
returns-in-Err-write_reply-clause-acts g c clean s stands =
    answered_acted_on g.C.ClubService.club (g.C.ClubService.Stands c.answer.new.club)
    (g.C.ClubService.Leaves c.answer.new.club) (λ v. v.reply.items) s c.args.moment c.args.heard.items
    c.in-Ok.ensures.taken.0 c.in-Ok.bytes.items c.deref.result.now c.answer.result c.deref.ensures.value
    c.in-Ok.ensures.taken.1 (c.answer.ensures.replies clean s stands)

pub returns-in-Err-clause-acts : goal.returns-in-Err-clause-acts
returns-in-Err-clause-acts g c clean s stands =
    answered_acted_on g.C.ClubService.club (g.C.ClubService.Stands c.answer.new.club)
    (g.C.ClubService.Leaves c.answer.new.club) (λ v. v.reply.items) s c.args.moment c.args.heard.items
    c.in-Ok.ensures.taken.0 c.in-Ok.bytes.items c.deref.result.now c.answer.result c.deref.ensures.value
    c.in-Ok.ensures.taken.1 (c.answer.ensures.replies clean s stands)

pub returns-in-Err-clause-answers : goal.returns-in-Err-clause-answers
returns-in-Err-clause-answers g c clean s stands =
    lost_answered g.C.ClubService.club (g.C.ClubService.Stands c.answer.new.club)
    (g.C.ClubService.Leaves c.answer.new.club) s c.args.moment c.args.heard.items c.in-Err.fault c.in-Err.ensures.fault
    (answered_acted_on g.C.ClubService.club (g.C.ClubService.Stands c.answer.new.club)
    (g.C.ClubService.Leaves c.answer.new.club) (λ v. v.reply.items) s c.args.moment c.args.heard.items
    c.in-Ok.ensures.taken.0 c.in-Ok.bytes.items c.deref.result.now c.answer.result c.deref.ensures.value
    c.in-Ok.ensures.taken.1 (c.answer.ensures.replies clean s stands))

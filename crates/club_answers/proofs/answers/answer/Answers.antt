use Rattle.store_tables.proofs.Proved.{reads_on, ended}
use Rattle.std.proofs.Common.{inr}
use Rattle.std.proofs.lemmas.Result.{IfOk-weaker}
use Rattle.club_answers.proofs.CallLemmas.{between}
use Rattle.club_answers.proofs.RecordLemmas.{records_shown, some_records_shown, text_begun}
use Rattle.club_answers.proofs.answers.answer.Goals as goal

pub returns-in-Record-clause-reads : goal.returns-in-Record-clause-reads
returns-in-Record-clause-reads g c = reads_on c.in_ok-found.ensures.reads c.write_record.ensures.reads

pub returns-in-Record-clause-shown : goal.returns-in-Record-clause-shown
returns-in-Record-clause-shown g c clean =
    IfOk-weaker c.write_record.result _ _ (λ refusal told s is_club version k.
    let (found, kept) = between s c.in_ok-found.ensures.reads c.write_record.ensures.reads clean k in
    let asked = rw c.in-Record.is at (c.in_ok-found.ensures.found found s is_club version k) in
    rw asked (told s c.args.moment is_club kept)) (c.write_record.ensures.shown clean)

pub returns-in-Record-clause-begun : goal.returns-in-Record-clause-begun
returns-in-Record-clause-begun g c clean s is_club version k =
    let (found, kept) = between s c.in_ok-found.ensures.reads c.write_record.ensures.reads clean k in
    let asked = rw c.in-Record.is at (c.in_ok-found.ensures.found found s is_club version k) in
    rw asked (c.write_record.ensures.begun clean s c.args.moment is_club kept)

pub returns-in-Text-clause-reads : goal.returns-in-Text-clause-reads
returns-in-Text-clause-reads g c = ended _ c.in_ok-found.ensures.reads

pub returns-in-Text-clause-begun : goal.returns-in-Text-clause-begun
returns-in-Text-clause-begun g c clean s is_club version k =
    let is = rw c.in-Text.is at (c.in_ok-found.ensures.found clean s is_club version k) in
    let begun = rw c.as_str.ensures.value at c.write_text.ensures.begun in
    inr (text_begun s c.args.moment c.args.question.now _ _ _ is begun)

pub returns-in-Records-clause-reads : goal.returns-in-Records-clause-reads
returns-in-Records-clause-reads g c = reads_on c.in_ok-found.ensures.reads c.write_records.ensures.reads

pub returns-in-Records-clause-shown : goal.returns-in-Records-clause-shown
returns-in-Records-clause-shown g c clean =
    IfOk-weaker c.write_records.result _ _ (λ refusal told s is_club version k.
    let (found, kept) = between s c.in_ok-found.ensures.reads c.write_records.ensures.reads clean k in
    let asks = rw c.in-Records.is at (c.in_ok-found.ensures.found found s is_club version k) in
    records_shown s c.args.moment c.args.question.now _ _ _ asks c.deref.ensures.value _ _ refusal
    (told s is_club kept)) (c.write_records.ensures.written clean)

pub returns-in-Records-clause-begun : goal.returns-in-Records-clause-begun
returns-in-Records-clause-begun g c clean s is_club version k =
    let (found, kept) = between s c.in_ok-found.ensures.reads c.write_records.ensures.reads clean k in
    let asks = rw c.in-Records.is at (c.in_ok-found.ensures.found found s is_club version k) in
    some_records_shown s c.args.moment c.args.question.now _ _ _ asks c.deref.ensures.value _ _
    (c.write_records.ensures.begun clean s is_club kept)

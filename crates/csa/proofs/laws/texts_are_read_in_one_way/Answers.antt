use Rattle.csa.specs.Lines.{text_statements}
use Rattle.csa.specs.Reading.{records_of}
use Rattle.csa.proofs.OneReadingLemmas.{records-one, text-unrefused}
use Rattle.csa.proofs.laws.texts_are_read_in_one_way.Goals as goal

pub returns-clause-one : goal.returns-clause-one
returns-clause-one c = λ text gs hs a b.
    records-one c.each_line_has_one_end.ensures.one (records_of (text_statements text)) gs hs a.records b.records

pub returns-clause-read : goal.returns-clause-read
returns-clause-read c = λ text gs f a h.
    text-unrefused c.check_is.ensures c.each_line_has_one_end.ensures.one text gs f a h

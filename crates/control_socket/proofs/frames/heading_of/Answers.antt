use Rattle.control_socket.proofs.SaidLemmas.{behind_moment, behind_order, behind_words, line_is}
use Rattle.control_socket.proofs.frames.heading_of.Goals as goal

pub returns-in-None : goal.returns-in-None
returns-in-None c m w t is = (rw c.as_slice.ensures at c.in-None.ensures) _ is.is

pub returns-in-None-number_before : goal.returns-in-None-number_before
returns-in-None-number_before c m w t is =
    c.in-None-number_before.ensures m _ is.moment
    (behind_order c.args.line.now _ (rw c.as_slice.ensures at c.in-Some.ensures) m w t is)

pub returns-in-None-number_before-2 : goal.returns-in-None-number_before-2
returns-in-None-number_before-2 c m w t is =
    c.in-None-number_before-2.ensures w _ is.words
    (behind_moment c.args.line.now _ (rw c.as_slice.ensures at c.in-Some.ensures) _ _ c.in-Some-number_before.ensures
    m w t is)

pub returns-in-None-number_in : goal.returns-in-None-number_in
returns-in-None-number_in c m w t is =
    c.in-None-number_in.ensures t is.text
    (behind_words c.args.line.now _ (rw c.as_slice.ensures at c.in-Some.ensures) _ _ _ _
    c.in-Some-number_before.ensures c.in-Some-number_before-2.ensures m w t is)

pub returns-in-Some-number_in : goal.returns-in-Some-number_in
returns-in-Some-number_in c =
    line_is c.args.line.now c.in-Some.rest.now (rw c.as_slice.ensures at c.in-Some.ensures) _ _ _ _ _
    c.in-Some-number_before.ensures c.in-Some-number_before-2.ensures c.in-Some-number_in.ensures

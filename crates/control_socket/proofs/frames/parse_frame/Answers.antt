use Rattle.std.proofs.Common.{◌≢◌, ◌∙◌, codes, arith, sym, true≢false}
use Rattle.std.proofs.lemmas.Bool.Decides.{Decides-eqb}
use Rattle.std.proofs.lemmas.Slice.Eq.{slice_eq-Decides}
use Rattle.control_socket.proofs.SaidLemmas.{no_line, other_line, whole_now, whole_rest}
use Rattle.control_socket.proofs.frames.parse_frame.Goals as goal

pub returns-in-None : goal.returns-in-None
returns-in-None c = no_line c.args.said.now c.in-None.ensures

pub returns-in-None-heading_of : goal.returns-in-None-heading_of
returns-in-None-heading_of c =
    let decided = slice_eq-Decides Decides-eqb c.args.said.now c.as_slice.result.now c.eq.result c.eq.ensures in
    let differs : c.args.said.now ≢ codes "file\n" =
    λ e. true≢false (sym (decided.1 (e ∙ sym c.as_slice.ensures)) ∙ c.if-eq.false) in
    other_line c.args.said.now _ _ c.in-Some.ensures differs c.in-None-heading_of.ensures

pub returns-in-None-moment_at : goal.returns-in-None-moment_at
returns-in-None-moment_at c more whole =
    omega (arith, c.in-None-moment_at.ensures, whole_rest c.in-Some.ensures c.in-Some-heading_of.ensures more whole)

pub returns-then-heading-gt-MOST_WORDS : goal.returns-then-heading-gt-MOST_WORDS
returns-then-heading-gt-MOST_WORDS c more whole =
    omega (arith, c.if-heading-gt-MOST_WORDS.true, whole_rest c.in-Some.ensures c.in-Some-heading_of.ensures more whole)

pub returns-then-heading-gt-MOST_TEXT : goal.returns-then-heading-gt-MOST_TEXT
returns-then-heading-gt-MOST_TEXT c more whole =
    omega (arith, c.if-heading-gt-MOST_TEXT.true, whole_rest c.in-Some.ensures c.in-Some-heading_of.ensures more whole)

pub returns-then-rest-words : goal.returns-then-rest-words
returns-then-rest-words c whole =
    omega (arith, c.if-rest-words.true, whole_now c.in-Some.ensures c.in-Some-heading_of.ensures whole)

pub returns-then-rest-words-2 : goal.returns-then-rest-words-2
returns-then-rest-words-2 c more whole =
    omega (arith, c.if-rest-words-2.true, whole_rest c.in-Some.ensures c.in-Some-heading_of.ensures more whole)

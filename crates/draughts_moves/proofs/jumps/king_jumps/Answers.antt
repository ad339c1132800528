use Rattle.std.proofs.Common.{◌∙◌, sym}
use Rattle.std.proofs.lemmas.List.{append-nil}
use Rattle.draughts_moves.proofs.LineLemmas.{king_by_first}
use Rattle.draughts_moves.proofs.jumps.king_jumps.Goals as goal

pub returns-in-None-clause-added : goal.returns-in-None-clause-added
returns-in-None-clause-added c = λ b p t met.
    let a = c.args in
    rw (king_by_first b a.toward a.met.now.pieces met.1 p t a.at, sym c.first_on.ensures ∙ c.in-None.is, append-nil)

pub returns-then-contains-clause-added : goal.returns-then-contains-clause-added
returns-then-contains-clause-added c = λ b p t met.
    let a = c.args in
    let prey = sym (met.0 c.in-Some.over) ∙ sym c.contains.ensures ∙ c.if-contains.true in
    rw (king_by_first b a.toward a.met.now.pieces met.1 p t a.at, sym c.first_on.ensures ∙ c.in-Some.is, prey)
    (c.landings.ensures.added b met.1)

pub returns-else-contains-clause-added : goal.returns-else-contains-clause-added
returns-else-contains-clause-added c = λ b p t met.
    let a = c.args in
    let none = sym (met.0 c.in-Some.over) ∙ sym c.contains.ensures ∙ c.if-contains.false in
    rw (king_by_first b a.toward a.met.now.pieces met.1 p t a.at, sym c.first_on.ensures ∙ c.in-Some.is, none)
    (rw append-nil)

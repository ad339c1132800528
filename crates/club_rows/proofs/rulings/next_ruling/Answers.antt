use Rattle.std.proofs.Common.{subst, sym, ◌+◌, ◌∙◌, ap, pos, true≢false, refl}
use Rattle.std.proofs.lemmas.List.{length-map}
use Rattle.club_core.specs.Game.{side_after}
use Rattle.club_rows.specs.internal.Rulings.{IsBeneathIn, MayComeNext, given_of, rulings_given}
use Rattle.club_rows.proofs.ReadLemmas.{beneath-told, given-told}
use Rattle.club_rows.proofs.rulings.next_ruling.Goals as goal

pub returns-then-not-has_next_key-clause-none : goal.returns-then-not-has_next_key-clause-none
returns-then-not-has_next_key-clause-none c = λ none r over next.
    let long = length-map c.args.read.now.given.items given_of in
    true≢false
    (sym (c.has_next_key.ensures.complete next.game_is
    (rw c.deref.ensures.value (next.number_is ∙ ap (λ n. pos (n + 1)) long)))
    ∙ c.if-not-has_next_key.true)

pub returns-then-may_come_next-clause-some : goal.returns-then-may_come_next-clause-some
returns-then-may_come_next-clause-some c =
    let key = rw c.deref.ensures.value at (c.has_next_key.ensures.sound c.if-not-has_next_key.false) in
    let long = length-map c.args.read.now.given.items given_of in
    record {
      game_is = key.0;
      number_is = key.1 ∙ ap (λ n. pos (n + 1)) (sym long);
      given = c.in-Some.ensures.some;
      beneath = rw c.side_after.ensures at c.in-Some-beneath_of.ensures.some;
      moment = c.in-Some.ensures.range;
      may_come = c.may_come_next.ensures.sound c.if-may_come_next.true;
    }

pub returns-in-None-clause-none : goal.returns-in-None-clause-none
returns-in-None-clause-none c = λ none r over next.
    c.in-None.ensures.none refl r next.moment next.given

pub returns-in-None-beneath_of-clause-none : goal.returns-in-None-beneath_of-clause-none
returns-in-None-beneath_of-clause-none c = λ none r over next.
    let same = given-told c.args.row.now r (given_of c.in-Some.ruling) next.given c.in-Some.ensures.some in
    let beneath = subst (λ x. IsBeneathIn c.args.row.now (side_after x.plies) over) same next.beneath in
    c.in-None-beneath_of.ensures.none refl over (subst (λ t. IsBeneathIn c.args.row.now t over) (sym c.side_after.ensures) beneath)

pub returns-else-may_come_next-clause-none : goal.returns-else-may_come_next-clause-none
returns-else-may_come_next-clause-none c = λ none r over next.
    let same = given-told c.args.row.now r (given_of c.in-Some.ruling) next.given c.in-Some.ensures.some in
    let beneath = subst (λ x. IsBeneathIn c.args.row.now (side_after x.plies) over) same next.beneath in
    let here = subst (λ t. IsBeneathIn c.args.row.now t over) (sym c.side_after.ensures) beneath in
    let one = beneath-told c.args.row.now _ over c.in-Some-beneath_of.over here c.in-Some-beneath_of.ensures.some in
    let may = subst (λ x. MayComeNext (rulings_given c.args.read.now.given.items) c.args.read.now.first x over) same
    next.may_come in
    true≢false
    (sym (c.may_come_next.ensures.complete (subst (MayComeNext (rulings_given c.args.read.now.given.items)
    c.args.read.now.first (given_of c.in-Some.ruling)) one may)) ∙ c.if-may_come_next.false)

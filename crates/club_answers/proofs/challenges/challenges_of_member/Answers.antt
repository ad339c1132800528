use Rattle.std.proofs.Common.{[], ◌∷◌, map, SFits, w64, to_z-of_z, sym, subst, ◌∙◌, arith}
use Rattle.std.proofs.lemmas.Int.{ints}
use Rattle.sqlite.specs.declared.types.Value.TheVariants.{Int, Null}
use Rattle.store_tables.specs.internal.Cells.{challenge_cells}
use Rattle.store_tables.specs.internal.Contents.{AreThose}
use Rattle.store_tables.proofs.Proved.{ended, reads_on}
use Rattle.club_rows.specs.Club.{tables}
use Rattle.club_answers.proofs.CallLemmas.{between, both_ok}
use Rattle.club_answers.proofs.MemberChallenges.{challenges_with}
use Rattle.club_answers.proofs.challenges.challenges_of_member.Goals as goal

pub returns-clause-reads : goal.returns-clause-reads
returns-clause-reads g c = ended _ (reads_on c.in_ok-own.ensures.reads c.in_ok-received.ensures.reads)

pub returns-clause-found : goal.returns-clause-found
returns-clause-found g c clean =
    both_ok c.challenges_in.result c.challenges_in.ensures.rows c.challenges_in.ensures.order (λ all rows up s k.
    let (first, kept) = between s c.in_ok-own.ensures.reads c.in_ok-received.ensures.reads clean k in
    let fits : SFits w64 c.from-id.result =
    subst (SFits w64) (sym c.from-id.ensures) (omega (arith, ints, c.ranges.member.fits)) in
    let mine = subst
    (λ z. AreThose (0 ∷ []) (Int z ∷ []) (tables s 6) (map challenge_cells c.in_ok-own.own.items))
    (to_z-of_z fits ∙ c.from-id.ensures) (c.in_ok-own.ensures.rows first (tables s) k).0 in
    let theirs = subst
    (λ z. AreThose (3 ∷ []) (Null ∷ Null ∷ Null ∷ Int z ∷ []) (tables s 6)
    (map challenge_cells c.in_ok-received.received.items))
    c.question_of.ensures (c.in_ok-received.ensures.rows clean (tables s) kept).0 in
    challenges_with s c.args.member c.in_ok-own.own.items c.in_ok-received.received.items c.in_ok-rows.rows.items mine
    theirs c.in_ok-rows.ensures all.items (rw c.deref.ensures.value at rows) up)

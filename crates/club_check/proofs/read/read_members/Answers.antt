use Rattle.std.proofs.Common.{inl, refl, subst, sym, inr}
use Rattle.sqlite.specs.Held.{state}
use Rattle.club_audit.specs.internal.Audit.{AreMembers}
use Rattle.store_tables.specs.Cells.{IsMember}
use Rattle.store_tables.specs.Tables.{members}
use Rattle.store_tables.specs.declared.names.Table.TheVariants.{Members}
use Rattle.club_check.proofs.StoredLemmas.{stands}
use Rattle.club_check.proofs.ClubLemmas.{names_both}
use Rattle.club_check.proofs.FirstWrong.{member_types_wrong, members_none, named_wrong, rows_named}
use Rattle.club_check.proofs.read.read_members.Goals as goal

pub returns-then-not-are_members-clause-wrong : goal.returns-then-not-are_members-clause-wrong
returns-then-not-are_members-clause-wrong g c clean has =
    named_wrong Members (state g.S.Store c.args.conn.now).now
    (members_none c.in-Ok.members.items _ _ (c.in-Ok.ensures.rows clean (stands Members tt has))
    (λ ms are.
    let yes = c.are_members.ensures.complete ms (subst (AreMembers ms) (sym c.deref.ensures.value) are) in
    let no = c.if-not-are_members.true in
    absurd cc))

pub returns-then-not-are_members-clause-reason_is_right : goal.returns-then-not-are_members-clause-reason_is_right
returns-then-not-are_members-clause-reason_is_right g c clean has =
    inr (rows_named Members _ (returns-then-not-are_members-clause-wrong g c clean has Members refl).1)

pub returns-clause-are : goal.returns-clause-are
returns-clause-are g c =
    let (ms, are) = c.are_members.ensures.sound c.if-not-are_members.false in
    (ms, subst (AreMembers ms) c.deref.ensures.value are)

pub returns-in-Err-clause-wrong : goal.returns-in-Err-clause-wrong
returns-in-Err-clause-wrong g c clean has =
    member_types_wrong (state g.S.Store c.args.conn.now) c.in-Err.fault (c.in-Err.ensures.reason_is_right clean
    (stands Members tt has))

pub returns-clause-rows : goal.returns-clause-rows
returns-clause-rows g c clean has =
    c.in-Ok.ensures.rows clean (stands Members tt has)

pub returns-in-Err-clause-reason_is_right : goal.returns-in-Err-clause-reason_is_right
returns-in-Err-clause-reason_is_right g c clean has =
    inl (names_both Members (members 1) 1 IsMember (state g.S.Store c.args.conn.now) _ refl refl (λ content all. all)
    (c.in-Err.ensures.reason_is_right clean (stands Members tt has)))

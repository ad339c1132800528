use Rattle.std.proofs.Common.{inl, inr}
use Rattle.store_tables.proofs.Proved.{clean_before}
use Rattle.club_check.proofs.ClubLemmas.{stays}
use Rattle.club_check.proofs.StoredLemmas.{third_stands}
use Rattle.club_check.proofs.ToldLemmas.{still_third}
use Rattle.club_check.proofs.read.check_thirds.Goals as goal

pub returns-in-Err-check_third-clause-reason_is_right : goal.returns-in-Err-check_third-clause-reason_is_right
returns-in-Err-check_third-clause-reason_is_right g c clean =
    let same1 = c.in-Ok.ensures.same (clean_before c.check_third-2.ensures.reads clean) in
    elim (c.in-Err-check_third.ensures.reason_is_right clean) [
      | inl store ↦ inl store
      | inr (named, lacks) ↦ inr (named, λ has. lacks (third_stands _ (still_third same1 has)).1)
    ]

pub returns-in-Err-check_third-2-clause-reason_is_right : goal.returns-in-Err-check_third-2-clause-reason_is_right
returns-in-Err-check_third-2-clause-reason_is_right g c clean =
    let clean2 = clean_before c.check_third-3.ensures.reads clean in
    let same1 = c.in-Ok.ensures.same (clean_before c.check_third-2.ensures.reads clean2) in
    let same2 = stays same1 (c.in-Ok-check_third.ensures.same clean2) in
    elim (c.in-Err-check_third-2.ensures.reason_is_right clean) [
      | inl store ↦ inl store
      | inr (named, lacks) ↦ inr (named, λ has. lacks (third_stands _ (still_third same2 has)).2)
    ]

pub returns-in-Err-check_third-3-clause-reason_is_right : goal.returns-in-Err-check_third-3-clause-reason_is_right
returns-in-Err-check_third-3-clause-reason_is_right g c clean =
    let clean3 = clean_before c.check_third-4.ensures.reads clean in
    let clean2 = clean_before c.check_third-3.ensures.reads clean3 in
    let same1 = c.in-Ok.ensures.same (clean_before c.check_third-2.ensures.reads clean2) in
    let same2 = stays same1 (c.in-Ok-check_third.ensures.same clean2) in
    let same3 = stays same2 (c.in-Ok-check_third-2.ensures.same clean3) in
    elim (c.in-Err-check_third-3.ensures.reason_is_right clean) [
      | inl store ↦ inl store
      | inr (named, lacks) ↦ inr (named, λ has. lacks (third_stands _ (still_third same3 has)).3)
    ]

use Rattle.store_tables.proofs.Proved.{clean_before, reads_on}
use Rattle.std.proofs.Common.{ap, inl, inr, subst, sym}
use Rattle.sqlite.specs.Effect.{Database}
use Rattle.sqlite.specs.Held.{state}
use Rattle.store_tables.specs.Placed.{HasTablesOf}
use Rattle.club_check.proofs.StoredLemmas.{first_stand}
use Rattle.club_check.specs.ReasonIsRight.{NamesForeign}
use Rattle.club_check.specs.internal.ReasonIsRight.{IsMetaRead}
use Rattle.club_check.proofs.ClubLemmas.{stays, foreign_named, meta_before, still}
use Rattle.club_check.proofs.ClubLemmas.{still_of}
use Rattle.club_check.proofs.ToldLemmas.{lacks_named, refused_named, still_third, told_blamed}
use Rattle.club_check.proofs.read.read_head.Goals as goal

pub returns-in-Err-clause-reason_is_right : goal.returns-in-Err-clause-reason_is_right
returns-in-Err-clause-reason_is_right g c clean has assumed =
    told_blamed c.args.oldest (state g.S.Store c.args.conn.now).now c.in-Err.fault
    (c.in-Err.ensures.reason_is_right clean has.club)

pub returns-in-Err-check_version-clause-reason_is_right : goal.returns-in-Err-check_version-clause-reason_is_right
returns-in-Err-check_version-clause-reason_is_right g c clean has assumed =
    let s0 = state g.S.Store c.args.conn.now in
    let s1 = state g.S.Store c.read_version.new.conn in
    let clean1 = clean_before c.check_version.ensures.reads clean in
    let told = c.in-Ok.told in
    let found = c.in-Ok.ensures.found clean1 has.club assumed in
    let same1 = c.in-Ok.ensures.same clean1 has.club in
    elim (c.in-Err-check_version.ensures.reason_is_right clean) [
      | inl store ↦ inl (inl store)
      | inr (inl (foreign, other)) ↦
          inr
          (inr
          (inl
          (subst (NamesForeign s0.now) (sym foreign)
          (foreign_named told.version told.meta s0 s1 found
          (λ is. other (still_of told.version same1 is))))))
      | inr (inr (is, named, lacks)) ↦
          inr
          (inl
          (lacks_named told.meta s0 s1 c.args.oldest c.in-Err-check_version.fault has
          (subst (λ v. IsMetaRead v told.meta s0 s1) is found) named (λ third. lacks (still_third same1 third))))
    ]

pub returns-in-Some-clause-reason_is_right : goal.returns-in-Some-clause-reason_is_right
returns-in-Some-clause-reason_is_right g c clean has assumed =
    let s0 = state g.S.Store c.args.conn.now in
    let s1 = state g.S.Store c.read_version.new.conn in
    let clean1 = clean_before c.check_version.ensures.reads clean in
    let told = c.in-Ok.told in
    let found = c.in-Ok.ensures.found clean1 has.club assumed in
    let (named, less) = c.in-Some.ensures.some in
    inr
    (inl (refused_named c.args.oldest told.version c.requires told.meta s0 s1 c.in-Some.fault found named less))

pub returns-in-Err-check_tables-clause-reason_is_right : goal.returns-in-Err-check_tables-clause-reason_is_right
returns-in-Err-check_tables-clause-reason_is_right g c clean has assumed =
    let clean2 = clean_before c.check_tables.ensures.reads clean in
    let clean1 = clean_before c.check_version.ensures.reads clean2 in
    let same1 = c.in-Ok.ensures.same clean1 has.club in
    let same2 = stays same1 (c.in-Ok-check_version.ensures.same clean2) in
    inl (inl (c.in-Err-check_tables.ensures.reason_is_right clean (first_stand _ (still same2 has.club))))

pub returns-in-Ok-check_tables-clause-found : goal.returns-in-Ok-check_tables-clause-found
returns-in-Ok-check_tables-clause-found g c clean has assumed =
    let clean2 = clean_before c.check_tables.ensures.reads clean in
    let clean1 = clean_before c.check_version.ensures.reads clean2 in
    let told = c.in-Ok.told in
    let found = c.in-Ok.ensures.found clean1 has assumed in
    let same1 = c.in-Ok.ensures.same clean1 has in
    let version_same = c.in-Ok-check_version.ensures.same clean2 in
    let same2 = stays same1 version_same in
    let tables_same = c.in-Ok-check_tables.ensures.same clean (first_stand _ (still same2 has)) in (
      λ other.
          subst (HasTablesOf told.version) (ap (λ (d : Database). d.schema) same1.0.now_is)
          (c.in-Ok-check_version.ensures.version clean2 other (still same1 has)),
      meta_before told.version told.meta found (stays version_same tables_same),
    )

pub returns-in-Ok-check_tables-clause-same : goal.returns-in-Ok-check_tables-clause-same
returns-in-Ok-check_tables-clause-same g c clean has =
    let clean2 = clean_before c.check_tables.ensures.reads clean in
    let clean1 = clean_before c.check_version.ensures.reads clean2 in
    let same1 = c.in-Ok.ensures.same clean1 has in
    let same2 = stays same1 (c.in-Ok-check_version.ensures.same clean2) in
    stays same2 (c.in-Ok-check_tables.ensures.same clean (first_stand _ (still same2 has)))

pub returns-in-Err-clause-undamaged : goal.returns-in-Err-clause-undamaged
returns-in-Err-clause-undamaged g c clean has assumed t is = elim (c.in-Err.ensures.reason_is_right clean has) [
  | inl store ↦ cc
  | inr (inl memory) ↦ cc
  | inr (inr (n, named, none, number)) ↦ cc
]

pub returns-in-Err-check_version-clause-undamaged : goal.returns-in-Err-check_version-clause-undamaged
returns-in-Err-check_version-clause-undamaged g c clean has assumed t is =
    elim (c.in-Err-check_version.ensures.reason_is_right clean) [
      | inl store ↦ cc
      | inr (inl (foreign, other)) ↦ cc
      | inr (inr (version, named, lacks)) ↦ cc
    ]

pub returns-in-Some-clause-undamaged : goal.returns-in-Some-clause-undamaged
returns-in-Some-clause-undamaged g c clean has assumed t is = let (named, less) = c.in-Some.ensures.some in cc

pub returns-in-Err-check_tables-clause-undamaged : goal.returns-in-Err-check_tables-clause-undamaged
returns-in-Err-check_tables-clause-undamaged g c clean has assumed t is =
    let clean2 = clean_before c.check_tables.ensures.reads clean in
    let clean1 = clean_before c.check_version.ensures.reads clean2 in
    let same1 = c.in-Ok.ensures.same clean1 has in
    let same2 = stays same1 (c.in-Ok-check_version.ensures.same clean2) in
    cc (c.in-Err-check_tables.ensures.reason_is_right clean (first_stand _ (still same2 has)))

pub returns-in-Ok-check_tables-clause-reads : goal.returns-in-Ok-check_tables-clause-reads
returns-in-Ok-check_tables-clause-reads g c =
    reads_on c.in-Ok.ensures.reads
    (reads_on c.in-Ok-check_version.ensures.reads c.in-Ok-check_tables.ensures.reads)

-- What is told of a stretch.
use Rattle.std.proofs.Common.{◌≡◌, ◌⊎◌, ◌∙◌, Bool, true, false, Option, Some, None, refl, sym, subst, ap, inl, inr}
use Rattle.std.specs.Prelude.{IfSome}
use Rattle.sqlite.specs.Effect.{Database}
use Rattle.sqlite.specs.State.{State}
use Rattle.sqlite.specs.Tree.{Trees}
use Rattle.store_tables.specs.Contents.{Content}
use Rattle.store_tables.specs.declared.names.Version.{Version}
use Rattle.club_rows.specs.Club.{ClubState, tables}
use Rattle.club_rows.specs.FirstSchema.{IsClubOf, tables_at}
use Rattle.club_check.specs.Refused.{HoldClub}
use Rattle.club_check.specs.Versions.{HasClub, HoldsRows, LeavesRows}
use Rattle.club_check.proofs.Proved.{club_of_version}
use Rattle.club_check.specs.declared.fault.OpenFault.{OpenFault}
use Rattle.club_check.specs.declared.fault.OpenFault.TheVariants as opening
use Rattle.store.specs.Clubs.{version_with}
use Rattle.store.proofs.Proved.{tables_served, version_is, with_served}
use Rattle.http_desk.specs.declared.faults.ClubFault.{ClubFault}
use Rattle.club_session.specs.Faults.{fault_of_opening}
use Rattle.club_session.specs.ToldFault.{IfOpened, IsOfClub}
use Rattle.club_session.specs.internal.ToldFault.{IsReportedFault, fault_after}

-- ---- the club was not taken over

untaken_told : (Holds : Type 0) (fault : OpenFault) → IfOpened (Some (fault_of_opening fault)) Holds
untaken_told Holds opening.Foreign = tt
untaken_told Holds (opening.Schema number) = tt
untaken_told Holds (opening.Damaged table) = tt
untaken_told Holds opening.Store = tt
untaken_told Holds opening.Memory = tt

pub untaken : (Holds : Type 0) (fault : OpenFault) (told : ClubFault) → told ≡ fault_of_opening fault
    → IfOpened (Some told) Holds
untaken Holds fault told is =
    let P : ClubFault → Type 0 = λ t. IfOpened (Some t) Holds in subst P (sym is) (untaken_told Holds fault)

pub good_told : (fault : OpenFault) (told : ClubFault) → told ≡ fault_of_opening fault
    → (fault ≡ opening.Store) ⊎ (fault ≡ opening.Memory) → IsOfClub told
good_told fault told is (inl store) = inr (inl (is ∙ ap fault_of_opening store))
good_told fault told is (inr memory) = inr (inr (is ∙ ap fault_of_opening memory))

-- ---- it was taken over and served

told_behind : (old new : State) (has_failed : Bool) → IsReportedFault old new (fault_after has_failed)
told_behind old new true = inl refl
told_behind old new false = tt

pub served_told : (old new : State) (has_failed : Bool) (told : Option ClubFault) → told ≡ fault_after has_failed
    → IsReportedFault old new told
served_told old new has_failed told is =
    let P : Option ClubFault → Type 0 = λ t. IsReportedFault old new t in subst P (sym is) (told_behind old new has_failed)

taken_behind : (Holds : Type 0) (has_failed : Bool) → Holds → IfOpened (fault_after has_failed) Holds
taken_behind Holds true holds = holds
taken_behind Holds false holds = holds

pub served_taken : (Holds : Type 0) (has_failed : Bool) (told : Option ClubFault) → told ≡ fault_after has_failed
    → Holds → IfOpened told Holds
served_taken Holds has_failed told is holds =
    let P : Option ClubFault → Type 0 = λ t. IfOpened t Holds in subst P (sym is) (taken_behind Holds has_failed holds)

good_behind : (has_failed : Bool) → IfSome (fault_after has_failed) IsOfClub
good_behind true = inl refl
good_behind false = tt

pub served_good : (has_failed : Bool) (told : Option ClubFault) → told ≡ fault_after has_failed
    → IfSome told IsOfClub
served_good has_failed told is =
    let P : Option ClubFault → Type 0 = λ t. IfSome t IsOfClub in subst P (sym is) (good_behind has_failed)

none_behind : (has_failed : Bool) → fault_after has_failed ≡ None → has_failed ≡ false
none_behind true is = cc
none_behind false is = refl

pub none_failed : (has_failed : Bool) (told : Option ClubFault) → told ≡ fault_after has_failed → told ≡ None
    → has_failed ≡ false
none_failed has_failed told is none = none_behind has_failed (sym is ∙ none)

-- ---- what stands behind an examination stood before it

rows_left : (version : Version) (content : Content) (db : Database) → HoldsRows version content db
    → LeavesRows version content db.trees
rows_left version content db holds =
    record {
      schema = db.schema;
      stands = holds.schema;
      told = holds.told;
      sound = holds.sound;
      tables = holds.tables;
    }

pub stood : (version : Version) (s : ClubState) (old new : State) → HasClub version new.now s → new.now ≡ old.now
    → old.now ≡ old.committed → LeavesRows version (tables_at version s) old.committed.trees
stood version s old new has same clean =
    let P : Database → Type 0 = λ db. LeavesRows version (tables_at version s) db.trees in
    subst P (same ∙ clean) (rows_left version (tables_at version s) new.now has)

-- the tables of a club, in the version that it was opened in, are those of a legal state
pub held_club : (arbiter : Bool) (s : ClubState) (trees : Trees) → IsClubOf (version_with arbiter) s
    → LeavesRows (version_with arbiter) (tables_at (version_with arbiter) s) trees → HoldClub trees
held_club arbiter s trees own leaves =
    let version = version_with arbiter in
    record {
      state = s;
      legal = club_of_version version s own;
      leaves = subst (λ v. LeavesRows v (tables s) trees) (sym (version_is version (with_served arbiter) s own))
          (subst (λ (content : Content). LeavesRows version content trees) (tables_served version (with_served arbiter) s)
          leaves);
    }

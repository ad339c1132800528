-- What is reported where a club was taken over, and what stands where it is found sound.
use Rattle.std.proofs.Common.{◌≡◌, ◌∙◌, ap, sym, subst}
use Rattle.sqlite.specs.Effect.{Database}
use Rattle.sqlite.specs.State.{State}
use Rattle.store_tables.specs.Contents.{Content}
use Rattle.store_tables.specs.Tables.{IsServed}
use Rattle.store_tables.specs.declared.names.Version.{Version}
use Rattle.store_tables.specs.declared.names.Version.TheVariants.{V2}
use Rattle.club_rows.specs.Club.{ClubState, tables}
use Rattle.club_rows.specs.FirstSchema.{IsClubOf, tables_at}
use Rattle.club_check.specs.Refused.{HoldClub}
use Rattle.club_check.specs.Versions.{HasClub, HoldsRows, LeavesRows}
use Rattle.club_check.proofs.Proved.{club_of_version}
use Rattle.club_check.specs.declared.fault.OpenFault.{OpenFault}
use Rattle.club_orders.specs.declared.report.Report.{Report}
use Rattle.club_orders.specs.declared.report.Report.TheVariants.{Ready, Sound, Answered, Shown, OutputFailed}
use Rattle.club_orders.specs.declared.report.Report.TheVariants.{Unopened, StoreFailed, InUse, NotOpened, NoClock, InputFailed}
use Rattle.club_orders.specs.declared.report.Report.TheVariants.{Listening, PortUnavailable, NoMemory, Upgraded}
use Rattle.club_orders.specs.declared.report.Report.TheVariants.{AlreadyUpgraded, Batched, Copied, BackupFailed}
use Rattle.club_orders.specs.declared.report.Report.TheVariants.{Overdue, Unread, ValueRefused}
use Rattle.club_orders.specs.Report.{IfUnopened}
use Rattle.store.proofs.Proved.{tables_served, version_is}

-- no tables were refused
pub taken_over : (P : OpenFault → Type 0) (report : Report) → IfUnopened report (λ fault. ⊥) → IfUnopened report P
taken_over P Ready taken = tt
taken_over P (Sound version) taken = tt
taken_over P (Upgraded from) taken = tt
taken_over P (AlreadyUpgraded version) taken = tt
taken_over P Copied taken = tt
taken_over P (Answered outcome) taken = tt
taken_over P (Overdue count) taken = tt
taken_over P (Batched batched) taken = tt
taken_over P Shown taken = tt
taken_over P OutputFailed taken = tt
taken_over P BackupFailed taken = tt
taken_over P (Unopened fault) taken = absurd taken
taken_over P (StoreFailed fault) taken = tt
taken_over P InUse taken = tt
taken_over P (NotOpened cause) taken = tt
taken_over P (Unread unread) taken = tt
taken_over P (ValueRefused value) taken = tt
taken_over P NoClock taken = tt
taken_over P InputFailed taken = tt
taken_over P (Listening port) taken = tt
taken_over P PortUnavailable taken = tt
taken_over P NoMemory taken = tt

-- what stands behind an examination stood before it
pub stood : (version : Version) → IsServed version → (s : ClubState) → IsClubOf version s → (old new : State)
    → HasClub version new.now s → new.now ≡ old.now → old.now ≡ old.committed → HoldClub old.committed.trees
stood version serves s own old new holds same clean =
    let P : Database → Type 0 = λ db. HoldClub db.trees in
    let rows : ◌≡◌ {A = Content} (tables_at version s) (tables s) = tables_served version serves s in
    let here = subst (λ (content : Content). HoldsRows version content new.now) rows holds in
    let there : HoldClub new.now.trees = record {
      state = s;
      legal = club_of_version version s own;
      leaves = subst (λ v. LeavesRows v (tables s) new.now.trees) (sym (version_is version serves s own)) (record {
        schema = new.now.schema;
        stands = here.schema;
        told = here.told;
        sound = here.sound;
        tables = here.tables;
      });
    } in
    subst P (same ∙ clean) there

-- the schema of a club that is sound
abbrev schema_in : Report → Version
schema_in (Sound version) = version
schema_in _ = V2

pub same_sound : (one other : Version) → ◌≡◌ {A = Report} (Sound one) (Sound other) → one ≡ other
same_sound one other is = ap schema_in is

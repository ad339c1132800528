-- What is said of one task, of one report or of what is told of a stretch goes on.
use Rattle.std.proofs.Common.{◌≡◌, ◌≢◌, Option, Some, None, refl, sym, subst}
use Rattle.cli.specs.declared.words.Task.{Task}
use Rattle.cli.specs.declared.words.Task.TheVariants as task
use Rattle.club_check.specs.declared.fault.OpenFault.{OpenFault}
use Rattle.club_orders.specs.declared.report.Report.{Report}
use Rattle.club_orders.specs.declared.report.Report.TheVariants.{AlreadyUpgraded, Sound, Unopened, Upgraded}
use Rattle.club_orders.specs.Report as of_report
use Rattle.club_orders.specs.Report.{IfInit, IfUnopened, IfUpgrade, IfUpgradeOf, IfVerify, IsOfCopy, IsPassed}
use Rattle.club_orders.specs.Refused.{IfAccepted, IfOpensClub}
use Rattle.store_tables.specs.Tables.{IsServed}
use Rattle.store_tables.specs.declared.names.Version.{Version}
use Rattle.http_desk.specs.declared.faults.ClubFault.{ClubFault}
use Rattle.http_desk.specs.declared.faults.ClubFault.TheVariants.{Reopen}
use Rattle.club_session.specs.ToldFault.{IfOpened}
use Rattle.club_session.specs.Found.{IsBackedUp}

pub if_verify : {P Q : Type 0} (t : Task) → (P → Q) → IfVerify t P → IfVerify t Q
if_verify task.Verify goes is = goes is
if_verify _ goes is = tt

pub verify_under : (P Q : Type 0) (t : Task) → (P → IfVerify t Q) → IfVerify t (P → Q)
verify_under P Q task.Verify is = is
verify_under P Q _ is = tt

pub if_takes_over : {P Q : Type 0} (t : Task) → (P → Q) → IfOpensClub t P → IfOpensClub t Q
if_takes_over (task.Init arbiter) goes is = tt
if_takes_over (task.Upgrade arbiter) goes is = tt
if_takes_over _ goes is = goes is

pub if_taken_over : {P Q : Type 0} (report : Report) → (P → Q) → of_report.IfTaken report P
    → of_report.IfTaken report Q
if_taken_over (Unopened fault) goes is = tt
if_taken_over _ goes is = goes is

if_upgrade_of : {P Q : Version → Type 0} (report : Report) → ((version : Version) → P version → Q version)
    → IfUpgradeOf report P → IfUpgradeOf report Q
if_upgrade_of (Upgraded from) goes is = goes from is
if_upgrade_of (AlreadyUpgraded version) goes is = goes version is
if_upgrade_of (Unopened fault) goes is = tt
if_upgrade_of _ goes is = absurd is

pub if_accepted : {P Q : Version → Type 0} (t : Task) (report : Report) → ((version : Version) → P version → Q version)
    → IfAccepted t report P → IfAccepted t report Q
if_accepted (task.Init arbiter) report goes is = tt
if_accepted (task.Upgrade arbiter) report goes is = if_upgrade_of report goes is
if_accepted _ report goes is =
    if_taken_over report (λ (version, serves, held). (version, serves, goes version held)) is

pub if_init : {P Q : Version → Type 0} (t : Task) → ((version : Version) → P version → Q version) → IfInit t P
    → IfInit t Q
if_init (task.Init arbiter) goes is = goes _ is
if_init _ goes is = tt

pub if_upgrade : {P Q : Version → Type 0} (t : Task) → ((to : Version) → P to → Q to) → IfUpgrade t P → IfUpgrade t Q
if_upgrade (task.Upgrade arbiter) goes is = goes _ is
if_upgrade _ goes is = tt

pub if_unopened : (P Q : OpenFault → Type 0) (report : Report) → ((fault : OpenFault) → P fault → Q fault)
    → IfUnopened report P → IfUnopened report Q
if_unopened P Q (Unopened fault) goes is = goes fault is
if_unopened P Q _ goes is = tt

-- what is reported of a copy is not that the club was not opened
pub of_copy_opened : (P : OpenFault → Type 0) (report : Report) → IsOfCopy report → IfUnopened report P
of_copy_opened P (Unopened fault) is = absurd is
of_copy_opened P _ is = tt

pub of_copy : (report : Report) → IsOfCopy report → IsBackedUp report
of_copy (Unopened fault) is = absurd is
of_copy _ is = is

-- a test that found no club, though there is one
pub passed : (report : Report) (version : Version) → ((found : Version) → report ≢ Sound found) → IsPassed version report
    → IsBackedUp report
passed (Sound found) version other is = absurd (other found refl)
passed (Unopened fault) version other is = is
passed _ version other is = absurd is

-- a club that is found sound is found in its schema
pub sound_version : (report : Report) (found version : Version) → report ≡ Sound found → IsPassed version report
    → found ≡ version
sound_version report found version is passes = subst (IsPassed version) is passes

pub if_taken : {P Q : Type 0} (told : Option ClubFault) → (P → Q) → IfOpened told P → IfOpened told Q
if_taken None goes is = goes is
if_taken (Some Reopen) goes is = goes is
if_taken (Some _) goes is = tt

pub taken_under : (P Q : Type 0) (told : Option ClubFault) → (P → IfOpened told Q) → IfOpened told (P → Q)
taken_under P Q None is = is
taken_under P Q (Some Reopen) is = is
taken_under P Q (Some _) is = tt

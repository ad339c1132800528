use Rattle.std.proofs.Common.{◌≡◌, ◌∙◌, ap, refl, sym, subst, true}
use Rattle.sqlite.specs.Held.{state}
use Rattle.store_tables.specs.Club.{IsExactly}
use Rattle.store_tables.specs.Tables.{IsServed}
use Rattle.schema_match.specs.Shapes.{is_of_club}
use Rattle.club_rows.specs.Club.{ClubState, tables}
use Rattle.club_rows.specs.FirstSchema.{IsClubOf}
use Rattle.club_check.specs.Versions.{IsOpenedAt}
use Rattle.store.specs.Clubs.{version_with}
use Rattle.club_orders.proofs.RefusalLemmas.{same_sound}
use Rattle.club_orders.proofs.execution.verify.Goals as goal

pub returns-in-Err-clause-passes : goal.returns-in-Err-clause-passes
returns-in-Err-clause-passes g c = c.in-Err.ensures.accepts_sound

pub returns-in-Ok-clause-passes : goal.returns-in-Ok-clause-passes
returns-in-Ok-clause-passes g c clean opens live s is_club has =
    let taken = c.in-Ok.ensures.taken (rw c.into_connection.ensures.same at clean) opens live in
    c.version_of-version.ensures.is ∙ (ap version_with (c.has_arbiter.ensures ∙ (taken.stands s is_club has).arbiter))

pub returns-in-Ok-clause-schema : goal.returns-in-Ok-clause-schema
returns-in-Ok-clause-schema g c version is =
    let old = state g.S.Store c.args.conn in
    let found = c.version_of-version.ensures.is ∙ ap version_with c.has_arbiter.ensures in
    subst (λ v. IsServed v × (is_of_club v old.now.schema ≡ true)) (same_sound _ version is)
    (c.version_of-version.ensures.served, ap (λ v. is_of_club v old.now.schema) found ∙ c.in-Ok.ensures.shape)

pub returns-in-Ok-clause-shape : goal.returns-in-Ok-clause-shape
returns-in-Ok-clause-shape g c =
    let told = returns-in-Ok-clause-schema g c c.version_of-version.result refl in
    (c.version_of-version.result, told.0, told.1)

pub returns-in-Ok-clause-sound : goal.returns-in-Ok-clause-sound
returns-in-Ok-clause-sound g c clean version is =
    let same = c.into_connection.ensures.same in
    let old = state g.S.Store c.args.conn in
    let new = state g.S.Store c.into_connection.result in
    let found = c.version_of-version.ensures.is ∙ ap version_with c.has_arbiter.ensures in
    subst (λ v. IsOpenedAt v old → (s : ClubState) × IsClubOf v s × IsExactly v (tables s) new)
    (sym found ∙ same_sound _ version is) (rw same (c.in-Ok.ensures.found (rw same at clean)))

pub returns-in-Ok-clause-history : goal.returns-in-Ok-clause-history
returns-in-Ok-clause-history g c clean opens live from versions them sessions led db left =
    let same = c.into_connection.ensures.same in
    record {
      version = led.version;
      among = led.among;
      reached =
          (c.in-Ok.ensures.taken (rw same at clean) opens live).leads from led.version them sessions led.reached db
          (rw same at left);
    }

pub returns-in-Err-clause-history : goal.returns-in-Err-clause-history
returns-in-Err-clause-history g c clean opens live from versions them sessions led db left = record {
  version = led.version;
  among = led.among;
  reached = c.in-Err.ensures.history clean opens live from led.version them sessions led.reached db left;
}

pub returns-in-Ok-clause-legal : goal.returns-in-Ok-clause-legal
returns-in-Ok-clause-legal g c clean opens live told version is =
    (c.in-Ok.ensures.taken (rw c.into_connection.ensures.same at clean) opens live).legal told

pub returns-in-Ok-clause-older : goal.returns-in-Ok-clause-older
returns-in-Ok-clause-older g c clean opens live them s first =
    absurd ((c.in-Ok.ensures.taken (rw c.into_connection.ensures.same at clean) opens live).newer them s first)

pub returns-in-Ok-clause-keeps : goal.returns-in-Ok-clause-keeps
returns-in-Ok-clause-keeps g c clean opens db left =
    let same = c.into_connection.ensures.same in
    g.met.S.Store.settled c.args.conn.store db opens.is_open
    (c.in-Ok.ensures.kept.may (rw same at clean) db (rw same at left))

pub returns-in-Err-clause-keeps : goal.returns-in-Err-clause-keeps
returns-in-Err-clause-keeps g c clean = (c.in-Err.ensures.refuses clean).kept

pub returns-in-Ok-clause-possible_reports : goal.returns-in-Ok-clause-possible_reports
returns-in-Ok-clause-possible_reports g c not = absurd (not _ refl)

pub returns-in-Ok-clause-same : goal.returns-in-Ok-clause-same
returns-in-Ok-clause-same g c clean version is =
    let same = c.into_connection.ensures.same in
    rw same (c.in-Ok.ensures.kept.kept refl (rw same at clean))

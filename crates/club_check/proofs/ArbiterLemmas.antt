-- The tables that only schema 3 has: later keys, rulings and closings.
use Rattle.std.proofs.Common.{◌≡◌, ℕ, List, length, map, refl, subst, sym, arith}
use Rattle.std.proofs.lemmas.Option.{IfSome_then}
use Rattle.sqlite.specs.Effect.{Database}
use Rattle.sqlite.specs.State.{State, IsUnchanged}
use Rattle.store_sql.specs.internal.Read.{IsReadAs}
use Rattle.store_tables.specs.Cells.{IsClosing, IsKey}
use Rattle.store_tables.specs.Content.{AreApart}
use Rattle.store_tables.specs.Contents.{Content, Stores}
use Rattle.store_tables.specs.Placed.{club_trees}
use Rattle.store_tables.specs.Tables.{closings, keys, members}
use Rattle.store_tables.specs.declared.names.Table.TheVariants.{Closings, Events, Keys, Members}
use Rattle.store_tables.specs.declared.names.Version.{Version}
use Rattle.store_tables.specs.declared.names.Version.TheVariants.{V1, V2, V3}
use Rattle.store_tables.specs.declared.rows.ClosingRow.{ClosingRow}
use Rattle.store_tables.specs.declared.rows.EventRow.{EventRow}
use Rattle.store_tables.specs.declared.rows.KeyRow.{KeyRow}
use Rattle.store_tables.specs.declared.rows.MemberRow.{MemberRow}
use Rattle.store_tables.specs.internal.Cells.{closing_cells, key_cells, member_cells}
use Rattle.club_core.specs.Members.{Member}
use Rattle.club_rows.specs.Club.{both_games, ClubState, IsClub}
use Rattle.club_rows.specs.Tables.{gathered_from, rows_of_closing, tables_of}
use Rattle.club_audit.specs.internal.Audit.{AreMembers}
use Rattle.club_audit.specs.internal.ClosingAudit.{AreClosingsAfter, AreClosingsOf}
use Rattle.club_audit.specs.internal.KeyAudit.{AreKeysOf}
use Rattle.club_audit.proofs.Proved.{closings-in-order}
use Rattle.club_check.specs.ReasonIsRight.{HoldsNone, NamesTable}
use Rattle.club_check.specs.RightTables.{AreOfClub, HasTable, IsRight}
use Rattle.club_check.specs.Versions.{HoldsRows}
use Rattle.club_check.specs.internal.ReasonIsRight.{AreClosingsRead, AreKeysRead, AreRulingsCounted, HoldsIn}
use Rattle.club_check.specs.internal.ReasonIsRight.{ReasonIsRight}
use Rattle.club_check.specs.internal.RightTables.{NamesWrong, TellsEvents, TellsMembers}
use Rattle.club_check.specs.declared.fault.OpenFault.{OpenFault}
use Rattle.club_check.proofs.ClubLemmas.{before, events_of, keeps_same, members_kept, members_of, names, read_after}
use Rattle.club_check.proofs.ClubLemmas.{read_before, stays}
use Rattle.club_check.proofs.FirstWrong.{closings_in, club_rows, club_types, keeps_held, keys_in, legal_of}
use Rattle.club_check.proofs.FirstWrong.{types_none}
use Rattle.club_check.proofs.KeptLemmas.{closings_kept, keys_kept}
use Rattle.club_check.proofs.ToldLemmas.{in_version}

-- ---- what was read of a database that did not change

pub keys_unchanged : (version : Version) (keys : List KeyRow) {old new : State} → AreKeysRead version keys old new
    → IsUnchanged old new
keys_unchanged V1 keys it = it.0
keys_unchanged V2 keys it = it.0
keys_unchanged V3 keys it = it.same

pub keys_after : (version : Version) (keys : List KeyRow) {old mid : State} (new : State) → IsUnchanged old mid
    → AreKeysRead version keys mid new → AreKeysRead version keys old new
keys_after V1 keys new same it = (stays same it.0, it.1)
keys_after V2 keys new same it = (stays same it.0, it.1)
keys_after V3 keys new same it = read_after same it

pub keys_before : (version : Version) (keys : List KeyRow) (old : State) {mid new : State}
    → AreKeysRead version keys old mid → IsUnchanged mid new → AreKeysRead version keys old new
keys_before V1 keys old it same = (stays it.0 same, it.1)
keys_before V2 keys old it same = (stays it.0 same, it.1)
keys_before V3 keys old it same = read_before it same

pub closings_unchanged : (version : Version) (closings : List ClosingRow) {old new : State}
    → AreClosingsRead version closings old new → IsUnchanged old new
closings_unchanged V1 closings it = it.0
closings_unchanged V2 closings it = it.0
closings_unchanged V3 closings it = it.same

pub closings_after : (version : Version) (closings : List ClosingRow) {old mid : State} (new : State)
    → IsUnchanged old mid → AreClosingsRead version closings mid new → AreClosingsRead version closings old new
closings_after V1 closings new same it = (stays same it.0, it.1)
closings_after V2 closings new same it = (stays same it.0, it.1)
closings_after V3 closings new same it = read_after same it

pub closings_before : (version : Version) (closings : List ClosingRow) (old : State) {mid new : State}
    → AreClosingsRead version closings old mid → IsUnchanged mid new → AreClosingsRead version closings old new
closings_before V1 closings old it same = (stays it.0 same, it.1)
closings_before V2 closings old it same = (stays it.0 same, it.1)
closings_before V3 closings old it same = read_before it same

pub rulings_unchanged : (version : Version) (count : ℕ) {old new : State} → AreRulingsCounted version count old new
    → IsUnchanged old new
rulings_unchanged V1 count it = it.0
rulings_unchanged V2 count it = it.0
rulings_unchanged V3 count it = it.same

pub rulings_after : (version : Version) (count : ℕ) {old mid : State} (new : State) → IsUnchanged old mid
    → AreRulingsCounted version count mid new → AreRulingsCounted version count old new
rulings_after V1 count new same it = (stays same it.0, it.1)
rulings_after V2 count new same it = (stays same it.0, it.1)
rulings_after V3 count new same it = record {
  apart = before (λ d. AreApart (club_trees d 20)) same it.apart;
  number = before (λ d. count ≡ length (club_trees d 20)) same it.number;
  same = stays same it.same;
}

pub rulings_before : (version : Version) (count : ℕ) (old : State) {mid new : State}
    → AreRulingsCounted version count old mid → IsUnchanged mid new → AreRulingsCounted version count old new
rulings_before V1 count old it same = (stays it.0 same, it.1)
rulings_before V2 count old it same = (stays it.0 same, it.1)
rulings_before V3 count old it same =
    record { apart = it.apart; number = it.number; same = stays it.same same }

-- ---- members

-- rows of members that were read are those of each club that has the rows
pub tells_members : (rows : List MemberRow) (old new : State) → IsReadAs (members 1) 1 (map member_cells rows) old new
    → TellsMembers rows new.now
tells_members rows old new read version content holds s same =
    members_kept s
    (keeps_held (members 1) 1 refl refl (before (HoldsRows version content) read.same holds) same) read

-- rows of events that tell of a database tell of it where it did not change
pub still_tells_events : (rows : List EventRow) {old mid : State} → IsUnchanged old mid → TellsEvents rows old.now
    → TellsEvents rows mid.now
still_tells_events rows same tells = subst (TellsEvents rows) (sym same.0.now_is) tells

-- ---- values of other types

keys_at : (version : Version) {db : Database} {content : Content} → HoldsRows version content db → version ≡ V3
    → HasTable Keys version × Stores (keys 17) (club_trees db) content
keys_at V1 holds is = cc
keys_at V2 holds is = cc
keys_at V3 {db} {content} holds is = (tt, keys_in db content holds)

closings_at : (version : Version) {db : Database} {content : Content} → HoldsRows version content db → version ≡ V3
    → HasTable Closings version × Stores (closings 22) (club_trees db) content
closings_at V1 holds is = cc
closings_at V2 holds is = cc
closings_at V3 {db} {content} holds is = (tt, closings_in db content holds)

module _ (old : State) (one : HoldsIn V3 old.now) (e : OpenFault) where
  pub key_types_wrong : ReasonIsRight Keys (keys 17) IsKey old e → NamesWrong Keys old.now e
  key_types_wrong = types_none Keys (keys 17) IsKey (IsRight Keys) old e (λ version content holds club.
      let (there, stores) = keys_at version holds (one version content holds) in
      (stores, club_types Keys IsKey club there (λ all. all)))

  pub keys_named : ReasonIsRight Keys (keys 17) IsKey old e → NamesTable old.now e
  keys_named = names Keys (keys 17) IsKey old e (λ version content holds typed.
      ((keys_at version holds (one version content holds)).1, typed))

  pub closing_types_wrong : ReasonIsRight Closings (closings 22) IsClosing old e → NamesWrong Closings old.now e
  closing_types_wrong = types_none Closings (closings 22) IsClosing (IsRight Closings) old e
      (λ version content holds club.
      let (there, stores) = closings_at version holds (one version content holds) in
      (stores, club_types Closings IsClosing club there (λ all. all)))

-- ---- rows that pass for no club

-- rows of closings that are those of a legal club
pub closings_of_club : (s : ClubState) → IsClub s → (rows : List ClosingRow)
    → map closing_cells rows ≡ gathered_from rows_of_closing 1 s.events → AreClosingsOf s.events rows
closings_of_club s club rows are =
    let last = club.last in
    record {
      rows_are = are;
      moments = λ n e at. IfSome_then e.closed (club.closings n e at) (λ m low. omega (arith, low, last));
    }

module _ (old new : State) (one : HoldsIn V3 old.now) where
  -- keys that are those of no members with these rows are no club's
  pub keys_wrong : (member_rows : List MemberRow) (key_rows : List KeyRow) → TellsMembers member_rows old.now
      → IsReadAs (keys 17) 2 (map key_cells key_rows) old new
      → ((ms : List Member) → AreMembers ms member_rows → ¬ AreKeysOf ms key_rows)
      → HoldsNone old.now (λ version. AreOfClub version Keys)
  keys_wrong member_rows key_rows told read none =
      in_version V3 old.now one (λ v content. ¬ AreOfClub v Keys content) (λ content holds club.
      let s = club.state in
      let legal = legal_of club in
      let made = tables_of both_games s in
      let rows_are = told V3 content holds s (club_rows club Members (omega arith) (omega arith) tt) in
      let kept = keeps_same (keys 17) (club_trees old.now) (content 17) (made 17)
      (club_rows club Keys (omega arith) (omega arith) tt) (keys_in old.now content holds).rows in
      none s.members (members_of s legal member_rows rows_are)
      (record { rows_are = keys_kept s legal holds kept read; apart = legal.member_keys }))

  -- so are closings of other events than those with these rows
  pub closings_wrong : (event_rows : List EventRow) (closing_rows : List ClosingRow)
      → TellsEvents event_rows old.now → IsReadAs (closings 22) 1 (map closing_cells closing_rows) old new
      → ¬ AreClosingsAfter (length event_rows) 0 closing_rows
      → HoldsNone old.now (λ version. AreOfClub version Closings)
  closings_wrong event_rows closing_rows told read none =
      in_version V3 old.now one (λ v content. ¬ AreOfClub v Closings content) (λ content holds club.
      let s = club.state in
      let legal = legal_of club in
      let made = tables_of both_games s in
      let rows_are = told V3 content holds s (club_rows club Events (omega arith) (omega arith) tt) in
      let kept = keeps_same (closings 22) (club_trees old.now) (content 22) (made 22)
      (club_rows club Closings (omega arith) (omega arith) tt) (closings_in old.now content holds).rows in
      none
      (closings-in-order s.events event_rows closing_rows (events_of s legal event_rows rows_are)
      (closings_of_club s legal closing_rows (closings_kept s kept read))))

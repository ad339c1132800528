-- The club that the tables of a file are.
use Rattle.std.proofs.Common.{◌≡◌, ◌⊎◌, ℕ, List, [], ◌∷◌, map, Some}
use Rattle.std.proofs.Common.{refl, ap, sym, subst, ◌∙◌, arith, inl, inr}
use Rattle.sqlite.specs.Effect.{Database, IsDatabase}
use Rattle.sqlite.specs.Order.{Row}
use Rattle.sqlite.specs.State.{State, IsUnchanged}
use Rattle.store_tables.specs.Placed.{club_trees, HasTablesOf}
use Rattle.store_tables.specs.Cells.{game_cells}
use Rattle.store_tables.specs.internal.Cells.{meta_cells}
use Rattle.store_tables.specs.Content.{cells, AreApart}
use Rattle.store_tables.specs.Contents.{Content, Stores, AreStored}
use Rattle.store_tables.specs.Tables.{moves, schema_of, seen, meta}
use Rattle.store_tables.specs.Tables.{rulings, schema_number}
use Rattle.store_tables.specs.declared.names.Version.{Version}
use Rattle.store_tables.specs.declared.names.Version.TheVariants.{V1, V2, V3}
use Rattle.store_tables.specs.declared.rows.Rows.{Rows}
use Rattle.store_tables.proofs.Proved.{same_by, leaves_of, has_map, has_mapped}
use Rattle.store_sql.specs.internal.Read.{IsReadAs}
use Rattle.club_rows.specs.Club.{both_games, ClubState, IsClub}
use Rattle.club_rows.specs.FirstSchema.{IsClubOf, tables_at}
use Rattle.club_rows.specs.Tables.{meta_row}
use Rattle.club_rows.specs.Tables.{tables_of}
use Rattle.club_audit.specs.internal.Audit.{AreApartGames, HasPeople}
use Rattle.club_audit.specs.internal.ChallengeAudit.{AreChallenges}
use Rattle.club_audit.proofs.Proved.{club-challenges, keys-in, numbered-length, closed-by}
use Rattle.club_check.proofs.NumberedLemmas.{◌&◌}
use Rattle.club_check.specs.ReasonIsRight.{IsRightFault, NamesTable}
use Rattle.club_check.specs.internal.ReasonIsRight.{AreRead, AreRulingsCounted}
use Rattle.club_check.specs.internal.ReasonIsRight.{HoldsIn, IsMetaRead}
use Rattle.club_check.specs.internal.Examined.{seen_in, NamesPlay, IsOf, AreExamined}
use Rattle.club_check.specs.internal.Places.{IsRegisterOf}
use Rattle.club_check.specs.Versions.{HasClub, IsOpenedAt}
use Rattle.club_check.specs.internal.Versions.{IsExactlyClub}
use Rattle.club_check.specs.declared.fault.OpenFault.{OpenFault}
use Rattle.club_check.proofs.StoredLemmas.{held_alone}
use Rattle.club_check.proofs.ExaminedLemmas.{blamed_before, people_of}
use Rattle.club_check.proofs.ClubLemmas.{keeps_same}
use Rattle.club_check.proofs.PeopleLemmas.{HasAllPeople, is_third}
use Rattle.club_check.proofs.ToldLemmas.{club_told}
use Rattle.sqlite.specs.Tree.{Trees}
use Rattle.sqlite_value.specs.declared.value.Value.TheVariants.{Int}
use Rattle.sqlite.specs.Table.{Table as Definition}
use Rattle.store_tables.specs.Reading.{KeepsMay}
use Rattle.store_tables.specs.Changes.{HaveSame}
use Rattle.store_tables.specs.Contents as of_schema
use Rattle.club_check.proofs.PlayedLemmas.{IsClubRead, club_of_read, club_read, moves_same, rows_of_read, ruled_same_club}
use Rattle.club_check.proofs.PlayedLemmas.{scores_same, seen_same, version_read}

-- ---- the rows of a club that are read whole, and the club that they and its games are

-- the challenges of a legal club are those of its register, and its games stand beside one another
pub register_challenges : (s : ClubState) (rows : Rows) → IsClub s → IsRegisterOf s rows
    → AreChallenges s.challenges rows
register_challenges s rows club register =
    club-challenges s rows club (people_of s rows club register) register.games register.challenges

pub register_apart : (s : ClubState) (rows : Rows) → IsClub s → IsRegisterOf s rows → AreApartGames rows.games.items
register_apart s rows club register =
    let same = numbered-length game_cells _ 1 rows.games.items s.games register.games in
    let most = club.game_count in
    record {
      few = omega (arith, same, most);
      keys = keys-in s s.games rows.games.items register.games club.game_keys;
    }

-- what a connection that was just opened has in its tables it leaves to a stop, where nothing was changed
pub club_exactly : (version : Version) (s : ClubState) (old new : State) → IsOpenedAt version old
    → HasClub version old.now s → IsUnchanged old new → KeepsMay old new → IsExactlyClub version s new
club_exactly version s old new opened club unchanged may =
    let same = unchanged.0 in
    let content = tables_at version s in
    let holds : of_schema.Holds (schema_of version) old.now content =
    record {
      schema = opened.schema;
      sound = opened.sound;
      tables = held_alone version old.now content opened.schema club.tables;
    } in
    record {
      is_open = same.is_open;
      idle = same.mode ∙ opened.idle;
      now = subst (λ (d : Database). of_schema.Holds (schema_of version) d content) (sym same.now_is) holds;
      committed = same.committed_is ∙ opened.committed ∙ sym same.now_is;
      may_leave = λ db left. subst (of_schema.Leaves (schema_of version) content)
          (sym (opened.settled db (may db left) ∙ ap (λ (d : Database). d.trees) opened.committed))
          (leaves_of (schema_of version) old.now content holds);
    }

-- ---- the club that was examined

-- tables that were read, or whose rows are shown, have these rows
as_read : {table : Definition} {count : ℕ} {rows : List Row} {old mid : State} (content : Content)
    → IsReadAs table count rows old mid → HaveSame rows (content table.tree) → Stores table (club_trees old.now) content
as_read {table} {rows} {old} content read same = record {
  rows = keeps_same table (club_trees old.now) rows (content table.tree) same read.keeps;
  apart = read.apart;
}

as_shown : (table : Definition) (db : Trees) (content : Content) → AreApart (db table.tree)
    → HaveSame (map (cells table) (db table.tree)) (content table.tree) → Stores table db content
as_shown table db content apart same = record {
  rows = record {
    stored = λ z h.
        let (r, stored, is) = has_mapped (cells table) (db table.tree) z (same.back z h) in (r, stored, sym is);
    only = λ r h. same.there (cells table r) (has_map (cells table) (db table.tree) r h);
  };
  apart = apart;
}

module _ {rows : Rows} {version : Version} {old new : State} (all : AreExamined rows version old new) where
  abbrev known : ClubState → ClubState
  known s = record s { has_arbiter = is_third version; last = all.moment; challenges = all.challenges.0 }

  abbrev of_rows : (s : ClubState) → HasPeople s rows → IsOf (known s) rows (Some all.moment)
  of_rows s people = record {
    people = record { members = people.members; events = people.events; rules = people.rules };
    moment = refl;
    within = all.last.1;
  }

module _ {rows : Rows} {version : Version} {old mid new : State} (all : AreExamined rows version old new) where
  meta_is : IsMetaRead version rows.meta old mid → (meta_cells rows.meta ∷ [] ≡ meta_row
      (schema_number version) all.moment ∷ []) × IsReadAs (meta 0) 1 (meta_cells rows.meta ∷ []) old mid
  meta_is (inl (read, id, number)) =
      (λ i. (Int (id i) ∷ Int (number i) ∷ Int (all.last.0 i) ∷ []) ∷ [], read)
  meta_is (inr missing) = absurd (missing.1 all.moment all.last.0)

  abbrev club_known : AreRead version rows old mid → (s : ClubState) → HasAllPeople s rows
      → IsClubRead rows version old mid
  club_known read s its =
      let of = of_rows all s its.people in
      record {
        read = read;
        state = known all s;
        arbiter = refl;
        people = of.people;
        keys = its.keys;
        closings = its.closings;
        closed_by = closed-by all.moment s.events rows.closings.items its.closings all.closed_by;
        within = all.last.1;
        challenges = all.challenges.1;
        apart = all.games;
        found = (all.play.games.found refl (known all s) of).played;
        none_left = (all.play.games.none_left refl (known all s) of).moves;
        none_ruled = (all.play.games.none_left refl (known all s) of).rulings;
      }

  seen_known : (read : AreRead version rows old mid) (s : ClubState) (its : HasAllPeople s rows)
      → HaveSame (seen_in (club_trees old.now)) (tables_of both_games (club_of_read (club_known read s its)) 12)
  seen_known read s its =
      let of = of_rows all s its.people in
      seen_same (club_known read s its) (all.play.games.found refl (known all s) of).seen_are
      (all.play.games.none_left refl (known all s) of).seen

-- the tables of the database are those of this club
module _ {rows : Rows} {old mid new : State} where
  tables_known : (version : Version) (all : AreExamined rows version old new) (read : AreRead version rows old mid)
      (s : ClubState) (its : HasAllPeople s rows) (count : ℕ) → AreRulingsCounted version count old mid
      → AreStored (schema_of version) (club_trees old.now)
      (tables_at version (club_of_read (club_known all read s its)))
  tables_known V1 all read s its count counted =
      let it = club_known all read s its in
      let made = tables_at V1 (club_of_read it) in
      let (number, meta_read) = meta_is all read.meta in
      as_read made meta_read (same_by _ _ number)
      & as_read made read.members (same_by _ _ it.people.members.rows_are)
      & as_read made read.events (same_by _ _ it.people.events.rows_are)
      & as_read made read.challenges all.challenges.1.rows_are.same
      & as_shown (moves 8) (club_trees old.now) made all.play.moves_apart (moves_same it)
      & as_read made read.games (same_by _ _ (rows_of_read it))
      & as_shown (seen 12) (club_trees old.now) made all.play.seen_apart (seen_known all read s its)
      & as_read made all.scores.read (scores_same it all.scores.rows_of all.scores.are) & tt
  tables_known V2 all read s its count counted =
      let it = club_known all read s its in
      let made = tables_at V2 (club_of_read it) in
      let (number, meta_read) = meta_is all read.meta in
      as_read made meta_read (same_by _ _ number)
      & as_read made read.members (same_by _ _ it.people.members.rows_are)
      & as_read made read.events (same_by _ _ it.people.events.rows_are)
      & as_read made read.challenges all.challenges.1.rows_are.same
      & as_shown (moves 8) (club_trees old.now) made all.play.moves_apart (moves_same it)
      & as_read made read.games (same_by _ _ (rows_of_read it))
      & as_shown (seen 12) (club_trees old.now) made all.play.seen_apart (seen_known all read s its)
      & as_read made all.scores.read (scores_same it all.scores.rows_of all.scores.are)
      & as_read made read.rules (same_by _ _ it.people.rules) & tt
  tables_known V3 all read s its count counted =
      let it = club_known all read s its in
      let made = tables_at V3 (club_of_read it) in
      let (number, meta_read) = meta_is all read.meta in
      as_read made meta_read (same_by _ _ number)
      & as_read made read.members (same_by _ _ it.people.members.rows_are)
      & as_read made read.events (same_by _ _ it.people.events.rows_are)
      & as_read made read.challenges all.challenges.1.rows_are.same
      & as_shown (moves 8) (club_trees old.now) made all.play.moves_apart (moves_same it)
      & as_read made read.games (same_by _ _ (rows_of_read it))
      & as_shown (seen 12) (club_trees old.now) made all.play.seen_apart (seen_known all read s its)
      & as_read made all.scores.read (scores_same it all.scores.rows_of all.scores.are)
      & as_read made read.rules (same_by _ _ it.people.rules)
      & as_read made read.keys (same_by _ _ it.keys.rows_are)
      & as_shown (rulings 20) (club_trees old.now) made counted.apart (ruled_same_club it)
      & as_read made read.closings (same_by _ _ it.closings.rows_are) & tt

  -- the tables that were examined are those of a legal club
  pub examined_club : (version : Version) (all : AreExamined rows version old new) → HasTablesOf version old.now.schema
      → IsDatabase old.now → AreRead version rows old mid → (s : ClubState) → HasAllPeople s rows → (count : ℕ)
      → AreRulingsCounted version count old mid
      → (t : ClubState) × IsClubOf version t × IsRegisterOf t rows × HasClub version old.now t
  examined_club version all has sound read s its count counted =
      let it = club_known all read s its in (
        club_of_read it,
        version_read it,
        record {
          last = all.last.0;
          members = its.people.members.rows_are;
          keys = its.keys.rows_are;
          events = its.people.events.rows_are;
          rules = its.people.rules;
          closings = its.closings.rows_are;
          challenges = all.challenges.1.rows_are;
          games = rows_of_read it;
        },
        record {
          schema = has;
          told = club_told version (club_of_read it) (version_read it) old.now.schema;
          sound = sound;
          tables = tables_known version all read s its count counted;
        },
      )

-- ---- what is blamed

-- What a fault says of rows that were read, and of a database that did not change since, it says of the database.
pub play_blamed : (oldest version : Version) (rows : Rows) (old mid later : State) (fault : OpenFault)
    → HoldsIn version old.now → AreRead version rows old mid
    → IsUnchanged old later → NamesTable later.now fault ⊎ NamesPlay rows version later.now fault
    → IsRightFault oldest old.now fault
play_blamed oldest version rows old mid later fault one read same blamed = elim
    (blamed_before rows version fault same blamed) [
      | inl named ↦ inl named
      | inr (t, is, none) ↦ inr (inr (inr (
        t,
        is,
        λ other s club holds.
            let at = one other (tables_at other s) holds in
            let own = subst (λ v. IsClubOf v s) at club in
            let held = subst (λ v. HasClub v old.now s) at holds in
            none s own (club_read version version s own rows old mid one held read) held,
      )))
    ]

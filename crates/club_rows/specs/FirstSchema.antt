-- The clubs of each schema version and their tables. Events of schema 1 have no declarations; schema 3 has an arbiter.
use Rattle.std.specs.Prelude.{◌≡◌, ◌==◌, true, false, [], ◌∷◌, if◌then◌else◌}
use Rattle.club_core.specs.LegalState.{Each}
use Rattle.store_tables.specs.Contents.{Content}
use Rattle.store_tables.specs.declared.names.Version.{Version}
use Rattle.store_tables.specs.declared.names.Version.TheVariants.{V1, V2, V3}
use Rattle.club_rows.specs.Club.{ClubState, IsClub, tables}
use Rattle.club_rows.specs.Tables.{meta_row}

-- a legal state without declarations and without an arbiter
pub record IsFirstClub (s : ClubState) : Type 0 where
  pub club : IsClub s
  pub undeclared : Each (λ e. e.terms.declares ≡ false) s.events
  pub no_arbiter : s.has_arbiter ≡ false

-- its tables are those of schema 2 except for the schema number and the event rules
abbrev pub first_tables : ClubState → Content
first_tables s t = if t == 0 then meta_row 1 s.last ∷ [] else (if t == 16 then [] else tables s t)

-- ---- of any schema

-- a legal state of a club of this schema version
abbrev pub IsClubOf : Version → ClubState → Type 0
IsClubOf V1 s = IsFirstClub s
IsClubOf V2 s = IsClub s × (s.has_arbiter ≡ false)
IsClubOf V3 s = IsClub s × (s.has_arbiter ≡ true)

-- the content of the tables of a state in this schema version
abbrev pub tables_at : Version → ClubState → Content
tables_at V1 s = first_tables s
tables_at V2 s = tables s
tables_at V3 s = tables s

-- the state after an upgrade to this version: schema 3 gives the club an arbiter, and nothing else changes
abbrev pub upgraded_to : Version → ClubState → ClubState
upgraded_to V3 s = record s { has_arbiter = true }
upgraded_to version s = s

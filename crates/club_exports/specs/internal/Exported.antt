-- A record that is written move by move. No promise of the program rests on these definitions.
use Rattle.std.specs.Prelude.{◌≡◌, ℕ, List, length, map, Option, Ok}
use Rattle.club_rules.specs.GameRules.{GameRules}
use Rattle.club_rules.specs.Line.{position_after}
use Rattle.club_core.specs.Game.{Entry}
use Rattle.club_exports.specs.Title.{Title, timed}
use Rattle.club_exports.specs.internal.Title.{since_after}
use Rattle.club_exports.specs.declared.export.Export.{Export}

module _ {R P M E T Rec : Type 0} (rules : GameRules P M E T)
    (HasWritten : Title E → List (M × ℕ) → Option (List ℕ) → Option (List ℕ) → Rec → Type 0) where
  -- The header and these entries are written, and the export is positioned after them.
  pub record IsWritten (title : Title E) (entries : List (Entry M)) (before now : Option (List ℕ))
      (export : Export R Rec P M E T) : Type 0 where
    pub written : HasWritten title (timed title.start entries) before now export.draft
    pub position : export.position ≡ position_after rules rules.start (map (λ e. e.made) entries)
    pub since_is : export.since ≡ since_after title.start entries
    pub count : export.plies ≡ length entries

  -- the writer holds the record of some game up to some entries, and the export is positioned after them
  pub record IsUnderWay (held : Option (List ℕ)) (export : Export R Rec P M E T) : Type 0 where
    pub title : Title E
    pub entries : List (Entry M)
    pub before : Option (List ℕ)
    pub is : IsWritten title entries before held export

-- the text is that of a legal move after these entries
pub record IsNextText {P M E T : Type 0} (rules : GameRules P M E T) (entries : List (Entry M)) (text : List ℕ)
    (made : M) : Type 0 where
  pub legal : rules.check (position_after rules rules.start (map (λ e. e.made) entries)) made ≡ Ok tt
  pub written : text ≡ rules.write_move (position_after rules rules.start (map (λ e. e.made) entries)) made

-- The rulings on the stored game under the key of an import.
use Rattle.std.proofs.Common.{List, ℕ, Option, Some, None, inl, inr, sym, subst, ◌∙◌}
use Rattle.sqlite.specs.State.{State}
use Rattle.club_rules.specs.declared.names.GameKind.{GameKind}
use Rattle.club_rules.specs.GameRules.{GameRules}
use Rattle.club_rules.specs.Records.{GameRecords}
use Rattle.club_core.specs.LegalState.{IsLegalIn}
use Rattle.club_core.specs.State.{any_under}
use Rattle.club_laws.proofs.Proved.{in-place}
use Rattle.club_rows.specs.Club.{both_games, ClubState, IsClub, StoresClub, tables}
use Rattle.club_rows.proofs.Proved.{Kind}
use Rattle.club_changes.specs.declared.stored.StoredGame.{StoredGame}
use Rattle.club_changes.specs.internal.Importing.{IsUnder}
use Rattle.club_changes.proofs.Proved.{ImportsOf, kinds_decide, stored_as}
use Rattle.club_reads.specs.internal.Rulings.{FindsVerdict, FindsVerdictUnder}
use Rattle.club_reads.proofs.Proved.{tells_verdict}

module _ {P M E T : Type 0} {laws : GameRules P M E T} {kind : GameKind} (k : Kind laws kind) {records : GameRecords M}
    (of : ImportsOf k records) (s : ClubState) (is_club : IsClub s) (conn : State) (stores : StoresClub s conn) where
  -- where a verdict is on the game under a key, its rulings are found
  pub tells_under : (key : List ℕ) (under : Option StoredGame) → IsUnder s key under
      → FindsVerdictUnder (of.of_kind (any_under s.games key)) under (tables s) conn
  tells_under key None is = rw (is.0, of.none) tt
  tells_under key (Some stored) is = elim (kinds_decide stored.kind kind) [
    | inl same ↦
        let (g, stands) = stored_as k s is_club is.id is.game stored is.here is.stored_is same in
        rw (is.under, stands.same, of.same g)
        (subst (λ n. FindsVerdict n g (tables s) conn) (sym is.stored_is.id_is)
        (tells_verdict k s is.id g stands.here is_club conn stores))
    | inr apart ↦
        let legal = in-place (IsLegalIn both_games s) s.games is.id is.game is_club.games is.here in
        rw (is.under, of.other s is.game legal (λ alike. apart (is.stored_is.kind ∙ alike))) tt
  ]

-- Records of shogi, as the writer of CSA games promises them.
use Rattle.std.proofs.Common.{◌≡◌, ℕ, List, [], ◌∷◌, ◌++◌, Option, Some, refl, sym, ◌∙◌}
use Rattle.std.proofs.Common.{append_assoc, append-nil}
use Rattle.record_writer.specs.internal.PieceLaws.{begun-whole}
use Rattle.squares.specs.declared.shogi.moves.SMove.{SMove}
use Rattle.shogi_moves.proofs.Proved.{can_declare-is}
use Rattle.shogi_repetition.specs.declared.ends.SEnd.{SEnd}
use Rattle.club_requests.specs.declared.outside_end.OutsideEnd.TheVariants.{Declared}
use Rattle.club_requests.specs.declared.rulings.Verdict.TheVariants.{Awarded, Voided}
use Rattle.club_core.specs.declared.rows.GameEnd.{GameEnd}
use Rattle.club_core.specs.declared.rows.GameEnd.TheVariants.{Outside, Verdict}
use Rattle.club_games.specs.Shogi.{shogi}
use Rattle.csa.specs.declared.head.CsaEnd.TheVariants as csa_end
use Rattle.csa.specs.declared.head.CsaHead.{CsaHead}
use Rattle.csa.specs.declared.game_writer.GameWriter.{GameWriter}
use Rattle.csa.specs.WrittenGame.{IsGameText}
use Rattle.csa.specs.internal.Writer.{lines_text, text_up_to, HasBegun, AddsEntry, BeginsEntry, BeginsGame}
use Rattle.csa.specs.internal.Writer.{MayEnd, Finishes, BeginsEnd, LinesBeginGames, MovesBeginGames}
use Rattle.club_exports.specs.Title.{Title}
use Rattle.club_exports.specs.Written.{made_in}
use Rattle.club_exports.specs.internal.Written.{FitsMoves, AddsRecord, BeginsRecord}
use Rattle.club_exports.specs.CsaRecords.{end_told, IsCsaText}
use Rattle.club_exports.specs.internal.CsaRecords.{IsCsaHead, HasWrittenCsa}

module _ {title : Title SEnd} {head : CsaHead} (is : IsCsaHead title head) where
  -- the text of a game with the title's head is the record
  csa-text : {plies : List (SMove × ℕ)} {text : List ℕ}
      → IsGameText head.event.now head.black.now head.white.now head.start head.end plies text
      → IsCsaText title plies text
  csa-text g = record {
    at = g.at;
    shown = rw is.start at g.shown;
    written = rw (is.event, is.black, is.white, is.end) at g.written;
  }

  -- a beginning of it is one of the record
  csa-begins : (plies : List (SMove × ℕ)) (before now : Option (List ℕ)) → BeginsGame head plies before now
      → BeginsRecord IsCsaText title plies before now
  csa-begins plies before now begins = (begins.0, csa-text begins.1, begins.2)

  -- the lines before the moves
  pub csa-lines : LinesBeginGames → {before now : Option (List ℕ)} → HasBegun head.start (lines_text head) before now
      → (plies : List (SMove × ℕ)) → BeginsRecord IsCsaText title plies before now
  csa-lines law begun plies = csa-begins plies _ _ (law head plies _ _ begun)

-- an end that is told as a declaration is one
declared-told : (end : Option (GameEnd SEnd)) → end_told end ≡ Some csa_end.Declared → end ≡ Some (Outside Declared)
declared-told (Some (Outside Declared)) is = refl
declared-told (Some (Verdict (Awarded score))) is = cc
declared-told (Some (Verdict Voided)) is = cc
declared-told _ is = cc

module _ {title : Title SEnd} {plies : List (SMove × ℕ)} {before held : Option (List ℕ)} {game : GameWriter}
    (h : HasWrittenCsa title plies before held game) where
  -- what was written begins each game that goes on
  pub csa-begun : MovesBeginGames → (more : List (SMove × ℕ)) → BeginsRecord IsCsaText title (plies ++ more) before held
  csa-begun law more =
      csa-begins h.is_head (plies ++ more) before held
      (law h.head plies more before held
      (record {
        at = h.written.at;
        shown = h.written.shown;
        begun = begun-whole before held (text_up_to h.head plies h.written.at) h.written.written;
      }))

  -- what was written of a game begins it, where nothing more is written
  pub csa-stands : MovesBeginGames → BeginsRecord IsCsaText title plies before held
  csa-stands law = rw (append-nil plies) at (csa-begun law [])

  module _ {now : Option (List ℕ)} where
    -- one move more
    pub csa-adds : {new : GameWriter} {entry : SMove × ℕ} → AddsEntry entry game new held now
        → HasWrittenCsa title (plies ++ entry ∷ []) before now new
    csa-adds adds = record { head = h.head; is_head = h.is_head; written = adds h.head before plies h.written }

    -- a beginning of one move more
    pub csa-move : (entry : SMove × ℕ) → MovesBeginGames → (more : List (SMove × ℕ)) → BeginsEntry entry game held now
        → BeginsRecord IsCsaText title (plies ++ entry ∷ more) before now
    csa-move entry law more begins =
        rw (append_assoc plies (entry ∷ []) more)
        at (csa-begins h.is_head ((plies ++ entry ∷ []) ++ more) before now
        (law h.head (plies ++ entry ∷ []) more before now (begins h.head before plies h.written)))

    -- the end
    pub csa-finished : Finishes game held now → AddsRecord IsCsaText title plies before now
    csa-finished finishes =
        let added = finishes h.head before plies h.written in
        (added.0, csa-text h.is_head added.1, added.2)

    pub csa-ending : BeginsEnd game held now → BeginsRecord IsCsaText title plies before now
    csa-ending begins = csa-begins h.is_head plies before now (begins h.head before plies h.written)

  -- an end that fits the moves that are written may be written after them
  pub csa-may_end : FitsMoves shogi title (made_in plies) → MayEnd game
  csa-may_end fits declared =
      let told = declared-told title.end (sym h.is_head.end ∙ (sym h.written.end ∙ declared)) in
      (can_declare-is game.position).0 (rw h.written.position (fits told))

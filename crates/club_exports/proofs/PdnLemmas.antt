-- Records of draughts, as the writer of PDN games promises them.
use Rattle.std.proofs.Common.{◌≡◌, ℕ, List, [], ◌∷◌, ◌++◌, Option, refl, sym, ◌∙◌, append_assoc}
use Rattle.std.proofs.lemmas.List.{map-append}
use Rattle.record_writer.specs.Pieces.{AppendsSome}
use Rattle.record_writer.specs.internal.PieceLaws.{begun-whole}
use Rattle.squares.specs.declared.draughts.moves.DMove.{DMove}
use Rattle.draughts_draws.specs.declared.ends.DEnd.{DEnd}
use Rattle.pdn_games.specs.declared.head.PdnHead.{PdnHead}
use Rattle.pdn_games.specs.declared.game_writer.GameWriter.{GameWriter}
use Rattle.pdn_games.specs.Writing.{game_text}
use Rattle.pdn_games.specs.internal.Writer.{tags_text, text_up_to, whole_text, AddsMove, BeginsMove, Finishes}
use Rattle.pdn_games.specs.internal.Writer.{BeginsEnd, TagsBeginGames, MovesBeginGames}
use Rattle.club_exports.specs.Title.{Title}
use Rattle.club_exports.specs.Written.{made_in}
use Rattle.club_exports.specs.internal.Written.{AddsRecord, BeginsRecord}
use Rattle.club_exports.specs.PdnRecords.{IsPdnText}
use Rattle.club_exports.specs.internal.PdnRecords.{IsPdnHead, HasWrittenPdn}

made-more : (plies more : List (DMove × ℕ)) → made_in plies ++ made_in more ≡ made_in (plies ++ more)
made-more plies more = sym (map-append (λ p. p.0) plies more)

module _ {title : Title DEnd} {head : PdnHead} (is : IsPdnHead title head) (plies : List (DMove × ℕ)) where
  -- the whole text of a game with the title's head is the record
  pdn-text : IsPdnText title plies (whole_text head (made_in plies))
  unfolding whole_text
  pdn-text = record {
    at = head.date;
    shown = is.shown;
    written = λ i. game_text (is.event i) head.date (is.white i) (is.black i) (is.score i) (made_in plies);
  }

  -- a beginning of the whole text of a game with these moves is one of the record
  pdn-begins : (ms : List DMove) (before now : Option (List ℕ)) → ms ≡ made_in plies
      → AppendsSome before now (whole_text head ms) → BeginsRecord IsPdnText title plies before now
  pdn-begins ms before now same some = (whole_text head (made_in plies), pdn-text, rw same at some)

  -- the tags
  pub pdn-tags : TagsBeginGames → {before now : Option (List ℕ)} → AppendsSome before now (tags_text head)
      → BeginsRecord IsPdnText title plies before now
  pdn-tags law some = pdn-begins (made_in plies) _ _ refl (law head (made_in plies) _ _ some)

module _ {title : Title DEnd} {plies : List (DMove × ℕ)} {before held : Option (List ℕ)} {game : GameWriter}
    (h : HasWrittenPdn title plies before held game) where
  -- what was written begins each game that goes on
  pub pdn-begun : MovesBeginGames → (more : List (DMove × ℕ)) → BeginsRecord IsPdnText title (plies ++ more) before held
  pdn-begun law more =
      pdn-begins h.is_head (plies ++ more) (made_in plies ++ made_in more) before held (made-more plies more)
      (law h.head (made_in plies) (made_in more) before held
      (begun-whole before held (text_up_to h.head (made_in plies)) h.written.written))

  module _ {now : Option (List ℕ)} where
    -- one move more
    pub pdn-adds : {new : GameWriter} {m : DMove} (seconds : ℕ) → AddsMove m game new held now
        → HasWrittenPdn title (plies ++ (m, seconds) ∷ []) before now new
    pdn-adds {m = m} seconds adds = record {
      head = h.head;
      is_head = h.is_head;
      written = rw (made-more plies ((m, seconds) ∷ [])) at (adds h.head before (made_in plies) h.written);
    }

    -- a beginning of one move more
    pub pdn-move : (m : DMove) (seconds : ℕ) → MovesBeginGames → (more : List (DMove × ℕ)) → BeginsMove m game held now
        → BeginsRecord IsPdnText title (plies ++ (m, seconds) ∷ more) before now
    pdn-move m seconds law more begins =
        pdn-begins h.is_head (plies ++ (m, seconds) ∷ more) ((made_in plies ++ m ∷ []) ++ made_in more) before now
        (append_assoc (made_in plies) (m ∷ []) (made_in more) ∙ made-more plies ((m, seconds) ∷ more))
        (law h.head (made_in plies ++ m ∷ []) (made_in more) before now
        (begins h.head before (made_in plies) h.written))

    -- the end
    pub pdn-finished : Finishes game held now → AddsRecord IsPdnText title plies before now
    pdn-finished finishes = (
      whole_text h.head (made_in plies),
      pdn-text h.is_head plies,
      finishes h.head before (made_in plies) h.written,
    )

    pub pdn-ending : BeginsEnd game held now → BeginsRecord IsPdnText title plies before now
    pdn-ending begins =
        pdn-begins h.is_head plies (made_in plies) before now refl
        (begins h.head before (made_in plies) h.written)

-- A legal move after the written moves may be written next. No promise of the program rests on these definitions.
use Rattle.std.proofs.Common.{◌≡◌, length, sym, subst, arith}
use Rattle.std.proofs.lemmas.List.{length-map}
use Rattle.draughts_moves.specs.Legal as draughts_legal
use Rattle.shogi_moves.specs.Rules as shogi_legal
use Rattle.pdn_games.specs.internal.Writer as pdn
use Rattle.csa.specs.internal.Writer as csa
use Rattle.club_games.specs.Draughts.{draughts}
use Rattle.club_games.specs.internal.DraughtsLaws as draughts_laws
use Rattle.club_games.specs.Shogi.{shogi}
use Rattle.club_games.specs.internal.ShogiLaws as shogi_laws
use Rattle.club_exports.specs.Written.{made_in}
use Rattle.club_exports.specs.internal.Written.{MayFollowLegal}
use Rattle.club_exports.specs.internal.PdnRecords.{HasWrittenPdn}
use Rattle.club_exports.specs.internal.CsaRecords.{HasWrittenCsa}

pub pdn-may_follow : MayFollowLegal draughts HasWrittenPdn pdn.MayFollow
pdn-may_follow title plies before now game made written few legal =
    let count : length (made_in plies) ≡ length plies = length-map plies (λ p. p.0) in
    let stands = written.written.position in
    let plies_are = written.written.plies in (
      subst (λ p. draughts_legal.Legal p made) (sym stands) (draughts_laws.check-legal _ made legal),
      omega (arith, count, plies_are, few),
    )

pub csa-may_follow : MayFollowLegal shogi HasWrittenCsa csa.MayFollow
csa-may_follow title plies before now game made written few legal =
    let stands = written.written.position in
    subst (λ p. shogi_legal.Legal p made) (sym stands) (shogi_laws.check-legal _ made legal)

-- The CSA record of a game of shogi.
use Rattle.std.specs.Prelude.{ℕ, List, Option, Some, None}
use Rattle.squares.specs.declared.sides.Score.TheVariants.{Draw}
use Rattle.squares.specs.declared.shogi.moves.SMove.{SMove}
use Rattle.shogi_repetition.specs.declared.ends.SEnd.{SEnd}
use Rattle.club_core.specs.declared.rows.GameEnd.{GameEnd}
use Rattle.club_core.specs.declared.rows.GameEnd.TheVariants as by
use Rattle.club_requests.specs.declared.outside_end.OutsideEnd.{OutsideEnd}
use Rattle.club_requests.specs.declared.outside_end.OutsideEnd.TheVariants as outside
use Rattle.club_requests.specs.declared.rulings.Verdict as given_verdict
use Rattle.club_requests.specs.declared.rulings.Verdict.TheVariants as verdict
use Rattle.csa.specs.declared.head.CsaEnd.{CsaEnd}
use Rattle.csa.specs.declared.head.CsaEnd.TheVariants as csa_end
use Rattle.csa.specs.WrittenGame.{IsGameText}
use Rattle.club_exports.specs.Title.{Title}

-- the CSA end of a game that ended for an outside reason; an agreed draw is written as a score
abbrev pub outside_told : OutsideEnd → CsaEnd
outside_told outside.Resigned = csa_end.Resigned
outside_told outside.Time = csa_end.Time
outside_told outside.Declared = csa_end.Declared
outside_told outside.Agreed = csa_end.Recorded Draw
outside_told (outside.Recorded score) = csa_end.Recorded score

-- the CSA end of a game that the arbiter ended: an award is written as a score, and a void game as a running one
abbrev pub verdict_told : given_verdict.Verdict → Option CsaEnd
verdict_told (verdict.Awarded score) = Some (csa_end.Recorded score)
verdict_told verdict.Voided = None

-- the CSA end of a game, if the game has ended
abbrev pub end_told : Option (GameEnd SEnd) → Option CsaEnd
end_told None = None
end_told (Some (by.Rule end)) = Some (csa_end.Rule end)
end_told (Some (by.Verdict v)) = verdict_told v
end_told (Some (by.Outside o)) = Some (outside_told o)

-- the record's text; First is Black
abbrev pub IsCsaText : Title SEnd → List (SMove × ℕ) → List ℕ → Type 0
IsCsaText title plies text = IsGameText title.event title.first title.second title.start (end_told title.end) plies text

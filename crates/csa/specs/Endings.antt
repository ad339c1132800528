-- The score of a game by the end of its record and by the rules.
use Rattle.std.specs.Prelude.{◌&&◌, Bool, true, false, Option, Some, None, Result, Ok, Err, if◌then◌else◌}
use Rattle.squares.specs.declared.sides.Side.{Side}
use Rattle.squares.specs.declared.sides.Side.TheVariants.{First, Second}
use Rattle.squares.specs.declared.sides.Score.{Score}
use Rattle.squares.specs.declared.sides.Score.TheVariants as score
use Rattle.squares.specs.Sides.{loses, other, same_score}
use Rattle.squares.specs.ShogiSets.{ShogiPosition}
use Rattle.shogi_moves.proofs.Proved.{declare-answer}
use Rattle.shogi_repetition.specs.declared.ends.SEnd.{SEnd}
use Rattle.shogi_repetition.specs.declared.ends.SEnd.TheVariants as by_rule
use Rattle.shogi_repetition.specs.Ends.{outcome_of}
use Rattle.csa.specs.declared.end_words.EndWord.{EndWord}
use Rattle.csa.specs.declared.end_words.EndWord.TheVariants as word
use Rattle.csa.specs.declared.faults.CsaFault.{CsaFault}
use Rattle.csa.specs.declared.faults.CsaFault.TheVariants as fault

-- The score that an end claims; `turn` is the side to move. An interrupted game has none.
abbrev pub claimed : EndWord → Side → Option Score
claimed word.Resigned turn = Some (loses turn)
claimed word.TimeUp turn = Some (loses turn)
claimed word.IllegalMove turn = Some (loses turn)
claimed word.Mate turn = Some (loses turn)
claimed word.Declared turn = Some (loses (other turn))
claimed word.Repetition turn = Some score.Draw
claimed word.Impasse turn = Some score.Draw
claimed word.Draw turn = Some score.Draw
claimed word.BlackIllegal turn = Some (loses First)
claimed word.WhiteIllegal turn = Some (loses Second)
claimed word.Interrupted turn = None

-- An end agrees with the rules: a mate or a repetition must be the rules' end of the game, and a declared win must be
-- allowed in the last position.
abbrev pub fits_rules : EndWord → ShogiPosition → Option SEnd → Bool
fits_rules word.Mate p (Some by_rule.NoMove) = true
fits_rules word.Mate p _ = false
fits_rules word.Repetition p (Some by_rule.Fourfold) = true
fits_rules word.Repetition p _ = false
fits_rules word.Declared p end = (declare-answer p).value
fits_rules _ p end = true

-- the score is that of the rules, if they ended the game
abbrev pub agrees : Score → Side → Option SEnd → Bool
agrees claim turn None = true
agrees claim turn (Some end) = same_score claim (outcome_of end turn)

-- the claimed score, if it and the stated end agree with the rules, otherwise a fault
abbrev pub settled : EndWord → Score → ShogiPosition → Option SEnd → Result Score CsaFault
settled w claim p end = if fits_rules w p end && agrees claim p.turn end then Ok claim else Err fault.ResultDiffers

-- the score that the stated end claims, or a fault if there is none or the rules differ
abbrev pub claim_settled : EndWord → Option Score → ShogiPosition → Option SEnd → Result Score CsaFault
claim_settled w None p end = Err fault.Unfinished
claim_settled w (Some claim) p end = settled w claim p end

-- the score of a record, by its end, its last position and the end by the rules
abbrev pub ending : Option EndWord → ShogiPosition → Option SEnd → Result Score CsaFault
ending None p end = Err fault.Unfinished
ending (Some w) p end = claim_settled w (claimed w p.turn) p end

-- the record ends with a declared win
abbrev pub says_declared : Option EndWord → Bool
says_declared (Some word.Declared) = true
says_declared _ = false

use Rattle.std.proofs.Common.{refl, arith}
use Rattle.masks.proofs.SetLemmas.{empty_word}
use Rattle.masks.proofs.word50.Bitboard50.new.Goals as goal

pub returns : goal.returns
returns c = empty_word 1 50 0 refl (omega arith)

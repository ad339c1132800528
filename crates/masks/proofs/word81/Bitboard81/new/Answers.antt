use Rattle.std.proofs.Common.{refl, arith}
use Rattle.masks.proofs.SetLemmas.{empty_word}
use Rattle.masks.proofs.word81.Bitboard81.new.Goals as goal

pub returns : goal.returns
returns c = empty_word 0 81 0 refl (omega arith)

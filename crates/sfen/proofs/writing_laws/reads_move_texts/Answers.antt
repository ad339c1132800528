use Rattle.sfen.proofs.UsiTextLemmas.{usi_reading-sound, text-read}
use Rattle.sfen.proofs.writing_laws.reads_move_texts.Goals as goal

pub returns : goal.returns
returns c = λ text m. (λ e. usi_reading-sound text m e, λ h. text-read text m h)

use Rattle.std.proofs.Common.{ℕ, subst}
use Rattle.sfen.specs.internal.UsiText.{IsNoUsi}
use Rattle.sfen.proofs.UsiOffsetLemmas.{no-usi, refused-here}
use Rattle.sfen.proofs.writing_laws.has_one_offset.Goals as goal

pub returns : goal.returns
returns c = λ text bytes. (λ h. refused-here text bytes h, λ e. subst (λ (n : ℕ). IsNoUsi text n) e.1 (no-usi text e.0))

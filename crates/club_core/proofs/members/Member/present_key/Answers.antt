use Rattle.std.proofs.Common.{sym, ◌∙◌, string_bytes}
use Rattle.club_core.proofs.KeyLemmas.{newest}
use Rattle.club_core.proofs.members.Member.present_key.Goals as goal

pub returns-in-Some : goal.returns-in-Some
returns-in-Some c =
    c.as_str.ensures.value
    ∙
    sym
    (rw c.deref.ensures.value at
    (newest (λ k. string_bytes k) (string_bytes c.args.self.now.key) c.deref.result.now c.in-Some.key.now
    (sym c.in-Some.ensures.value)))

use Rattle.std.proofs.Common.{◌≡◌, length, sym, ◌∙◌, string_bytes, rules}
use Rattle.std.proofs.lemmas.List.{length-map}
use Rattle.club_lists.proofs.lines.key_number.Goals as goal

pub returns : goal.returns
returns c =
    let counted : length c.as_slice.result.now ≡ length c.args.member.now.later.items = search rules in
    counted ∙ sym (length-map c.args.member.now.later.items string_bytes)

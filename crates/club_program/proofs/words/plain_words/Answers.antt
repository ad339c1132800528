use Rattle.std.proofs.Common.{◌≡◌, ◌∙◌, ap, map, length, min, option_map, rules}
use Rattle.std.specs.Prelude.{string_bytes}
use Rattle.club_program.proofs.WordLemmas.{are_plain}
use Rattle.club_program.specs.internal.CommandLine.{plain_words}
use Rattle.club_program.proofs.words.plain_words.Goals as goal

pub returns : goal.returns
returns c =
    let given = c.as_slice-words.result.now in
    let bounded : c.min.result ≡ min c.file_at.result (length given) = search rules in
    let plain : map (λ t. t.now) c.in_ok-taken.taken.items ≡ plain_words (map string_bytes c.args.words.now) =
    are_plain (λ t. t.now) given c.split_at.result.0.now c.split_at.result.1.now
    (map string_bytes c.args.words.now) (map (λ t. t.now) c.in_ok-taken.taken.items) c.file_at.result c.min.result
    (option_map string_bytes c.in_ok-path.path)
    (ap (map (λ t. t.now)) c.as_slice-words.ensures.value ∙ c.in_ok-texts.ensures) c.file_at.ensures bounded
    c.split_at.ensures.front c.split_at.ensures.back c.in_ok-path.ensures c.in_ok-taken.ensures in
    rw (c.as_slice.ensures.value, plain) at c.owned.ensures

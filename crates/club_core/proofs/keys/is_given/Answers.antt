use Rattle.std.proofs.Common.{◌≡◌, ◌-◌, Some, None, true, length, ap, sym, ◌∙◌, string_bytes, rules, tests}
use Rattle.std.specs.Prelude.{is_some}
use Rattle.std.proofs.lemmas.Bool.{ltb-true, ltb-false}
use Rattle.club_core.specs.internal.Answer.{member_of}
use Rattle.club_core.specs.Keys.{is_given, key_under}
use Rattle.club_core.proofs.KeyLemmas.{get-map, get-past, key_under-at, some-number}
use Rattle.club_core.proofs.keys.is_given.Goals as goal

pub returns-in-Some : goal.returns-in-Some
returns-in-Some c =
    let m = member_of c.args.member.now in
    let number = c.args.number in
    let later = c.deref.result.now in
    let has : is_some (key_under m number) ≡ true = search (rules, tests) in
    let found = c.in-Some.ensures.lookup in
    let under : key_under m number ≡ Some (string_bytes c.in-Some.given.now) =
    key_under-at m number (some-number m number has)
    ∙
    (rw c.deref.ensures.value at
    (get-map (λ k. string_bytes k) later (number - 1) c.in-Some.given.now
    (ltb-true (number - 1) (length later) (sym found.0)) found.1)) in
    rw under (search (rules, tests))

pub returns-in-None : goal.returns-in-None
returns-in-None c =
    let m = member_of c.args.member.now in
    let number = c.args.number in
    let later = c.deref.result.now in
    let has : is_some (key_under m number) ≡ true = search (rules, tests) in
    let past = ltb-false (number - 1) (length later) (sym c.in-None.ensures.lookup.0) in
    let under : key_under m number ≡ None =
    key_under-at m number (some-number m number has) ∙
    (rw c.deref.ensures.value at (get-past (λ k. string_bytes k) later (number - 1) past)) in
    sym (ap (is_given c.args.key.now) under)

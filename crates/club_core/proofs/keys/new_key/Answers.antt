use Rattle.std.proofs.Common.{◌≡◌, suc, Some, None, sym, ap, ◌∙◌, refl, string_bytes, rules, tests}
use Rattle.std.proofs.lemmas.Iterator.{YieldsList-from_slice}
use Rattle.std.proofs.lemmas.Iterator.Search.{find_from_yields_List}
use Rattle.club_requests.specs.declared.requests.Caller.TheVariants.{Officer}
use Rattle.club_core.specs.Seats.{has_member_name}
use Rattle.club_core.specs.internal.Answer.{member_of, members_of}
use Rattle.club_core.proofs.Finds.{found-map, none-map}
use Rattle.club_core.proofs.KeyLemmas.{key-answered}
use Rattle.club_core.proofs.keys.new_key.Goals as goal

pub returns-in-None : goal.returns-in-None
returns-in-None c =
    let name = c.as_str-name.result.now in
    let found = find_from_yields_List (λ m. has_member_name name (member_of m)) c.find.new.self _ None
    c.in-None.ensures.ran
    (YieldsList-from_slice c.args.members.now cc) (λ x b q k. search (rules, tests)) in
    let none = rw c.as_str-name.ensures.value at
    (none-map (has_member_name name) member_of c.args.members.now (sym found)) in
    let officer : c.args.caller ≡ Officer = search (rules, tests) in
    rw (officer, none) refl

pub returns-then-is_given : goal.returns-then-is_given
returns-then-is_given c =
    let name = c.as_str-name.result.now in
    let m = c.in-Some.member.now in
    let command = c.args.command.now in
    let found = find_from_yields_List (λ m. has_member_name name (member_of m)) c.find.new.self _
    (Some c.in-Some.member) c.in-Some.ensures.ran
    (YieldsList-from_slice c.args.members.now cc) (λ x b q k. search (rules, tests)) in
    let (k, there, at) = found-map (has_member_name name) member_of c.args.members.now m (sym found) in
    let officer : c.args.caller ≡ Officer = search (rules, tests) in
    let step = key-answered c.args.caller (members_of c.args.members.now) name (string_bytes command.name) k
    (member_of m) command.number (string_bytes command.key) officer c.as_str-name.ensures.value there at in
    let given = rw c.as_str-key.ensures.value at (sym c.is_given.ensures ∙ c.if-is_given.true) in
    sym (step ∙ rw given refl)

pub returns-in-Some-refusal_of_key : goal.returns-in-Some-refusal_of_key
returns-in-Some-refusal_of_key c =
    let name = c.as_str-name.result.now in
    let m = c.in-Some.member.now in
    let command = c.args.command.now in
    let found = find_from_yields_List (λ m. has_member_name name (member_of m)) c.find.new.self _
    (Some c.in-Some.member) c.in-Some.ensures.ran
    (YieldsList-from_slice c.args.members.now cc) (λ x b q k. search (rules, tests)) in
    let (k, there, at) = found-map (has_member_name name) member_of c.args.members.now m (sym found) in
    let officer : c.args.caller ≡ Officer = search (rules, tests) in
    let step = key-answered c.args.caller (members_of c.args.members.now) name (string_bytes command.name) k
    (member_of m) command.number (string_bytes command.key) officer c.as_str-name.ensures.value there at in
    let fresh = rw c.as_str-key.ensures.value at (sym c.is_given.ensures ∙ c.if-is_given.false) in
    let refusal = rw c.as_str-key.ensures.value at (sym c.in-Some-refusal_of_key.ensures) in
    sym (step ∙ rw (fresh, refusal) refl)

pub returns-in-None-refusal_of_key : goal.returns-in-None-refusal_of_key
returns-in-None-refusal_of_key c =
    let name = c.as_str-name.result.now in
    let m = c.in-Some.member.now in
    let command = c.args.command.now in
    let found = find_from_yields_List (λ m. has_member_name name (member_of m)) c.find.new.self _
    (Some c.in-Some.member) c.in-Some.ensures.ran
    (YieldsList-from_slice c.args.members.now cc) (λ x b q k. search (rules, tests)) in
    let (k, there, at) = found-map (has_member_name name) member_of c.args.members.now m (sym found) in
    let officer : c.args.caller ≡ Officer = search (rules, tests) in
    let step = key-answered c.args.caller (members_of c.args.members.now) name (string_bytes command.name) k
    (member_of m) command.number (string_bytes command.key) officer c.as_str-name.ensures.value there at in
    let fresh = rw c.as_str-key.ensures.value at (sym c.is_given.ensures ∙ c.if-is_given.false) in
    let allowed = rw c.as_str-key.ensures.value at (sym c.in-None-refusal_of_key.ensures) in
    sym (step ∙ rw (fresh, allowed) refl)

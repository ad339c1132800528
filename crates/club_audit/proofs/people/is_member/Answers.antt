use Rattle.std.proofs.Common.{◌≡◌, ◌+◌, [], pos, true, arith}
use Rattle.std.specs.Prelude.{string_bytes}
use Rattle.std.proofs.lemmas.Bool.{not-true}
use Rattle.std.proofs.lemmas.Int.{ints}
use Rattle.club_requests.specs.Limits.{is_name, is_member_key}
use Rattle.club_audit.proofs.PeopleLemmas.{member-cells}
use Rattle.club_audit.proofs.people.is_member.Goals as goal

pub returns-clause-sound : goal.returns-clause-sound
returns-clause-sound c = λ free.
    let row = c.args.member.now in
    let at = c.is_place.ensures.sound c.if-not-is_place.false in
    let id : row.id ≡ pos (c.args.place + 1) = omega (arith, ints) in
    let name : is_name (string_bytes row.name) ≡ true = cc in
    let key : is_member_key (string_bytes row.key) ≡ true = cc in
    record {
      member = record { name = string_bytes row.name; key = string_bytes row.key; later = [] };
      cells = member-cells (c.args.place + 1) row id;
      legal = record { name = name; key = key; later = λ n k at. cc; later_count = omega arith };
      others = c.is_taken.ensures.free (not-true c.is_taken.result free);
    }

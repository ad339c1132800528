use Rattle.std.proofs.Common.{◌≡◌, ◌+◌, ◌++◌, [], ◌∷◌, ℕ, List, length, map, drop, pos, suc, ap, refl, sym, subst}
use Rattle.std.proofs.Common.{rules, length-append, ◌∙◌}
use Rattle.std.specs.Prelude.{string_bytes}
use Rattle.std.specs.declared.alloc.Global.{Global}
use Rattle.std.specs.declared.string.String.{String}
use Rattle.std.proofs.lemmas.List.{map-append}
use Rattle.club_reads.specs.internal.Later.{AreLater}
use Rattle.club_reads.proofs.LaterLemmas.{all_later, past_other, past_own}
use Rattle.club_reads.proofs.people.later_keys.Goals.{then-is_of_member+else-not-is_next+in_ok-clone+in_ok-push}
use Rattle.club_reads.proofs.people.later_keys.Goals.{else-is_of_member}
use Rattle.club_reads.proofs.people.later_keys.Goals as goal

texts : List (String Global) → List (List ℕ)
texts keys = map (λ k. string_bytes k) keys

pub loop-key-preserved : goal.loop-key-preserved
unfolding texts
loop-key-preserved c =
    let rows = c.args.keys.now in
    let k = c.loop-key.key-index in
    let member = c.args.member.now.id in
    let done = c.loop-key.later.items in
    let row = c.key-item.result in
    record {
      rest = elim c.if-is_of_member.branch [
        | then-is_of_member+else-not-is_next+in_ok-clone+in_ok-push w ↦
            let number : row.number ≡ pos (suc (length done)) = search rules in
            let text : string_bytes w.in_ok-clone.field-0 ≡ string_bytes row.key = search rules in
            let later = ap (λ v. v.items) w.later-is ∙ w.in_ok-push.ensures.items in
            let read : texts c.if-is_of_member.later.items ≡ texts done ++ string_bytes row.key ∷ [] =
            ap texts later ∙ (map-append _ done _ ∙ ap (λ t. texts done ++ t ∷ []) text) in
            let count : length c.if-is_of_member.later.items ≡ length done + 1 = ap length later ∙ simp length-append in
            past_own member rows k row c.loop-key-test.true c.key-item.is (length done) (texts done)
            c.loop-key.invariant.rest _ _ (w.if-is_of_member.ensures.own refl) number read count
        | else-is_of_member w ↦
            subst (λ (l : List (String Global)). (rest : List (List ℕ))
            → AreLater member (drop (k + 1) rows) (length l) rest → AreLater member rows 0 (texts l ++ rest))
            (ap (λ v. v.items) (sym w.later-is))
            (past_other member rows k row c.loop-key-test.true c.key-item.is (length done) (texts done)
            c.loop-key.invariant.rest (w.if-is_of_member.ensures.other refl))
      ];
    }

pub returns : goal.returns
returns c =
    all_later c.args.member.now.id c.args.keys.now c.loop-key.key-index (length c.loop-key.later.items) _
    c.loop-key-test.false c.loop-key.invariant.rest

use Rattle.std.proofs.Common.{◌≡◌, ◌+◌, ◌++◌, ◌∷◌, [], pos, length, string_bytes, Some, ap, sym, ◌∙◌, slice_get, rules}
use Rattle.std.proofs.Common.{arith, inl, inr, refl}
use Rattle.std.proofs.lemmas.Bool.{cases_lt}
use Rattle.std.proofs.lemmas.Option.{same_Some, slice_get_read}
use Rattle.club_answers.proofs.ViewedLemmas.{one_more}
use Rattle.club_answers.proofs.viewed.texts.Goals as goal

pub loop-row-preserved : goal.loop-row-preserved
loop-row-preserved c =
    let rows = c.args.rows.now in
    let i = c.loop-row.row-index in
    let row = c.row-item.result in
    let here : slice_get rows i ≡ Some row =
    slice_get_read rows (length rows) i row refl c.loop-row-test.true c.row-item.is in
    let plies : c.len.result ≡ i = search rules in
    let ply : row.ply ≡ pos (1 + i) = c.is_next.ensures c.if-not-is_next.false ∙ ap (λ k. pos (1 + k)) plies in
    let more : c.push.new.self.items ≡ c.loop-row.texts.items ++ c.in_ok-clone.field-0 ∷ [] = search rules in
    let same : string_bytes c.in_ok-clone.field-0 ≡ string_bytes row.text = search rules in
    record {
      count = search rules;
      order = λ n r low at. elim (cases_lt n i) [
        | inl less ↦ c.loop-row.invariant.order n r less at
        | inr past ↦
            let n_is : n ≡ i = omega (arith, low, past) in
            rw (n_is, same_Some r row (sym at ∙ ap (slice_get rows) n_is ∙ here)) ply
      ];
      texts = sym (one_more (λ r. string_bytes r.text) (λ t. string_bytes t) rows i row c.loop-row.texts.items
          c.push.new.self.items c.in_ok-clone.field-0 (sym c.loop-row.invariant.texts) here (sym same) more);
    }

use Rattle.std.proofs.Common.{◌≡◌, ◌≤◌, ℕ, suc, length, take, drop, map, Some, refl, arith, add-one, string_bytes}
use Rattle.std.specs.Prelude.{slice_get}
use Rattle.std.proofs.lemmas.List.{length-map, length-take-le}
use Rattle.std.proofs.lemmas.Option.{slice_get_read}
use Rattle.club_analysis.specs.internal.Line.{Grows}
use Rattle.club_analysis.proofs.TriedLemmas.{map_next, map_split, tried_count, tried_more}
use Rattle.club_analysis.proofs.tried.try_texts.Goals as goal

pub try_text-requires-clause-few : goal.try_text-requires-clause-few
try_text-requires-clause-few g c =
    let texts = c.args.texts.now in
    let i = c.loop-text.text-index in
    let count = tried_count g.R.Rules.rules _ _ _ c.loop-text.tried c.loop-text.invariant in
    let same = length-map (take i texts) (λ t. string_bytes t) in
    let read = length-take-le i texts (omega (arith, c.loop-text-test.true)) in
    omega (arith, count, same, read, c.loop-text-test.true, c.requires.few)

pub returns-in-Err-clause-refused : goal.returns-in-Err-clause-refused
returns-in-Err-clause-refused g c =
    let texts = c.args.texts.now in
    let i = c.loop-text.text-index in
    let text = c.text-item.result in
    let has = c.loop-text.invariant in
    let at : slice_get texts i ≡ Some text =
    slice_get_read texts (length texts) i text refl c.loop-text-test.true c.text-item.is in
    record {
      done = map (λ t. string_bytes t) (take i texts);
      text = string_bytes text;
      rest = map (λ t. string_bytes t) (drop (suc i) texts);
      parts = map_split (λ t. string_bytes t) texts i text at;
      tried = has.tried;
      read = has.read;
      refused = rw (has.start_is, has.moves_are) at (rw c.as_str.ensures.value at
          (rw c.in-Err.is at c.in_ok-next.ensures.refused));
    }

pub loop-text-preserved : goal.loop-text-preserved
loop-text-preserved g c =
    let texts = c.args.texts.now in
    let i = c.loop-text.text-index in
    let text = c.text-item.result in
    let at : slice_get texts i ≡ Some text =
    slice_get_read texts (length texts) i text refl c.loop-text-test.true c.text-item.is in
    let grows = rw c.as_str.ensures.value at (rw c.in-Ok.is at c.in_ok-next.ensures.grows) in
    rw (add-one i, map_next (λ t. string_bytes t) texts i text at)
    (tried_more g.R.Rules.rules _ _ _ (string_bytes text) c.loop-text.tried c.in-Ok.next c.loop-text.invariant grows)

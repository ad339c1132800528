use Rattle.std.proofs.Common.{◌≡◌, ℕ, ◌-◌, ◌<◌, length, length-drop, sym, ap, ◌∙◌, arith}
use Rattle.pdn_games.specs.Lengths.{landing_len}
use Rattle.pdn_games.proofs.LengthLemmas.{passes-one, ends-there, ends-out, begins}
use Rattle.pdn_games.proofs.lengths.landings_len.Goals as goal

pub loop-init : goal.loop-init
loop-init c = record { within = omega arith; ahead = begins c.args.text.now }

pub returns-then-more-eq0-clause-value : goal.returns-then-more-eq0-clause-value
returns-then-more-eq0-clause-value c = ends-there c.args.text.now _ _ _
    (ap landing_len (sym c.skip_bytes.ensures) ∙ sym c.landing_len-more.ensures.value ∙ c.if-more-eq0.true)
    c.loop.invariant.ahead

pub loop-preserved : goal.loop-preserved
loop-preserved c =
    let text = c.args.text.now in
    let some = c.if-more-eq0.false in
    let more : ℕ = c.landing_len-more.result in
    let there : 0 < more = omega (arith, some) in
    let within = c.loop.invariant.within in
    let rest : length c.skip_bytes.result.now ≡ length text - c.loop.passed = ap length c.skip_bytes.ensures
    ∙ length-drop c.loop.passed text in
    let fits = c.landing_len-more.ensures.within in
    record {
      within = omega (arith, within, fits, rest);
      ahead = passes-one text (length text) c.loop.counter c.loop.passed more _ c.loop-test.true
          (ap landing_len (sym c.skip_bytes.ensures) ∙ sym c.landing_len-more.ensures.value) there c.loop.invariant.ahead;
    }

pub returns-clause-value : goal.returns-clause-value
returns-clause-value c =
    let ended = c.loop-test.false in
    let out : length c.args.text.now - c.loop.counter ≡ 0 = omega (arith, ended) in
    ends-out c.args.text.now _ _ _ out c.loop.invariant.ahead

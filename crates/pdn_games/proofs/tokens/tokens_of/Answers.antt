use Rattle.std.proofs.Common.{◌≡◌, ℕ, ◌-◌, ◌++◌, ◌∷◌, [], List, Option, Some, None, Bool, true, false, length}
use Rattle.std.proofs.Common.{append-nil, append_assoc, sym, ap, subst, ◌∙◌, arith}
use Rattle.std.proofs.lemmas.List.{map-append}
use Rattle.pdn_games.specs.Tokens.{PlacedToken, Lexes, TextTokens, at_end, stops, skips, takes}
use Rattle.pdn_games.specs.internal.TokenValues.{token_of, placed_of, all_placed}
use Rattle.pdn_games.proofs.tokens.tokens_of.Goals as goal

pub returns-in-Ended : goal.returns-in-Ended
returns-in-Ended c =
    let k = c.loop-tokens in
    subst (λ ts. TextTokens c.args.text.now ts None) (append-nil (all_placed k.tokens.items))
    (k.invariant.onward [] None (at_end k.begins_line k.free k.rest.now (sym c.in-Ended.ensures.value)))

pub returns-in-Stuck : goal.returns-in-Stuck
returns-in-Stuck c =
    let k = c.loop-tokens in
    let stop : Option ℕ = Some (length c.args.text.now - length k.rest.now) in
    subst (λ ts. TextTokens c.args.text.now ts stop) (append-nil (all_placed k.tokens.items))
    (k.invariant.onward [] stop (stops k.begins_line k.free k.rest.now (sym c.in-Stuck.ensures.value)))

pub loop-tokens-preserved-in-Skipped : goal.loop-tokens-preserved-in-Skipped
loop-tokens-preserved-in-Skipped c =
    let k = c.loop-tokens in
    let more = c.in-Skipped.more.now in
    let within = k.invariant.within in
    let shorter = c.in-Skipped.ensures.shorter in
    record {
      within = omega (arith, within, shorter);
      onward = λ ts stop h.
          k.invariant.onward ts stop
          (skips k.begins_line k.free k.rest.now more ts stop (sym c.in-Skipped.ensures.value)
          (subst (λ (b : Bool). Lexes (length c.args.text.now) b true more ts stop) c.begins_feed-begins_line.ensures
          h));
    }

pub loop-tokens-preserved : goal.loop-tokens-preserved
loop-tokens-preserved c =
    let k = c.loop-tokens in
    let more = c.in-Found.more.now in
    let within = k.invariant.within in
    let shorter = c.in-Found.ensures.shorter in
    let one : PlacedToken = record { at = length c.args.text.now - length k.rest.now; token = token_of c.in-Found.token } in
    let grown : all_placed c.push.new.self.items ≡ all_placed k.tokens.items ++ one ∷ [] =
    ap all_placed c.in_ok-push-in-Found.ensures.items ∙ map-append placed_of k.tokens.items _ in
    record {
      within = omega (arith, within, shorter);
      onward = λ ts stop h.
          subst (λ (l : List PlacedToken). TextTokens c.args.text.now l stop)
          (sym (ap (λ (l : List PlacedToken). l ++ ts) grown ∙ append_assoc (all_placed k.tokens.items) (one ∷ []) ts))
          (k.invariant.onward (one ∷ ts) stop
          (takes k.begins_line k.free k.rest.now more (token_of c.in-Found.token) ts stop
          (sym c.in-Found.ensures.value)
          (subst (λ (b : Bool). Lexes (length c.args.text.now) false b more ts stop) c.lets_follow-free.ensures h)));
    }

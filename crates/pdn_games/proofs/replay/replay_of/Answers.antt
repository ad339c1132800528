use Rattle.std.proofs.Common.{ℕ, List, take, sym, subst, rules}
use Rattle.squares.specs.DraughtsOpening.{opening}
use Rattle.pdn_games.specs.declared.tokens.PlacedToken.{PlacedToken}
use Rattle.pdn_games.specs.Contents.{move_texts}
use Rattle.pdn_games.specs.Moves.{MeanAll}
use Rattle.pdn_games.specs.internal.Moves.{RefusesMoves}
use Rattle.pdn_games.specs.internal.TokenValues.{all_placed}
use Rattle.pdn_games.proofs.TextLemmas.{texts-there, refuses-there, form-there}
use Rattle.pdn_games.proofs.replay.replay_of.Goals as goal

pub push_token-requires-clause-form : goal.push_token-requires-clause-form
push_token-requires-clause-form c = form-there c.args.placed.now c.loop-i.i _ c.loop-i-test.true c.requires

pub returns-in_err-push_token-clause-fault : goal.returns-in_err-push_token-clause-fault
returns-in_err-push_token-clause-fault c =
    let placed : List PlacedToken = c.args.placed.now in
    let held : RefusesMoves (move_texts (all_placed placed)) c.in_err-push_token.field-0.0 =
    refuses-there placed c.loop-i.i _ c.loop-i.replay.moves.items c.in_err-push_token.field-0.0 c.loop-i-test.true
    (record { mean = c.loop-i.invariant.mean; played = c.loop-i.invariant.stands.follows.played })
    c.in_err-push_token.ensures.fault in
    search rules

pub loop-i-preserved : goal.loop-i-preserved
loop-i-preserved c =
    let placed : List PlacedToken = c.args.placed.now in
    let k : ℕ = c.loop-i.i in
    record {
      stands = c.in_ok-push_token.ensures.stands;
      mean =
          subst (λ texts. MeanAll opening texts c.push_token.new.replay.moves.items)
          (sym (texts-there placed k _ c.loop-i-test.true))
          (c.in_ok-push_token.ensures.grown (move_texts (all_placed (take k placed))) c.loop-i.invariant.mean);
    }

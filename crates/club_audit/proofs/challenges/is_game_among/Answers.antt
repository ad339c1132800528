use Rattle.std.proofs.Common.{sym, true≢false, ◌∙◌, length, refl, arith}
use Rattle.std.proofs.lemmas.Option.{slice_get_read}
use Rattle.club_audit.proofs.ChallengeLemmas.{IsOther, none-among}
use Rattle.club_audit.proofs.PlacedLemmas.{below-read, below-all}
use Rattle.club_audit.proofs.challenges.is_game_among.Goals as goal

pub returns-then-is_game_of-clause-sound : goal.returns-then-is_game_of-clause-sound
returns-then-is_game_of-clause-sound c = λ _.
    let rows = c.args.games.now in
    let is = c.is_game_of.ensures.sound c.if-is_game_of.true in
    record {
      place = c.loop-row.row-index;
      row = c.row-item.result;
      at = slice_get_read rows (length rows) c.loop-row.row-index _ refl c.loop-row-test.true c.row-item.is;
      id_is = is.0;
      of = is.1;
    }

pub loop-row-preserved : goal.loop-row-preserved
loop-row-preserved c = below-read _ _ _ _ c.loop-row-test.true c.row-item.is c.loop-row.invariant
    (λ id of. true≢false (sym (c.is_game_of.ensures.complete id of) ∙ c.if-is_game_of.false))

pub returns-clause-complete : goal.returns-clause-complete
returns-clause-complete c = λ among.
    absurd
    (none-among c.args.games.now c.args.id c.args.pairing
    (below-all (λ k r. IsOther c.args.id c.args.pairing r) c.loop-row.row-index c.args.games.now
    (omega (arith, c.loop-row-test.false)) c.loop-row.invariant) among)

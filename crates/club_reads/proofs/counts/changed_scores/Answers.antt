use Rattle.std.proofs.Common.{true, ◌≡◌, refl, subst₂, arith, rules}
use Rattle.std.specs.Option.{option_map}
use Rattle.sqlite.specs.Held.{state}
use Rattle.sqlite.specs.State.{HasCleanDisk}
use Rattle.store_tables.proofs.Proved.{read_then, still_rows}
use Rattle.club_rows.specs.internal.NextScores.{AreChanged}
use Rattle.club_reads.proofs.counts.changed_scores.Goals as goal

pub returns-in-Some-clause-changes : goal.returns-in-Some-clause-changes
returns-in-Some-clause-changes g c clean content k apart =
    let row = c.args.row.now in
    let looked : HasCleanDisk (state g.S.Store c.score_of.new.conn) = omega (arith, c.score_of-2.ensures.reads.clean) in
    let firsts : option_map (λ r. r.now) c.as_ref.result ≡ c.in_ok-firsts.firsts = search rules in
    let seconds : option_map (λ r. r.now) c.as_ref-2.result ≡ c.in_ok-seconds.seconds = search rules in
    record {
      firsts = c.in_ok-firsts.firsts;
      seconds = c.in_ok-seconds.seconds;
      pair = c.in-Some.pair;
      firsts_are = c.in_ok-firsts.ensures.found looked content k;
      seconds_are = c.in_ok-seconds.ensures.found clean content
          (still_rows _ _ (c.in_ok-firsts.ensures.reads.kept refl looked) content k);
      changed = subst₂
          (λ one other. AreChanged row.event row.first row.second c.args.old row.result one other c.in-Some.pair)
          firsts seconds (c.in-Some.ensures.some apart);
      rows_are = refl;
    }

pub returns-in-Some-clause-reads : goal.returns-in-Some-clause-reads
returns-in-Some-clause-reads g c =
    read_then true _ _ _ c.in_ok-firsts.ensures.reads c.in_ok-seconds.ensures.reads

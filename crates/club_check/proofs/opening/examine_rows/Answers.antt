use Rattle.store_tables.proofs.Proved.{clean_before, reads_on}
use Rattle.std.proofs.Common.{None, Some, ap, arith, inl, inr, subst, sym, ◌∙◌}
use Rattle.std.proofs.lemmas.Int.{ints}
use Rattle.std.proofs.lemmas.Option.{IfSome_then}
use Rattle.sqlite.specs.Held.{state}
use Rattle.club_check.specs.internal.Examined.{IsPlayExamined}
use Rattle.club_check.proofs.ExaminedLemmas.{blamed_before, moment_told, moment_of, play_later, played_after}
use Rattle.club_check.proofs.ExaminedLemmas.{club_counted, scores_after, some_after}
use Rattle.store_tables.specs.declared.names.Table.TheVariants.{Games, Moves, Rulings}
use Rattle.club_check.proofs.StoredLemmas.{club_of_version}
use Rattle.club_check.specs.internal.RightTables.{IsWrongOfPlay, NamesScores}
use Rattle.club_check.proofs.PlayedLemmas.{are_played, are_scored, are_seated, before_last, meta_played, none_played}
use Rattle.club_check.proofs.ClubLemmas.{before, still}
use Rattle.club_check.proofs.FirstWrong.{damaged_same}
use Rattle.club_check.proofs.opening.examine_rows.Goals as goal

pub examine_play-requires-clause-last : goal.examine_play-requires-clause-last
examine_play-requires-clause-last g c =
    moment_told c.args.rows.now.meta.last c.to_moment-last.result
    (IfSome_then c.to_moment-last.result c.to_moment-last.ensures.some (λ m is. omega (arith, ints, is)))
    c.to_moment-last.ensures.range
    (λ none n low is. c.to_moment-last.ensures.none none n low (omega (arith, ints, is)))

pub returns-in-None-wrong-clause-found : goal.returns-in-None-wrong-clause-found
returns-in-None-wrong-clause-found g c clean version has =
    let s1 = state g.S.Store c.args.conn.now in
    let s2 = state g.S.Store c.examine_play.new.conn in
    let s3 = state g.S.Store c.examine_scores.new.conn in
    let clean2 = clean_before c.examine_scores.ensures.reads clean in
    let rows = c.args.rows.now in
    let none = c.in-None-wrong.is in
    let play = subst (λ wrong. IsPlayExamined rows c.to_moment-last.result wrong version s1 s2) none
    (c.in-Ok-examine_play.ensures.found clean2 version has) in
    let free = c.in-Ok-examine_play.ensures.known none in
    let scores = c.in-Ok-examine_scores.ensures.found clean (still play.same (club_counted has)) in
    let (n, moment, within, closed) = c.in-Ok.ensures.moment free in
    let told = moment_told rows.meta.last c.to_moment-last.result
    (IfSome_then c.to_moment-last.result c.to_moment-last.ensures.some (λ m is. omega (arith, ints, is)))
    c.to_moment-last.ensures.range
    (λ none n low is. c.to_moment-last.ensures.none none n low (omega (arith, ints, is))) in
    let is_last = moment_of rows.meta.last c.to_moment-last.result told n moment within in
    record {
      moment = n;
      last = (moment, within);
      closed_by = closed;
      challenges = c.in-Ok.ensures.challenges;
      games = c.in-Ok.ensures.apart (played_after Games (omega arith) _ (none_played _ free));
      play = play_later rows _ version s1 s2 s3 (subst (λ l. IsPlayExamined rows l None version s1 s2) is_last play)
          scores.read.same;
      scores = scores_after rows s1 s2 s3 play.same scores;
    }

pub returns-in-Err-clause-reason_is_right : goal.returns-in-Err-clause-reason_is_right
returns-in-Err-clause-reason_is_right g c clean version has = elim c.in-Err.ensures.fault [
  | inl memory ↦ inl (inr (inl memory))
  | inr (t, named, none) ↦ inr (
    t,
    named,
    λ s club register holds.
        none s (club_of_version version s club) register,
  )
]

pub returns-in-Some-clause-reason_is_right : goal.returns-in-Some-clause-reason_is_right
returns-in-Some-clause-reason_is_right g c clean version has =
    let play = c.in-Ok-examine_play.ensures.found clean version has in
    inr (play.games.blamed c.in-Some.table (c.before_scores.ensures.some c.in-Some.table c.in-Some.is))

pub returns-in-Err-examine_scores-clause-reason_is_right : goal.returns-in-Err-examine_scores-clause-reason_is_right
returns-in-Err-examine_scores-clause-reason_is_right g c clean version has =
    let clean2 = clean_before c.examine_scores.ensures.reads clean in
    let play = c.in-Ok-examine_play.ensures.found clean2 version has in
    blamed_before c.args.rows.now version c.in-Err-examine_scores.fault play.same
    (c.in-Err-examine_scores.ensures.reason_is_right clean version (still play.same (club_counted has)))

pub returns-in-Some-wrong-clause-reason_is_right : goal.returns-in-Some-wrong-clause-reason_is_right
returns-in-Some-wrong-clause-reason_is_right g c clean version has =
    let clean2 = clean_before c.examine_scores.ensures.reads clean in
    let play = c.in-Ok-examine_play.ensures.found clean2 version has in
    inr (play.games.blamed c.in-Some-wrong.table c.in-Some-wrong.is)

pub returns-in-Some-clause-examined : goal.returns-in-Some-clause-examined
returns-in-Some-clause-examined g c clean version has s people ids t is =
    let table = c.in-Some.table in
    let named = c.before_scores.ensures.some table c.in-Some.is in
    let play = before_last c.in-Ok-examine_play.wrong c.before_scores.result table named c.in-Some.is
    c.before_scores.ensures.meta
    (c.in-Ok-examine_play.ensures.later s people c.in-Ok.ensures.later table named) in
    let found = c.in-Ok-examine_play.ensures.found clean version has in
    let wrong = c.in-Ok-examine_play.wrong in
    inr (
      c.in-Ok.ensures.challenges,
      inl (subst (IsWrongOfPlay c.args.rows.now version _) (damaged_same table t is) (record {
        play = play;
        moves = λ here. found.games.moves_wrong (named ∙ ap Some here) ids s people;
        rulings = λ here. found.games.rulings_wrong (named ∙ ap Some here) ids s people;
        games = λ here. found.games.games_wrong (named ∙ ap Some here);
        seen = λ here. found.games.seen_wrong (named ∙ ap Some here) ids;
        before = inr (record {
          moves = λ low. found.games.moves_right (some_after Moves wrong table named low) ids s people;
          rulings = λ low. found.games.rulings_right (some_after Rulings wrong table named low) ids s people;
          games = λ low.
              let after = some_after Games wrong table named low in
              are_seated found after ids s people
              (c.in-Ok.ensures.apart (c.in-Ok-examine_play.ensures.known_after Games after));
        });
      })),
    )

pub returns-in-Err-examine_scores-clause-examined : goal.returns-in-Err-examine_scores-clause-examined
returns-in-Err-examine_scores-clause-examined g c clean version has s people ids t is =
    let clean2 = clean_before c.examine_scores.ensures.reads clean in
    let play = c.in-Ok-examine_play.ensures.found clean2 version has in
    let free = meta_played c.in-Ok-examine_play.wrong (c.before_scores.ensures.none c.in-None.is) in
    let apart = c.in-Ok.ensures.apart
    (c.in-Ok-examine_play.ensures.known_after Games (played_after Games (omega arith) _ free)) in
    let (named, none) = before (λ d. NamesScores c.args.rows.now d c.in-Err-examine_scores.fault) play.same
    (c.in-Err-examine_scores.ensures.scores clean (still play.same (club_counted has))) t is in
    inr (c.in-Ok.ensures.challenges, inr (inl (named, are_played play free ids s people apart, none)))

pub returns-in-Some-wrong-clause-examined : goal.returns-in-Some-wrong-clause-examined
returns-in-Some-wrong-clause-examined g c clean version has s people ids t is =
    let clean2 = clean_before c.examine_scores.ensures.reads clean in
    let play = c.in-Ok-examine_play.ensures.found clean2 version has in
    let free = meta_played c.in-Ok-examine_play.wrong (c.before_scores.ensures.none c.in-None.is) in
    let apart = c.in-Ok.ensures.apart
    (c.in-Ok-examine_play.ensures.known_after Games (played_after Games (omega arith) _ free)) in
    let scored = c.in-Ok-examine_scores.ensures.found clean (still play.same (club_counted has)) in
    let table = c.in-Some-wrong.table in
    let last = free table c.in-Some-wrong.is in
    inr (
      c.in-Ok.ensures.challenges,
      inr (inr (
        sym (damaged_same table t is) ∙ last,
        are_played play free ids s people apart,
        are_scored play.same scored,
      )),
    )

pub returns-in-None-wrong-clause-reads : goal.returns-in-None-wrong-clause-reads
returns-in-None-wrong-clause-reads g c =
    reads_on c.in-Ok-examine_play.ensures.reads c.in-Ok-examine_scores.ensures.reads

pub returns-in-Err-clause-examined : goal.returns-in-Err-clause-examined
returns-in-Err-clause-examined g c clean version has s people ids t is = inl (c.in-Err.ensures.challenged s people t is)

pub returns-in-Err-examine_play-clause-examined : goal.returns-in-Err-examine_play-clause-examined
returns-in-Err-examine_play-clause-examined g c clean version has s people ids t is =
    inr (c.in-Ok.ensures.challenges, inl (c.in-Err-examine_play.ensures.later_fault clean version has t is))

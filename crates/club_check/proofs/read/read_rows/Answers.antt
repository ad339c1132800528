use Rattle.store_tables.proofs.Proved.{clean_before, ids_of, reads_on}
use Rattle.std.proofs.Common.{arith, inl, inr, map, refl}
use Rattle.sqlite.specs.Held.{state}
use Rattle.store_tables.specs.Cells.{IsChallenge, event_cells}
use Rattle.store_tables.specs.Placed.{club_trees}
use Rattle.store_tables.specs.Tables.{challenges, events, games, members}
use Rattle.store_tables.specs.declared.names.Table.TheVariants.{Challenges, Closings}
use Rattle.store_tables.specs.declared.rows.Rows.{Rows}
use Rattle.store_tables.specs.internal.Cells.{member_cells}
use Rattle.store_tables.specs.internal.Rows.{HaveIds}
use Rattle.club_audit.specs.internal.Audit.{HasPeople}
use Rattle.club_check.specs.internal.KnownGames.{NamesUntyped}
use Rattle.club_check.specs.RightTables.{NamesFirstDamaged}
use Rattle.club_check.specs.internal.RightTables.{IsUnheld, NamesWrong}
use Rattle.club_rows.specs.FirstSchema.{tables_at}
use Rattle.club_check.proofs.ArbiterLemmas.{closings_before, keys_before, rulings_after, rulings_before}
use Rattle.club_check.proofs.ArbiterLemmas.{rulings_unchanged}
use Rattle.club_check.proofs.ExaminedLemmas.{ruling_count, still_counted}
use Rattle.club_check.specs.internal.RightMoves.{HoldsOnlyOf}
use Rattle.club_check.proofs.JudgedPlay.{JudgesPlay, judged_play}
use Rattle.club_check.proofs.KnownLemmas.{judged_ids, judged_in, judged_known, first_untyped, known_before}
use Rattle.club_check.proofs.KnownLemmas.{untyped_blamed}
use Rattle.club_check.proofs.PeopleLemmas.{has_people, people_right}
use Rattle.club_check.proofs.StoredLemmas.{stands}
use Rattle.club_check.proofs.FirstWrong.{after_people, challenge_types_wrong, held_same}
use Rattle.club_check.proofs.ClubLemmas.{before, meta_before, names_both, read_after, read_before, rows_blamed_before}
use Rattle.club_check.proofs.ClubLemmas.{rules_before, stays, still, still_of, unnamed}
use Rattle.club_check.proofs.ToldLemmas.{holds_in, still_in}
use Rattle.club_check.proofs.read.read_rows.Goals as goal

-- ---- what was read

pub returns-clause-reads : goal.returns-clause-reads
returns-clause-reads g c =
    reads_on c.in-Ok.ensures.reads
    (reads_on c.in-Ok-count_rulings.ensures.reads
    (reads_on c.in-Ok-read.ensures.reads c.in-Ok-read_games.ensures.reads))

pub returns-clause-rows : goal.returns-clause-rows
returns-clause-rows g c clean has =
    let version = c.in-Ok.people.version in
    let s0 = state g.S.Store c.args.conn.now in
    let clean2 = clean_before c.read_games.ensures.reads clean in
    let clean1 = clean_before c.read.ensures.reads clean2 in
    let clean0 = clean_before c.count_rulings.ensures.reads clean1 in
    let people = c.in-Ok.ensures.rows clean0 has in
    let one = holds_in version c.in-Ok.people.meta s0 _ people.meta people.schema c.in-Ok.ensures.shape in
    let counted = c.in-Ok-count_rulings.ensures.counted clean1 (still_of version people.same people.schema) people.same.0.is_open in
    let same1 = stays people.same (rulings_unchanged version _ counted) in
    let are_challenges = c.in-Ok-read.ensures.rows clean2 (stands Challenges tt (still same1 has.club)) in
    let same2 = stays same1 are_challenges.same in
    let are_games = c.in-Ok-read_games.ensures.rows clean c.if-not-are_typed.false (still same2 has.club) in
    let after1 = stays are_challenges.same are_games.same in
    let after0 = stays (rulings_unchanged version _ counted) after1 in (
      people.schema,
      record {
        meta = meta_before version c.in-Ok.people.meta people.meta after0;
        members = read_before people.members after0;
        events = read_before people.events after0;
        keys = keys_before version _ _ people.keys after0;
        rules = rules_before version _ _ _ people.rules after0;
        closings = closings_before version _ _ people.closings after0;
        challenges = read_after same1 (read_before are_challenges are_games.same);
        games = read_after same2 are_games;
        same = stays people.same after0;
      },
    )

pub returns-clause-stand : goal.returns-clause-stand
returns-clause-stand g c clean =
    let clean2 = clean_before c.read_games.ensures.reads clean in
    let clean1 = clean_before c.read.ensures.reads clean2 in
    c.in-Ok.ensures.stand (clean_before c.count_rulings.ensures.reads clean1)

pub returns-clause-rulings : goal.returns-clause-rulings
returns-clause-rulings g c clean has =
    let version = c.in-Ok.people.version in
    let s0 = state g.S.Store c.args.conn.now in
    let clean2 = clean_before c.read_games.ensures.reads clean in
    let clean1 = clean_before c.read.ensures.reads clean2 in
    let clean0 = clean_before c.count_rulings.ensures.reads clean1 in
    let people = c.in-Ok.ensures.rows clean0 has in
    let one = holds_in version c.in-Ok.people.meta s0 _ people.meta people.schema c.in-Ok.ensures.shape in
    let counted = c.in-Ok-count_rulings.ensures.counted clean1 (still_of version people.same people.schema) people.same.0.is_open in
    let same1 = stays people.same (rulings_unchanged version _ counted) in
    let are_challenges = c.in-Ok-read.ensures.rows clean2 (stands Challenges tt (still same1 has.club)) in
    let same2 = stays same1 are_challenges.same in
    let are_games = c.in-Ok-read_games.ensures.rows clean c.if-not-are_typed.false (still same2 has.club) in
    rulings_after version _ _ people.same (rulings_before version _ _ counted (stays are_challenges.same are_games.same))

-- ---- faults

pub returns-in-Err-count_rulings-clause-reason_is_right : goal.returns-in-Err-count_rulings-clause-reason_is_right
returns-in-Err-count_rulings-clause-reason_is_right g c clean has =
    let version = c.in-Ok.people.version in
    let s0 = state g.S.Store c.args.conn.now in
    let clean0 = clean_before c.count_rulings.ensures.reads clean in
    let people = c.in-Ok.ensures.rows clean0 has in
    let one = holds_in version c.in-Ok.people.meta s0 _ people.meta people.schema c.in-Ok.ensures.shape in
    elim (c.in-Err-count_rulings.ensures.torn clean (still_of version people.same people.schema)
    (still_in version people.same one)) [
      | inl store ↦ inl (inl store)
      | inr (inl memory) ↦ inl (inr (inl memory))
      | inr (inr (named, unheld)) ↦ inr (inr (inr (
        _,
        named,
        λ v s own holds. before (λ d. IsUnheld d) people.same unheld v (tables_at v s) holds tt,
      )))
    ]

pub returns-in-Err-count_rulings-clause-first : goal.returns-in-Err-count_rulings-clause-first
returns-in-Err-count_rulings-clause-first g c clean has t is v content holds =
    let version = c.in-Ok.people.version in
    let s0 = state g.S.Store c.args.conn.now in
    let clean0 = clean_before c.count_rulings.ensures.reads clean in
    let people = c.in-Ok.ensures.rows clean0 has in
    let one = holds_in version c.in-Ok.people.meta s0 _ people.meta people.schema c.in-Ok.ensures.shape in
    elim (c.in-Err-count_rulings.ensures.torn clean (still_of version people.same people.schema)
    (still_in version people.same one)) [
      | inl store ↦ absurd (unnamed _ (inl store) t is)
      | inr (inl memory) ↦ absurd (unnamed _ (inr memory) t is)
      | inr (inr (named, unheld)) ↦ absurd (before (λ d. IsUnheld d) people.same unheld v content holds tt)
    ]

pub returns-in-Err-read-clause-reason_is_right : goal.returns-in-Err-read-clause-reason_is_right
returns-in-Err-read-clause-reason_is_right g c clean has =
    let version = c.in-Ok.people.version in
    let s0 = state g.S.Store c.args.conn.now in
    let clean1 = clean_before c.read.ensures.reads clean in
    let clean0 = clean_before c.count_rulings.ensures.reads clean1 in
    let people = c.in-Ok.ensures.rows clean0 has in
    let one = holds_in version c.in-Ok.people.meta s0 _ people.meta people.schema c.in-Ok.ensures.shape in
    let counted = c.in-Ok-count_rulings.ensures.counted clean1 (still_of version people.same people.schema) people.same.0.is_open in
    let same1 = stays people.same (rulings_unchanged version _ counted) in
    rows_blamed_before c.args.oldest c.in-Err-read.fault same1
    (inl (names_both Challenges (challenges 6) 3 IsChallenge (state g.S.Store c.count_rulings.new.conn) _ refl refl
    (λ content all. all)
    (c.in-Err-read.ensures.reason_is_right clean (stands Challenges tt (still same1 has.club)))))

pub returns-in-Err-read-clause-first : goal.returns-in-Err-read-clause-first
returns-in-Err-read-clause-first g c clean has =
    let version = c.in-Ok.people.version in
    let s0 = state g.S.Store c.args.conn.now in
    let clean1 = clean_before c.read.ensures.reads clean in
    let clean0 = clean_before c.count_rulings.ensures.reads clean1 in
    let people = c.in-Ok.ensures.rows clean0 has in
    let one = holds_in version c.in-Ok.people.meta s0 _ people.meta people.schema c.in-Ok.ensures.shape in
    let counted = c.in-Ok-count_rulings.ensures.counted clean1 (still_of version people.same people.schema) people.same.0.is_open in
    let same1 = stays people.same (rulings_unchanged version _ counted) in
    let (es, are_es) = c.in-Ok.ensures.events in
    let e = c.in-Err-read.fault in
    let wrong = challenge_types_wrong (state g.S.Store c.count_rulings.new.conn) e
    (c.in-Err-read.ensures.reason_is_right clean (stands Challenges tt (still same1 has.club))) in
    after_people Closings Challenges (omega arith) refl _ e
    (before (λ d. NamesWrong Challenges d e) same1 wrong)
    (people_right version s0 one _ people.members.keeps _ _ people.keys c.in-Ok.ensures.keys _ people.events.keeps es are_es
    _ _ people.rules c.in-Ok.ensures.rules _ _ people.closings c.in-Ok.ensures.closings)

pub returns-in-Err-read_games-clause-reason_is_right : goal.returns-in-Err-read_games-clause-reason_is_right
returns-in-Err-read_games-clause-reason_is_right g c clean has =
    let version = c.in-Ok.people.version in
    let s0 = state g.S.Store c.args.conn.now in
    let clean2 = clean_before c.read_games.ensures.reads clean in
    let clean1 = clean_before c.read.ensures.reads clean2 in
    let clean0 = clean_before c.count_rulings.ensures.reads clean1 in
    let people = c.in-Ok.ensures.rows clean0 has in
    let one = holds_in version c.in-Ok.people.meta s0 _ people.meta people.schema c.in-Ok.ensures.shape in
    let counted = c.in-Ok-count_rulings.ensures.counted clean1 (still_of version people.same people.schema) people.same.0.is_open in
    let same1 = stays people.same (rulings_unchanged version _ counted) in
    let are_challenges = c.in-Ok-read.ensures.rows clean2 (stands Challenges tt (still same1 has.club)) in
    let same2 = stays same1 are_challenges.same in
    rows_blamed_before c.args.oldest c.in-Err-read_games.fault same2
    (inl (c.in-Err-read_games.ensures.reason_is_right clean (still same2 has.club)))

pub returns-in-Err-read_games-clause-first : goal.returns-in-Err-read_games-clause-first
returns-in-Err-read_games-clause-first g c clean has =
    let version = c.in-Ok.people.version in
    let s0 = state g.S.Store c.args.conn.now in
    let clean2 = clean_before c.read_games.ensures.reads clean in
    let clean1 = clean_before c.read.ensures.reads clean2 in
    let clean0 = clean_before c.count_rulings.ensures.reads clean1 in
    let people = c.in-Ok.ensures.rows clean0 has in
    let one = holds_in version c.in-Ok.people.meta s0 _ people.meta people.schema c.in-Ok.ensures.shape in
    let counted = c.in-Ok-count_rulings.ensures.counted clean1 (still_of version people.same people.schema) people.same.0.is_open in
    let same1 = stays people.same (rulings_unchanged version _ counted) in
    let are_challenges = c.in-Ok-read.ensures.rows clean2 (stands Challenges tt (still same1 has.club)) in
    let same2 = stays same1 are_challenges.same in
    before (λ d. NamesFirstDamaged d c.in-Err-read_games.fault) same2 (λ t is version content holds.
    absurd (c.in-Err-read_games.ensures.torn clean t is (still same2 has.club) version content holds tt))

-- ---- games that have values of other types

pub returns-then-not-are_typed-clause-reads : goal.returns-then-not-are_typed-clause-reads
returns-then-not-are_typed-clause-reads g c =
    reads_on c.in-Ok.ensures.reads
    (reads_on c.in-Ok-count_rulings.ensures.reads
    (reads_on c.in-Ok-read.ensures.reads
    (reads_on c.in-Ok-read_games.ensures.reads c.name_untyped.ensures.reads)))

pub returns-then-not-are_typed-clause-reason_is_right : goal.returns-then-not-are_typed-clause-reason_is_right
returns-then-not-are_typed-clause-reason_is_right g c clean has =
    let version = c.in-Ok.people.version in
    let s0 = state g.S.Store c.args.conn.now in
    let clean3 = clean_before c.name_untyped.ensures.reads clean in
    let clean2 = clean_before c.read_games.ensures.reads clean3 in
    let clean1 = clean_before c.read.ensures.reads clean2 in
    let clean0 = clean_before c.count_rulings.ensures.reads clean1 in
    let people = c.in-Ok.ensures.rows clean0 has in
    let one = holds_in version c.in-Ok.people.meta s0 _ people.meta people.schema c.in-Ok.ensures.shape in
    let counted = c.in-Ok-count_rulings.ensures.counted clean1 (still_of version people.same people.schema) people.same.0.is_open in
    let same1 = stays people.same (rulings_unchanged version _ counted) in
    let are_challenges = c.in-Ok-read.ensures.rows clean2 (stands Challenges tt (still same1 has.club)) in
    let same2 = stays same1 are_challenges.same in
    let known = known_before same2 (c.in-Ok-read_games.ensures.known clean3 c.if-not-are_typed.true (still same2 has.club))
    in
    let count = ruling_count version c.in-Ok-count_rulings.rulings s0 _ people.schema
    (rulings_after version _ _ people.same counted) in
    untyped_blamed c.args.oldest s0.now _ known.untyped
    (c.name_untyped.ensures.faults clean version
    (still_counted version c.in-Ok-count_rulings.rulings known.same count))

pub returns-then-not-are_typed-clause-first : goal.returns-then-not-are_typed-clause-first
returns-then-not-are_typed-clause-first g c clean has =
    let version = c.in-Ok.people.version in
    let s0 = state g.S.Store c.args.conn.now in
    let clean3 = clean_before c.name_untyped.ensures.reads clean in
    let clean2 = clean_before c.read_games.ensures.reads clean3 in
    let clean1 = clean_before c.read.ensures.reads clean2 in
    let clean0 = clean_before c.count_rulings.ensures.reads clean1 in
    let people = c.in-Ok.ensures.rows clean0 has in
    let one = holds_in version c.in-Ok.people.meta s0 _ people.meta people.schema c.in-Ok.ensures.shape in
    let counted = c.in-Ok-count_rulings.ensures.counted clean1 (still_of version people.same people.schema) people.same.0.is_open in
    let same1 = stays people.same (rulings_unchanged version _ counted) in
    let are_challenges = c.in-Ok-read.ensures.rows clean2 (stands Challenges tt (still same1 has.club)) in
    let same2 = stays same1 are_challenges.same in
    let known = known_before same2 (c.in-Ok-read_games.ensures.known clean3 c.if-not-are_typed.true (still same2 has.club))
    in
    let s2 = state g.S.Store c.read.new.conn in
    let rows : Rows = record {
      meta = c.in-Ok.people.meta;
      members = c.in-Ok.people.members;
      keys = c.in-Ok.people.keys;
      events = c.in-Ok.people.events;
      event_rules = c.in-Ok.people.event_rules;
      closings = c.in-Ok.people.closings;
      challenges = c.in-Ok-read.challenges;
      games = c.in-Ok-read_games.found.games;
    } in
    let judged : Rows = record rows { games = c.in-Ok-read_games.found.judged } in
    let (es, are_es) = c.in-Ok.ensures.events in
    let (s, all) = has_people rows c.in-Ok.ensures.keys es are_es c.in-Ok.ensures.rules c.in-Ok.ensures.closings in
    let there : HasPeople s judged =
    record { members = all.people.members; events = all.people.events; rules = all.people.rules } in
    let right = people_right version s0 one _ people.members.keeps _ _ people.keys c.in-Ok.ensures.keys _
    people.events.keeps es are_es _ _ people.rules c.in-Ok.ensures.rules _ _ people.closings c.in-Ok.ensures.closings in
    let after1 = stays (rulings_unchanged version _ counted) are_challenges.same in
    let rules_read = rules_before version _ _ _ people.rules after1 in
    let ids : HaveIds judged = record {
      members = ids_of (members 1) (club_trees s0.now 1) (map member_cells rows.members.items) (λ r. refl)
          people.members.once people.members.apart;
      events = ids_of (events 4) (club_trees s0.now 4) (map event_cells rows.events.items) (λ r. refl)
          people.events.once people.events.apart;
      games = judged_ids known.shown judged.games.items known.ids known.judged;
    } in
    let judges = judged_known rows s0 s2 s all.people people.members.keeps people.events.keeps
    (read_after same1 are_challenges) known.shown known.keeps known.seats in
    let play : HoldsOnlyOf version s0.now (λ content. JudgesPlay version content judged s0.now) =
    λ content holds. judged_play judged version s0 s2 people.events.keeps rules_read s there content holds
    (judged_in (content 10) known.shown judged.games.items
    (held_same (games 10) 5 refl refl holds known.keeps) known.ids known.judged) in
    let own = rulings_after version _ _ people.same counted in
    let count = ruling_count version c.in-Ok-count_rulings.rulings s0 _ people.schema own in
    let names = before (λ d. NamesUntyped rows judged version d c.name_untyped.result) known.same
    (c.name_untyped.ensures.first_damaged clean version
    (still_counted version c.in-Ok-count_rulings.rulings known.same count) s all.people ids) in
    first_untyped rows judged version s0.now c.name_untyped.result one known.untyped right judges play names

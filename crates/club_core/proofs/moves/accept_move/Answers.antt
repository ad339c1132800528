use Rattle.std.proofs.Common.{◌≡◌, ◌+◌, Some, None, Ok, string_bytes, length, sym, ap, ◌∙◌, refl, length-append}
use Rattle.std.specs.Prelude.{slice_get}
use Rattle.std.specs.Option.{option_map}
use Rattle.club_rules.specs.Line.{IsPlayedLine}
use Rattle.club_core.specs.declared.rows.GameEnd.TheVariants.{Rule}
use Rattle.club_core.specs.Game.{moves_of, clocks_of, clocks_then, left_of, last_position, turn_of, end_of, rule_end}
use Rattle.club_core.specs.Game.{score_with, spend}
use Rattle.club_core.specs.Step.{played}
use Rattle.club_core.specs.View.{IsSound, clocks_in, terms_of, track_of_game}
use Rattle.club_core.specs.internal.View.{IsMade, CanPlay}
use Rattle.club_core.proofs.GrantLemmas.{AreUpTo}
use Rattle.club_core.proofs.Played.{last-played, rule_end-played, end-played, made-played, clocks-played, reply-played}
use Rattle.club_core.proofs.Played.{moved-same, clocks_of-played, no-rule-end}
use Rattle.club_core.proofs.Tracked.{line-played, next-track, moves-count, rule_in-Rule, tracked-end}
use Rattle.club_core.proofs.moves.accept_move.Goals as goal

pub track_next-track-requires-clause-first : goal.track_next-track-requires-clause-first
track_next-track-requires-clause-first g c =
    let sound : IsSound g.R.Rules.rules c.args.view.now = assumption c in
    sound.track.first

pub track_next-track-requires-clause-second : goal.track_next-track-requires-clause-second
track_next-track-requires-clause-second g c =
    let sound : IsSound g.R.Rules.rules c.args.view.now = assumption c in
    sound.track.second

pub returns : goal.returns
returns g c = λ game shows legal.
    let can : CanPlay g.R.Rules.rules c.args.view.now c.args.turn c.args.made c.args.left c.args.moment =
    assumption c in
    let laws = g.R.Rules.rules in
    let passes = g.met.R.Rules.turn_passes in
    let starts = g.met.R.Rules.first_starts in
    let m = c.args.made in
    let moment = c.args.moment in
    let terms = terms_of c.args.view.now in
    let others = c.in_ok-row.ensures.others in
    let row = c.in_ok-row.row in
    let to_move : c.args.turn ≡ turn_of laws game = can.to_move ∙ ap laws.turn shows.position in
    let new = played game m moment in
    let running : end_of laws game ≡ None = sym shows.row.end ∙ can.running in
    let ok : laws.check (last_position laws game) m ≡ Ok tt = rw shows.position at can.legal in
    let position : c.play-position.result ≡ last_position laws new =
    c.play-position.ensures ∙ (ap (λ p. laws.play p m) shows.position ∙ sym (last-played laws game m moment)) in
    let line : IsPlayedLine laws laws.start (moves_of new) =
    line-played laws game m moment legal.line (no-rule-end (rule_end laws game) _ game.outside running) ok in
    let track : c.track_next-track.result ≡ track_of_game laws new =
    c.track_next-track.ensures ∙ next-track laws game m moment _ _ _ shows.track shows.position position in
    let numbers : row.track ≡ laws.track_numbers (track_of_game laws new) =
    ap (λ r. r.track) others ∙ (c.track_numbers-numbers.ensures ∙ ap laws.track_numbers track) in
    let up_to : AreUpTo game.rulings (length game.entries) = λ n r at. (legal.rulings.each n r at).plies in
    let spent : clocks_in row ≡ clocks_then new terms =
    c.in_ok-row.ensures.clocks c.args.view.now.increment can.left
    ∙ (ap (λ side. spend c.args.view.now.increment side moment (clocks_in c.args.view.now.row)) to_move
    ∙ (ap (spend c.args.view.now.increment (turn_of laws game) moment) shows.row.clocks
    ∙ sym (clocks-played laws passes starts game legal.line.legal m moment terms))) in
    let clocks : clocks_in row ≡ clocks_of new terms = spent ∙ sym (clocks_of-played game m moment up_to terms) in
    let plies : row.plies ≡ length game.entries + 1 =
    ap (λ r. r.plies) others ∙ ap (λ n. n + 1) shows.row.plies in
    let text : string_bytes c.in_ok-text.text ≡ laws.write_move (last_position laws game) m = c.in_ok-text.ensures
    ∙ ap (λ p. laws.write_move p m) shows.position in
    let left : c.args.left ≡ left_of (turn_of laws game) (clocks_then new terms) =
    sym c.in_ok-row.ensures.left
    ∙ (ap (λ side. left_of side (clocks_in row)) to_move ∙ ap (left_of (turn_of laws game)) spent) in
    let written : string_bytes c.in_ok-written.written ≡ laws.write_position (last_position laws new) =
    c.in_ok-written.ensures ∙ ap laws.write_position position in
    let shown : string_bytes c.in_ok-shown.shown ≡ laws.write_position (last_position laws new) =
    c.in_ok-shown.ensures.cases ∙ written in
    let made : IsMade laws new (slice_get (moves_of new) (length game.entries))
    (Some (record { made = m; position = c.play-position.result })) =
    rw (made-played laws game m moment) (refl, position) in (
      made,
      λ times first stood.
          let judged : laws.track_end (laws.track_of row.track.0 row.track.1) c.play-position.result row.plies times
          first ≡ rule_end laws new =
          tracked-end laws g.met.R.Rules.tracks_tell_ends g.met.R.Rules.numbers_give_tracks (moves_of new) row.track
          c.play-position.result row.plies times first line stood.1 numbers position
          (plies ∙ sym (moves-count game m moment)) stood.0 in
          let end : option_map Rule
          (laws.track_end (laws.track_of row.track.0 row.track.1) c.play-position.result row.plies times first)
          ≡ end_of laws new =
          ap (option_map Rule) (judged ∙ rule_end-played laws game m moment)
          ∙ sym (end-played laws game m moment running) in (
            record {
              key = c.in_ok-row.ensures.key ∙ shows.row.key;
              event = ap (λ r. r.event) others ∙ shows.row.event;
              first = ap (λ r. r.first) others ∙ shows.row.first;
              second = ap (λ r. r.second) others ∙ shows.row.second;
              start = ap (λ r. r.start) others ∙ shows.row.start;
              clocks = clocks;
              track = numbers;
              plies = simp length-append plies;
              offer = ap (λ r. r.offer) others;
              outside = ap (λ r. r.outside) others ∙ shows.row.outside;
              end = end;
              result =
                  ap
                  (score_with laws
                  (option_map Rule
                  (laws.track_end (laws.track_of row.track.0 row.track.1) c.play-position.result row.plies times
                  first))) (ap laws.turn position) ∙ ap (λ e. score_with laws e (turn_of laws new)) end;
              position = ap (λ r. string_bytes r.position) others ∙ written;
            },
            made,
            moved-same _ _ plies text left shown (ap (option_map laws.end_name) (rule_in-Rule _ ∙ judged))
                ∙ sym (reply-played laws passes starts game legal.line.legal m moment terms),
          ),
    )

use Rattle.std.proofs.Common.{◌≤◌, ◌∙◌, [], Some, length, refl, sym, ap, subst, arith}
use Rattle.club_rules.specs.Line.{position_after, line_track}
use Rattle.club_rules.specs.internal.Records.{recorded_of}
use Rattle.club_core.specs.Game.{spend_all}
use Rattle.club_core.specs.Imports.{recorded_end}
use Rattle.club_requests.specs.Limits.{most_plies}
use Rattle.club_core.proofs.Proved.{are_rules}
use Rattle.club_laws.proofs.Proved.{within-limit}
use Rattle.squares.specs.declared.sides.Side.TheVariants.{First}
use Rattle.club_imports.specs.internal.OneMoment.{at_moment, clocks_with}
use Rattle.club_imports.proofs.RowLemmas.{row-plies, row-clocks, row-track, row-position, row-end, row-result}
use Rattle.club_imports.proofs.rows.imported_row.Goals as goal

pub line_state_after-line_state-requires-clause-few : goal.line_state_after-line_state-requires-clause-few
line_state_after-line_state-requires-clause-few g c =
    let met = g.met.R.Rules in
    let are = are_rules g.R.Rules.rules met.first_starts met.turn_passes met.same_is met.ends_at_limit in
    subst (λ ms. length ms ≤ most_plies) (sym c.as_slice-moves.ensures.value)
    (within-limit g.R.Rules.rules are c.args.new.now.recorded.moves.items c.requires.by_rules.line)

pub left_after-left-requires-clause-few : goal.left_after-left-requires-clause-few
left_after-left-requires-clause-few g c =
    let met = g.met.R.Rules in
    let are = are_rules g.R.Rules.rules met.first_starts met.turn_passes met.same_is met.ends_at_limit in
    subst (λ ms. length ms ≤ most_plies) (sym c.as_slice-moves.ensures.value)
    (within-limit g.R.Rules.rules are c.args.new.now.recorded.moves.items c.requires.by_rules.line)

pub overflow_cast-result : goal.overflow_cast-result
overflow_cast-result g c =
    let met = g.met.R.Rules in
    let are = are_rules g.R.Rules.rules met.first_starts met.turn_passes met.same_is met.ends_at_limit in
    let few : length c.as_slice-moves.result.now ≤ most_plies =
    subst (λ ms. length ms ≤ most_plies) (sym c.as_slice-moves.ensures.value)
    (within-limit g.R.Rules.rules are c.args.new.now.recorded.moves.items c.requires.by_rules.line) in
    omega (arith, few)

pub returns : goal.returns
returns g c = λ declares.
    let laws = g.R.Rules.rules in
    let r = recorded_of c.args.new.now.recorded in
    let key = Some c.args.key.now in
    let pairing = c.args.new.now.pairing in
    let value = c.as_slice-moves.ensures.value in
    let line_state = c.line_state_after-line_state.ensures in
    let position = line_state.position ∙ ap (position_after laws laws.start) value in
    let track = line_state.track ∙ ap (line_track laws laws.start) value in
    let end = c.in_ok-end.ensures ∙ (λ i. laws.judge (c.start-opening.ensures i) (value i)) in
    let left = c.left_after-left.ensures c.args.start
    ∙ ap
    (λ ms. spend_all c.args.increment [] 0 First (at_moment c.args.start (length ms))
    (clocks_with c.args.budget c.args.budget c.args.start)) value in
    record {
      key = ap Some c.in_ok-key.ensures.ok;
      event = refl;
      first = refl;
      second = refl;
      start = refl;
      plies = ap length value ∙ row-plies laws key pairing c.args.start r;
      clocks = row-clocks laws key pairing c.args.start r
          (record { budget = c.args.budget; increment = c.args.increment; declares = declares })
          c.left_after-left.result.first c.left_after-left.result.second left;
      track = c.track_numbers.ensures ∙ ap laws.track_numbers
          (row-track laws key pairing c.args.start r c.line_state_after-line_state.result.track track);
      offer = refl;
      outside = c.outside_of_record.ensures ∙ ap (λ e. recorded_end e r.score) end;
      end = c.end_of_record.ensures ∙ row-end laws key pairing c.args.start r c.in_ok-end.end end;
      result = row-result laws key pairing c.args.start r c.requires.by_rules;
      position = c.in_ok-position.ensures ∙ ap laws.write_position
          (row-position laws key pairing c.args.start r c.line_state_after-line_state.result.position position);
    }

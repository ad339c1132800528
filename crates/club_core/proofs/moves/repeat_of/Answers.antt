use Rattle.std.proofs.Common.{rules, ◌≡◌, Some, sym, ap, ◌∙◌, refl, string_bytes}
use Rattle.club_core.specs.Game.{rule_end, game_at}
use Rattle.club_core.specs.Step.{move_at, repeat_of, reply_of_move}
use Rattle.club_core.specs.View.{terms_of, IsAsked}
use Rattle.club_core.specs.internal.View.{rule_in}
use Rattle.club_core.proofs.Played.{repeat-shown, reply-asked, asked-ply, moved-same, end-last, end-before}
use Rattle.club_core.proofs.moves.repeat_of.Goals as goal
use Rattle.club_core.proofs.moves.repeat_of.Goals.{then-asked-view, else-asked-view}

pub returns : goal.returns
returns g c = λ game shows shows_ply legal.
    let laws = g.R.Rules.rules in
    let terms = terms_of c.args.view.now in
    let shown : IsAsked laws terms game c.args.ply (move_at game c.args.ply) (Some c.in-Some.asked) =
    rw c.in-Some.is at shows_ply in
    let same : c.in-Some.asked.ply ≡ c.args.ply = asked-ply laws terms game c.in-Some.asked c.args.ply shown in
    let end : c.if-asked-view.end ≡ rule_end laws (game_at game c.args.ply) =
    elim c.if-asked-view.branch [
      | then-asked-view w ↦ w.end-is
          ∙
          (w.rule_in-end.ensures
          ∙
          (ap rule_in shows.row.end ∙ end-last laws terms game legal c.in-Some.asked c.args.ply
          (sym same ∙ (w.if-asked-view.true ∙ shows.row.plies))))
      | else-asked-view w ↦ w.end-is ∙ end-before laws terms game legal c.in-Some.asked c.args.ply shown
          (λ e. w.if-asked-view.false (same ∙ (e ∙ sym shows.row.plies)))
    ] in
    let reads : repeat_of laws terms game c.args.ply (move_at game c.args.ply) c.args.side c.args.text.now
    ≡ Some (reply_of_move laws terms game c.args.ply c.in-Some.asked.made) =
    repeat-shown laws terms game c.in-Some.asked c.args.ply c.args.side c.args.text.now shown (search rules)
    (search rules) in
    let position : string_bytes c.in_ok-position.position ≡ laws.write_position
    (laws.play c.in-Some.asked.before c.in-Some.asked.made) = c.in_ok-position.ensures
    ∙ ap laws.write_position c.play-after.ensures in
    ap Some (moved-same _ _ refl c.in_ok-written.ensures refl position c.name_of_end.ensures)
    ∙ (ap Some (sym (reply-asked laws terms game c.in-Some.asked c.args.ply c.if-asked-view.end shown end)) ∙ sym reads)

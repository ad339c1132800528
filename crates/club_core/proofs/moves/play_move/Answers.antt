use Rattle.std.proofs.Common.{◌≡◌, None, Ok, sym, ap, ◌∙◌}
use Rattle.std.specs.Option.{option_map}
use Rattle.club_core.specs.Answer.{reply_of}
use Rattle.club_core.specs.Game.{last_position}
use Rattle.club_core.specs.Step.{checked, move_at, repeat_of}
use Rattle.club_core.specs.View.{terms_of}
use Rattle.club_core.proofs.Moved.{move-accepted}
use Rattle.club_core.proofs.moves.play_move.Goals as goal

pub returns : goal.returns
returns g c = λ game shows shows_ply legal.
    let laws = g.R.Rules.rules in
    let terms = terms_of c.args.view.now in
    let text = c.args.text.now in
    let new : repeat_of laws terms game c.args.ply (move_at game c.args.ply) c.args.side text ≡ None =
    sym (c.in_ok-answer.ensures game shows shows_ply legal) ∙ ap (option_map reply_of) c.in-None.is in
    let read : checked laws (last_position laws game) (laws.read_move (last_position laws game) text)
    ≡ Ok c.in-Ok-2.made =
    sym (ap (λ p. checked laws p (laws.read_move p text)) shows.position)
    ∙ (sym c.in_ok-made.ensures.value ∙ c.in-Ok-2.is) in
    rw (move-accepted laws terms game c.args.moment c.args.side c.args.ply text c.in-Ok-2.made new
    (c.in-Ok.ensures.allowed game shows) read)
    (c.in_ok-decision.ensures game shows legal)

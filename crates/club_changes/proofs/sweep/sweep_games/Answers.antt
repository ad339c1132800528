use Rattle.club_changes.proofs.sweep.sweep_games.Goals as goal

pub returns-clause-step : goal.returns-clause-step
returns-clause-step c s is_club games scores =
    c.put_swept.ensures.step s (c.in_ok-rows.ensures.rows s is_club games scores)

use Rattle.club_changes.proofs.challenges.answered_rows.Goals as goal

pub returns-clause-puts : goal.returns-clause-puts
returns-clause-puts c = λ legal.
    let begun = c.in_ok-changes.ensures.puts legal in
    record { puts = c.in_ok-with_challenge.ensures c.args.moment _ _ begun.puts; running = begun.running }

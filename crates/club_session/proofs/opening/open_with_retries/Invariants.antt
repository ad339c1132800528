use Rattle.club_session.proofs.opening.open_with_retries.Given as goal

abbrev pub invariant-loop : goal.invariant-loop
invariant-loop g l = Unit {0}

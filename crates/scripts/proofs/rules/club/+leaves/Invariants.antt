use Rattle.scripts.proofs.rules.club.+leaves.Given as goal

abbrev pub decreases-leaves : goal.decreases-leaves
decreases-leaves g l = l.depth

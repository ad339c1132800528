use Rattle.std.proofs.Common.{◌≡◌, Option, Some, None, subst, rules}
use Rattle.sqlite.specs.Held.{state}
use Rattle.club_core.specs.Game.{Game}
use Rattle.club_imports.specs.internal.Importing.{ShowsPlayed}
use Rattle.club_changes.specs.internal.Importing.{IsOfKind}
use Rattle.club_reads.specs.internal.Rulings.{FindsVerdictUnder}
use Rattle.club_reads.proofs.played.played_under.Goals as goal

pub returns-clause-played : goal.returns-clause-played
returns-clause-played g c clean content old k of judged =
    shown old (subst (IsOfKind g.R.Rules.rules c.args.kind content old) c.in-Some.is of)
    (subst (λ u. FindsVerdictUnder old u content (state g.S.Store c.args.conn.now)) c.in-Some.is judged)
  where
    shown : (o : Option (Game g.row.R-Move.Denot))
        → IsOfKind g.R.Rules.rules c.args.kind content o (Some c.in-Some.stored)
        → FindsVerdictUnder o (Some c.in-Some.stored) content (state g.S.Store c.args.conn.now)
        → ShowsPlayed g.R.Rules.rules o (Some c.in_ok-played.played)
    shown None other found = let same : c.in-Some.stored.kind ≡ c.args.kind = search rules in absurd (other same)
    shown (Some game) (same, tells, is) found = c.in_ok-played.ensures.played clean content game k tells found is

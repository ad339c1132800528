use Rattle.std.proofs.Common.{sym, tests, rules}
use Rattle.club_imports.proofs.SameMoves.{lengths-differ}
use Rattle.club_imports.proofs.played.are_same.Goals as goal

pub returns-then-moves-others : goal.returns-then-moves-others
returns-then-moves-others g c =
    sym (lengths-differ g.R.Rules.rules c.args.moves.now c.args.others.now (λ same. search (rules, tests, same)))

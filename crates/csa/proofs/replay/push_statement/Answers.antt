use Rattle.std.proofs.Common.{◌≡◌, List}
use Rattle.std.proofs.lemmas.Result.{on_ok_weaker}
use Rattle.squares.specs.declared.shogi.moves.SMove.{SMove}
use Rattle.squares.specs.ShogiOpening.{opening}
use Rattle.csa.specs.declared.statements.WrittenMove.{WrittenMove}
use Rattle.csa.specs.declared.statements.Statement.{Statement}
use Rattle.csa.specs.declared.statements.Statement.TheVariants as statement
use Rattle.csa.specs.internal.Replaying.{GrowsBy, GrowsWith}
use Rattle.csa.proofs.ReplayLemmas.{mean-more}
use Rattle.csa.proofs.replay.push_statement.Goals as goal

grows-with : (s : Statement) (w : WrittenMove) (old new : List SMove) → s ≡ statement.Move w → GrowsBy w old new
    → GrowsWith s old new
grows-with s w old new is grows = λ ws all.
    rw (is, grows.grown) (mean-more opening ws old w grows.made all grows.means)

pub returns-in-Move-clause-grown : goal.returns-in-Move-clause-grown
returns-in-Move-clause-grown c =
    on_ok_weaker c.push.result (grows-with c.args.statement c.in-Move.written _ _ c.in-Move.is) c.push.ensures.grown

use Rattle.std.proofs.Common.{◌≡◌, drop}
use Rattle.std.specs.Prelude.{fold}
use Rattle.pdn.specs.ReadFen.{put_on}
use Rattle.pdn.proofs.reading_fen.put_item.Given as goal

abbrev pub invariant-loop-square : goal.invariant-loop-square
invariant-loop-square l =
    record {
      turn : l.position.turn ≡ l.initial.position.turn;
      board : fold (put_on l.item) l.position.board (drop l.square-index l.square-items)
          ≡ fold (put_on l.item) l.initial.position.board l.square-items;
    }

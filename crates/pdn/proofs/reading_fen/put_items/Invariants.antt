use Rattle.std.proofs.Common.{◌≡◌, drop}
use Rattle.std.specs.Prelude.{fold}
use Rattle.pdn.specs.ReadFen.{put_item}
use Rattle.pdn.proofs.reading_fen.put_items.Given as goal

abbrev pub invariant-loop-item : goal.invariant-loop-item
invariant-loop-item l =
    record {
      turn : l.position.turn ≡ l.initial.position.turn;
      board : fold put_item l.position.board (drop l.item-index l.items)
          ≡ fold put_item l.initial.position.board l.items;
    }

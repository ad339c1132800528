use Rattle.std.proofs.Common.{◌≡◌, ◌≢◌, ℕ, zero, suc, ◌++◌, refl, append_assoc}
use Rattle.squares.specs.declared.shogi.piece.HandKind.{HandKind}
use Rattle.squares.specs.ShogiPieces.{on_board, demoted}
use Rattle.diagrams.specs.BodNames.{role_name, count_name, wide_blank}
use Rattle.diagrams.specs.BodDiagram.{held_text}
use Rattle.diagrams.proofs.bod.push_held.Goals as goal

-- some pieces of a kind
some : (kind : HandKind) (n : ℕ) → n ≢ 0
    → role_name (demoted (on_board kind)) ++ (count_name n ++ wide_blank) ≡ held_text kind n
some kind zero h = absurd (h refl)
some kind (suc n) h = refl

pub returns : goal.returns
returns c =
    simp (
      ← (some c.args.kind c.args.count c.if-count-eq0.false),
      c.in_ok-push_str-2.ensures.bytes,
      c.wide_blank.ensures,
      c.in_ok-push_count.ensures,
      c.in_ok-push_str.ensures.bytes,
      c.role_name.ensures,
      c.role.ensures,
      c.kind.ensures,
      append_assoc,
    )

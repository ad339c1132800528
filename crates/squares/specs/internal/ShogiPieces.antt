-- Kinds and roles of shogi pieces, and promotion. No promise of the program rests on these definitions.
use Rattle.std.specs.Prelude.{Bool, true}
use Rattle.squares.specs.declared.shogi.piece.Kind.{Kind}
use Rattle.squares.specs.declared.shogi.piece.Kind.TheVariants as kind

-- A piece of this kind and promotion exists.
abbrev pub CanBe : Kind → Bool → Type 0
CanBe kind.King true = ⊥
CanBe kind.Gold true = ⊥
CanBe _ _ = Unit {0}

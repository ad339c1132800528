use Rattle.std.specs.Prelude.{◌≡◌, map, take, string_bytes}
use Rattle.club_rules.proofs.notation.write_moves.Given as goal

abbrev pub invariant-loop-made : goal.invariant-loop-made
invariant-loop-made g l = map (λ t. string_bytes t) l.texts.items
    ≡ map (g.R.Rules.rules.write_move l.position) (take l.made-index l.moves)

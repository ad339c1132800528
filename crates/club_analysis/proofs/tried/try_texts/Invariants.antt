use Rattle.std.specs.Prelude.{map, take, string_bytes}
use Rattle.club_analysis.specs.internal.Line.{HasTried}
use Rattle.club_analysis.proofs.tried.try_texts.Given as goal

abbrev pub invariant-loop-text : goal.invariant-loop-text
invariant-loop-text g l = HasTried g.R.Rules.rules l.fn.line.start l.fn.line.moves.items
    (map (λ t. string_bytes t) (take l.text-index l.texts)) l.tried

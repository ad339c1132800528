use Rattle.std.proofs.Common.{◌≡◌, ◌++◌, drop, map}
use Rattle.std.specs.Prelude.{string_bytes}
use Rattle.club_answers.specs.AnswerTexts.{join_lines}
use Rattle.club_answers.proofs.found.join_lines.Given as goal

abbrev pub invariant-loop-line : goal.invariant-loop-line
invariant-loop-line l = string_bytes l.text ++ join_lines (map (λ t. string_bytes t) (drop l.line-index l.lines))
    ≡ join_lines (map (λ t. string_bytes t) l.lines)

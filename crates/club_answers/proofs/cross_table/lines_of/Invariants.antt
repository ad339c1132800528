use Rattle.std.proofs.Common.{◌≡◌, ◌+◌, ◌++◌, ◌∷◌, map, drop, length}
use Rattle.std.specs.Prelude.{string_bytes}
use Rattle.club_core.specs.internal.Answer.{members_of}
use Rattle.cross_tables.specs.Lines.{header_text}
use Rattle.club_answers.specs.CrossTable.{lines_from}
use Rattle.club_answers.proofs.cross_table.lines_of.Given as goal

abbrev pub invariant-loop-standing : goal.invariant-loop-standing
invariant-loop-standing l = record {
  count : length l.lines.items ≡ l.standing-index + 1;
  lines : map (λ t. string_bytes t) l.lines.items
      ++ lines_from (members_of l.members) l.scores l.standings (l.standing-index + 1)
      (drop l.standing-index l.standings)
      ≡ header_text l.name ∷ lines_from (members_of l.members) l.scores l.standings 1 l.standings;
}
